-- What each answer of the register's calls means. Document 01, "What each number means".
-- Assumes nothing.
use Rattle.std.specs.Prelude.{ℕ, Result, Ok, Err}
use Rattle.answers.specs.Answers.{Answer, done, not_register, bad_account, nothing_pending, bad_opening}
use Rattle.shown.specs.Shown.{lines_answer}
use Rattle.register.specs.declared.OpenError.{OpenError}
use Rattle.register.specs.declared.OpenError.TheVariants as opening
use Rattle.register.specs.declared.AccountError.{AccountError}
use Rattle.register.specs.declared.AccountError.TheVariants as account
use Rattle.register.specs.declared.WithdrawError.{WithdrawError}
use Rattle.register.specs.declared.WithdrawError.TheVariants as withdrawal
use Rattle.register.specs.declared.ShowError.{ShowError}
use Rattle.register.specs.declared.ShowError.TheVariants as showing

-- "buffer is not a register (for opening: wrong length)"
unfoldable pub opened_answer : Result (Unit {0}) OpenError → Answer ℕ
opened_answer (Ok u) = done 0
opened_answer (Err opening.WrongLength) = not_register
opened_answer (Err opening.BadOpening) = bad_opening

unfoldable pub account_answer : AccountError → Answer ℕ
account_answer account.NotRegister = not_register
account_answer account.BadAccount = bad_account

unfoldable pub released_answer : Result ℕ AccountError → Answer ℕ
released_answer (Ok n) = done n
released_answer (Err e) = account_answer e

unfoldable pub withdrawn_answer : Result (Unit {0}) WithdrawError → Answer ℕ
withdrawn_answer (Ok u) = done 0
withdrawn_answer (Err (withdrawal.Account e)) = account_answer e
withdrawn_answer (Err withdrawal.NothingPending) = nothing_pending

unfoldable pub record_answer : Result ℕ ShowError → Answer ℕ
record_answer (Ok n) = done n
record_answer (Err (showing.Account e)) = account_answer e
record_answer (Err (showing.Lines e)) = lines_answer (Err e)
