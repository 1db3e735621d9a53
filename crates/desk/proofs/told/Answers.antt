use mathlib.Core.Path.{sym, ap, ◌∙◌}
use Rattle.std.specs.Prelude.{ℕ, Result}
use Rattle.answers.specs.declared.Refusal.{Refusal}
use Rattle.interchange.specs.Reader.{read_answer}
use Rattle.desk.specs.Desk.{reply_of}
use borrow.Author.Rules.{rules}
use Rattle.desk.proofs.told.Goals as goal

pub returns-in-Ok : goal.returns-in-Ok
returns-in-Ok c = c.done.ensures ∙ ap (λ (x : Result ℕ Refusal). reply_of (read_answer x)) (sym c.in-Ok.is)

pub returns-in-Err : goal.returns-in-Err
returns-in-Err c = c.replied.ensures ∙ ap (λ (x : Result ℕ Refusal). reply_of (read_answer x)) (sym c.in-Err.is)
