-- `register::is_account` meets its contract.
-- Assumes nothing.
use Rattle.register.specs.Laws.{account_low, account_is}
use Rattle.register.proofs.is_account.Goals as goal

pub returns-then-account-lt1 : goal.returns-then-account-lt1
returns-then-account-lt1 c = account_low c.args.account c.if-account-lt1.true

pub returns : goal.returns
returns c = account_is c.args.account c.if-account-lt1.false
