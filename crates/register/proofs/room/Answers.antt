-- `register::room` meets its contract.
-- Assumes nothing.
use Rattle.std.proofs.Common.{sym, ◌∙◌}
use Rattle.register.proofs.Rooms.{room_is}
use Rattle.register.proofs.room.Goals as goal

pub returns-clause-ok : goal.returns-clause-ok
returns-clause-ok c =
    room_is c.args.b.now c.args.account c.room_start.result c.room_end.result (sym c.is_register.ensures ∙ c.if-not-is_register.false) (sym c.is_account.ensures ∙ c.if-not-is_account.false) c.room_start.ensures c.room_end.ensures
