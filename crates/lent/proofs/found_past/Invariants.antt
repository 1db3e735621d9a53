-- `lent::found_past` meets its contract: after each turn the reader is over the same bytes, where as many segments passed bring it.
-- Assumes nothing.
use Rattle.std.proofs.Common.{◌≡◌}
use Rattle.lent.specs.Lent.{offset_past}
use Rattle.lent.proofs.found_past.Given as goal

abbrev pub invariant-loop : goal.invariant-loop
invariant-loop l = (l.r.src.now ≡ l.s) × (l.r.at ≡ offset_past l.s l.counter)
