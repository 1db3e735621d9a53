-- `entries::whole_slot` meets its contract.
-- Assumes nothing.
use native.Mathlib.Omega.{arith}
use mathlib.Core.Path.{◌∙◌}
use Prim.Native.Nat.{◌+◌, ◌-◌}
use Rattle.entries.specs.Released.{whole}
use Rattle.entries.proofs.whole_slot.Goals as goal

pub returns : goal.returns
returns c = let a = c.args in c.put_bytes.ensures.1 ∙ whole a.room.now a.at c.requires (a.at + 140 - a.at) (omega arith)
