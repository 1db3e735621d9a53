-- `parcels::has_room` meets its contract.
-- Assumes nothing.
use mathlib.Core.Path.{sym, ◌∙◌}
use Prim.Native.Nat.{ℕ}
use lib.ListN.{replicate, length-replicate}
use Rattle.parcels.specs.CallLaws.{room_quick, room_read}
use Rattle.parcels.proofs.has_room.Goals as goal

pub returns-then-kept-parcel : goal.returns-then-kept-parcel
returns-then-kept-parcel c =
    room_quick c.args.kept c.args.store.now c.requires.0 c.requires.1 c.args.parcel.now c.args.room c.if-kept-parcel.true

pub returns : goal.returns
returns c =
    room_read c.args.kept c.args.store.now (replicate 12328 0) c.args.parcel.now (replicate 1 0) c.args.room c.put_bytes.new.out c.advance-x.result c.advance-x.new.store
    c.advance-x.new.rows c.put_bytes.ensures.1 (c.requires.0 ∙ sym (length-replicate {A = ℕ} 12328 0)) c.advance-x.ensures
