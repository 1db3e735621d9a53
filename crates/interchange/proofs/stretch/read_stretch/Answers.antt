use mathlib.Core.Path.{ap}
use lib.ListN.{length}
use Rattle.interchange.specs.Room.{room_rows}
use Rattle.interchange.specs.Stretch.{stretch_on, stretch_of, halt_verdict}
use Rattle.interchange.specs.Stretches.{reached_as, reached_same, other_room, many_bytes, stretch_whole}
use borrow.Author.Rules.{rules}
use Rattle.interchange.proofs.stretch.read_stretch.Goals as goal

pub returns-then-room-ne-ROOM : goal.returns-then-room-ne-ROOM
returns-then-room-ne-ROOM c =
    let a = c.args in
    let q = c.halted.ensures in
    let s = a.s.now in
    let lent = a.room.now in record { told = (reached_as (stretch_of s a.reference.now a.from (length lent)) lent q.0 q.1 q.2 (ap halt_verdict q.3) (other_room s a.reference.now a.from lent c.if-room-ne-ROOM.true)).0; left = (reached_as (stretch_of s a.reference.now a.from (length lent)) lent q.0 q.1 q.2 (ap halt_verdict q.3) (other_room s a.reference.now a.from lent c.if-room-ne-ROOM.true)).1 }

pub returns-then-s-gt60000 : goal.returns-then-s-gt60000
returns-then-s-gt60000 c =
    let a = c.args in
    let q = c.halted-then-s-gt60000.ensures in
    let s = a.s.now in
    let lent = a.room.now in record { told = (reached_as (stretch_of s a.reference.now a.from (length lent)) lent q.0 q.1 q.2 (ap halt_verdict q.3) (many_bytes s a.reference.now a.from lent c.if-s-gt60000.true)).0; left = (reached_as (stretch_of s a.reference.now a.from (length lent)) lent q.0 q.1 q.2 (ap halt_verdict q.3) (many_bytes s a.reference.now a.from lent c.if-s-gt60000.true)).1 }

pub returns : goal.returns
returns c =
    let a = c.args in
    let s = a.s.now in
    let lent = a.room.now in record {
      told = (reached_same (stretch_on room_rows s a.reference.now a.from 0) (stretch_of s a.reference.now a.from (length lent)) lent
          (stretch_whole s a.reference.now a.from (length lent) c.if-room-ne-ROOM.false c.if-s-gt60000.false) c.stretch_on.ensures).0;
      left = (reached_same (stretch_on room_rows s a.reference.now a.from 0) (stretch_of s a.reference.now a.from (length lent)) lent
          (stretch_whole s a.reference.now a.from (length lent) c.if-room-ne-ROOM.false c.if-s-gt60000.false) c.stretch_on.ensures).1;
    }
