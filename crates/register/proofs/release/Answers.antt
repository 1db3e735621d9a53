-- `register::release` meets its contract.
-- Assumes nothing.
use Rattle.std.proofs.Common.{◌≡◌, Err, rules}
use Rattle.contents.specs.Calls.{release_of}
use Rattle.register.specs.Register.{released_answer}
use Rattle.register.specs.Laws.{release_answer, release_bytes}
use Rattle.register.specs.Room.{Room, NoRoom}
use Rattle.register.proofs.Rooms.{answer_refused, bytes_refused}
use Rattle.register.proofs.release.Goals as goal

pub returns-in_err-from-clause-told : goal.returns-in_err-from-clause-told
unfolding released_answer
returns-in_err-from-clause-told c =
    let a = c.args in
    let n : NoRoom a.b.now a.account c.in_err-from.field-0.0 = rw c.in_err-from.was at c.room.ensures.err in
    let r : c.from_residual.result ≡ Err c.in_err-from.field-0.0 = search rules in
    rw r (answer_refused a.b.now a.account (λ v. (release_of v).answer) c.in_err-from.field-0.0 n)

pub returns-in_err-from-clause-left : goal.returns-in_err-from-clause-left
returns-in_err-from-clause-left c =
    let a = c.args in
    let n : NoRoom a.b.now a.account c.in_err-from.field-0.0 = rw c.in_err-from.was at c.room.ensures.err in
    bytes_refused a.b.now a.account (λ v. (release_of v).records) c.in_err-from.field-0.0 n

pub returns-clause-told : goal.returns-clause-told
unfolding released_answer
returns-clause-told c =
    let a = c.args in
    let r : Room a.b.now a.account c.in_ok-from.from c.in_ok-from.to = rw c.in_ok-from.was at c.room.ensures.ok in
    release_answer a.b.now r.register a.account r.known c.in_ok-from.from c.in_ok-from.to r.start r.end c.release_room.result c.release_room.ensures.told

pub returns-clause-left : goal.returns-clause-left
returns-clause-left c =
    let a = c.args in
    let r : Room a.b.now a.account c.in_ok-from.from c.in_ok-from.to = rw c.in_ok-from.was at c.room.ensures.ok in
    release_bytes a.b.now r.register a.account r.known c.in_ok-from.from c.in_ok-from.to r.start r.end c.release_room.new.room c.release_room.ensures.left
