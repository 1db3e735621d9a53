-- `register::withdraw` meets its contract.
-- Assumes nothing.
use Rattle.std.proofs.Common.{◌≡◌, Err, rules}
use Rattle.register.specs.declared.WithdrawError.TheVariants as withdrawal
use Rattle.contents.specs.Calls.{withdraw_of}
use Rattle.register.specs.Register.{withdrawn_answer}
use Rattle.register.specs.Laws.{withdraw_done, withdraw_none, withdraw_bytes}
use Rattle.register.specs.Room.{Room, NoRoom}
use Rattle.register.proofs.Rooms.{answer_refused, bytes_refused}
use Rattle.register.proofs.withdraw.Goals as goal

pub returns-in_err-from-clause-told : goal.returns-in_err-from-clause-told
unfolding withdrawn_answer
returns-in_err-from-clause-told c =
    let a = c.args in
    let n : NoRoom a.b.now a.account c.in_err-from.field-0.0 = rw c.in_err-from.was at c.room.ensures.err in
    let r : c.from_residual.result ≡ Err (withdrawal.Account c.in_err-from.field-0.0) = search rules in
    rw r (answer_refused a.b.now a.account (λ v. (withdraw_of a.number.now v).answer) c.in_err-from.field-0.0 n)

pub returns-in_err-from-clause-left : goal.returns-in_err-from-clause-left
returns-in_err-from-clause-left c =
    let a = c.args in
    let n : NoRoom a.b.now a.account c.in_err-from.field-0.0 = rw c.in_err-from.was at c.room.ensures.err in
    bytes_refused a.b.now a.account (λ v. (withdraw_of a.number.now v).records) c.in_err-from.field-0.0 n

pub returns-then-withdraw_number-clause-told : goal.returns-then-withdraw_number-clause-told
unfolding withdrawn_answer
returns-then-withdraw_number-clause-told c =
    let a = c.args in
    let o = c.in_ok-from in
    let r : Room a.b.now a.account o.from o.to = rw c.in_ok-from.was at c.room.ensures.ok in
    withdraw_done a.b.now r.register a.account r.known o.from o.to r.start r.end a.number.now c.withdraw_number.result c.withdraw_number.ensures.told c.if-withdraw_number.true

pub returns-then-withdraw_number-clause-left : goal.returns-then-withdraw_number-clause-left
returns-then-withdraw_number-clause-left c =
    let a = c.args in
    let o = c.in_ok-from in
    let r : Room a.b.now a.account o.from o.to = rw c.in_ok-from.was at c.room.ensures.ok in
    withdraw_bytes a.b.now r.register a.account r.known o.from o.to r.start r.end a.number.now c.withdraw_number.new.room c.withdraw_number.ensures.left

pub returns-clause-told : goal.returns-clause-told
unfolding withdrawn_answer
returns-clause-told c =
    let a = c.args in
    let o = c.in_ok-from in
    let r : Room a.b.now a.account o.from o.to = rw c.in_ok-from.was at c.room.ensures.ok in
    withdraw_none a.b.now r.register a.account r.known o.from o.to r.start r.end a.number.now c.withdraw_number.result c.withdraw_number.ensures.told c.if-withdraw_number.false

pub returns-clause-left : goal.returns-clause-left
returns-clause-left c =
    let a = c.args in
    let o = c.in_ok-from in
    let r : Room a.b.now a.account o.from o.to = rw c.in_ok-from.was at c.room.ensures.ok in
    withdraw_bytes a.b.now r.register a.account r.known o.from o.to r.start r.end a.number.now c.withdraw_number.new.room c.withdraw_number.ensures.left
