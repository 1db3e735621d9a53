-- `register::show` meets its contract.
-- Assumes nothing.
use Rattle.std.proofs.Common.{◌≡◌, Ok, Err, sym, ap, ◌∙◌, rules}
use Rattle.register.specs.declared.ShowError.TheVariants as showing
use Rattle.contents.specs.Calls.{show_answer, show_bytes}
use Rattle.shown.specs.Shown.{lines_answer}
use Rattle.register.specs.Register.{record_answer}
use Rattle.register.specs.Laws.{show_answer_lem, show_output}
use Rattle.register.specs.Room.{Room, NoRoom}
use Rattle.register.proofs.Rooms.{answer_refused, output_refused}
use Rattle.register.proofs.show.Goals as goal

pub returns-in_err-from-clause-told : goal.returns-in_err-from-clause-told
unfolding record_answer
returns-in_err-from-clause-told c =
    let a = c.args in
    let n : NoRoom a.b.now a.account c.in_err-from.field-0.0 = rw c.in_err-from.was at c.room.ensures.err in
    let r : c.from_residual.result ≡ Err (showing.Account c.in_err-from.field-0.0) = search rules in
    rw r (answer_refused a.b.now a.account (show_answer a.k a.out.now) c.in_err-from.field-0.0 n)

pub returns-in_err-from-clause-left : goal.returns-in_err-from-clause-left
returns-in_err-from-clause-left c =
    let a = c.args in
    let n : NoRoom a.b.now a.account c.in_err-from.field-0.0 = rw c.in_err-from.was at c.room.ensures.err in
    output_refused a.b.now a.account a.out.now (show_bytes a.k a.out.now) c.in_err-from.field-0.0 n

pub returns-in_err-shown-clause-told : goal.returns-in_err-shown-clause-told
unfolding record_answer
returns-in_err-shown-clause-told c =
    let a = c.args in
    let o = c.in_ok-from in
    let r : Room a.b.now a.account o.from o.to = rw c.in_ok-from.was at c.room.ensures.ok in
    let e : c.from_residual-in_err-shown.result ≡ Err (showing.Lines c.in_err-shown.field-0.0) = search rules in
    rw e
    (show_answer_lem a.b.now r.register a.account r.known o.from o.to r.start r.end a.k a.out.now (lines_answer (Err c.in_err-shown.field-0.0)) (ap lines_answer (sym c.in_err-shown.was) ∙ c.show_record.ensures.told))

pub returns-in_err-shown-clause-left : goal.returns-in_err-shown-clause-left
returns-in_err-shown-clause-left c =
    let a = c.args in
    let o = c.in_ok-from in
    let r : Room a.b.now a.account o.from o.to = rw c.in_ok-from.was at c.room.ensures.ok in
    show_output a.b.now r.register a.account r.known o.from o.to r.start r.end a.k a.out.now c.show_record.new.out c.show_record.ensures.left

pub returns-clause-told : goal.returns-clause-told
unfolding record_answer lines_answer
returns-clause-told c =
    let a = c.args in
    let o = c.in_ok-from in
    let r : Room a.b.now a.account o.from o.to = rw c.in_ok-from.was at c.room.ensures.ok in
    show_answer_lem a.b.now r.register a.account r.known o.from o.to r.start r.end a.k a.out.now (lines_answer (Ok c.in_ok-shown.shown)) (ap lines_answer (sym c.in_ok-shown.was) ∙ c.show_record.ensures.told)

pub returns-clause-left : goal.returns-clause-left
returns-clause-left c =
    let a = c.args in
    let o = c.in_ok-from in
    let r : Room a.b.now a.account o.from o.to = rw c.in_ok-from.was at c.room.ensures.ok in
    show_output a.b.now r.register a.account r.known o.from o.to r.start r.end a.k a.out.now c.show_record.new.out c.show_record.ensures.left
