-- `stage_room` meets its contract.
-- Assumes nothing.
use mathlib.Core.Path.{sym, ap, ◌∙◌}
use Prim.Native.Nat.{ℕ}
use lib.ListN.{replicate, length-replicate}
use Rattle.std.proofs.lemmas.Result.{err_from_is_err_and}
use Rattle.answers.specs.Answers.{refused}
use Rattle.services.specs.Services.{counted_answer}
use Rattle.service_tests.specs.Tests.{totals_answer}
use Rattle.staging.specs.Closing.{room_unremoved, room_refused, room_over, room_done, room_ordered}
use Rattle.staging.proofs.stage_room.Goals as goal

pub returns-then-not-fits : goal.returns-then-not-fits
returns-then-not-fits c =
    let a = c.args in
    let both = room_over a.room.now a.first a.s.now a.rows.now a.n c.in_ok-totals.totals (sym (ap totals_answer c.in_ok-totals.was) ∙ c.test_all.ensures.told) c.fits.result c.fits.ensures c.if-not-fits.true in
    record { told = ap refused c.at.ensures ∙ both.0; left = both.1 }

pub remove_any-requires : goal.remove_any-requires
remove_any-requires c =
    let a = c.args in
    room_unremoved a.room.now a.first a.s.now a.rows.now a.n c.in_ok-totals.totals (sym (ap totals_answer c.in_ok-totals.was) ∙ c.test_all.ensures.told)

pub returns-then-totals-gt-ORDERS : goal.returns-then-totals-gt-ORDERS
returns-then-totals-gt-ORDERS c =
    let a = c.args in
    let both = room_done a.room.now a.first a.s.now a.rows.now a.n c.in_ok-totals.totals (sym (ap totals_answer c.in_ok-totals.was) ∙ c.test_all.ensures.told) c.fits.result c.fits.ensures
    c.if-not-fits.false c.remove_any.new.room c.put_all.new.room c.remove_any.ensures c.put_all.ensures in
    record { told = both.0; left = both.1 }

pub returns-in_err-totals : goal.returns-in_err-totals
returns-in_err-totals c =
    let a = c.args in
    let p = err_from_is_err_and c.from_residual.result c.from_residual.ensures.1 in
    let both = room_refused a.room.now a.first a.s.now a.rows.now a.n c.in_err-totals.field-0.0 (sym (ap totals_answer c.in_err-totals.was) ∙ c.test_all.ensures.told) in
    record { told = ap counted_answer p.1 ∙ ap refused p.2 ∙ both.0; left = both.1 }

pub returns-else-totals-gt-ORDERS : goal.returns-else-totals-gt-ORDERS
returns-else-totals-gt-ORDERS c =
    let a = c.args in
    let n = length-replicate {A = ℕ} 19200 0 in
    let both = room_ordered a.room.now a.first a.s.now a.rows.now a.n c.in_ok-totals.totals (sym (ap totals_answer c.in_ok-totals.was) ∙ c.test_all.ensures.told) c.fits.result c.fits.ensures
    c.if-not-fits.false (replicate 19200 0) c.test_all.new.orders c.remove_any.new.room c.put_orders.new.room c.test_all.ensures.left n c.if-totals-gt-ORDERS.false
    c.remove_any.ensures c.put_orders.ensures (c.test_all.auto.orders ∙ n) in
    record { told = both.0; left = both.1 }
