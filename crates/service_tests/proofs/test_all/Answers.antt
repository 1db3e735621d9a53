-- `test_all` meets its contract.
-- Assumes nothing.
use mathlib.Core.Path.{◌≡◌, sym, ap, subst, ◌∙◌}
use mathlib.Core.Bool.{true}
use mathlib.Core.List.{List, ◌++◌, ◌∷◌}
use Prim.Native.Nat.{ℕ}
use native.Mathlib.Omega.{arith}
use Rattle.std.specs.Prelude.{Option}
use Rattle.std.proofs.lemmas.Result.{err_from_is_err_and}
use Rattle.answers.specs.Answers.{done, refused}
use Rattle.services.specs.Rows.{row_count}
use Rattle.services.specs.Services as services
use Rattle.services.specs.Services.{periods_of}
use Rattle.services.specs.Walks.{services_left}
use Rattle.service_entries.specs.declared.Known.{Known}
use Rattle.service_entries.specs.Room.{number_bytes, look_at}
use Rattle.service_entries.specs.Orders.{flag_of, ordered}
use Rattle.service_entries.specs.Ways.{look_held}
use Rattle.stages.specs.Stage.{number_in, days_of}
use Rattle.service_tests.specs.declared.Totals.{Totals}
use Rattle.service_tests.specs.Tests.{totals_answer, test_known, test_inside, test_one}
use Rattle.service_tests.specs.Orders.{orders_done, orders_on, orders_stop}
use Rattle.service_tests.specs.Passed.{passed}
use Rattle.service_tests.specs.Ways.{one_refused, one_tested, all_done, all_on_lem, all_stop, Walked, walked_to, walked_counts, walked_on}
use Rattle.service_tests.proofs.test_all.Goals.{After-test_one}
use Rattle.service_tests.proofs.test_all.Goals as goal

-- its number read, its days joined, its number tested, and it tested for the rest
module _ (o : After-test_one) where
  tested : totals_answer o.test_one.result ≡ test_one o.args.first o.args.s.now o.args.rows.now (look_at o.args.room.now) o.in-Some.service o.loop-service.totals
  tested =
      let a = o.args in
      let v = o.in-Some.service in
      let days = o.join_days-joined in
      let n = o.read_number-number in
      o.test_one.ensures
      ∙ ap (λ (k : Option Known). test_inside days.result.walk.outside (test_known v.removal v.prd k o.loop-service.totals))
      (look_held a.room.now n.result.bytes (number_in a.s.now v) n.ensures.0)
      ∙ one_tested a.s.now a.rows.now v a.first (look_at a.room.now) o.loop-service.totals
      (sym (sym o.test_number.ensures.told ∙ ap services.tested_answer o.in_ok-test_number.was)) days.result.walk.outside days.ensures.told.0

  days_joined : (u : Totals) → totals_answer o.test_one.result ≡ done u
      → o.join_days-joined.result.days ≡ days_of true o.args.first o.args.s.now (periods_of o.args.rows.now o.in-Some.service)
  days_joined u e =
      let a = o.args in
      let days = o.join_days-joined in
      let p = (passed a.first a.s.now a.rows.now (look_at a.room.now) o.in-Some.service o.loop-service.totals u (sym tested ∙ e)).0 in
      days.ensures.left (days.ensures.told.0 ∙ p.inside)

pub test_number-requires : goal.test_number-requires
test_number-requires c =
    let a = c.args in
    let l = c.loop-service in (
      walked_to l.marks a.s.now a.rows.now (row_count a.rows.now a.n) (services_left l.service-iterator) l.totals l.invariant.0 c.in-Some.service (services_left c.next.new.self) c.in-Some.ensures.steps,
      c.read_number-number.ensures,
      c.join_days-joined.ensures.told.1,
    )

pub test_one-requires : goal.test_one-requires
test_one-requires c =
    let a = c.args in
    let l = c.loop-service in
    let k = c.ranges.n.fits in
    walked_counts l.marks a.s.now a.rows.now (row_count a.rows.now a.n) (services_left l.service-iterator) l.totals l.invariant.0 c.in-Some.service (services_left c.next.new.self) c.in-Some.ensures.steps (omega arith)

pub loop-service-preserved : goal.loop-service-preserved
loop-service-preserved c =
    let o = (goal.at.loop-service-preserved c).After-test_one in
    let a = c.args in
    let s = c.in-Some.service in
    let l = c.loop-service in
    let v = l.invariant in
    let left = services_left l.service-iterator in
    let rest = services_left c.next.new.self in
    let w = c.in-Some.ensures.steps in
    let u = c.in_ok-more.more in
    let q = ap totals_answer c.in_ok-more.was in
    let e = sym q ∙ tested o in
    let days = c.join_days-joined.result.days in
    let d = ap (λ (y : List ℕ). ordered l.orders l.totals.services (y ++ (flag_of s.removal ∷ days))) c.read_number-number.ensures.0
    ∙ ap (λ (y : List ℕ). ordered l.orders l.totals.services (number_bytes (number_in a.s.now s) ++ (flag_of s.removal ∷ y))) (days_joined o u q) in (
      subst (λ (m : List ℕ). Walked m a.s.now a.rows.now (row_count a.rows.now a.n) rest u) (sym c.test_number.ensures.left)
          (walked_on l.marks a.s.now a.rows.now (row_count a.rows.now a.n) left l.totals v.0 s rest w a.first (look_at a.room.now) u e),
      all_on_lem a.first a.s.now a.rows.now (look_at a.room.now) left l.totals s rest w u e ∙ v.1,
      orders_on a.first a.s.now a.rows.now (look_at a.room.now) left l.totals l.orders s rest w u c.put_order.new.orders e (c.put_order.ensures ∙ d) ∙ v.2,
      c.put_order.auto.orders ∙ v.3,
    )

pub returns-in_err-test_number : goal.returns-in_err-test_number
returns-in_err-test_number c =
    let a = c.args in
    let s = c.in-Some.service in
    let l = c.loop-service in
    let left = services_left l.service-iterator in
    let rest = services_left c.next.new.self in
    let x = c.in_err-test_number.field-0.0 in
    let p = err_from_is_err_and c.from_residual.result c.from_residual.ensures.1 in
    let e = one_refused a.s.now a.rows.now s a.first (look_at a.room.now) l.totals x
    (sym (ap services.tested_answer c.in_err-test_number.was) ∙ c.test_number.ensures.told) in
    record {
      told = ap totals_answer p.1 ∙ ap refused p.2 ∙ all_stop a.first a.s.now a.rows.now (look_at a.room.now) left l.totals s rest c.in-Some.ensures.steps x e ∙ l.invariant.1;
      left = sym (orders_stop a.first a.s.now a.rows.now (look_at a.room.now) left l.totals l.orders s rest c.in-Some.ensures.steps x e) ∙ l.invariant.2;
    }

pub returns-in_err-more : goal.returns-in_err-more
returns-in_err-more c =
    let a = c.args in
    let s = c.in-Some.service in
    let l = c.loop-service in
    let left = services_left l.service-iterator in
    let rest = services_left c.next.new.self in
    let x = c.in_err-more.field-0.0 in
    let p = err_from_is_err_and c.from_residual-in_err-more.result c.from_residual-in_err-more.ensures.1 in
    let e = sym (ap totals_answer c.in_err-more.was) ∙ tested (goal.at.returns-in_err-more c).After-test_one in
    record {
      told = ap totals_answer p.1 ∙ ap refused p.2 ∙ all_stop a.first a.s.now a.rows.now (look_at a.room.now) left l.totals s rest c.in-Some.ensures.steps x e ∙ l.invariant.1;
      left = sym (orders_stop a.first a.s.now a.rows.now (look_at a.room.now) left l.totals l.orders s rest c.in-Some.ensures.steps x e) ∙ l.invariant.2;
    }

pub returns : goal.returns
returns c =
    let a = c.args in
    let left = services_left c.loop-service.service-iterator in
    let g = c.in-None.ensures.steps.0 in
    record {
      told = all_done a.first a.s.now a.rows.now (look_at a.room.now) left c.loop-service.totals g ∙ c.loop-service.invariant.1;
      left = sym (orders_done a.first a.s.now a.rows.now (look_at a.room.now) left c.loop-service.totals c.loop-service.orders g) ∙ c.loop-service.invariant.2;
    }
