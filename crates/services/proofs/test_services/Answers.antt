-- `services::test_services` meets its contract: the count of the services that are left leads to the answer.
-- Assumes nothing.
use mathlib.Core.Path.{◌≡◌, sym, ap, ◌∙◌}
use native.Mathlib.Omega.{arith}
use lib.ListN.{length}
use Rattle.std.proofs.lemmas.Result.{err_from_is_err_and}
use Rattle.answers.specs.Answers.{refused}
use Rattle.services.specs.Services.{count_on, tested_answer, counted_answer}
use Rattle.services.specs.Ways.{count_start, count_none, count_good, count_stop}
use Rattle.services.specs.Walks.{services_left}
use Rattle.services.proofs.Walks.{services_few}
use Rattle.services.proofs.test_services.Goals as goal

pub loop-service-init : goal.loop-service-init
loop-service-init c =
    let a = c.args in
    let e = ap services_left c.into_iter-service-iterator.ensures.into_iter_gives ∙ c.of-service-items.ensures in
    let h = services_few a.s.now a.rows.now a.n in
    rw e (omega arith, count_start a.s.now a.rows.now a.n)

pub loop-service-preserved : goal.loop-service-preserved
loop-service-preserved c =
    let a = c.args in
    let e = c.in-Some.ensures.steps in
    let n = ap length e in
    let v = c.loop-service.invariant in (
      omega arith,
      sym (count_good a.s.now a.rows.now (services_left c.loop-service.service-iterator) c.loop-service.count c.in-Some.service (services_left c.next.new.self) e
          (sym c.test_service.ensures ∙ ap tested_answer c.in_ok-test_service.was))
          ∙ v.1,
    )

pub returns-in_err-test_service : goal.returns-in_err-test_service
returns-in_err-test_service c =
    let a = c.args in
    let x = c.in_err-test_service.field-0.0 in
    let p = err_from_is_err_and c.from_residual.result c.from_residual.ensures.1 in
    ap counted_answer p.1
    ∙ ap refused p.2
    ∙ sym (count_stop a.s.now a.rows.now (services_left c.loop-service.service-iterator) c.loop-service.count c.in-Some.service (services_left c.next.new.self) c.in-Some.ensures.steps x
    (sym c.test_service.ensures ∙ ap tested_answer c.in_err-test_service.was))
    ∙ c.loop-service.invariant.1

pub returns : goal.returns
returns c =
    let a = c.args in
    sym (count_none a.s.now a.rows.now (services_left c.loop-service.service-iterator) c.loop-service.count c.in-None.ensures.steps.0)
    ∙ c.loop-service.invariant.1
