-- `put_all` meets its contract.
-- Assumes nothing.
use mathlib.Core.Path.{refl, sym, ap, ◌∙◌}
use Rattle.services.specs.Walks.{services_left}
use Rattle.service_entries.specs.Ways.{puts_none, puts_on}
use Rattle.service_entries.proofs.put_all.Goals as goal

pub loop-service-init : goal.loop-service-init
loop-service-init c =
    let e = ap services_left c.into_iter-service-iterator.ensures.into_iter_gives ∙ c.of-service-items.ensures in
    rw e (refl, refl, c.end_of-end.ensures)

pub loop-service-preserved : goal.loop-service-preserved
loop-service-preserved c =
    let a = c.args in
    let v = c.loop-service.invariant in (
      puts_on a.first a.s.now a.rows.now (services_left c.loop-service.service-iterator) c.loop-service.room c.in-Some.service (services_left c.next.new.self) c.in-Some.ensures.steps c.put_one-end.new.room c.put_one-end.ensures.left ∙ v.0,
      c.put_one-end.auto.room ∙ v.1,
      c.put_one-end.ensures.zeros,
    )

pub returns : goal.returns
returns c =
    sym (puts_none c.args.first c.args.s.now c.args.rows.now (services_left c.loop-service.service-iterator) c.loop-service.room c.in-None.ensures.steps.0)
    ∙ c.loop-service.invariant.0
