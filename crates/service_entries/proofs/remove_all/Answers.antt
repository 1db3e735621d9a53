-- `remove_all` meets its contract.
-- Assumes nothing.
use mathlib.Core.Path.{refl, sym, ap, ◌∙◌}
use Rattle.services.specs.Walks.{services_left}
use Rattle.service_entries.specs.Ways.{removes_none, removes_on}
use Rattle.service_entries.proofs.remove_all.Goals as goal

pub loop-service-init : goal.loop-service-init
loop-service-init c =
    let e = ap services_left c.into_iter-service-iterator.ensures.into_iter_gives ∙ c.of-service-items.ensures in
    rw e (refl, refl)

pub loop-service-preserved : goal.loop-service-preserved
loop-service-preserved c =
    let v = c.loop-service.invariant in (
      removes_on c.args.s.now (services_left c.loop-service.service-iterator) c.loop-service.room c.in-Some.service (services_left c.next.new.self) c.in-Some.ensures.steps c.remove_one.new.room c.remove_one.ensures ∙ v.0,
      c.remove_one.auto.room ∙ v.1,
    )

pub returns : goal.returns
returns c =
    sym (removes_none c.args.s.now (services_left c.loop-service.service-iterator) c.loop-service.room c.in-None.ensures.steps.0)
    ∙ c.loop-service.invariant.0
