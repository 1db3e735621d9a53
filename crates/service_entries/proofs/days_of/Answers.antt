-- `days_of` meets its contract.
-- Assumes nothing.
use mathlib.Core.Path.{refl, sym, ap, ◌∙◌}
use Rattle.services.specs.Walks.{periods_left}
use Rattle.service_entries.specs.Ways.{join_none, join_on, days_are}
use Rattle.service_entries.proofs.days_of.Goals as goal

pub loop-at-init : goal.loop-at-init
loop-at-init c =
    let e = ap periods_left c.into_iter-at-iterator.ensures.into_iter_gives ∙ c.among-at-items.ensures in
    rw e (refl, refl)

pub loop-at-preserved : goal.loop-at-preserved
loop-at-preserved c =
    let a = c.args in
    let v = c.loop-at.invariant in (
      join_on a.wish a.first a.s.now (periods_left c.loop-at.at-iterator) c.loop-at.days c.in-Some.at (periods_left c.next.new.self) c.in-Some.ensures.steps c.join_at.new.days c.join_at.ensures.told.1 ∙ v.0,
      c.join_at.auto.days ∙ v.1,
    )

pub returns : goal.returns
returns c =
    let a = c.args in
    days_are a.wish a.first a.s.now _ c.loop-at.days
    (sym (join_none a.wish a.first a.s.now (periods_left c.loop-at.at-iterator) c.loop-at.days c.in-None.ensures.steps.0) ∙ c.loop-at.invariant.0)
