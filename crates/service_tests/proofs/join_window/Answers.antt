-- `join_window` meets its contract.
-- Assumes nothing.
use mathlib.Core.Path.{◌≡◌, refl, sym, ap, ◌∙◌}
use mathlib.Core.Bool.{true}
use Rattle.std.proofs.lemmas.Option.{none-some}
use Rattle.services.specs.Services.{periods_from}
use Rattle.services.specs.Walks.{periods_left}
use Rattle.service_entries.specs.Ways.{join_none}
use Rattle.service_tests.specs.Orders.{join_next}
use Rattle.service_tests.specs.Ways.{outside_none, outside_here, outside_on, any_of, any_period, any_on, any_done}
use Rattle.service_tests.proofs.join_window.Goals.{After-join_one}
use Rattle.service_tests.proofs.join_window.Goals as goal

-- there is a POP, so that one was there from the start
module _ (t : After-join_one) where
  came : true ≡ any_of (periods_from t.args.rows.now t.args.from t.args.to)
  came =
      any_on t.loop-at.carries (periods_left t.loop-at.at-iterator) (any_of (periods_from t.args.rows.now t.args.from t.args.to)) t.loop-at.invariant.3 t.in-Some.at
      (periods_left t.next.new.self) t.in-Some.ensures.steps

pub loop-at-init : goal.loop-at-init
loop-at-init c =
    let e = ap periods_left c.into_iter-at-iterator.ensures.into_iter_gives ∙ c.among-at-items.ensures in
    rw e (refl, refl, refl, refl)

pub join_one-requires : goal.join_one-requires
join_one-requires c = c.loop-at.invariant.2 ∙ c.requires

pub returns-then-join_one : goal.returns-then-join_one
returns-then-join_one c =
    let a = c.args in
    record {
      told = (
        outside_here true a.first a.s.now (periods_left c.loop-at.at-iterator) c.in-Some.at (periods_left c.next.new.self) c.in-Some.ensures.steps (sym c.join_one.ensures.told ∙ c.if-join_one.true)
            ∙ c.loop-at.invariant.0,
        came (goal.at.returns-then-join_one c).After-join_one ∙ any_period a.rows.now a.from a.to,
      );
      left = λ q. absurd (none-some c.in-Some.at (sym q));
    }

pub loop-at-preserved : goal.loop-at-preserved
loop-at-preserved c =
    let a = c.args in
    let v = c.loop-at.invariant in
    let e = c.in-Some.ensures.steps in (
      outside_on true a.first a.s.now (periods_left c.loop-at.at-iterator) c.in-Some.at (periods_left c.next.new.self) e (sym c.join_one.ensures.told ∙ c.if-join_one.false)
          ∙ v.0,
      join_next a.first a.s.now (periods_left c.loop-at.at-iterator) c.loop-at.days c.join_one.new.days c.in-Some.at (periods_left c.next.new.self) e c.join_one.ensures.left
          ∙ v.1,
      c.join_one.auto.days ∙ v.2,
      came (goal.at.loop-at-preserved c).After-join_one,
    )

pub returns : goal.returns
returns c =
    let a = c.args in
    let g = c.in-None.ensures.steps.0 in
    record {
      told = (
        outside_none true a.first a.s.now (periods_left c.loop-at.at-iterator) g ∙ c.loop-at.invariant.0,
        any_done c.loop-at.carries (periods_left c.loop-at.at-iterator) (any_of (periods_from a.rows.now a.from a.to)) c.loop-at.invariant.3 g ∙ any_period a.rows.now a.from a.to,
      );
      left = λ q. sym (join_none true a.first a.s.now (periods_left c.loop-at.at-iterator) c.loop-at.days g) ∙ c.loop-at.invariant.1;
    }
