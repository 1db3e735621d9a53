-- `read_whole` meets its contract.
-- Assumes nothing.
use Rattle.std.specs.Prelude.{ℕ, Result, Ok, Err, refl, option_map}
use Rattle.std.specs.Result.{result_ok}
use mathlib.Core.Path.{◌≡◌, sym, ap, ◌∙◌}
use Rattle.syntax.specs.Ends.{body_slice}
use Rattle.period.specs.Period.{period_of, pop_of, pop_at}
use Rattle.period.specs.Pops.{pop_is}
use Rattle.period.specs.declared.Period.{Period}
use Rattle.period.specs.declared.Fault.{Fault}
use Rattle.period.specs.declared.Pop.{Pop}
use Rattle.period.proofs.read_whole.Goals.{After-read_any, Start}
use Rattle.period.proofs.read_whole.Goals as goal

abbrev ends_at : ℕ → Period → Pop
ends_at e p = record { end = e; period = p }

by_ok : (e : ℕ) (x : Result Period Fault) → option_map (ends_at e) (result_ok x) ≡ pop_of (Ok e) x
by_ok e (Ok p) = refl
by_ok e (Err x) = refl

-- what the period of the segment came to
module _ (r : After-read_any) where
  told : (x : Result Period Fault) → r.read_any.result ≡ x → pop_of (Ok r.args.end) x ≡ pop_at r.args.wish r.args.s.now r.args.at
  told x e =
      sym (pop_is r.args.wish r.args.s.now r.args.at r.requires
      (sym (ap (period_of r.args.wish) (body_slice r.args.s.now r.args.at r.args.end r.requires)) ∙ sym r.read_any.ensures ∙ e))

pub returns-in_err-period : goal.returns-in_err-period
returns-in_err-period c =
    let r = goal.at.returns-in_err-period c in
    c.from_residual.ensures ∙ ap (option_map (ends_at c.args.end)) (sym c.in_err-period.was ∙ c.ok.ensures.value) ∙ by_ok c.args.end c.read_any.result ∙ told r.After-read_any c.read_any.result refl

pub returns : goal.returns
returns c =
    let r = goal.at.returns c in
    ap (option_map (ends_at c.args.end)) (sym c.in_ok-period.was ∙ c.ok.ensures.value) ∙ by_ok c.args.end c.read_any.result ∙ told r.After-read_any c.read_any.result refl
