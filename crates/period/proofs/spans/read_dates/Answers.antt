-- `read_dates` meets its contract.
-- Assumes nothing.
use mathlib.Core.Path.{refl, sym, ap, ◌∙◌}
use Rattle.syntax.specs.Bytes.{plain}
use lib.ListN.{replicate}
use lib.Seq.{length-take-le}
use Rattle.period.specs.Period.{span_in}
use Rattle.period.specs.Tests.{dates_too_long, dates_fit, dates_copied}
use Rattle.period.proofs.spans.read_dates.Goals as goal

pub returns-in_err-n : goal.returns-in_err-n
returns-in_err-n c = c.from_residual.ensures ∙ dates_too_long (plain c.args.part.now) refl (sym c.copy_plain.ensures.told ∙ c.in_err-n.was)

pub slice_bounds-text-end : goal.slice_bounds-text-end
slice_bounds-text-end c = dates_fit (plain c.args.part.now) (replicate 21 0) refl (sym c.copy_plain.ensures.told ∙ c.in_ok-n.was) c.copy_plain.ensures.left

pub slice_bounds-read_span-end : goal.slice_bounds-read_span-end
slice_bounds-read_span-end c =
    let n = c.in_ok-n.n in
    sym (length-take-le n c.copy_plain.new.to (dates_fit (plain c.args.part.now) (replicate 21 0) refl (sym c.copy_plain.ensures.told ∙ c.in_ok-n.was) c.copy_plain.ensures.left))

pub returns : goal.returns
returns c = c.read_span.ensures ∙ ap span_in (dates_copied (plain c.args.part.now) (replicate 21 0) refl (sym c.copy_plain.ensures.told ∙ c.in_ok-n.was) c.copy_plain.ensures.left)
