-- `segment_at` meets its contract.
-- Assumes nothing.
use mathlib.Core.Path.{sym, ◌∙◌, subst}
use Prim.Native.Nat.{◌<◌}
use lib.ListN.{length}
use Rattle.syntax.specs.Found.{end_from, told_is}
use Rattle.parts.specs.Segments.{segment_ended}
use Rattle.parts.proofs.segments.segment_at.Goals as goal

pub returns-in-Some : goal.returns-in-Some
returns-in-Some c =
    let s = c.args.s.now in
    let at = c.args.at in
    let e = told_is (length s) (end_from s at) c.in-Some.end (sym c.find_end.ensures ∙ c.in-Some.is) in
    segment_ended s at c.in-Some.end (sym e.0) (subst (λ n. n < length s) e.0 e.1)
