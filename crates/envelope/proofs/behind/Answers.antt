-- `envelope::behind` meets its contract.
-- Assumes nothing.
use mathlib.Core.Path.{◌∙◌}
use native.Mathlib.Omega.{arith}
use lib.ListN.{length}
use Rattle.parts.specs.Next.{behind_mark}
use Rattle.envelope.specs.Written.{besides}
use Rattle.envelope.proofs.behind.Goals as goal

pub returns-then-segment-at-eq43 : goal.returns-then-segment-at-eq43
unfolding besides
returns-then-segment-at-eq43 c =
    let a = c.args in
    c.component_from.ensures
    ∙ behind_mark a.segment.now a.at (length a.segment.now) c.if-at-to.true (omega arith) c.if-segment-at-eq43.true

pub returns : goal.returns
unfolding besides
returns c = c.part_at.ensures
