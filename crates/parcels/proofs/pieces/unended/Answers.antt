-- `parcels::pieces::unended` takes the ways of `unended_at`.
-- Assumes nothing.
use mathlib.Core.Path.{sym, ap, ◌∙◌}
use Rattle.parcels.specs.Onward.{named_at}
use Rattle.parcels.specs.NextPiece.{unended_halted, unended_three, unended_long}
use Rattle.parcels.proofs.pieces.unended.Goals as goal

pub returns-then-left-n : goal.returns-then-left-n
returns-then-left-n c =
    let a = c.args in
    c.halted.ensures ∙ sym (unended_halted a.x a.n a.left c.if-left-n.true)

pub returns-then-kept-n-ge-INTERCHANGE : goal.returns-then-kept-n-ge-INTERCHANGE
returns-then-kept-n-ge-INTERCHANGE c =
    let a = c.args in
    c.named.ensures ∙ ap (named_at a.x) c.at.ensures ∙ sym (unended_three a.x a.n a.left c.if-left-n.false c.if-kept-n-ge-INTERCHANGE.true)

pub returns : goal.returns
returns c =
    let a = c.args in
    c.named-2.ensures ∙ ap (named_at a.x) c.at-2.ensures ∙ sym (unended_long a.x a.n a.left c.if-left-n.false c.if-kept-n-ge-INTERCHANGE.false)
