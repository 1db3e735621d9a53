use mathlib.Core.Path.{◌≡◌, sym, ◌∙◌}
use borrow.Author.Tests.{lt-ltb, le-ltb}
use lib.Dec.{ltb}
use lib.ListN.{length}
use Rattle.laws.specs.Choice.{both}
use Rattle.parts.specs.Places.{bytes_of, repeats}
use Rattle.parts.specs.Located.{repeats_at}
use Rattle.parts.proofs.is_repeated.Goals.{After-piece_end-end}
use Rattle.parts.proofs.is_repeated.Goals as goal

module _ (b : After-piece_end-end) where
  told : repeats (bytes_of b.args.s.now b.args.segment) b.args.e
      ≡ both (ltb b.piece_end-end.result b.element-part.result.to) (ltb b.piece_end-end.result (length b.args.s.now))
  told =
      let a = b.args in
      repeats_at a.s.now a.segment b.element-part.result a.e b.piece_end-end.result b.element-part.ensures b.piece_end-end.ensures

pub returns-then-to-end : goal.returns-then-to-end
returns-then-to-end c = sym (told (goal.at.returns-then-to-end c).After-piece_end-end ∙ rw (le-ltb _ _ c.if-to-end.true))

pub returns : goal.returns
returns c = sym (told (goal.at.returns c).After-piece_end-end ∙ rw (lt-ltb _ _ c.if-to-end.false))
