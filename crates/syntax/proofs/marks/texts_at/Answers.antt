-- `texts_at` meets its contract.
-- Assumes nothing.
use Prim.Native.Nat.{◌/◌}
use Rattle.syntax.specs.Texts.{seen_eight, seen_twice}
use Rattle.syntax.proofs.marks.texts_at.Goals as goal

pub returns : goal.returns
returns c =
    let a = c.args in
    seen_twice a.p.now a.i a.j (c.texts_in.result / 128) (c.texts_in-2.result / 128)
    (seen_eight a.p.now a.i c.eight_at.result c.texts_in.result c.eight_at.ensures c.texts_in.ensures c.requires.0)
    (seen_eight a.p.now a.j c.eight_at-2.result c.texts_in-2.result c.eight_at-2.ensures c.texts_in-2.ensures c.requires.1)
