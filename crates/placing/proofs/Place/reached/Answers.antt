-- `placing::Place::reached` meets its contract. Assumes nothing.
use Rattle.placing.proofs.Place.reached.Goals as goal

pub returns : goal.returns
returns c =
    simp (
      c.kept.ensures,
      c.kept-2.ensures,
      c.kept-3.ensures,
      c.kept-4.ensures,
      c.kept-5.ensures,
    )
