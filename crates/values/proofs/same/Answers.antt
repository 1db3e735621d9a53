use Rattle.values.proofs.Yields.{characters_yield}
use Rattle.values.proofs.Compared.{same_from_yields}
use Rattle.values.proofs.same.Goals as goal

pub returns : goal.returns
returns c =
    same_from_yields _ c.eq.ensures.ran
    (characters_yield c.characters.ensures)
    (characters_yield c.characters-2.ensures)
