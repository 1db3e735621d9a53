use Rattle.std.proofs.lemmas.Iterator.{YieldsList-from_slice}
use Rattle.std.proofs.lemmas.Iterator.Consumers.{YieldsList-from_copied}
use Rattle.values.proofs.Yields.{characters_yield}
use Rattle.values.proofs.Compared.{same_from_yields}
use Rattle.values.proofs.equals.Goals as goal

pub returns : goal.returns
returns c =
    same_from_yields _ c.eq.ensures.ran
    (characters_yield c.characters.ensures)
    (YieldsList-from_copied (YieldsList-from_slice c.args.text.now cc))
