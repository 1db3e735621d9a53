use Rattle.std.proofs.Common.{◌≡◌, refl, ap, ◌∙◌, ℕ, List, [], ◌∷◌, nat_eq, eqb, rules}
use Rattle.std.specs.List.{list_any}
use Rattle.std.proofs.lemmas.Iterator.Search.{any_from_yields_List}
use Rattle.laws.specs.Choice.{among, either}
use Rattle.syntax.specs.Bytes.{plain}
use Rattle.values.proofs.Yields.{characters_yield}
use Rattle.characters.proofs.has_character.Goals as goal

among_any : (b : ℕ) (l : List ℕ) → list_any (nat_eq b) l ≡ among b l
among_any b [] = refl
among_any b (x ∷ l) = ap (either (eqb b x)) (among_any b l)

pub returns : goal.returns
returns c =
    any_from_yields_List (nat_eq c.args.character) c.any.new.self _ c.any.result c.any.ensures.ran
    (characters_yield c.characters.ensures) (λ x b q k. search rules)
    ∙ among_any c.args.character (plain c.args.part.now)
