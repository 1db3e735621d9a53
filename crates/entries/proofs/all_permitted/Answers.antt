-- `entries::all_permitted` meets its contract.
-- Assumes nothing.
use Rattle.std.proofs.Common.{◌≡◌, refl, ap, ◌∙◌, ℕ, List, [], ◌∷◌, rules}
use Rattle.std.specs.List.{list_all}
use Rattle.std.proofs.lemmas.Iterator.{YieldsList-from_slice}
use Rattle.std.proofs.lemmas.Iterator.Search.{all_from_yields_List}
use Rattle.laws.specs.Choice.{all, both}
use Rattle.syntax.specs.Bytes.{permitted_of}
use Rattle.entries.proofs.all_permitted.Goals as goal

all_is : (l : List ℕ) → list_all permitted_of l ≡ all permitted_of l
all_is [] = refl
all_is (x ∷ l) = ap (both (permitted_of x)) (all_is l)

pub returns : goal.returns
returns c =
    all_from_yields_List permitted_of _ _ _ c.all.ensures.ran (YieldsList-from_slice c.args.text.now c.iter.ensures.rest) (λ x b q k. search rules)
    ∙ all_is c.args.text.now
