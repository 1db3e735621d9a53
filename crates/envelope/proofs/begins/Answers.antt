-- `envelope::begins` meets its contract.
-- Assumes nothing.
use mathlib.Core.Path.{◌≡◌, refl, sym, ap, ◌∙◌}
use mathlib.Core.Bool.{Bool, true, false}
use mathlib.Core.List.{List, [], ◌∷◌}
use Prim.Native.Nat.{ℕ}
use lib.Dec.{eqb}
use lib.ListN.{length, take}
use borrow.Author.Tests.{eqb-true, eqb-false, eq-eqb, ne_eqb}
use Rattle.laws.specs.Choice.{both, choose}
use Rattle.std.specs.List.{starts_with}
use Rattle.envelope.specs.Written.{begins_with}
use Rattle.envelope.proofs.begins.Goals as goal

-- the library's test is ours
starts_is : (g text : List ℕ) → starts_with eqb g text ≡ begins_with g text
unfolding begins_with
starts_is g [] = refl
starts_is [] (t ∷ text) = refl
starts_is (b ∷ g) (t ∷ text) =
    choose (eqb b t)
    (λ p. let e = eq-eqb t b (sym (eqb-true b t p)) in rw (p, e) (starts_is g text))
    (λ p. let e = ne_eqb t b (λ q. eqb-false b t p (sym q)) in rw (p, e))

pub returns : goal.returns
returns c = c.starts_with.ensures.value ∙ starts_is c.args.segment.now c.args.text.now
