-- The first piece of a text is what the text begins with.
-- Assumes nothing.
use Rattle.std.specs.Prelude.{◌≡◌, refl, Bool, List, [], ◌∷◌, ℕ, ◌≤◌, length, take}
use Rattle.std.proofs.Common.{ap, arith}
use Rattle.laws.specs.Choice.{choose}
use Rattle.syntax.specs.Bytes.{stands, releases}
use Rattle.syntax.specs.Pieces.{first_piece}

pub first_take : (c : ℕ) (r : Bool) (l : List ℕ) → first_piece c r l ≡ take (length (first_piece c r l)) l
unfolding first_piece
first_take c r [] = refl
first_take c r (b ∷ l) =
    choose (stands c r b) (λ q. rw q) (λ q. rw q (ap (λ (x : List ℕ). b ∷ x) (first_take c (releases r b) l)))

pub first_length : (c : ℕ) (r : Bool) (l : List ℕ) → length (first_piece c r l) ≤ length l
unfolding first_piece
first_length c r [] = omega arith
first_length c r (b ∷ l) =
    choose (stands c r b) (λ q. rw q (omega arith)) (λ q. rw q (let h = first_length c (releases r b) l in omega arith))
