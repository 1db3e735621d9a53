-- A segment that comes in pieces: what is known of it at a cut (document 02, A1).
-- Assumes nothing.
use Rattle.std.specs.Prelude.{Bool, List, [], ◌∷◌, ℕ}
use Rattle.syntax.specs.Bytes.{releases}

-- whether the byte behind some bytes is released, where r says whether the first of them is
unfoldable pub released_after : Bool → List ℕ → Bool
released_after r [] = r
released_after r (b ∷ l) = released_after (releases r b) l
