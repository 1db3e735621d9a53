-- What a part says after release, byte by byte.
-- Assumes nothing.
use Rattle.std.specs.Prelude.{Bool, true, false, Option, Some, None, List, [], ◌∷◌, ℕ, ◌+◌, eqb, ltb, drop}
use Rattle.laws.specs.Choice.{pick, both}
use Rattle.values.specs.declared.Next.{Next}

-- whether two texts are the same
unfoldable pub same_text : List ℕ → List ℕ → Bool
same_text [] [] = true
same_text [] (b ∷ m) = false
same_text (a ∷ l) [] = false
same_text (a ∷ l) (b ∷ m) = both (eqb a b) (same_text l m)

-- n bytes go into a buffer of that room, or none does
abbrev pub copied_of : ℕ → ℕ → Option ℕ
copied_of n room = pick (ltb room n) None (Some n)

-- the byte behind a `?`, and the index past it
abbrev pub past_release : ℕ → List ℕ → Option Next
past_release i [] = None
past_release i (c ∷ l) = Some (record { byte = c; past = i + 1 + 1 })

-- the first byte after release of what stands from index i on, and the index past it
abbrev pub next_on : ℕ → List ℕ → Option Next
next_on i [] = None
next_on i (b ∷ l) = pick (eqb b 63) (past_release i l) (Some (record { byte = b; past = i + 1 }))

unfoldable pub next_at : List ℕ → ℕ → Option Next
next_at s i = next_on i (drop i s)
