-- Calls by different accounts on one state, one after the other.
-- Assumes nothing.
use Rattle.std.specs.Prelude.{◌≡◌, List, [], ◌∷◌, ℕ, eqb}
use Rattle.laws.specs.Choice.{pick}

-- an account's own entries of a list, in their order
unfoldable pub own : {A : Type 0} → ℕ → List (ℕ × A) → List A
own a [] = []
own a (c ∷ cs) = pick (eqb a c.0) (c.1 ∷ own a cs) (own a cs)

-- "However the accounts' lists of calls are shuffled together, each account keeping its own order": two lists in which each account has
-- the same entries in the same order
abbrev pub SameForEach : {A : Type 0} → List (ℕ × A) → List (ℕ × A) → Type 0
SameForEach xs ys = (a : ℕ) → own a xs ≡ own a ys

-- A call is an account, any number, and what it asks. `call s c` is the state that the call c leaves, and its reply.
module _ {S Ask Reply : Type 0} (call : S → ℕ × Ask → S × Reply) where
  -- the replies to calls made one after the other, each with its account
  unfoldable pub replies : S → List (ℕ × Ask) → List (ℕ × Reply)
  replies s [] = []
  replies s (c ∷ cs) = (c.0, (call s c).1) ∷ replies (call s c).0 cs

  -- the state at the end
  unfoldable pub left : S → List (ℕ × Ask) → S
  left s [] = s
  left s (c ∷ cs) = left (call s c).0 cs

  -- calls of different accounts: either may come first, and neither is seen in the other's reply
  abbrev pub Apart : Type 0
  Apart = (s : S) (c d : ℕ × Ask) → (c.0 ≡ d.0 → ⊥) → ((call (call s c).0 d).0 ≡ (call (call s d).0 c).0) × ((call (call s c).0 d).1 ≡ (call s d).1)

  -- where each account makes the same calls in the same order, each gets the same replies in that order, and the state at the end is the same
  abbrev pub AnyOrder : Type 0
  AnyOrder = (s : S) (xs ys : List (ℕ × Ask)) → SameForEach xs ys → SameForEach (replies s xs) (replies s ys) × (left s xs ≡ left s ys)
