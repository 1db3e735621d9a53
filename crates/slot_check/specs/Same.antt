-- Comparing a text made of parts, or of zeros.
-- Assumes nothing.
use Rattle.std.specs.Prelude.{◌≡◌, refl, true, false, List, [], ◌∷◌, ◌++◌, ℕ, zero, suc, ◌+◌, eqb, ltb, length, take, drop, replicate}
use Rattle.std.proofs.Common.{sym, ap, arith, lt-ltb, get_or-drop}
use Rattle.laws.specs.Choice.{both, all, both_assoc, eqb_comm}
use Rattle.values.specs.Values.{same_text}
use Rattle.gaps.specs.Zero.{all_zero}
use Rattle.slots.specs.Words.{Bytes}
use Rattle.rooms.specs.Order.{same_not}

-- a text of two parts is compared part by part
pub same_append : (a x b : List ℕ) → same_text (a ++ x) b ≡ both (same_text a (take (length a) b)) (same_text x (drop (length a) b))
unfolding same_text
same_append [] x b = refl
same_append (c ∷ a) x [] = refl
same_append (c ∷ a) x (d ∷ b) =
    rw (same_append a x b) (sym (both_assoc (eqb c d) (same_text a (take (length a) b)) (same_text x (drop (length a) b))))

pub other_length : (a b : List ℕ) → (length a ≡ length b → ⊥) → same_text a b ≡ false
other_length a b h = same_not a b (λ e. h (ap length e))

-- zeros are zeros, as many
pub same_zeros : (n : ℕ) (b : List ℕ) → length b ≡ n → same_text (replicate n 0) b ≡ all_zero b
unfolding same_text all_zero
same_zeros zero [] h = refl
same_zeros zero (d ∷ b) h = absurd (omega arith)
same_zeros (suc n) [] h = absurd (omega arith)
same_zeros (suc n) (d ∷ b) h = rw (eqb_comm 0 d, same_zeros n b (omega arith))

pub bytes_drop : (k : ℕ) (s : List ℕ) → Bytes s → Bytes (drop k s)
bytes_drop k s h i = rw get_or-drop (h (k + i))

pub bytes_all : (n : ℕ) (s : List ℕ) → Bytes s → all (λ b. ltb b 256) (take n s) ≡ true
bytes_all zero s h = refl
bytes_all (suc n) [] h = refl
bytes_all (suc n) (b ∷ s) h = rw (lt-ltb b 256 (h 0)) (bytes_all n s (λ i. h (suc i)))
