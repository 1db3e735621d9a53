-- The characters of a day string, eight at a time: a byte is one of them where all bits but its lowest are those of `0`.
-- Assumes nothing.
use Rattle.std.specs.Prelude.{◌≡◌, Bool, true, false, ℕ, ◌+◌, ◌-◌, ◌≤◌, ◌<◌, eqb, leb, length, get_or, take, drop}
use Rattle.std.proofs.Math.Path.{refl}
use Rattle.std.proofs.Common.{sym, ap, ◌∙◌, length-drop, take_all, eq-eqb, ne_eqb, le-leb}
use mathlib.Core.List.{List, [], ◌∷◌, ◌++◌}
use native.Mathlib.Omega.{arith}
use Rattle.std.proofs.Math.Decide.{dec_lt}
use Rattle.std.specs.Int.Bits.{bit_and, bit_or, bit_xor}
use Rattle.std.proofs.lemmas.Nat.{xor_lt}
use Rattle.std.proofs.lemmas.Bool.{lt-leb}
use Rattle.laws.specs.Choice.{both, all, choose, both_parts, both_assoc}
use Rattle.laws.specs.Leads.{run_of}
use Rattle.laws.specs.Lists.{between, drop_here, drop_past}
use Rattle.laws.specs.Sweep.{agree}
use Rattle.laws.specs.Words.{word_by, word_of, Every, Byte, is_zero, zero_word, all_same, and_word, xor_word, or_zero}
use Rattle.laws.specs.Eight.{eight_at, drop_eight, all_joined}
use Rattle.raw_bytes.specs.Eights.{Eights, eights_bytes}
use Rattle.period.specs.Period.{zero_or_one}
use Rattle.period.specs.Steps.{other_character, day_character_lem}

abbrev other_bits : ℕ → Bool
other_bits b = eqb (bit_and (bit_xor b 48) 254) 0

day_bits : (b : ℕ) → b < 256 → other_bits b ≡ zero_or_one b
day_bits b h = agree other_bits zero_or_one 256 tt b h

-- eight of them
abbrev pub others : ℕ → ℕ
others w = bit_and (bit_xor w 3472328296227680304) 18374403900871474942

module _ {l : List ℕ} (r : Every Byte l) where
  others_bytes : bit_and (bit_xor (word_of l) (word_by (λ _. 48) l)) (word_by (λ _. 254) l) ≡ word_by (λ b. bit_and (bit_xor b 48) 254) l
  others_bytes =
      rw (xor_word (λ b. b) (λ _. 48) (λ b h. h) (λ b h. omega arith) r)
      (and_word (λ b. bit_xor b 48) (λ _. 254) (λ b h. xor_lt 8 b 48 h (omega arith)) (λ b h. omega arith) r)

  days_bytes_lem : is_zero (bit_and (bit_xor (word_of l) (word_by (λ _. 48) l)) (word_by (λ _. 254) l)) ≡ all zero_or_one l
  days_bytes_lem = ap is_zero others_bytes ∙ zero_word (λ b. bit_and (bit_xor b 48) 254) l ∙ all_same other_bits zero_or_one day_bits r

eight_days : (g : List ℕ) (i : ℕ) {w : ℕ} → Eights g i w → eqb (others w) 0 ≡ all zero_or_one (eight_at g i)
unfolding word_by
eight_days g i e = ap (λ (x : ℕ). eqb (others x) 0) e.is ∙ days_bytes_lem (eights_bytes g i e)

-- a run of bytes of a kind, and what stands behind it
module _ (f : ℕ → Bool) where
  run_over : (l k : List ℕ) → all f l ≡ true → run_of f (l ++ k) ≡ length l + run_of f k
  unfolding run_of
  run_over [] k p = omega arith
  run_over (b ∷ l) k p =
      let q = both_parts (f b) (all f l) p in
      let r = run_over l k q.1 in
      rw q.0 (omega arith)

  run_kind : (l : List ℕ) → all f (take (run_of f l) l) ≡ true
  unfolding run_of
  run_kind [] = refl
  run_kind (b ∷ l) = choose (f b) (λ p. rw (p, p) (run_kind l)) (λ p. rw p)

  run_less : (l : List ℕ) → run_of f l < length l → all f l ≡ false
  unfolding run_of
  run_less [] h = absurd (omega arith)
  run_less (b ∷ l) h =
      choose (f b)
      (λ p. let k = rw p at h in rw p (run_less l (omega arith)))
      (λ p. rw p)

-- it is of that kind, and where it is as long as the text all is
pub run_between : (g : List ℕ) (from e : ℕ) → e ≡ from + run_of zero_or_one (drop from g) → all zero_or_one (between g from e) ≡ true
run_between g from e p =
    let z : e - from ≡ run_of zero_or_one (drop from g) = omega arith in
    ap (λ (x : ℕ). all zero_or_one (take x (drop from g))) z ∙ run_kind zero_or_one (drop from g)

run_all : (g : List ℕ) (from e : ℕ) → e ≡ from + run_of zero_or_one (drop from g) → length g ≤ e → all zero_or_one (drop from g) ≡ true
run_all g from e p h =
    let l = length-drop from g in
    sym (ap (all zero_or_one) (take_all (run_of zero_or_one (drop from g)) (drop from g) (omega arith))) ∙ run_kind zero_or_one (drop from g)

-- from an index on
module _ (g : List ℕ) (i : ℕ) where
  module _ (h : i < length g) where
    stops : zero_or_one (get_or g i 0) ≡ false → i ≡ i + run_of zero_or_one (drop i g)
    unfolding run_of
    stops e = let z : i + 0 ≡ i = omega arith in rw (drop_here g i h, e, z)

    pub run_below : get_or g i 0 < 48 → i ≡ i + run_of zero_or_one (drop i g)
    run_below k = stops (other_character (get_or g i 0) (λ e. omega arith) (λ e. omega arith))

    pub run_above : 49 < get_or g i 0 → i ≡ i + run_of zero_or_one (drop i g)
    run_above k = stops (other_character (get_or g i 0) (λ e. omega arith) (λ e. omega arith))

    pub run_goes : 48 ≤ get_or g i 0 → get_or g i 0 ≤ 49 → i + 1 + run_of zero_or_one (drop (i + 1) g) ≡ i + run_of zero_or_one (drop i g)
    unfolding run_of
    run_goes k l = rw (drop_here g i h, day_character_lem (get_or g i 0) k l) (omega arith)

  pub run_ends : length g ≤ i → i ≡ i + run_of zero_or_one (drop i g)
  unfolding run_of
  run_ends h = let z : i + 0 ≡ i = omega arith in rw (drop_past g i h, z)

  pub run_eight : {w : ℕ} → Eights g i w → others w ≡ 0 → i + 8 + run_of zero_or_one (drop (i + 8) g) ≡ i + run_of zero_or_one (drop i g)
  run_eight {w} e z =
      let r = run_over zero_or_one (eight_at g i) (drop (i + 8) g) (sym (eight_days g i e) ∙ eq-eqb (others w) 0 z) in
      let d = ap (run_of zero_or_one) (drop_eight g i e.inside) in
      omega arith

-- all of them, by the bits in which another byte differs
module _ (g : List ℕ) (i other : ℕ) where
  pub days_eight : {w : ℕ} → Eights g i w → both (eqb (bit_or other (others w)) 0) (all zero_or_one (drop (i + 8) g)) ≡ both (eqb other 0) (all zero_or_one (drop i g))
  days_eight {w} e =
      ap (λ (x : Bool). both x (all zero_or_one (drop (i + 8) g))) (or_zero other (others w))
      ∙ both_assoc (eqb other 0) (eqb (others w) 0) (all zero_or_one (drop (i + 8) g))
      ∙ ap (both (eqb other 0))
      (ap (λ (x : Bool). both x (all zero_or_one (drop (i + 8) g))) (eight_days g i e)
      ∙ sym (all_joined zero_or_one (eight_at g i) (drop (i + 8) g))
      ∙ ap (all zero_or_one) (sym (drop_eight g i e.inside)))

  pub days_other : (other ≡ 0 → ⊥) → false ≡ both (eqb other 0) (all zero_or_one (drop i g))
  days_other h = rw (ne_eqb other 0 h)

  pub days_none : other ≡ 0 → all zero_or_one (drop i g) ≡ both (eqb other 0) (all zero_or_one (drop i g))
  days_none h = rw (eq-eqb other 0 h)

-- all are where nothing stands behind the run
pub run_whole : (g : List ℕ) (from e : ℕ) → e ≡ from + run_of zero_or_one (drop from g) → leb (length g) e ≡ all zero_or_one (drop from g)
run_whole g from e p =
    elim (dec_lt e (length g)) [
      | yes h ↦
          let l = length-drop from g in
          rw (lt-leb (length g) e h) (sym (run_less zero_or_one (drop from g) (omega arith)))
      | no h ↦ rw (le-leb (length g) e (omega arith)) (sym (run_all g from e p (omega arith)))
    ]
