-- A number that holds no release, as it stands in a slot.
-- Assumes nothing.
use Prim.Native.Nat.{ℕ, zero, suc, ◌+◌, ◌-◌, ◌≤◌, ◌<◌, min}
use Rattle.std.specs.Prelude.{◌≡◌, refl, true, List, [], ◌∷◌, ◌++◌, ltb, get_or, set, take, drop, replicate}
use Rattle.std.proofs.Math.Path.{sym, ap}
use Rattle.std.proofs.Common.{◌∙◌, add-one, lt-ltb, le-ltb, ne_eqb, length-take, length-drop, take_all, take-suc, get_or-take, get_or-drop, length-take-le}
use native.Mathlib.Omega.{arith}
use Rattle.std.proofs.Math.Decide.{dec_lt}
use Rattle.std.proofs.Math.ListN.{length}
use Rattle.std.proofs.lemmas.List.{set-get_or}
use Rattle.std.proofs.Math.Seq.{paste, paste-zero}
use Rattle.std.proofs.lemmas.List.Edits.{drop-paste}
use Rattle.laws.specs.Choice.{pick, all, both_parts}
use Rattle.laws.specs.Lists.{between, length_between}
use Rattle.laws.specs.Put.{put_at, put_room, put_front, copied}
use Rattle.laws.specs.Eight.{all_joined}
use Rattle.free_texts.specs.Free.{quiet, plain_all}
use Rattle.syntax.specs.Bytes.{plain}
use Rattle.service_entries.specs.Room.{number_bytes}

-- ---- ten bytes, one after the other

zero_in : (n i : ℕ) → get_or (replicate {A = ℕ} n 0) i 0 ≡ 0
zero_in zero i = refl
zero_in (suc n) zero = refl
zero_in (suc n) (suc i) = zero_in n i

-- behind the text stand zeros
zero_behind : (x : List ℕ) (i : ℕ) → length x ≤ i → length x ≤ 10 → get_or (paste (replicate 10 0) 0 x (length x)) i 0 ≡ 0
zero_behind x i h k =
    let n = length x in
    let l = paste (replicate 10 0) 0 x n in
    let e : 0 + n + (i - n) ≡ i = omega arith in
    ap (λ (j : ℕ). get_or l j 0) (sym e)
    ∙ sym (get_or-drop (0 + n) l (i - n) 0)
    ∙ ap (λ (d : List ℕ). get_or d (i - n) 0) (drop-paste (replicate 10 0) 0 x n (omega arith) (omega arith))
    ∙ get_or-drop (0 + n) (replicate 10 0) (i - n) 0
    ∙ zero_in 10 (0 + n + (i - n))

module _ (s : List ℕ) (from n : ℕ) (h : from + 10 ≤ length s) (k : n ≤ 10) where
  abbrev text : List ℕ
  text = take n (drop from s)

  text_length : length text ≡ n
  text_length =
      let d = length-drop from s in
      length-take-le n (drop from s) (omega arith)

  text_at : (i : ℕ) → i < n → get_or text i 0 ≡ get_or s (from + i) 0
  text_at i l = get_or-take n (drop from s) i 0 l ∙ get_or-drop from s i 0

  pub ten_start : replicate 10 0 ≡ paste (replicate 10 0) 0 text (min 0 n)
  ten_start =
      let e : min 0 n ≡ 0 = omega arith in
      rw e (paste-zero (replicate 10 0) 0 text)

  pub ten_step : (i b : ℕ) (l : List ℕ) → i < 10 → b ≡ pick (ltb i n) (get_or s (from + i) 0) 0 → l ≡ paste (replicate 10 0) 0 text (min i n)
      → set l i b ≡ paste (replicate 10 0) 0 text (min (i + 1) n)
  ten_step i b l c q e =
      elim (dec_lt i n) [
        | yes a ↦
            let p : b ≡ get_or text i 0 = q ∙ rw (lt-ltb i n a) (sym (text_at i a)) in
            let m : min i n ≡ i = omega arith in
            let m₁ : min (i + 1) n ≡ i + 1 = omega arith in
            let z : 0 + i ≡ i = omega arith in
            let w = text_length in
            ap (λ (j : ℕ). set l j b) (sym z)
            ∙ ap (λ (y : ℕ). set l (0 + i) y) p
            ∙ ap (λ (y : List ℕ). set y (0 + i) (get_or text i 0)) (e ∙ ap (paste (replicate 10 0) 0 text) m)
            ∙ copied (replicate 10 0) 0 text i (omega arith) (omega arith)
            ∙ ap (paste (replicate 10 0) 0 text) (sym m₁)
        | no a ↦
            let w = text_length in
            let p : b ≡ 0 = q ∙ rw (le-ltb i n (omega arith)) refl in
            let m : min i n ≡ length text = omega arith in
            let m₁ : min (i + 1) n ≡ length text = omega arith in
            let full = paste (replicate 10 0) 0 text (length text) in
            ap (λ (y : ℕ). set l i y) (p ∙ sym (zero_behind text i (omega arith) (omega arith)))
            ∙ ap (λ (y : List ℕ). set y i (get_or full i 0)) (e ∙ ap (paste (replicate 10 0) 0 text) m)
            ∙ set-get_or full i 0
            ∙ ap (paste (replicate 10 0) 0 text) (sym m₁)
      ]

  pub ten_done : (i : ℕ) (l : List ℕ) → 10 ≤ i → l ≡ paste (replicate 10 0) 0 text (min i n) → l ≡ number_bytes text
  unfolding number_bytes
  ten_done i l c e =
      let w = text_length in
      let m : min i n ≡ length text = omega arith in
      e ∙ ap (paste (replicate 10 0) 0 text) m ∙ sym (put_room (replicate 10 0) 0 text (omega arith))

-- ---- no release among them

pub quiet_byte : (b : ℕ) → (b ≡ 63 → ⊥) → quiet 63 b ≡ true
quiet_byte b h = rw (ne_eqb b 63 h)

pub quiet_on : (l : List ℕ) (i : ℕ) → i < length l → all (quiet 63) (take i l) ≡ true → quiet 63 (get_or l i 0) ≡ true → all (quiet 63) (take (i + 1) l) ≡ true
quiet_on l i h p q = rw (add-one, take-suc l i 0 h, all_joined (quiet 63) (take i l) (get_or l i 0 ∷ []), p, q)

pub quiet_whole : (l : List ℕ) (i : ℕ) → length l ≤ i → all (quiet 63) (take i l) ≡ true → all (quiet 63) l ≡ true
quiet_whole l i h p = sym (ap (all (quiet 63)) (take_all i l h)) ∙ p

-- a number that holds no release is what its part says
pub number_quiet : (s : List ℕ) (from to : ℕ) (l : List ℕ) → to ≤ from + 10 → to ≤ length s → l ≡ number_bytes (between s from to) → all (quiet 63) l ≡ true
    → (l ≡ number_bytes (plain (between s from to))) × (to - from ≡ length (plain (between s from to)))
unfolding number_bytes
number_quiet s from to l h k e q =
    let x = between s from to in
    let w = length-take (to - from) (drop from s) in
    let f : l ≡ x ++ drop (length x) (replicate 10 0) = e ∙ put_front (replicate 10 0) x (omega arith) in
    let p = (both_parts (all (quiet 63) x) (all (quiet 63) (drop (length x) (replicate 10 0))) (sym (all_joined (quiet 63) x (drop (length x) (replicate 10 0))) ∙ sym (ap (all (quiet 63)) f) ∙ q)).0 in
    (e ∙ ap (put_at (replicate 10 0) 0) (sym (plain_all x p)), sym (length_between s from to k) ∙ ap length (sym (plain_all x p)))
