-- Texts put into a store: over one another, and apart.
-- Assumes nothing.
use Rattle.std.specs.Prelude.{◌≡◌, List, ◌++◌, ℕ, ◌+◌, ◌-◌, ◌≤◌, length, take, drop}
use Rattle.std.proofs.Common.{sym, ap, ◌∙◌, append_assoc, arith, length-append, take-append-drop, length-take-le, take-add, take_at}
use Rattle.std.proofs.lemmas.List.{drop-append-le}
use Rattle.laws.specs.Lists.{between, length_between, drop_take}
use Rattle.laws.specs.Put.{put_at, put_is, put_put, length_put}
use Rattle.parcel_store.specs.Puts.{front_kept, rest_kept}

-- over a text of the same length
pub put_over_lem : (o : List ℕ) (at : ℕ) (s t : List ℕ) → length s ≡ length t → at + length t ≤ length o → put_at (put_at o at s) at t ≡ put_at o at t
put_over_lem o at s t e h =
    let n = length_put o at s in
    put_is (put_at o at s) at t (omega arith)
    ∙ ap (λ (x : List ℕ). x ++ (t ++ drop (at + length t) (put_at o at s))) (front_kept o at s at (omega arith))
    ∙ ap (λ (x : List ℕ). take at o ++ (t ++ x)) (rest_kept o at s (at + length t) (omega arith))
    ∙ sym (put_is o at t h)

-- two texts apart
module _ (o : List ℕ) (i : ℕ) (s : List ℕ) (j : ℕ) (t : List ℕ) (h : i + length s ≤ j) (k : j + length t ≤ length o) where
  abbrev inner : List ℕ
  inner = between o (i + length s) j

  abbrev last : List ℕ
  last = drop (j + length t) o

  first_front : take j (put_at o i s) ≡ (take i o ++ s) ++ inner
  first_front =
      let e : j ≡ i + length s + (j - (i + length s)) = omega arith in
      let l = length-take-le i o (omega arith) in
      ap (λ (n : ℕ). take n (put_at o i s)) e
      ∙ take-add (i + length s) (j - (i + length s)) (put_at o i s)
      ∙ ap (λ (x : List ℕ). take (i + length s) (put_at o i s) ++ take (j - (i + length s)) x) (rest_kept o i s (i + length s) (omega arith))
      ∙ ap (λ (x : List ℕ). x ++ inner)
      (ap (take (i + length s)) (put_is o i s (omega arith) ∙ sym (append_assoc (take i o) s (drop (i + length s) o)))
      ∙ take_at (take i o ++ s) (drop (i + length s) o) (i + length s) (omega (arith, length-append (take i o) s)))

  second_rest : drop (i + length s) (put_at o j t) ≡ inner ++ (t ++ last)
  second_rest =
      let l = length-take-le j o (omega arith) in
      ap (drop (i + length s)) (put_is o j t k)
      ∙ drop-append-le (i + length s) (take j o) (t ++ last) (omega arith)
      ∙ ap (λ (x : List ℕ). x ++ (t ++ last)) (drop_take (i + length s) j o)

  pub put_apart : put_at (put_at o i s) j t ≡ put_at (put_at o j t) i s
  put_apart =
      let n = length_put o i s in
      let m = length_put o j t in
      put_is (put_at o i s) j t (omega arith)
      ∙ ap (λ (x : List ℕ). x ++ (t ++ drop (j + length t) (put_at o i s))) first_front
      ∙ ap (λ (x : List ℕ). ((take i o ++ s) ++ inner) ++ (t ++ x)) (rest_kept o i s (j + length t) (omega arith))
      ∙ append_assoc (take i o ++ s) inner (t ++ last)
      ∙ append_assoc (take i o) s (inner ++ (t ++ last))
      ∙ ap (λ (x : List ℕ). take i o ++ (s ++ x)) (sym second_rest)
      ∙ ap (λ (x : List ℕ). x ++ (s ++ drop (i + length s) (put_at o j t))) (sym (front_kept o j t i (omega arith)))
      ∙ sym (put_is (put_at o j t) i s (omega arith))

-- a text behind bytes that stand
pub put_own : (o : List ℕ) (at n : ℕ) → at + n ≤ length o → put_at o at (between o at (at + n)) ≡ o
put_own o at n h =
    let e : at + n - at ≡ n = omega arith in
    let l = length_between o at (at + n) h in
    put_is o at (between o at (at + n)) (omega arith)
    ∙ ap (λ (x : ℕ). take at o ++ (between o at (at + n) ++ drop (at + x) o)) (l ∙ e)
    ∙ ap (λ (x : ℕ). take at o ++ (take x (drop at o) ++ drop (at + n) o)) e
    ∙ sym (append_assoc (take at o) (take n (drop at o)) (drop (at + n) o))
    ∙ ap (λ (x : List ℕ). x ++ drop (at + n) o) (sym (take-add at n o))
    ∙ take-append-drop (at + n) o

pub put_onto : (o : List ℕ) (at n : ℕ) (t : List ℕ) → at + n + length t ≤ length o → put_at o (at + n) t ≡ put_at o at (between o at (at + n) ++ t)
put_onto o at n t h =
    let l = length_between o at (at + n) (omega arith) in
    ap (λ (x : List ℕ). put_at x (at + n) t) (sym (put_own o at n (omega arith)))
    ∙ put_put o at (between o at (at + n)) (at + n) t (omega arith) (omega arith)
