-- A text put into a list at an index: all of it, or nothing where there is no room for it.
-- Assumes nothing.
use Rattle.std.specs.Prelude.{◌≡◌, refl, false, List, [], ◌∷◌, ◌++◌, ℕ, suc, ◌+◌, ◌<◌, ◌≤◌, leb, length, set, get_or, take, drop}
use Rattle.std.proofs.Common.{sym, ◌∙◌, ap, append_assoc, add-one, arith, length-append, length-set, length-take-le, take_at, take-take, drop_at, drop-drop, take-suc-set, drop-set-lt, le-leb}
use Rattle.std.proofs.Math.Decide.{dec_lt}
use Rattle.std.proofs.Math.Seq.{paste, paste-zero, paste-suc, take-length}
use Rattle.std.proofs.lemmas.List.Edits.{length-paste, take-paste, drop-paste}
use Rattle.std.proofs.lemmas.List.{take-append-le}
use Rattle.std.proofs.lemmas.Bool.{lt-leb}
use Rattle.laws.specs.Choice.{pick, choose}

-- what stands before the index, then the text, then what stands past it
unfoldable pub put_at : List ℕ → ℕ → List ℕ → List ℕ
put_at o at s = pick (leb (at + length s) (length o)) (paste o at s (length s)) o

pub put_room : (o : List ℕ) (at : ℕ) (s : List ℕ) → at + length s ≤ length o → put_at o at s ≡ paste o at s (length s)
unfolding put_at
put_room o at s h = rw (le-leb _ _ h)

pub put_no_room : (o : List ℕ) (at : ℕ) (s : List ℕ) → length o < at + length s → put_at o at s ≡ o
unfolding put_at
put_no_room o at s h = rw (lt-leb _ _ h)

pub put_is : (o : List ℕ) (at : ℕ) (s : List ℕ) → at + length s ≤ length o → put_at o at s ≡ take at o ++ (s ++ drop (at + length s) o)
put_is o at s h = put_room o at s h ∙ rw (take-length s, append_assoc)

-- at index 0 the text stands over the front, and what stood past it is as it was
pub put_front : (o s : List ℕ) → length s ≤ length o → put_at o 0 s ≡ s ++ drop (length s) o
put_front o s h =
    let e : 0 + length s ≡ length s = omega arith in
    put_room o 0 s (omega arith) ∙ rw (e, take-length s)

pub length_put : (o : List ℕ) (at : ℕ) (s : List ℕ) → length (put_at o at s) ≡ length o
length_put o at s =
    elim (dec_lt (length o) (at + length s)) [
      | yes l ↦ ap length (put_no_room o at s l)
      | no l ↦ ap length (put_room o at s (omega arith)) ∙ length-paste o at s (length s) (omega arith) (omega arith)
    ]

-- the text stands at the index
pub put_take : (o : List ℕ) (at : ℕ) (s : List ℕ) → at + length s ≤ length o → take (length s) (drop at (put_at o at s)) ≡ s
put_take o at s h =
    rw (put_room o at s h, append_assoc, drop_at (take at o) (take (length s) s ++ drop (at + length s) o) at (length-take-le at o (omega arith)), take-length s)
    (take_at s (drop (at + length s) o) (length s) refl)

-- what was put at the front stands there
pub take_put : (o s p : List ℕ) (n : ℕ) → p ≡ put_at o 0 s → n ≡ length s → length s ≤ length o → take n p ≡ s
take_put o s p n e k h = rw (e, put_front o s h) (take_at s (drop (length s) o) n (sym k))

pub put_refused : (at : ℕ) (o s : List ℕ) → length o < at + length s → (false ≡ leb (at + length s) (length o)) × (o ≡ put_at o at s)
put_refused at o s h = (sym (lt-leb _ _ h), sym (put_no_room o at s h))

pub copied : (o : List ℕ) (at : ℕ) (s : List ℕ) (i : ℕ) → at + i < length o → i < length s → set (paste o at s i) (at + i) (get_or s i 0) ≡ paste o at s (i + 1)
copied o at s i ho hs = rw add-one (paste-suc o at s i 0 ho hs)

-- one part put behind another is both put at once
pub put_put : (o : List ℕ) (at : ℕ) (s : List ℕ) (j : ℕ) (t : List ℕ) → j ≡ at + length s → at + length s + length t ≤ length o
    → put_at (put_at o at s) j t ≡ put_at o at (s ++ t)
put_put o at s j t e h =
    let k : at + length (s ++ t) ≤ length o = rw length-append (omega arith) in
    let l : at + length s + length t ≤ length (put_at o at s) = rw length_put h in
    let p = put_room o at s (omega arith) in
    let q : at + length s + length t ≡ at + length (s ++ t) = rw length-append (omega arith) in
    rw (e, put_room (put_at o at s) (at + length s) t l, put_room o at (s ++ t) k)
    (rw (p, take-paste o at s (length s) (omega arith) (omega arith), ← drop-drop (length t) (at + length s) (paste o at s (length s)), drop-paste o at s (length s) (omega arith) (omega arith))
    (rw (take-length s, take-length t, take-length (s ++ t), drop-drop (length t) (at + length s) o, q)
    (ap (λ (l : List ℕ). l ++ drop (at + length (s ++ t)) o) (append_assoc (take at o) s t))))

-- the same, where each part is known by an equation
pub put_behind : (o : List ℕ) (at : ℕ) (s t : List ℕ) {p q u : List ℕ} (j : ℕ) → p ≡ put_at o at s → q ≡ put_at p j u → u ≡ t → j ≡ at + length s
    → at + length s + length t ≤ length o → q ≡ put_at o at (s ++ t)
put_behind o at s t {p} {q} {u} j ep eq eu e h =
    eq ∙ ap (λ (l : List ℕ). put_at l j u) ep ∙ ap (put_at (put_at o at s) j) eu ∙ put_put o at s j t e h

-- one part put before another that stands
pub put_before : (o : List ℕ) (at : ℕ) (s t : List ℕ) → at + length s + length t ≤ length o → put_at (put_at o (at + length s) t) at s ≡ put_at o at (s ++ t)
put_before o at s t h =
    let k = at + length s in
    let front = take k o in
    let past = t ++ drop (k + length t) o in
    let z = length-take-le k o (omega arith) in
    let i : put_at o k t ≡ front ++ past = put_is o k t h in
    let l : at + length s ≤ length (put_at o k t) = rw length_put (omega arith) in
    let m = length-append s t in
    let e : k + length t ≡ at + length (s ++ t) = omega arith in
    put_is (put_at o k t) at s l
    ∙ ap (λ (x : List ℕ). take at x ++ (s ++ drop k x)) i
    ∙ ap (λ (x : List ℕ). x ++ (s ++ drop k (front ++ past))) (take-append-le at front past (omega arith) ∙ take-take at k o (omega arith))
    ∙ ap (λ (x : List ℕ). take at o ++ (s ++ x)) (drop_at front past k z)
    ∙ ap (λ (x : ℕ). take at o ++ (s ++ (t ++ drop x o))) e
    ∙ ap (λ (x : List ℕ). take at o ++ x) (sym (append_assoc s t (drop (at + length (s ++ t)) o)))
    ∙ sym (put_is o at (s ++ t) (omega arith))

-- a text being put: nothing is left of it, or one element and those behind it
pub put_none : (o : List ℕ) (at : ℕ) → put_at o at [] ≡ o
unfolding put_at
put_none o at = choose (leb (at + 0) (length o)) (λ p. rw p (sym (paste-zero o at []))) (λ p. rw p)

pub put_step : (o : List ℕ) (at b : ℕ) (rest : List ℕ) → at + suc (length rest) ≤ length o → put_at (set o at b) (at + 1) rest ≡ put_at o at (b ∷ rest)
put_step o at b rest h =
    let l : at + 1 + length rest ≤ length (set o at b) = rw length-set (omega arith) in
    let e : at + 1 + length rest ≡ at + suc (length rest) = omega arith in
    rw (put_is (set o at b) (at + 1) rest l, put_is o at (b ∷ rest) h, e, drop-set-lt (at + suc (length rest)) o at b (omega arith))
    (rw (add-one, take-suc-set o at b (omega arith)) (append_assoc (take at o) (b ∷ []) (rest ++ drop (at + suc (length rest)) o)))
