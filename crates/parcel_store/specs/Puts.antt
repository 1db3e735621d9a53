-- A text put into a list reads back where it stands, and everything beside it is as it was.
-- Assumes nothing.
use Rattle.std.specs.Prelude.{◌≡◌, refl, List, ◌++◌, ℕ, ◌+◌, ◌-◌, ◌<◌, ◌≤◌, length, get_or, take, drop, replicate}
use Rattle.std.proofs.Common.{sym, ap, subst, ◌∙◌, arith, length-append, length-take-le, take-take, take_at, drop-drop}
use Rattle.std.proofs.Math.Decide.{dec_lt}
use Rattle.std.proofs.lemmas.List.{length-replicate, take-append-le}
use Rattle.std.proofs.Math.ListN.{get_or-append}
use Rattle.std.proofs.Math.Seq.{paste}
use Rattle.std.proofs.lemmas.List.Edits.{drop-paste}
use Rattle.laws.specs.Lists.{between, length_between, drop_take}
use Rattle.laws.specs.Put.{put_at, put_room, put_no_room, put_is, put_front, put_take}
use Rattle.laws.specs.Filled.{filled_up}

-- before the text
pub front_kept : (o : List ℕ) (at : ℕ) (s : List ℕ) (n : ℕ) → n ≤ at → take n (put_at o at s) ≡ take n o
front_kept o at s n h =
    elim (dec_lt (length o) (at + length s)) [
      | yes l ↦ ap (take n) (put_no_room o at s l)
      | no l ↦
          let k = length-take-le at o (omega arith) in
          ap (take n) (put_is o at s (omega arith)) ∙ take-append-le n (take at o) (s ++ drop (at + length s) o) (omega arith) ∙ take-take n at o h
    ]

pub before_kept : (o : List ℕ) (at : ℕ) (s : List ℕ) (from to : ℕ) → to ≤ at → between (put_at o at s) from to ≡ between o from to
before_kept o at s from to h = sym (drop_take from to (put_at o at s)) ∙ ap (drop from) (front_kept o at s to h) ∙ drop_take from to o

-- behind it
pub rest_kept : (o : List ℕ) (at : ℕ) (s : List ℕ) (n : ℕ) → at + length s ≤ n → drop n (put_at o at s) ≡ drop n o
rest_kept o at s n h =
    elim (dec_lt (length o) (at + length s)) [
      | yes l ↦ ap (drop n) (put_no_room o at s l)
      | no l ↦
          let e : at + length s + (n - (at + length s)) ≡ n = omega arith in
          ap (drop n) (put_room o at s (omega arith))
          ∙ subst (λ (k : ℕ). drop k (paste o at s (length s)) ≡ drop k o) e
          (sym (drop-drop (n - (at + length s)) (at + length s) (paste o at s (length s)))
          ∙ ap (drop (n - (at + length s))) (drop-paste o at s (length s) (omega arith) (omega arith))
          ∙ drop-drop (n - (at + length s)) (at + length s) o)
    ]

pub behind_kept : (o : List ℕ) (at : ℕ) (s : List ℕ) (from to : ℕ) → at + length s ≤ from → between (put_at o at s) from to ≡ between o from to
behind_kept o at s from to h = ap (take (to - from)) (rest_kept o at s from h)

-- the text itself
pub text_read : (o : List ℕ) (at : ℕ) (s : List ℕ) → at + length s ≤ length o → between (put_at o at s) at (at + length s) ≡ s
text_read o at s h =
    let e : at + length s - at ≡ length s = omega arith in
    rw e (put_take o at s h)

pub byte_read : (o s : List ℕ) (i : ℕ) → length s ≤ length o → i < length s → get_or (put_at o 0 s) i 0 ≡ get_or s i 0
byte_read o s i h l = rw (put_front o s h) (get_or-append s (drop (length s) o) 0 i l)

-- a text that is filled up with zeros
pub length_filled : (n : ℕ) (s : List ℕ) → length s ≤ n → length (filled_up n s) ≡ n
unfolding filled_up
length_filled n s h =
    let k = length-replicate {A = ℕ} (n - length s) 0 in
    length-append s (replicate (n - length s) 0) ∙ omega arith

pub filled_read : (o : List ℕ) (at n : ℕ) (s : List ℕ) → length s ≤ n → at + n ≤ length o → between (put_at o at (filled_up n s)) at (at + length s) ≡ s
unfolding filled_up
filled_read o at n s h l =
    let k = length_filled n s h in
    let e : at + length s - at ≡ length s = omega arith in
    rw e
    (sym (take-take (length s) (length (filled_up n s)) (drop at (put_at o at (filled_up n s))) (omega arith))
    ∙ ap (take (length s)) (put_take o at (filled_up n s) (omega arith))
    ∙ take_at s (replicate (n - length s) 0) (length s) refl)

-- a part of a list, read again by its own length
pub part_read : (b : List ℕ) (at n : ℕ) (s : List ℕ) → at + n ≤ length b → s ≡ between b at (at + n) → between b at (at + length s) ≡ s
part_read b at n s h e =
    let k : length s ≡ n = ap length e ∙ length_between b at (at + n) h ∙ omega arith in
    rw k (sym e)
