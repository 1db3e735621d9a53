-- A number of at most eight characters, tested as one word.
-- Assumes nothing.
use Rattle.std.specs.Prelude.{◌≡◌, refl, Bool, ℕ, zero, suc, ◌+◌, ◌*◌, ◌/◌, ◌%◌, ◌≤◌, ◌<◌, eqb, leb, length, take, drop}
use Rattle.std.proofs.Math.Path.{sym, ap}
use Rattle.std.proofs.Common.{◌∙◌, take-append-drop, length-take-le}
use Rattle.std.proofs.Math.Bool.{true, false}
use mathlib.Core.List.{List, [], ◌∷◌, ◌++◌}
use native.Mathlib.Omega.{arith}
use borrow.Author.Tests.{eq-eqb, ne_eqb, eqb-true, eqb-false, le-leb}
use Rattle.std.proofs.Math.ListN.{get_or, drop_of_length-le, get_or-eq_default}
use Rattle.std.proofs.Math.Seq.{drop-cons}
use Rattle.laws.specs.Choice.{pick, both, choose, false≢true}
use Rattle.syntax.specs.Bytes.{permitted_of}
use Rattle.syntax.specs.Segment.{permitted_run}
use Rattle.gaps.specs.Zero.{all_zero}
use Rattle.slots.specs.Words.{Bytes, four, high_of, low_of, bytes_take, high_take}
use Rattle.slot_check.specs.Number.{is_number, number_is}

-- whether behind the permitted bytes that lead there are only zeros
unfoldable pub rest_zero : List ℕ → Bool
rest_zero l = all_zero (drop (permitted_run l) l)

-- ---- a word's bytes

high_below : (x : List ℕ) → Bytes x → high_of x < 18446744073709551616
unfolding high_of four
high_below x f = let a = f 0 in let b = f 1 in let c = f 2 in let d = f 3 in let e = f 4 in let g = f 5 in let h = f 6 in let i = f 7 in omega arith

module _ (b : ℕ) (l : List ℕ) (h : length l ≤ 7) where
  shifted : high_of (b ∷ l) * 256 ≡ b * 18446744073709551616 + high_of l
  unfolding high_of four
  shifted = let e : get_or l 7 0 ≡ 0 = get_or-eq_default l 0 h in omega arith

  zero_cons : Bytes l → eqb (high_of (b ∷ l)) 0 ≡ both (eqb b 0) (eqb (high_of l) 0)
  zero_cons f =
      let s = shifted in
      choose (eqb b 0)
      (λ p.
      let e = eqb-true b 0 p in
      choose (eqb (high_of l) 0)
      (λ q.
      let g = eqb-true (high_of l) 0 q in
      rw (p, q) (eq-eqb (high_of (b ∷ l)) 0 (omega arith)))
      (λ q.
      let g = eqb-false (high_of l) 0 q in
      rw (p, q) (ne_eqb (high_of (b ∷ l)) 0 (λ z. g (omega arith)))))
      (λ p.
      let e = eqb-false b 0 p in
      rw p (ne_eqb (high_of (b ∷ l)) 0 (λ z. e (omega arith))))

zero_word : (l : List ℕ) → Bytes l → length l ≤ 8 → eqb (high_of l) 0 ≡ all_zero l
unfolding all_zero high_of four
zero_word [] f h = refl
zero_word (b ∷ l) f h =
    zero_cons b l (omega arith) (λ i. f (suc i))
    ∙ ap (both (eqb b 0)) (zero_word l (λ i. f (suc i)) (omega arith))

-- the word of the bytes behind the first
module _ (b : ℕ) (l : List ℕ) (f : Bytes (b ∷ l)) (h : length l ≤ 7) where
  pub top_byte : high_of (b ∷ l) / 72057594037927936 ≡ b
  top_byte =
      let s = shifted b l h in
      let m = high_below l (λ i. f (suc i)) in
      omega arith

  pub rest_word : high_of (b ∷ l) * 256 % 18446744073709551616 ≡ high_of l
  rest_word =
      let s = shifted b l h in
      let m = high_below l (λ i. f (suc i)) in
      omega arith

zero_not : permitted_of 0 ≡ false
unfolding permitted_of
zero_not = refl

run_zeros : (c : List ℕ) → all_zero c ≡ true → all_zero (drop (permitted_run c) c) ≡ true
unfolding all_zero permitted_run
run_zeros [] h = refl
run_zeros (b ∷ c) h =
    choose (eqb b 0)
    (λ p.
    let e = eqb-true b 0 p in
    rw (ap permitted_of e ∙ zero_not) h)
    (λ p. absurd (false≢true (rw p at h)))

-- the sixteen bytes from 48, `0`, on are permitted
row_permitted : (b : ℕ) → 48 ≤ b → b < 64 → permitted_of b ≡ true
unfolding permitted_of
row_permitted b h k =
    rw (
      le-leb 32 b (omega arith),
      le-leb b 126 (omega arith),
      ne_eqb b 35 (λ e. omega arith),
      ne_eqb b 36 (λ e. omega arith),
      ne_eqb b 64 (λ e. omega arith),
      ne_eqb b 91 (λ e. omega arith),
      ne_eqb b 92 (λ e. omega arith),
      ne_eqb b 93 (λ e. omega arith),
      ne_eqb b 94 (λ e. omega arith),
      ne_eqb b 96 (λ e. omega arith),
      ne_eqb b 123 (λ e. omega arith),
      ne_eqb b 124 (λ e. omega arith),
      ne_eqb b 125 (λ e. omega arith),
      ne_eqb b 126 (λ e. omega arith),
    )

pub top_permitted : (w : ℕ) → w / 1152921504606846976 ≡ 3 → permitted_of (w / 72057594037927936) ≡ true
top_permitted w e = row_permitted (w / 72057594037927936) (omega arith) (omega arith)

-- ---- for the loop: what is left of the word is that of some bytes

pub record Rest (x : List ℕ) (w : ℕ) : Type 0 where
  pub bytes : List ℕ
  pub all : Bytes bytes
  pub most : length bytes ≤ 8
  pub word : w ≡ high_of bytes
  pub same : rest_zero bytes ≡ rest_zero (take 8 x)

-- how often a word can be moved up until nothing is left
unfoldable pub live : ℕ → ℕ → ℕ
live zero w = 0
live (suc n) w = pick (eqb w 0) 0 (suc (live n (w * 256 % 18446744073709551616)))

live_enough : (n : ℕ) (l : List ℕ) → Bytes l → length l ≤ n → n ≤ 8 → live (suc n) (high_of l) ≡ live n (high_of l)
unfolding live high_of four
live_enough zero [] f h k = refl
live_enough zero (b ∷ l) f h k = absurd (omega arith)
live_enough (suc n) [] f h k = refl
live_enough (suc n) (b ∷ l) f h k =
    choose (eqb (high_of (b ∷ l)) 0)
    (λ p. rw p)
    (λ p. rw (p, rest_word b l f (omega arith)) (ap suc (live_enough n l (λ i. f (suc i)) (omega arith) (omega arith))))

module _ (x : List ℕ) (w : ℕ) where
  some_byte : (l : List ℕ) → (w ≡ 0 → ⊥) → w ≡ high_of l → 1 ≤ length l
  unfolding high_of four
  some_byte [] d e = absurd (d e)
  some_byte (b ∷ l) d e = omega arith

  pub rest_below : Rest x w → w < 18446744073709551616
  rest_below r = let e = r.word in let h = high_below r.bytes r.all in omega arith

  pub rest_end : w ≡ 0 → Rest x w → true ≡ rest_zero (take 8 x)
  unfolding rest_zero
  rest_end e r =
      let z : all_zero r.bytes ≡ true = sym (zero_word r.bytes r.all r.most) ∙ eq-eqb (high_of r.bytes) 0 (sym r.word ∙ e) in
      sym (run_zeros r.bytes z) ∙ r.same

  module _ (d : w ≡ 0 → ⊥) where
    go_not : (l : List ℕ) → Bytes l → length l ≤ 8 → w ≡ high_of l → permitted_of (w / 72057594037927936) ≡ false → false ≡ rest_zero l
    unfolding rest_zero permitted_run
    go_not [] f h e q = absurd (let k = some_byte [] d e in omega arith)
    go_not (b ∷ l) f h e q =
        let t : w / 72057594037927936 ≡ b = ap (λ (n : ℕ). n / 72057594037927936) e ∙ top_byte b l f (omega arith) in
        let n : permitted_of b ≡ false = sym (ap permitted_of t) ∙ q in
        rw n (sym (sym (zero_word (b ∷ l) f h) ∙ ne_eqb (high_of (b ∷ l)) 0 (λ z. d (e ∙ z))))

    pub rest_not : permitted_of (w / 72057594037927936) ≡ false → Rest x w → false ≡ rest_zero (take 8 x)
    rest_not q r = go_not r.bytes r.all r.most r.word q ∙ r.same

    abbrev next : ℕ
    next = w * 256 % 18446744073709551616

    go_on : (l : List ℕ) → Bytes l → length l ≤ 8 → w ≡ high_of l → rest_zero l ≡ rest_zero (take 8 x) → permitted_of (w / 72057594037927936) ≡ true → Rest x next
    unfolding rest_zero permitted_run
    go_on [] f h e s q = absurd (let k = some_byte [] d e in omega arith)
    go_on (b ∷ l) f h e s q =
        let t : w / 72057594037927936 ≡ b = ap (λ (n : ℕ). n / 72057594037927936) e ∙ top_byte b l f (omega arith) in
        let y : permitted_of b ≡ true = sym (ap permitted_of t) ∙ q in
        record {
          bytes = l;
          all = λ i. f (suc i);
          most = omega arith;
          word = ap (λ (n : ℕ). n * 256 % 18446744073709551616) e ∙ rest_word b l f (omega arith);
          same = rw y at s;
        }

    pub rest_on : permitted_of (w / 72057594037927936) ≡ true → Rest x w → Rest x next
    rest_on q r = go_on r.bytes r.all r.most r.word r.same q

    go_less : (l : List ℕ) → Bytes l → length l ≤ 8 → w ≡ high_of l → live 8 next < live 8 w
    unfolding live
    go_less [] f h e = absurd (let k = some_byte [] d e in omega arith)
    go_less (b ∷ l) f h e =
        let n : next ≡ high_of l = ap (λ (n : ℕ). n * 256 % 18446744073709551616) e ∙ rest_word b l f (omega arith) in
        let g : live 8 next ≡ live 7 next = ap (live 8) n ∙ live_enough 7 l (λ i. f (suc i)) (omega arith) (omega arith) ∙ sym (ap (live 7) n) in
        rw (ne_eqb w 0 d) (omega arith)

    pub rest_less : Rest x w → live 8 next < live 8 w
    rest_less r = go_less r.bytes r.all r.most r.word

-- ---- zeros behind

zero_append : (a c : List ℕ) → all_zero c ≡ true → all_zero (a ++ c) ≡ all_zero a
unfolding all_zero
zero_append [] c h = h
zero_append (b ∷ a) c h = ap (both (eqb b 0)) (zero_append a c h)

run_append : (a c : List ℕ) → all_zero c ≡ true → all_zero (drop (permitted_run (a ++ c)) (a ++ c)) ≡ all_zero (drop (permitted_run a) a)
unfolding permitted_run all_zero
run_append [] c h = run_zeros c h
run_append (b ∷ a) c h = choose (permitted_of b) (λ p. rw p (run_append a c h)) (λ p. rw p (zero_append (b ∷ a) c h))

first_counts : (x : List ℕ) → all_zero x ≡ false → both (leb 1 (permitted_run x)) (all_zero (drop (permitted_run x) x)) ≡ all_zero (drop (permitted_run x) x)
unfolding permitted_run
first_counts [] z = sym z
first_counts (b ∷ l) z =
    choose (permitted_of b)
    (λ p. let e : leb 1 (suc (permitted_run l)) ≡ true = le-leb 1 (suc (permitted_run l)) (omega arith) in rw p (rw e))
    (λ p. rw p (sym z))

none_first : (x : List ℕ) → get_or x 0 0 ≡ 0 → both (leb 1 (permitted_run x)) (all_zero (drop (permitted_run x) x)) ≡ false
unfolding permitted_run
none_first [] z = refl
none_first (b ∷ l) z = rw (ap permitted_of z ∙ zero_not)

-- a number does not begin with 0
pub number_first : (x : List ℕ) → length x ≡ 10 → is_number x ≡ true → get_or x 0 0 ≡ 0 → ⊥
number_first x h q z = false≢true (sym (none_first x z) ∙ sym (number_is x h) ∙ q)

-- ---- for `is_number`

module _ (x : List ℕ) (f : Bytes x) (h : length x ≡ 10) where
  abbrev front : List ℕ
  front = take 8 x

  front_length : length front ≡ 8
  front_length = length-take-le 8 x (omega arith)

  same_word : high_of front ≡ high_of x
  same_word = high_take 8 x (omega arith)

  front_bytes : Bytes front
  front_bytes = bytes_take 8 x f

  word_zero : eqb (high_of x) 0 ≡ all_zero front
  word_zero = ap (λ (n : ℕ). eqb n 0) (sym same_word) ∙ zero_word front front_bytes (let g = front_length in omega arith)

  pub rest_start : Rest x (high_of x)
  rest_start = record { bytes = front; all = front_bytes; most = let g = front_length in omega arith; word = sym same_word; same = refl }

  module _ (o : low_of x ≡ 0) where
    rest_zero_lem : all_zero (drop 8 x) ≡ true
    unfolding all_zero low_of
    rest_zero_lem =
        let a : get_or x 8 0 ≡ 0 = omega arith in
        let b : get_or x 9 0 ≡ 0 = omega arith in
        rw (drop-cons x 8 0 (omega arith), drop-cons x 9 0 (omega arith), a, b, drop_of_length-le x {i = 10} (omega arith))

    pub word_none : high_of x ≡ 0 → false ≡ is_number x
    unfolding high_of four
    word_none e = sym (number_is x h ∙ none_first x (omega arith))

    pub word_clean : (high_of x ≡ 0 → ⊥) → rest_zero front ≡ is_number x
    unfolding rest_zero
    word_clean d =
        let n : all_zero front ≡ false = sym word_zero ∙ ne_eqb (high_of x) 0 d in
        let z : all_zero x ≡ false = sym (ap all_zero (take-append-drop 8 x)) ∙ zero_append front (drop 8 x) rest_zero_lem ∙ n in
        sym
        (number_is x h
        ∙ first_counts x z
        ∙ sym (ap (λ (y : List ℕ). all_zero (drop (permitted_run y) y)) (take-append-drop 8 x))
        ∙ run_append front (drop 8 x) rest_zero_lem)
