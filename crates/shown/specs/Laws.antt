-- The laws of the lines for the code.
-- Assumes nothing.
use Rattle.std.specs.Prelude.{◌≡◌, refl, List, [], ◌∷◌, ◌++◌, ℕ, ◌+◌, ◌*◌, ◌/◌, ◌≤◌, ◌<◌, eqb, length, get_or, take, drop, Ok, Err}
use Rattle.std.proofs.Math.Path.{sym, ap}
use Rattle.std.proofs.Common.{◌∙◌, append_assoc, arith, add-zero, lit≤, length-append, length-take, length-drop, take-take, length-take-le}
use Rattle.std.proofs.Math.Option.{none, some}
use borrow.Author.Tests.{eq-eqb, ne_eqb, eqb-true, eqb-false, le-leb, lt-leb, lt-ltb, le-ltb}
use Rattle.laws.specs.Choice.{choose}
use Rattle.laws.specs.Lists.{drop_here, drop_past}
use Rattle.answers.specs.Answers.{done}
use Rattle.laws.specs.Put.{put_at, put_no_room, put_none, put_put}
use Rattle.laws.specs.Text.{bytes}
use Rattle.calendar.specs.Written.{day_characters}
use Rattle.calendar.specs.Steps.{length_characters}
use Rattle.contents.specs.Written.{up_to_zero, live_in, pending_in, record_in}
use Rattle.contents.specs.Calls.{live_line, pending_line, record_text, shown_answer, shown_bytes}
use Rattle.shown.specs.declared.LinesError.TheVariants.{NoRecord, TooShort}
use Rattle.shown.specs.Shown.{record_of, lines_answer}

-- ---- for `before_zero`, at an index

module _ (x : List ℕ) (i : ℕ) where
  pub zero_here : i < length x → get_or x i 0 ≡ 0 → i + length (up_to_zero (drop i x)) ≡ i
  unfolding up_to_zero
  zero_here h q = rw (drop_here x i h, eq-eqb (get_or x i 0) 0 q) (add-zero i)

  pub zero_later : i < length x → (get_or x i 0 ≡ 0 → ⊥) → i + 1 + length (up_to_zero (drop (i + 1) x)) ≡ i + length (up_to_zero (drop i x))
  unfolding up_to_zero
  zero_later h q = rw (drop_here x i h, ne_eqb (get_or x i 0) 0 q) (omega arith)

  pub zero_never : length x ≤ i → i + length (up_to_zero (drop i x)) ≡ i
  unfolding up_to_zero
  zero_never h = rw (drop_past x i h) (add-zero i)

-- the bytes before the first zero are that many
pub up_to_le : (x : List ℕ) → length (up_to_zero x) ≤ length x
unfolding up_to_zero
up_to_le [] = omega arith
up_to_le (b ∷ l) = choose (eqb b 0) (λ p. rw p (omega arith)) (λ p. rw p (let h = up_to_le l in omega arith))

pub up_to_is : (x : List ℕ) → take (length (up_to_zero x)) x ≡ up_to_zero x
unfolding up_to_zero
up_to_is [] = refl
up_to_is (b ∷ l) = choose (eqb b 0) (λ p. rw p) (λ p. rw p (ap (λ (t : List ℕ). b ∷ t) (up_to_is l)))

-- ---- for `put_line`

module _ (o number mark days : List ℕ) (at n : ℕ) (h : at + length number + length mark + n + 1 ≤ length o) where
  pub line_put : put_at (put_at (put_at (put_at o at number) (at + length number) mark) (at + length number + length mark) (day_characters days 0 n)) (at + length number + length mark + n) (bytes "\n")
      ≡ put_at o at (number ++ (mark ++ (day_characters days 0 n ++ bytes "\n")))
  line_put =
      let d : List ℕ = day_characters days 0 n in
      let ld : length d ≡ n = length_characters days 0 n in
      let l₂ = length-append number mark in
      let l₃ = length-append (number ++ mark) d in
      ap (λ (l : List ℕ). put_at (put_at l (at + length number + length mark) d) (at + length number + length mark + n) (bytes "\n")) (put_put o at number (at + length number) mark refl (omega arith))
      ∙ ap (λ (l : List ℕ). put_at l (at + length number + length mark + n) (bytes "\n")) (put_put o at (number ++ mark) (at + length number + length mark) d (omega arith) (omega arith))
      ∙ put_put o at ((number ++ mark) ++ d) (at + length number + length mark + n) (bytes "\n") (omega arith) (omega arith)
      ∙ ap (put_at o at) (simp append_assoc)

-- ---- the two lines, by the bytes that say whether they are there

module _ (slot number : List ℕ) where
  pub live_none : get_or slot 10 0 ≡ 0 → live_line number (live_in slot) ≡ []
  unfolding live_line
  live_none q = rw (eq-eqb (get_or slot 10 0) 0 q)

  pub live_is : (get_or slot 10 0 ≡ 0 → ⊥)
      → number ++ (bytes "\tlive\t" ++ (day_characters (take 64 (drop 11 slot)) 0 512 ++ bytes "\n")) ≡ live_line number (live_in slot)
  unfolding live_line
  live_is q = sym (rw (ne_eqb (get_or slot 10 0) 0 q))

  pub live_size : (get_or slot 10 0 ≡ 0 → ⊥) → length number + 519 ≡ length (live_line number (live_in slot))
  live_size q = sym (ap length (sym (live_is q)) ∙ simp (length-append, length_characters) (omega arith))

  pub pending_none : get_or slot 75 0 ≡ 0 → pending_line number (pending_in slot) ≡ []
  unfolding pending_line
  pending_none q = rw (eq-eqb (get_or slot 75 0) 0 q)

  module _ (q : get_or slot 75 0 ≡ 0 → ⊥) where
    pub put_is : get_or slot 75 0 ≡ 1
        → number ++ (bytes "\tput\t" ++ (day_characters (take 64 (drop 76 slot)) 0 512 ++ bytes "\n")) ≡ pending_line number (pending_in slot)
    unfolding pending_line
    put_is p = sym (rw (ne_eqb (get_or slot 75 0) 0 q, eq-eqb (get_or slot 75 0) 1 p))

    pub put_size : get_or slot 75 0 ≡ 1 → length number + 518 ≡ length (pending_line number (pending_in slot))
    put_size p = sym (ap length (sym (put_is p)) ∙ simp (length-append, length_characters) (omega arith))

    pub del_is : (get_or slot 75 0 ≡ 1 → ⊥)
        → number ++ (bytes "\tdel\t" ++ (day_characters (take 64 (drop 76 slot)) 0 0 ++ bytes "\n")) ≡ pending_line number (pending_in slot)
    unfolding pending_line day_characters
    del_is p = sym (rw (ne_eqb (get_or slot 75 0) 0 q, ne_eqb (get_or slot 75 0) 1 p))

    pub del_size : (get_or slot 75 0 ≡ 1 → ⊥) → length number + 6 ≡ length (pending_line number (pending_in slot))
    del_size p = sym (ap length (sym (del_is p)) ∙ simp (length-append, length_characters) (omega arith))

  -- ---- for the code

  pub live_length_none : get_or slot 10 0 ≡ 0 → 0 ≡ length (live_line number (live_in slot))
  live_length_none q = sym (ap length (live_none q))

  pub pending_length_none : get_or slot 75 0 ≡ 0 → 0 ≡ length (pending_line number (pending_in slot))
  pending_length_none q = sym (ap length (pending_none q))

  pub live_put_none : (o : List ℕ) → get_or slot 10 0 ≡ 0 → o ≡ put_at o 0 (live_line number (live_in slot))
  live_put_none o q = sym (ap (put_at o 0) (live_none q) ∙ put_none o 0)

  pub pending_put_none : (o : List ℕ) (at : ℕ) → get_or slot 75 0 ≡ 0 → o ≡ put_at o at (pending_line number (pending_in slot))
  pending_put_none o at q = sym (ap (put_at o at) (pending_none q) ∙ put_none o at)

  -- no line is long
  pub live_most : length (live_line number (live_in slot)) ≤ length number + 519
  live_most =
      choose (eqb (get_or slot 10 0) 0)
      (λ p. let e = live_length_none (eqb-true (get_or slot 10 0) 0 p) in omega arith)
      (λ p. let e = live_size (eqb-false (get_or slot 10 0) 0 p) in omega arith)

  pub pending_most : length (pending_line number (pending_in slot)) ≤ length number + 518
  pending_most =
      choose (eqb (get_or slot 75 0) 0)
      (λ p. let e = pending_length_none (eqb-true (get_or slot 75 0) 0 p) in omega arith)
      (λ p.
      let q = eqb-false (get_or slot 75 0) 0 p in
      choose (eqb (get_or slot 75 0) 1)
      (λ t. let e = put_size q (eqb-true (get_or slot 75 0) 1 t) in omega arith)
      (λ t. let e = del_size q (eqb-false (get_or slot 75 0) 1 t) in omega arith))

-- ---- for `show_slot`

pub number_ten : (slot number : List ℕ) → number ≡ up_to_zero (take 10 slot) → length number ≤ 10
number_ten slot number e =
    let a = up_to_le (take 10 slot) in
    let b = length-take 10 slot in
    let c = ap length e in
    omega arith

module _ (slot number o : List ℕ) (live pending : ℕ) (n : number ≡ up_to_zero (take 10 slot)) (l : live ≡ length (live_line number (live_in slot)))
    (p : pending ≡ length (pending_line number (pending_in slot))) where
  text_is : record_text (record_in slot) ≡ live_line number (live_in slot) ++ pending_line number (pending_in slot)
  unfolding record_text record_in
  text_is = rw n

  text_size : length (record_text (record_in slot)) ≡ live + pending
  text_size = ap length text_is ∙ length-append (live_line number (live_in slot)) (pending_line number (pending_in slot)) ∙ omega arith

  pub shown_short : length o < live + pending
      → (lines_answer (Err TooShort) ≡ shown_answer o (some (record_in slot))) × (o ≡ shown_bytes o (some (record_in slot)))
  unfolding lines_answer
  shown_short h =
      let t = text_size in
      (rw (lt-leb (length (record_text (record_in slot))) (length o) (omega arith)), sym (put_no_room o 0 (record_text (record_in slot)) (omega arith)))

  pub shown_fits : live + pending ≤ length o
      → (lines_answer (Ok (live + pending)) ≡ shown_answer o (some (record_in slot)))
      × (put_at (put_at o 0 (live_line number (live_in slot))) live (pending_line number (pending_in slot)) ≡ shown_bytes o (some (record_in slot)))
  unfolding lines_answer
  shown_fits h =
      let t = text_size in (
        rw (le-leb (length (record_text (record_in slot))) (length o) (omega arith)) (ap done (sym t)),
        put_put o 0 (live_line number (live_in slot)) live (pending_line number (pending_in slot)) (omega arith) (omega arith)
            ∙ ap (put_at o 0) (sym text_is),
      )

-- ---- for `show_record`

module _ (s o : List ℕ) (k : ℕ) where
  none_shown : record_of s k ≡ none → (lines_answer (Err NoRecord) ≡ shown_answer o (record_of s k)) × (o ≡ shown_bytes o (record_of s k))
  unfolding lines_answer
  none_shown q = (rw q, rw q)

  pub past_shown : length s / 140 ≤ k → (lines_answer (Err NoRecord) ≡ shown_answer o (record_of s k)) × (o ≡ shown_bytes o (record_of s k))
  unfolding record_of
  past_shown h = none_shown (rw (le-ltb k (length s / 140) h))

  pub unused_shown : k < length s / 140 → get_or s (k * 140) 0 ≡ 0 → (lines_answer (Err NoRecord) ≡ shown_answer o (record_of s k)) × (o ≡ shown_bytes o (record_of s k))
  unfolding record_of
  unused_shown h q = none_shown (rw (lt-ltb k (length s / 140) h, eq-eqb (get_or s (k * 140) 0) 0 q))

  pub used_shown : k < length s / 140 → (get_or s (k * 140) 0 ≡ 0 → ⊥) → (n : ℕ) → n ≡ 140 → some (record_in (take n (drop (k * 140) s))) ≡ record_of s k
  unfolding record_of
  used_shown h q n e = sym (rw (e, lt-ltb k (length s / 140) h, ne_eqb (get_or s (k * 140) 0) 0 q))

pub length_slot : (s : List ℕ) (at n : ℕ) → n ≡ 140 → at + 140 ≤ length s → length (take n (drop at s)) ≡ 140
length_slot s at n e h = let d = length-drop at s in length-take-le n (drop at s) (omega arith) ∙ e

-- the number of the slot at an index
module _ (s : List ℕ) (at r n : ℕ) (e : n ≡ 10) (q : r ≡ length (up_to_zero (take n (drop at s)))) where
  pub number_least : r ≤ 10
  number_least =
      let a = up_to_le (take n (drop at s)) in
      let b = length-take n (drop at s) in
      omega arith

  pub number_part : (m j : ℕ) → m ≡ r → j ≡ 140 → take m (drop at s) ≡ up_to_zero (take 10 (take j (drop at s)))
  number_part m j a b =
      let h = number_least in
      let c : r ≡ length (up_to_zero (take 10 (drop at s))) = rw e at q in
      rw (a, b, take-take 10 140 (drop at s) (lit≤ tt))
      (sym (take-take r 10 (drop at s) h) ∙ ap (λ (i : ℕ). take i (take 10 (drop at s))) c ∙ up_to_is (take 10 (drop at s)))
