-- The laws of the text and of its parts, put one behind another.
-- Assumes nothing.
use Rattle.std.specs.Prelude.{◌≡◌, true, false, List, [], ◌∷◌, ◌++◌, leb, length, get_or, take, drop, Option, Some, None}
use Rattle.std.proofs.Math.Path.{refl}
use Rattle.std.proofs.Common.{sym, ap, ◌∙◌, length-drop, le-leb, leb-true, leb-false}
use Prim.Native.Nat.{ℕ, zero, suc, ◌+◌, ◌-◌, ◌<◌, ◌≤◌}
use native.Mathlib.Omega.{arith}
use Rattle.std.proofs.Math.Decide.{dec_lt}
use Rattle.std.proofs.Math.ListN.{length-append}
use Rattle.std.proofs.lemmas.Bool.{lt-leb}
use Rattle.laws.specs.Lists.{rest_is}
use Rattle.laws.specs.Put.{put_at, put_no_room, put_none, put_behind, take_put, length_put}
use Rattle.answers.specs.declared.Refusal.{Refusal}
use Rattle.answers.specs.Answers.{Answer, done, refused, output_too_short}
use Rattle.answers.specs.Laws.{one_case}
use Rattle.laws.specs.Decimal.{decimal_of}
use Rattle.laws.specs.Digits.{decimal_length}
use Rattle.text.specs.Text.{pair_text, tail_text, row_text, rows_text, table_text, heading, refusal_word, refusal_text, written_answer, printed_answer}

pub length_pair : (a b : ℕ) (tail : List ℕ) → length (pair_text a b tail) ≡ length (decimal_of a) + 1 + length (decimal_of b) + length tail
length_pair a b tail = simp length-append

-- two numbers, put part by part
pub pair_put : (o : List ℕ) (at a b : ℕ) (tail : List ℕ) {p q r s : List ℕ} (i j : ℕ) → at + (41 + length tail) ≤ length o
    → i ≡ length (decimal_of a) → j ≡ length (decimal_of b) → p ≡ put_at o at (decimal_of a) → q ≡ put_at p (at + i) (9 ∷ [])
    → r ≡ put_at q (at + i + 1) (decimal_of b) → s ≡ put_at r (at + i + 1 + j) tail
    → ((i + 1 + j + length tail ≤ 41 + length tail) × (i + 1 + j + length tail ≡ length (pair_text a b tail))) × (s ≡ put_at o at (pair_text a b tail))
pair_put o at a b tail i j h ei ej e₁ e₂ e₃ e₄ =
    let x = decimal_length 20 a in
    let y = decimal_length 20 b in
    let z = length_pair a b tail in
    let f = put_behind o at (decimal_of a) (9 ∷ []) (at + i) e₁ e₂ refl (omega arith) (omega arith) in
    let l₂ : length (decimal_of a ++ (9 ∷ [])) ≡ length (decimal_of a) + 1 = simp length-append in
    let g = put_behind o at (decimal_of a ++ (9 ∷ [])) (decimal_of b) (at + i + 1) f e₃ refl (omega arith) (omega arith) in
    let l₃ : length (decimal_of a ++ (9 ∷ []) ++ decimal_of b) ≡ length (decimal_of a) + 1 + length (decimal_of b) = simp length-append in
    ((omega arith, omega arith), put_behind o at (decimal_of a ++ (9 ∷ []) ++ decimal_of b) tail (at + i + 1 + j) g e₄ refl (omega arith) (omega arith))

pub row_put : (o p : List ℕ) (a b c n : ℕ) {x y : ℕ} → 46 ≤ length o → n ≤ 46 → x ≡ a → y ≡ b
    → n ≡ length (pair_text x y (tail_text c)) → p ≡ put_at o 0 (pair_text x y (tail_text c))
    → ((n ≤ 46) × (n ≡ length (row_text a b c))) × (take n p ≡ row_text a b c)
unfolding row_text
row_put o p a b c n {x} {y} h k ex ey e q =
    let w : pair_text x y (tail_text c) ≡ row_text a b c = rw (ex, ey) in
    let en : n ≡ length (row_text a b c) = e ∙ ap length w in
    ((k, en), take_put o (row_text a b c) p n (q ∙ ap (put_at o 0) w) en (omega arith))

-- the rows that are left: none, or one and those behind it
pub rows_none : (n k : ℕ) (rest : List ℕ) → n ≤ k → rows_text (n - k) rest ≡ []
unfolding rows_text
rows_none n k rest h =
    let e : n - k ≡ 0 = omega arith in
    rw e

pub rows_few : (m : ℕ) (l : List ℕ) → length l < 3 → rows_text m l ≡ []
unfolding rows_text
rows_few zero l h = refl
rows_few (suc m) [] h = refl
rows_few (suc m) (a ∷ []) h = refl
rows_few (suc m) (a ∷ (b ∷ [])) h = refl
rows_few (suc m) (a ∷ (b ∷ (c ∷ l))) h = absurd (omega arith)

-- the three numbers of the first row that is left, and what is behind them
pub three_first : (rest : List ℕ) → 3 ≤ length rest
    → rest ≡ get_or rest 0 0 ∷ (get_or rest 1 0 ∷ (get_or rest 2 0 ∷ take (length rest - 3) (drop 3 rest)))
three_first [] h = absurd (omega arith)
three_first (a ∷ []) h = absurd (omega arith)
three_first (a ∷ (b ∷ [])) h = absurd (omega arith)
three_first (a ∷ (b ∷ (c ∷ l))) h = ap (λ (x : List ℕ). a ∷ (b ∷ (c ∷ x))) (sym (rest_is (a ∷ (b ∷ (c ∷ l))) 3))

module _ (n k a b c : ℕ) (rest l : List ℕ) (hk : k < n) (is : rest ≡ a ∷ (b ∷ (c ∷ l))) where
  rows_step : rows_text (n - k) rest ≡ row_text a b c ++ rows_text (n - (k + 1)) l
  unfolding rows_text
  rows_step =
      let e : n - k ≡ suc (n - (k + 1)) = omega arith in
      rw (e, is)

  pub rows_length : length (rows_text (n - k) rest) ≡ length (row_text a b c) + length (rows_text (n - (k + 1)) l)
  rows_length = ap length rows_step ∙ length-append (row_text a b c) (rows_text (n - (k + 1)) l)

  -- there is room for one and for those behind it, or not for the one
  pub room_step : (m left : ℕ) → m ≡ length (row_text a b c) → m ≤ left
      → leb (length (rows_text (n - (k + 1)) l)) (left - m) ≡ leb (length (rows_text (n - k) rest)) left
  room_step m left e h =
      let q = rows_length in
      elim (dec_lt left (length (rows_text (n - k) rest))) [
        | yes f ↦ lt-leb (length (rows_text (n - (k + 1)) l)) (left - m) (omega arith) ∙ sym (lt-leb (length (rows_text (n - k) rest)) left f)
        | no f ↦ le-leb (length (rows_text (n - (k + 1)) l)) (left - m) (omega arith) ∙ sym (le-leb (length (rows_text (n - k) rest)) left (omega arith))
      ]

  pub room_over : (m left : ℕ) → m ≡ length (row_text a b c) → left < m → false ≡ leb (length (rows_text (n - k) rest)) left
  room_over m left e h = let q = rows_length in sym (lt-leb (length (rows_text (n - k) rest)) left (omega arith))

  -- one put, and those behind it still to be put
  pub one_put : (o p x : List ℕ) (to m : ℕ) → m ≡ length (row_text a b c) → x ≡ row_text a b c → p ≡ put_at o to x
      → to + length (rows_text (n - k) rest) ≤ length o
      → (to + m + length (rows_text (n - (k + 1)) l) ≡ to + length (rows_text (n - k) rest))
      × (put_at p (to + m) (rows_text (n - (k + 1)) l) ≡ put_at o to (rows_text (n - k) rest))
  one_put o p x to m e ex ep h =
      let q = rows_length in (
        omega arith,
        put_behind o to (row_text a b c) (rows_text (n - (k + 1)) l) (to + m) (ep ∙ ap (put_at o to) ex) refl refl (omega arith) (omega arith) ∙ ap (put_at o to) (sym rows_step),
      )

pub room_none : (t : List ℕ) (left : ℕ) → t ≡ [] → true ≡ leb (length t) left
room_none t left e = rw e (sym (le-leb 0 left (omega arith)))

-- nothing is left to be put
pub all_put : (o z t w : List ℕ) (to at : ℕ) → t ≡ [] → to + length t ≤ length o → to + length t ≡ at + length w
    → put_at o to t ≡ put_at z at w → (to ≡ at + length w) × (o ≡ put_at z at w)
all_put o z t w to at e h q p =
    let k : length t ≡ 0 = ap length e in (
      omega arith,
      sym (put_none o to) ∙ ap (put_at o to) (sym e) ∙ p,
    )

-- a whole text, for which there is room or not
pub text_written : (text o q : List ℕ) (n : ℕ) → length text ≤ length o → n ≡ length text → q ≡ put_at o 0 text
    → (done n ≡ printed_answer text o) × (q ≡ put_at o 0 text)
unfolding printed_answer
text_written text o q n h e p = (rw (le-leb _ _ h, e), p)

pub text_refused : (text o : List ℕ) → length o < length text → (output_too_short ≡ printed_answer text o) × (o ≡ put_at o 0 text)
unfolding printed_answer
text_refused text o h = (rw (lt-leb _ _ h), sym (put_no_room o 0 text (omega arith)))

module _ (n : ℕ) (l o : List ℕ) where
  table_length : length (table_text n l) ≡ 17 + length (rows_text n l)
  table_length = length-append heading (rows_text n l)

  pub table_short : length o < 17 → (output_too_short ≡ printed_answer (table_text n l) o) × (o ≡ put_at o 0 (table_text n l))
  table_short h = let e = table_length in text_refused (table_text n l) o (omega arith)

  pub table_refused : 17 ≤ length o → leb (length (rows_text n l)) (length o - 17) ≡ false → (output_too_short ≡ printed_answer (table_text n l) o) × (o ≡ put_at o 0 (table_text n l))
  table_refused h q =
      let e = table_length in
      let k = leb-false (length (rows_text n l)) (length o - 17) q in
      text_refused (table_text n l) o (omega arith)

  pub table_room : {p : List ℕ} → 17 ≤ length o → leb (length (rows_text n l)) (length o - 17) ≡ true → p ≡ put_at o 0 heading
      → 17 + length (rows_text n l) ≤ length p
  table_room {p} h t ep =
      let k = leb-true (length (rows_text n l)) (length o - 17) t in
      let q : length p ≡ length o = ap length ep ∙ length_put o 0 heading in
      omega arith

  pub table_written : (p q : List ℕ) (m : ℕ) → 17 ≤ length o → leb (length (rows_text n l)) (length o - 17) ≡ true
      → p ≡ put_at o 0 heading → m ≡ 17 + length (rows_text n l) → q ≡ put_at p 17 (rows_text n l)
      → (done m ≡ printed_answer (table_text n l) o) × (q ≡ put_at o 0 (table_text n l))
  table_written p q m h t ep em eq =
      let e = table_length in
      let k = leb-true (length (rows_text n l)) (length o - 17) t in
      text_written (table_text n l) o q m (omega arith) (omega arith) (put_behind o 0 heading (rows_text n l) 17 ep eq refl (omega arith) (omega arith))

module _ (x : Refusal) (n k : ℕ) (e : n ≡ length (pair_text x.number x.position (9 ∷ []))) (f : k ≡ length (decimal_of x.part)) where
  abbrev front : List ℕ
  front = refusal_word ++ pair_text x.number x.position (9 ∷ [])

  front_length : length front ≡ 8 + n
  front_length = length-append refusal_word (pair_text x.number x.position (9 ∷ [])) ∙ ap (λ (j : ℕ). 8 + j) (sym e)

  part_length : length (front ++ decimal_of x.part) ≡ 8 + n + k
  part_length = let l = front_length in length-append front (decimal_of x.part) ∙ omega arith

  refusal_length : length (refusal_text x) ≡ 9 + n + k
  unfolding refusal_text
  refusal_length = let l = part_length in length-append (front ++ decimal_of x.part) (10 ∷ []) ∙ omega arith

  pub refusal_refused : (o : List ℕ) → length o < 9 + n + k → (output_too_short ≡ printed_answer (refusal_text x) o) × (o ≡ put_at o 0 (refusal_text x))
  refusal_refused o h = let l = refusal_length in text_refused (refusal_text x) o (omega arith)

  -- its fields, put one behind another into a line
  pub refusal_put : (z : List ℕ) {p q r s : List ℕ} → n ≤ 42 → k ≤ 20 → length z ≡ 72 → p ≡ put_at z 0 refusal_word
      → q ≡ put_at p 8 (pair_text x.number x.position (9 ∷ [])) → r ≡ put_at q (8 + n) (decimal_of x.part) → s ≡ put_at r (8 + n + k) (10 ∷ [])
      → s ≡ put_at z 0 (refusal_text x)
  unfolding refusal_text
  refusal_put z hn hk hz ep eq er es =
      let l = front_length in
      let m = part_length in
      let a = put_behind z 0 refusal_word (pair_text x.number x.position (9 ∷ [])) 8 ep eq refl refl (omega arith) in
      let b = put_behind z 0 front (decimal_of x.part) (8 + n) a er refl (omega arith) (omega arith) in
      put_behind z 0 (front ++ decimal_of x.part) (10 ∷ []) (8 + n + k) b es refl (omega arith) (omega arith)

  pub refusal_written : (o z s : List ℕ) {r : List ℕ} → s ≡ put_at z 0 (refusal_text x) → length z ≡ 72 → n ≤ 42 → k ≤ 20 → 9 + n + k ≤ length o
      → r ≡ put_at o 0 (take (9 + n + k) s) → (done (9 + n + k) ≡ printed_answer (refusal_text x) o) × (r ≡ put_at o 0 (refusal_text x))
  refusal_written o z s {r} es hz hn hk ho er =
      let l = refusal_length in
      let t = take_put z (refusal_text x) s (9 + n + k) es (omega arith) (omega arith) in
      text_written (refusal_text x) o r (9 + n + k) (omega arith) (omega arith) (er ∙ ap (put_at o 0) t)

-- what a writer answers fixes its case
abbrev case : Answer ℕ → Option ℕ
case (done n) = Some n
case (refused refusal) = None

back : (x : Option ℕ) → case (written_answer x) ≡ x
back (Some n) = refl
back None = refl

pub written_same : (x y : Option ℕ) → written_answer x ≡ written_answer y → x ≡ y
written_same = one_case written_answer case back
