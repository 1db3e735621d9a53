-- The steps of a reading, as the loop takes them, and the rows as numbers.
-- Assumes nothing.
use Rattle.std.specs.Prelude.{◌≡◌, refl, Bool, true, false, List, [], ◌∷◌, ◌++◌, ℕ, zero, suc, ◌+◌, ◌-◌, ◌*◌, ◌≤◌, ◌<◌, eqb, ltb, length, take, drop, set, get_or}
use Rattle.std.proofs.Common.{sym, ◌∙◌, append_assoc, append-nil, arith, lt-ltb, le-ltb, length-set, length-drop, take-suc-set, length-take-le, add-one, add-zero}
use Rattle.std.proofs.Math.Path.{ap}
use Rattle.std.proofs.Math.Nat.{sub-zero}
use Rattle.laws.specs.Choice.{pick}
use Rattle.laws.specs.Lists.{drop_here}
use Rattle.laws.specs.Put.{put_at, put_step, put_none}
use Rattle.answers.specs.Answers.{wrong_envelope}
use Rattle.answers.specs.declared.Refusal.{Refusal}
use Rattle.syntax.specs.declared.segment.ScanError.{ScanError}
use Rattle.placing.specs.Tables.{tables}
use Rattle.steps.specs.declared.state.Phase.{Phase}
use Rattle.steps.specs.declared.state.State.{State}
use Rattle.steps.specs.declared.state.Row.{Row}
use Rattle.interchange.specs.Reader.{Outcome, accepted, fault, is_closed, turn_at, after_turn, read_on, numbers, row_numbers}

-- f is enough where it passes the bytes that are left
module _ (f : ℕ) (s : List ℕ) (st : State) (at : ℕ) where
  one_more : length s < at + f → at ≤ length s → f ≡ suc (f - 1)
  one_more g h = omega arith

  pub read_past : at < length s → length s < at + f → is_closed st.phase ≡ true → read_on f s st at ≡ fault (wrong_envelope at)
  unfolding read_on
  read_past h g c = ap (λ (x : ℕ). read_on x s st at) (one_more g (omega arith)) ∙ rw (lt-ltb at (length s) h, c)

  pub read_on_lem : at < length s → length s < at + f → is_closed st.phase ≡ false
      → read_on f s st at ≡ after_turn (read_on (f - 1) s) (turn_at tables s st at)
  unfolding read_on
  read_on_lem h g c = ap (λ (x : ℕ). read_on x s st at) (one_more g (omega arith)) ∙ rw (lt-ltb at (length s) h, c)

  pub read_accepted : length s ≤ at → at ≤ length s → length s < at + f → is_closed st.phase ≡ true → read_on f s st at ≡ record { rows = []; verdict = accepted }
  unfolding read_on
  read_accepted h k g c = ap (λ (x : ℕ). read_on x s st at) (one_more g k) ∙ rw (le-ltb at (length s) h, c)

  pub read_stops : length s ≤ at → at ≤ length s → length s < at + f → is_closed st.phase ≡ false → read_on f s st at ≡ fault (wrong_envelope (length s))
  unfolding read_on
  read_stops h k g c = ap (λ (x : ℕ). read_on x s st at) (one_more g k) ∙ rw (le-ltb at (length s) h, c)

-- a row put behind those that stand
unfoldable pub put_row : List ℕ → ℕ → Row → List ℕ
put_row l i r = set (set (set l i r.offset) (i + 1) r.group) (i + 2) r.tag

pub length_put_row : (l : List ℕ) (i : ℕ) (r : Row) → length (put_row l i r) ≡ length l
unfolding put_row
length_put_row l i r = simp length-set

pub take_put_row : (l : List ℕ) (i : ℕ) (r : Row) → i + 2 < length l → take (i + 3) (put_row l i r) ≡ take i l ++ row_numbers r
unfolding put_row
take_put_row l i r h =
    let a = r.offset in
    let b = r.group in
    let c = r.tag in
    let l₁ = set l i a in
    let l₂ = set l₁ (i + 1) b in
    let e₁ = length-set l i a in
    let e₂ = length-set l₁ (i + 1) b in
    let s₃ : i + 3 ≡ suc (i + 2) = omega arith in
    let s₂ : i + 2 ≡ suc (i + 1) = omega arith in
    let t₃ : take (i + 3) (set l₂ (i + 2) c) ≡ take (i + 2) l₂ ++ (c ∷ []) =
    ap (λ (x : ℕ). take x (set l₂ (i + 2) c)) s₃ ∙ take-suc-set l₂ (i + 2) c (omega arith) in
    let t₂ : take (i + 2) l₂ ≡ take (i + 1) l₁ ++ (b ∷ []) =
    ap (λ (x : ℕ). take x l₂) s₂ ∙ take-suc-set l₁ (i + 1) b (omega arith) in
    let t₁ : take (i + 1) l₁ ≡ take i l ++ (a ∷ []) =
    ap (λ (x : ℕ). take x l₁) (add-one i) ∙ take-suc-set l i a (omega arith) in
    t₃ ∙ rw (t₂, t₁) (simp append_assoc)

-- the rows so far, and those still to come
pub rows_step : (l : List ℕ) (i : ℕ) (r : Row) (rest : List Row) → i + 2 < length l
    → take (i + 3) (put_row l i r) ++ numbers rest ≡ take i l ++ numbers (r ∷ rest)
unfolding numbers
rows_step l i r rest h = rw (take_put_row l i r h) (append_assoc (take i l) (row_numbers r) (numbers rest))

pub length_numbers : (l : List Row) → length (numbers l) ≡ 3 * length l
unfolding numbers
length_numbers [] = refl
length_numbers (r ∷ l) = let h = length_numbers l in omega arith

pub numbers_append : (k l : List Row) → numbers (k ++ l) ≡ numbers k ++ numbers l
unfolding numbers
numbers_append [] l = refl
numbers_append (r ∷ k) l = ap (λ (x : List ℕ). row_numbers r ++ x) (numbers_append k l) ∙ sym (append_assoc (row_numbers r) (numbers k) (numbers l))

-- a row that is put is its numbers put
pub put_row_is : (l : List ℕ) (i : ℕ) (r : Row) → i + 2 < length l → put_row l i r ≡ put_at l i (row_numbers r)
unfolding put_row
put_row_is l i r h =
    let a = r.offset in
    let b = r.group in
    let c = r.tag in
    let l₁ = set l i a in
    let l₂ = set l₁ (i + 1) b in
    let e₁ = length-set l i a in
    let e₂ = length-set l₁ (i + 1) b in
    let z : i + 2 ≡ i + 1 + 1 = omega arith in
    sym (put_none (set l₂ (i + 2) c) (i + 2 + 1))
    ∙ put_step l₂ (i + 2) c [] (omega arith)
    ∙ ap (λ (x : ℕ). put_at l₂ x (c ∷ [])) z
    ∙ put_step l₁ (i + 1) b (c ∷ []) (omega arith)
    ∙ put_step l i a (b ∷ c ∷ []) (omega arith)

-- a copy in place: what is copied, then what is still to be
module _ (from : List ℕ) (n at : ℕ) where
  pub copy_start : (to : List ℕ) → put_at to (at + 0) (take (n - 0) (drop 0 from)) ≡ put_at to at (take n from)
  copy_start to = rw (sub-zero, add-zero)

  pub copy_step : (to : List ℕ) (i : ℕ) → i < n → n ≤ length from → at + n ≤ length to
      → put_at (set to (at + i) (get_or from i 0)) (at + (i + 1)) (take (n - (i + 1)) (drop (i + 1) from)) ≡ put_at to (at + i) (take (n - i) (drop i from))
  copy_step to i h g k =
      let e : n - i ≡ suc (n - (i + 1)) = omega arith in
      let a : at + (i + 1) ≡ at + i + 1 = omega arith in
      let d = length-drop (i + 1) from in
      let l = length-take-le (n - (i + 1)) (drop (i + 1) from) (omega arith) in
      ap (λ (x : ℕ). put_at (set to (at + i) (get_or from i 0)) x (take (n - (i + 1)) (drop (i + 1) from))) a
      ∙ put_step to (at + i) (get_or from i 0) (take (n - (i + 1)) (drop (i + 1) from)) (omega arith)
      ∙ ap (put_at to (at + i)) (sym (ap (λ (x : List ℕ). take (n - i) x) (drop_here from i (omega arith)) ∙ rw e))

  pub copy_done : (to : List ℕ) (i : ℕ) → n ≤ i → put_at to (at + i) (take (n - i) (drop i from)) ≡ to
  copy_done to i h =
      let e : n - i ≡ 0 = omega arith in
      rw e (put_none to (at + i))
