-- References and counts as they are mostly written: the same bytes, and digits with no release among them.
-- Assumes nothing.
use Rattle.std.specs.Prelude.{◌≡◌, refl, true, ℕ, suc, ◌+◌, ◌-◌, ◌/◌, ◌≤◌, ◌<◌, length, drop, get_or}
use Rattle.std.proofs.Common.{sym, ap, ap₂, ◌∙◌, arith, eq-eqb, ne_eqb}
use mathlib.Core.List.{List, [], ◌∷◌, ◌++◌, append-nil}
use Rattle.laws.specs.Decimal.{digit, decimal_on, decimal_of}
use Rattle.laws.specs.Digits.{decimal_last, decimal_step}
use Rattle.laws.specs.Lists.{drop_here, drop_past}
use Rattle.syntax.specs.Bytes.{plain, plain_on}
use Rattle.values.specs.Values.{same_text}
use Rattle.envelope.specs.Written.{begins_with, begins_split}

same_self : (l : List ℕ) → same_text l l ≡ true
unfolding same_text
same_self [] = refl
same_self (a ∷ l) = rw (eq-eqb a a refl) (same_self l)

-- two texts of one length of which one begins with the other
pub same_written : (a b : List ℕ) → length a ≡ length b → begins_with a b ≡ true → true ≡ same_text (plain a) (plain b)
same_written a b e q =
    let d : drop (length b) a ≡ [] = drop_past a (length b) (omega arith) in
    let s : a ≡ b = begins_split a b q ∙ ap (λ (l : List ℕ). b ++ l) d ∙ append-nil b in
    sym (ap (λ (l : List ℕ). same_text (plain l) (plain b)) s ∙ same_self (plain b))

-- the digits of a number compared with a text from its end: those before an index are still to be found, those from it on are in the text
pub record Compared (l : List ℕ) (n i left : ℕ) : Type 0 where
  pub short : length l ≤ 20
  pub inside : i ≤ length l
  pub unreleased : plain (drop i l) ≡ drop i l
  pub digits : decimal_on (20 - length l + i) left ++ drop i l ≡ decimal_of n

pub none_compared : (l : List ℕ) (n : ℕ) → length l ≤ 20 → Compared l n (length l) n
unfolding plain_on
none_compared l n h =
    let e : 20 - length l + length l ≡ 20 = omega arith in
    let d = drop_past l (length l) (omega arith) in
    record { short = h; inside = omega arith; unreleased = rw d; digits = rw (e, d) (append-nil (decimal_on 20 n)) }

module _ (l : List ℕ) (n i left : ℕ) (c : Compared l n i left) (z : 0 < i) (q : get_or l (i - 1) 0 ≡ digit left) where
  here : drop (i - 1) l ≡ digit left ∷ drop i l
  here =
      let h = c.inside in
      let e : i - 1 + 1 ≡ i = omega arith in
      drop_here l (i - 1) (omega arith) ∙ ap₂ (λ (x y : ℕ). x ∷ drop y l) q e

  plain_here : plain (drop (i - 1) l) ≡ drop (i - 1) l
  unfolding plain_on
  plain_here =
      rw here
      (rw (ne_eqb (digit left) 63 (λ e. omega arith)) (ap (λ (x : List ℕ). digit left ∷ x) c.unreleased))

  enough : 20 - length l + i ≡ suc (20 - length l + (i - 1))
  enough = omega arith

  from_here : decimal_on (suc (20 - length l + (i - 1))) left ++ drop i l ≡ decimal_of n
  from_here = ap (λ (f : ℕ). decimal_on f left ++ drop i l) (sym enough) ∙ c.digits

  pub one_compared : 10 ≤ left → Compared l n (i - 1) (left / 10)
  one_compared h =
      let k = c.inside in
      record {
        short = c.short;
        inside = omega arith;
        unreleased = plain_here;
        digits = ap (λ (x : List ℕ). decimal_on (20 - length l + (i - 1)) (left / 10) ++ x) here ∙ sym (decimal_step (20 - length l + (i - 1)) left (drop i l) h) ∙ from_here;
      }

  pub all_compared : left < 10 → i - 1 ≡ 0 → same_text (plain l) (decimal_of n) ≡ true
  all_compared h e =
      let d : drop (i - 1) l ≡ l = ap (λ (x : ℕ). drop x l) e in
      let p : plain l ≡ l = ap plain (sym d) ∙ plain_here ∙ d in
      let w : l ≡ decimal_of n = sym d ∙ here ∙ sym (decimal_last (20 - length l + (i - 1)) left (drop i l) h) ∙ from_here in
      ap (λ (x : List ℕ). same_text x (decimal_of n)) (p ∙ w) ∙ same_self (decimal_of n)
