-- What a change of one number comes to, one record or none, before other records.
-- Assumes nothing.
use Rattle.std.specs.Prelude.{◌≡◌, Bool, true, List, [], ◌∷◌, ◌++◌, ℕ, ◌+◌, length}
use Rattle.std.proofs.Math.Path.{refl}
use Rattle.std.proofs.Common.{sym, ◌∙◌, arith}
use Rattle.std.proofs.Math.Option.{Option, none, some}
use Rattle.laws.specs.Choice.{all, both_parts}
use Rattle.std.specs.declared.cmp.Ordering.TheVariants.{Less}
use Rattle.slots.specs.Order.{order_of}
use Rattle.contents.specs.Contents.{Record, comes_before, before_next, in_order}
use Rattle.contents.specs.Calls.{lookup, listed}
use Rattle.rooms.specs.Order.{same_when, same_not}
use Rattle.rooms.specs.Lookup.{before_by, before_through, next_before}

-- a change keeps the number: what it comes to, if anything, has it
abbrev pub Keeps : List ℕ → Option Record → Type 0
Keeps x none = Unit {0}
Keeps x (some r) = r.number ≡ x

-- whether a test holds of what it comes to
abbrev pub passes : (Record → Bool) → Option Record → Bool
passes g none = true
passes g (some r) = g r

abbrev pub count_of : Option Record → ℕ
count_of none = 0
count_of (some r) = 1

-- ---- what a change comes to, before other records

-- whether a number comes before the first record's
abbrev pub before_first : List ℕ → List Record → Bool
before_first x [] = true
before_first x (q ∷ rs) = comes_before x q.number

next_first : (r : Record) (rs : List Record) → before_next r rs ≡ before_first r.number rs
next_first r [] = refl
next_first r (q ∷ rs) = refl

module _ (x : List ℕ) (t : List Record) where
  pub look_same : (o : Option Record) → Keeps x o → lookup x t ≡ none → lookup x (listed o ++ t) ≡ o
  unfolding lookup
  look_same none k e = e
  look_same (some r) k e = rw (same_when r.number x k)

  pub look_other : (y : List ℕ) (o : Option Record) → Keeps x o → (x ≡ y → ⊥) → lookup y (listed o ++ t) ≡ lookup y t
  unfolding lookup
  look_other y none k n = refl
  look_other y (some r) k n = rw (same_not r.number y (λ e. n (sym k ∙ e)))

  pub order_listed : (o : Option Record) → Keeps x o → before_first x t ≡ true → in_order t ≡ true → in_order (listed o ++ t) ≡ true
  unfolding in_order
  order_listed none k b w = w
  order_listed (some r) k b w = rw (next_first r t, k, b) w

  pub front_listed : (y : List ℕ) (o : Option Record) → Keeps x o → order_of y x ≡ Less → before_first y t ≡ true → before_first y (listed o ++ t) ≡ true
  front_listed y none k b e = e
  front_listed y (some r) k b e = rw k (before_by y x Less b)

pub look_on : (y : List ℕ) (r : Record) (l rs : List Record) → lookup y l ≡ lookup y rs → lookup y (r ∷ l) ≡ lookup y (r ∷ rs)
unfolding lookup
look_on y r l rs e = rw e

pub look_none : (x : List ℕ) → lookup x [] ≡ none
unfolding lookup
look_none x = refl

pub all_listed : (g : Record → Bool) (o : Option Record) (t : List Record) → passes g o ≡ true → all g t ≡ true → all g (listed o ++ t) ≡ true
all_listed g none t p q = q
all_listed g (some r) t p q = rw (p, q)

pub length_listed : (o : Option Record) (t : List Record) → length (listed o ++ t) ≡ count_of o + length t
length_listed none t = omega arith
length_listed (some r) t = omega arith

pub none_order : in_order [] ≡ true
unfolding in_order
none_order = refl

pub order_on : (r : Record) (l : List Record) → before_first r.number l ≡ true → in_order l ≡ true → in_order (r ∷ l) ≡ true
unfolding in_order
order_on r l b w = rw (next_first r l, b) w

pub first_after : (r : Record) (rs : List Record) → in_order (r ∷ rs) ≡ true → before_first r.number rs ≡ true
unfolding in_order
first_after r rs w = sym (next_first r rs) ∙ (both_parts (before_next r rs) (in_order rs) w).0

pub skip_first : (y : List ℕ) (p : Record) (rs : List Record) → in_order (p ∷ rs) ≡ true → order_of y p.number ≡ Less → before_first y rs ≡ true
skip_first y p [] w b = refl
skip_first y p (q ∷ rs) w b = before_by y q.number Less (before_through y p.number q.number b (next_before p q rs w))
