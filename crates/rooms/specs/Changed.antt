-- Records in order with that of one number changed: in order, good, counted, number by number, and in either order of two changes.
-- Assumes nothing.
use Rattle.std.specs.Prelude.{◌≡◌, Bool, true, ℕ, ◌+◌, ◌≤◌, length}
use Rattle.std.proofs.Math.Path.{refl, subst}
use Rattle.std.proofs.Common.{sym, ◌∙◌, ap, arith}
use Rattle.std.proofs.Math.Option.{Option, none, some}
use mathlib.Core.List.{List, [], ◌∷◌, ◌++◌, append-nil}
use Rattle.laws.specs.Choice.{pick, all, choose, both_parts}
use Rattle.values.specs.Values.{same_text}
use Rattle.std.specs.declared.cmp.Ordering.{Ordering}
use Rattle.std.specs.declared.cmp.Ordering.TheVariants.{Less, Equal, Greater}
use Rattle.slots.specs.Order.{order_of}
use Rattle.records.specs.Order.{same_text_lem, after_flip}
use Rattle.contents.specs.Contents.{Record, good_record, in_order, good_account}
use Rattle.contents.specs.Calls.{lookup, listed, changed}
use Rattle.rooms.specs.Order.{same_told, not_same}
use Rattle.rooms.specs.Slots.{account_records, account_order, account_good}
use Rattle.rooms.specs.Lookup.{before_by, before_told, tail_order, lookup_before, lookup_first, lookup_passed, lookup_found, lookup_gap, changed_passed, changed_found, changed_gap}
use Rattle.rooms.specs.Listed.{Keeps, passes, count_of, before_first, look_same, look_other, look_on, look_none, order_listed, front_listed, all_listed, length_listed, none_order, order_on, first_after, skip_first}

-- ---- by cases of where the number's place is

-- what holds of records, the one looked up, and the changed records, holds of all if it does where the number's place is at the end, at the
-- first record and before it, and where it goes on from the rest to a first record that comes before
module _
    (x : List ℕ)
    (f : Option Record → Option Record)
    (P : List Record → Option Record → List Record → Type 0)
    (ended : P [] none (listed (f none) ++ []))
    (found : (r : Record) (rs : List Record) → in_order (r ∷ rs) ≡ true → r.number ≡ x → P (r ∷ rs) (some r) (listed (f (some r)) ++ rs))
    (gap : (r : Record) (rs : List Record) → in_order (r ∷ rs) ≡ true → order_of x r.number ≡ Less → P (r ∷ rs) none (listed (f none) ++ (r ∷ rs)))
    (passed : (r : Record) (rs : List Record) (o : Option Record) (l : List Record) → in_order (r ∷ rs) ≡ true → order_of r.number x ≡ Less → P rs o l → P (r ∷ rs) o (r ∷ l))
  where
    here : (r : Record) (rs : List Record) → in_order (r ∷ rs) ≡ true → P rs (lookup x rs) (changed x f rs) → (o : Ordering) → order_of r.number x ≡ o
        → P (r ∷ rs) (lookup x (r ∷ rs)) (changed x f (r ∷ rs))
    here r rs w ih Less e = rw (lookup_passed x r rs e, changed_passed x r rs f e) (passed r rs (lookup x rs) (changed x f rs) w e ih)
    here r rs w ih Equal e = rw (lookup_found x r rs e, changed_found x r rs f e) (found r rs w (same_text_lem r.number x e))
    here r rs w ih Greater e = rw (lookup_gap x r rs w e, changed_gap x r rs f e) (gap r rs w (after_flip r.number x e))

    by_place : (rs : List Record) → in_order rs ≡ true → P rs (lookup x rs) (changed x f rs)
    unfolding lookup changed
    by_place [] w = subst (P [] none) (append-nil (listed (f none))) ended
    by_place (r ∷ rs) w = here r rs w (by_place rs (tail_order r rs w)) (order_of r.number x) refl

-- ---- the laws

module _ (x : List ℕ) (f : Option Record → Option Record) where
  pub lookup_changed_same : (rs : List Record) → in_order rs ≡ true → Keeps x (f (lookup x rs)) → lookup x (changed x f rs) ≡ f (lookup x rs)
  lookup_changed_same =
      by_place x f (λ rs o l. Keeps x (f o) → lookup x l ≡ f o)
      (λ k. look_same x [] (f none) k (look_none x))
      (λ r rs w e k. look_same x rs (f (some r)) k (ap (λ (y : List ℕ). lookup y rs) (sym e) ∙ lookup_first r rs w))
      (λ r rs w e k. look_same x (r ∷ rs) (f none) k (lookup_before x r rs w e))
      (λ r rs o l w e ih k. lookup_passed x r l e ∙ ih k)

  pub lookup_changed_other : (y : List ℕ) → (x ≡ y → ⊥) → (rs : List Record) → in_order rs ≡ true → Keeps x (f (lookup x rs)) → lookup y (changed x f rs) ≡ lookup y rs
  lookup_changed_other y n =
      by_place x f (λ rs o l. Keeps x (f o) → lookup y l ≡ lookup y rs)
      (λ k. look_other x [] y (f none) k n)
      (λ r rs w e k. look_other x rs y (f (some r)) k n ∙ sym (look_other x rs y (some r) e n))
      (λ r rs w e k. look_other x (r ∷ rs) y (f none) k n)
      (λ r rs o l w e ih k. look_on y r l rs (ih k))

  -- what is looked up afterwards
  pub lookup_changed : (y : List ℕ) (rs : List Record) → in_order rs ≡ true → Keeps x (f (lookup x rs)) → lookup y (changed x f rs) ≡ pick (same_text x y) (f (lookup x rs)) (lookup y rs)
  lookup_changed y rs w k =
      choose (same_text x y)
      (λ t. rw t (ap (λ (z : List ℕ). lookup z (changed x f rs)) (sym (same_told x y t)) ∙ lookup_changed_same rs w k))
      (λ t. rw t (lookup_changed_other y (not_same x y t) rs w k))

  pub changed_all : (g : Record → Bool) (rs : List Record) → in_order rs ≡ true → all g rs ≡ true → passes g (f (lookup x rs)) ≡ true → all g (changed x f rs) ≡ true
  changed_all g =
      by_place x f (λ rs o l. all g rs ≡ true → passes g (f o) ≡ true → all g l ≡ true)
      (λ a p. all_listed g (f none) [] p refl)
      (λ r rs w e a p. all_listed g (f (some r)) rs p (both_parts (g r) (all g rs) a).1)
      (λ r rs w e a p. all_listed g (f none) (r ∷ rs) p a)
      (λ r rs o l w e ih a p. let v = both_parts (g r) (all g rs) a in rw v.0 (ih v.1 p))

  pub changed_good : (rs : List Record) → in_order rs ≡ true → all good_record rs ≡ true → passes good_record (f (lookup x rs)) ≡ true → all good_record (changed x f rs) ≡ true
  changed_good = changed_all good_record

  pub changed_length : (rs : List Record) → in_order rs ≡ true → length (changed x f rs) + count_of (lookup x rs) ≡ length rs + count_of (f (lookup x rs))
  changed_length =
      by_place x f (λ rs o l. length l + count_of o ≡ length rs + count_of (f o))
      (rw (length_listed (f none) []) (omega arith))
      (λ r rs w e. rw (length_listed (f (some r)) rs) (omega arith))
      (λ r rs w e. rw (length_listed (f none) (r ∷ rs)) (omega arith))
      (λ r rs o l w e ih. omega arith)

  -- the changed records are in order, and a number before the first record's and before the changed one is before the first one's again
  in_order_lem : (rs : List Record) → in_order rs ≡ true → Keeps x (f (lookup x rs))
      → (in_order (changed x f rs) ≡ true) × ((y : List ℕ) → before_first y rs ≡ true → order_of y x ≡ Less → before_first y (changed x f rs) ≡ true)
  in_order_lem =
      by_place x f (λ rs o l. Keeps x (f o) → (in_order l ≡ true) × ((y : List ℕ) → before_first y rs ≡ true → order_of y x ≡ Less → before_first y l ≡ true))
      (λ k. (order_listed x [] (f none) k refl none_order, λ y b e. front_listed x [] y (f none) k e b))
      (λ r rs w n k. (
        order_listed x rs (f (some r)) k (subst (λ (y : List ℕ). before_first y rs ≡ true) n (first_after r rs w)) (tail_order r rs w),
        λ y b e. front_listed x rs y (f (some r)) k e (skip_first y r rs w (before_told y r.number b)),
      ))
      (λ r rs w n k. (order_listed x (r ∷ rs) (f none) k (before_by x r.number Less n) w, λ y b e. front_listed x (r ∷ rs) y (f none) k e b))
      (λ r rs o l w n ih k. (order_on r l ((ih k).1 r.number (first_after r rs w) n) (ih k).0, λ y b e. b))

  pub changed_order : (rs : List Record) → in_order rs ≡ true → Keeps x (f (lookup x rs)) → in_order (changed x f rs) ≡ true
  changed_order rs w k = (in_order_lem rs w k).0

  -- a good account stays one
  pub changed_account : (quota : ℕ) (rs : List Record) → good_account quota rs ≡ true → Keeps x (f (lookup x rs)) → passes good_record (f (lookup x rs)) ≡ true → length (changed x f rs) ≤ quota
      → good_account quota (changed x f rs) ≡ true
  changed_account quota rs q k p h =
      let w = account_order quota rs q in
      account_good quota (changed x f rs) h (changed_good rs w (account_records quota rs q) p) (changed_order rs w k)
