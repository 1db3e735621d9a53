-- Records in order are what they say of each number: two such lists that say the same of every number are one list.
-- Assumes nothing.
use Rattle.std.specs.Prelude.{◌≡◌, refl, Bool, true, false, List, [], ◌∷◌, ◌++◌, ℕ}
use Rattle.std.proofs.Common.{sym, ◌∙◌, ap, subst, arith}
use Rattle.std.proofs.Math.Option.{Option, none, some}
use Rattle.laws.specs.Choice.{all, choose, both_parts, false≢true}
use Rattle.values.specs.Values.{same_text}
use Rattle.std.specs.declared.cmp.Ordering.{Ordering}
use Rattle.std.specs.declared.cmp.Ordering.TheVariants.{Less, Equal, Greater}
use Rattle.slots.specs.Order.{order_of}
use Rattle.slots.specs.Rising.{is_before}
use Rattle.records.specs.Order.{after≢before, before_trans, before_flip, after_flip}
use Rattle.records.specs.Found.{is_before_lem}
use Rattle.contents.specs.Contents.{Record, good_number, good_record, comes_before, before_next, in_order}
use Rattle.contents.specs.Calls.{lookup, listed, changed}
use Rattle.rooms.specs.Order.{is_same_order, before_order, same_order, same_told, same_itself}
use Rattle.rooms.specs.Slots.{record_number}

pub none≢some : {A : Type 0} {a : A} → none ≡ some a → ⊥
none≢some q = let z : ◌≡◌ {A = ℕ} 0 1 = cc in omega arith

pub some_is : {A : Type 0} {a b : A} → some a ≡ some b → a ≡ b
some_is q = cc

-- the tests by the order that they come to
pub same_by : (a b : List ℕ) (o : Ordering) → order_of a b ≡ o → same_text a b ≡ is_same_order o
same_by a b o e = same_order a b ∙ ap is_same_order e

pub before_by : (a b : List ℕ) (o : Ordering) → order_of a b ≡ o → comes_before a b ≡ is_before o
before_by a b o e = before_order a b ∙ ap is_before e

pub before_told : (a b : List ℕ) → comes_before a b ≡ true → order_of a b ≡ Less
before_told a b q = is_before_lem (order_of a b) (sym (before_order a b) ∙ q)

pub before_through : (a b c : List ℕ) → order_of a b ≡ Less → order_of b c ≡ Less → order_of a c ≡ Less
before_through a b c p q = before_trans a b c p (λ e. after≢before (sym e ∙ q))

-- ---- records in order

pub tail_order : (r : Record) (rs : List Record) → in_order (r ∷ rs) ≡ true → in_order rs ≡ true
unfolding in_order
tail_order r rs w = (both_parts (before_next r rs) (in_order rs) w).1

pub next_before : (r p : Record) (rs : List Record) → in_order (r ∷ (p ∷ rs)) ≡ true → order_of r.number p.number ≡ Less
unfolding in_order
next_before r p rs w = before_told r.number p.number (both_parts (comes_before r.number p.number) (in_order (p ∷ rs)) w).0

-- a number before the first record's is in none
pub lookup_before : (x : List ℕ) (r : Record) (rs : List Record) → in_order (r ∷ rs) ≡ true → order_of x r.number ≡ Less → lookup x (r ∷ rs) ≡ none
unfolding lookup
lookup_before x r [] w q = rw (same_by r.number x Greater (before_flip x r.number q))
lookup_before x r (p ∷ rs) w q =
    rw (same_by r.number x Greater (before_flip x r.number q))
    (lookup_before x p rs (tail_order r (p ∷ rs) w) (before_through x r.number p.number q (next_before r p rs w)))

-- no later record has the first one's number
pub lookup_first : (r : Record) (rs : List Record) → in_order (r ∷ rs) ≡ true → lookup r.number rs ≡ none
unfolding lookup
lookup_first r [] w = refl
lookup_first r (p ∷ rs) w = lookup_before r.number p rs (tail_order r (p ∷ rs) w) (next_before r p rs w)

pub lookup_here : (r : Record) (rs : List Record) → lookup r.number (r ∷ rs) ≡ some r
unfolding lookup
lookup_here r rs = rw (same_itself r.number)

-- what is looked up has the number
pub lookup_number : (x : List ℕ) (rs : List Record) (r : Record) → lookup x rs ≡ some r → r.number ≡ x
unfolding lookup
lookup_number x [] r q = absurd (none≢some q)
lookup_number x (p ∷ rs) r q =
    choose (same_text p.number x)
    (λ t. ap (λ (s : Record). s.number) (sym (some_is (rw t at q))) ∙ same_told p.number x t)
    (λ t. lookup_number x rs r (rw t at q))

-- and what is good of each is good of it
pub lookup_all : (f : Record → Bool) (x : List ℕ) (rs : List Record) (r : Record) → all f rs ≡ true → lookup x rs ≡ some r → f r ≡ true
unfolding lookup
lookup_all f x [] r g q = absurd (none≢some q)
lookup_all f x (p ∷ rs) r g q =
    let w = both_parts (f p) (all f rs) g in
    choose (same_text p.number x)
    (λ t. ap f (sym (some_is (rw t at q))) ∙ w.0)
    (λ t. lookup_all f x rs r w.1 (rw t at q))

-- a text that is no number is in no good record
pub lookup_bad : (x : List ℕ) (rs : List Record) → all good_record rs ≡ true → good_number x ≡ false → lookup x rs ≡ none
lookup_bad x rs g b = go (lookup x rs) refl
  where
    go : (o : Option Record) → lookup x rs ≡ o → lookup x rs ≡ none
    go none e = e
    go (some r) e =
        absurd (false≢true (sym b ∙ ap good_number (sym (lookup_number x rs r e)) ∙ record_number r (lookup_all good_record x rs r g e)))

-- ---- the first record's part in what is looked up and in what is changed

module _ (x : List ℕ) (r : Record) (rs : List Record) where
  pub lookup_passed : order_of r.number x ≡ Less → lookup x (r ∷ rs) ≡ lookup x rs
  unfolding lookup
  lookup_passed e = rw (same_by r.number x Less e)

  pub lookup_found : order_of r.number x ≡ Equal → lookup x (r ∷ rs) ≡ some r
  unfolding lookup
  lookup_found e = rw (same_by r.number x Equal e)

  pub lookup_gap : in_order (r ∷ rs) ≡ true → order_of r.number x ≡ Greater → lookup x (r ∷ rs) ≡ none
  lookup_gap w e = lookup_before x r rs w (after_flip r.number x e)

  module _ (f : Option Record → Option Record) where
    pub changed_passed : order_of r.number x ≡ Less → changed x f (r ∷ rs) ≡ r ∷ changed x f rs
    unfolding changed
    changed_passed e = rw (same_by r.number x Less e, before_by x r.number Greater (before_flip r.number x e))

    pub changed_found : order_of r.number x ≡ Equal → changed x f (r ∷ rs) ≡ listed (f (some r)) ++ rs
    unfolding changed
    changed_found e = rw (same_by r.number x Equal e)

    pub changed_gap : order_of r.number x ≡ Greater → changed x f (r ∷ rs) ≡ listed (f none) ++ (r ∷ rs)
    unfolding changed
    changed_gap e = rw (same_by r.number x Greater e, before_by x r.number Less (after_flip r.number x e))

-- ---- the law

heads : (r q : Record) (rs qs : List Record) → in_order (r ∷ rs) ≡ true → in_order (q ∷ qs) ≡ true → ((x : List ℕ) → lookup x (r ∷ rs) ≡ lookup x (q ∷ qs)) → r ≡ q
unfolding lookup
heads r q rs qs v w h = go (order_of q.number r.number) refl
  where
    go : (o : Ordering) → order_of q.number r.number ≡ o → r ≡ q
    go Less e = absurd (none≢some (sym (lookup_before q.number r rs v e) ∙ h q.number ∙ lookup_here q qs))
    go Equal e = some_is (sym (lookup_here r rs) ∙ h r.number ∙ rw (same_by q.number r.number Equal e))
    go Greater e = absurd (none≢some (sym (lookup_before r.number q qs w (after_flip q.number r.number e)) ∙ sym (h r.number) ∙ lookup_here r rs))

tails : (r : Record) (rs qs : List Record) → in_order (r ∷ rs) ≡ true → in_order (r ∷ qs) ≡ true → ((x : List ℕ) → lookup x (r ∷ rs) ≡ lookup x (r ∷ qs))
    → (x : List ℕ) → lookup x rs ≡ lookup x qs
unfolding lookup
tails r rs qs v w h x =
    choose (same_text r.number x)
    (λ p. rw (← same_told r.number x p) (lookup_first r rs v ∙ sym (lookup_first r qs w)))
    (λ p. rw p at (h x))

pub same_lookup : (rs qs : List Record) → in_order rs ≡ true → in_order qs ≡ true → ((x : List ℕ) → lookup x rs ≡ lookup x qs) → rs ≡ qs
unfolding lookup
same_lookup [] [] v w h = refl
same_lookup [] (q ∷ qs) v w h = absurd (none≢some (h q.number ∙ lookup_here q qs))
same_lookup (r ∷ rs) [] v w h = absurd (none≢some (sym (h r.number) ∙ lookup_here r rs))
same_lookup (r ∷ rs) (q ∷ qs) v w h =
    let e : q ≡ r = sym (heads r q rs qs v w h) in
    let w₂ : in_order (r ∷ qs) ≡ true = subst (λ (p : Record). in_order (p ∷ qs) ≡ true) e w in
    let h₂ : (x : List ℕ) → lookup x (r ∷ rs) ≡ lookup x (r ∷ qs) = subst (λ (p : Record). (x : List ℕ) → lookup x (r ∷ rs) ≡ lookup x (p ∷ qs)) e h in
    rw (e, same_lookup rs qs (tail_order r rs v) (tail_order r qs w₂) (tails r rs qs v w₂ h₂))
