-- The order of texts is an order.
-- Assumes nothing.
use Rattle.std.specs.Prelude.{◌≡◌, refl, List, [], ◌∷◌, ℕ, ltb}
use Rattle.std.proofs.Common.{sym, arith, lt-ltb, le-ltb, ltb-true, ltb-false}
use Rattle.laws.specs.Choice.{choose}
use Rattle.std.specs.declared.cmp.Ordering.TheVariants.{Less, Equal, Greater}
use Rattle.slots.specs.Order.{order_of}

pub same≢before : Equal ≡ Less → ⊥
same≢before q = let z : ◌≡◌ {A = ℕ} 0 1 = cc in omega arith

pub after≢before : Greater ≡ Less → ⊥
after≢before q = let z : ◌≡◌ {A = ℕ} 0 1 = cc in omega arith

pub after≢same : Greater ≡ Equal → ⊥
after≢same q = let z : ◌≡◌ {A = ℕ} 0 1 = cc in omega arith

pub same_self : (a : List ℕ) → order_of a a ≡ Equal
unfolding order_of
same_self [] = refl
same_self (x ∷ l) = rw (le-ltb x x (omega arith)) (same_self l)

-- what is in the same place is the same text
pub same_text_lem : (a b : List ℕ) → order_of a b ≡ Equal → a ≡ b
unfolding order_of
same_text_lem [] [] q = refl
same_text_lem [] (y ∷ m) q = absurd (same≢before (sym q))
same_text_lem (x ∷ l) [] q = absurd (after≢same q)
same_text_lem (x ∷ l) (y ∷ m) q =
    choose (ltb x y)
    (λ p. absurd (same≢before (sym (rw p at q))))
    (λ p.
    choose (ltb y x)
    (λ t. absurd (after≢same (rw (p, t) at q)))
    (λ t.
    let h = ltb-false x y p in
    let k = ltb-false y x t in
    let e : x ≡ y = omega arith in
    rw (e, same_text_lem l m (rw (p, t) at q))))

-- a text before another is before all that the other is not after
pub before_trans : (a b c : List ℕ) → order_of a b ≡ Less → (order_of b c ≡ Greater → ⊥) → order_of a c ≡ Less
unfolding order_of
before_trans [] [] c q n = absurd (same≢before q)
before_trans [] (y ∷ m) [] q n = absurd (n refl)
before_trans [] (y ∷ m) (z ∷ k) q n = refl
before_trans (x ∷ l) [] c q n = absurd (after≢before q)
before_trans (x ∷ l) (y ∷ m) [] q n = absurd (n refl)
before_trans (x ∷ l) (y ∷ m) (z ∷ k) q n =
    choose (ltb y z)
    (λ yz.
    let h = ltb-true y z yz in
    choose (ltb x y)
    (λ p. let g = ltb-true x y p in rw (lt-ltb x z (omega arith)))
    (λ p.
    choose (ltb y x)
    (λ t. absurd (after≢before (rw (p, t) at q)))
    (λ t. let g = ltb-false y x t in rw (lt-ltb x z (omega arith)))))
    (λ yz.
    choose (ltb z y)
    (λ zy. absurd (n (rw (yz, zy))))
    (λ zy.
    let h = ltb-false y z yz in
    let h₂ = ltb-false z y zy in
    choose (ltb x y)
    (λ p. let g = ltb-true x y p in rw (lt-ltb x z (omega arith)))
    (λ p.
    choose (ltb y x)
    (λ t. absurd (after≢before (rw (p, t) at q)))
    (λ t.
    let g = ltb-false y x t in
    let g₂ = ltb-false x y p in
    rw (le-ltb x z (omega arith), le-ltb z x (omega arith)) (before_trans l m k (rw (p, t) at q) (λ w. n (rw (yz, zy) w)))))))

pub after_flip : (a b : List ℕ) → order_of a b ≡ Greater → order_of b a ≡ Less
unfolding order_of
after_flip [] [] q = absurd (after≢same (sym q))
after_flip [] (y ∷ m) q = absurd (after≢before (sym q))
after_flip (x ∷ l) [] q = refl
after_flip (x ∷ l) (y ∷ m) q =
    choose (ltb x y)
    (λ p. absurd (after≢before (sym (rw p at q))))
    (λ p. choose (ltb y x) (λ t. rw t) (λ t. rw (t, p) (after_flip l m (rw (p, t) at q))))

pub before_flip : (a b : List ℕ) → order_of a b ≡ Less → order_of b a ≡ Greater
unfolding order_of
before_flip [] [] q = absurd (same≢before q)
before_flip [] (y ∷ m) q = refl
before_flip (x ∷ l) [] q = absurd (after≢before q)
before_flip (x ∷ l) (y ∷ m) q =
    choose (ltb x y)
    (λ p. let h = ltb-true x y p in rw (le-ltb y x (omega arith), p))
    (λ p. choose (ltb y x) (λ t. absurd (after≢before (rw (p, t) at q))) (λ t. rw (t, p) (before_flip l m (rw (p, t) at q))))
