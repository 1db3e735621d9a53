-- Where calls of different accounts do not touch each other, the order between accounts does not matter.
-- Assumes nothing.
use Rattle.std.specs.Prelude.{◌≡◌, eqb}
use Rattle.std.proofs.Math.Path.{refl, sym, ap}
use Rattle.std.proofs.Common.{◌∙◌, arith}
use mathlib.Core.List.{List, [], ◌∷◌}
use Prim.Native.Nat.{ℕ}
use borrow.Author.Tests.{eqb-true, eqb-false, eq-eqb, ne_eqb}
use Rattle.laws.specs.Choice.{pick, choose}
use Rattle.laws.specs.Lists.{cons_parts}
use Rattle.shuffle.specs.Calls.{own, SameForEach, replies, left, Apart, AnyOrder}

module _ {A : Type 0} where
  -- a list without an account's first entry
  unfoldable without : ℕ → List (ℕ × A) → List (ℕ × A)
  without a [] = []
  without a (c ∷ cs) = pick (eqb a c.0) cs (c ∷ without a cs)

  nil≢cons : (x : A) (l : List A) → [] ≡ x ∷ l → ⊥
  nil≢cons x l q = let z : ◌≡◌ {A = ℕ} 0 1 = cc in omega arith

  own_cons : (c : ℕ × A) (cs : List (ℕ × A)) → own c.0 (c ∷ cs) ≡ c.1 ∷ own c.0 cs
  unfolding own
  own_cons c cs = rw (eq-eqb c.0 c.0 refl)

  own_without : (a : ℕ) (cs : List (ℕ × A)) (x : A) (l : List A) → own a cs ≡ x ∷ l → own a (without a cs) ≡ l
  unfolding own without
  own_without a [] x l q = absurd (nil≢cons x l q)
  own_without a (c ∷ cs) x l q = choose (eqb a c.0) (λ p. rw p (cons_parts (rw p at q)).1) (λ p. rw p (rw p (own_without a cs x l (rw p at q))))

  own_without_other : (a b : ℕ) (cs : List (ℕ × A)) → (a ≡ b → ⊥) → own b (without a cs) ≡ own b cs
  unfolding own without
  own_without_other a b [] n = refl
  own_without_other a b (c ∷ cs) n =
      choose (eqb a c.0)
      (λ p. let e = eqb-true a c.0 p in rw (p, ne_eqb b c.0 (λ q. n (e ∙ sym q))))
      (λ p. rw p (rw (own_without_other a b cs n)))

  -- a list in which no account has an entry is empty
  none_left : (cs : List (ℕ × A)) → ((a : ℕ) → own a cs ≡ []) → cs ≡ []
  none_left [] h = refl
  none_left (c ∷ cs) h = absurd (nil≢cons c.1 (own c.0 cs) (sym (h c.0) ∙ own_cons c cs))

module _ {S Ask Reply : Type 0} (call : S → ℕ × Ask → S × Reply) (apart : Apart call) where
  -- the replies to one account's calls where nobody else calls
  unfoldable pub replies_alone : ℕ → S → List Ask → List Reply
  replies_alone a s [] = []
  replies_alone a s (x ∷ xs) = (call s (a, x)).1 ∷ replies_alone a (call s (a, x)).0 xs

  -- a call of another before them is not seen
  not_seen : (a : ℕ) (s : S) (c : ℕ × Ask) → (c.0 ≡ a → ⊥) → (xs : List Ask) → replies_alone a (call s c).0 xs ≡ replies_alone a s xs
  unfolding replies_alone
  not_seen a s c n [] = refl
  not_seen a s c n (x ∷ xs) =
      let w = apart s c (a, x) n in
      rw (w.0, w.1) (rw (not_seen a (call s (a, x)).0 c n xs))

  -- each account gets the replies that it would get alone
  pub alone : (a : ℕ) (s : S) (cs : List (ℕ × Ask)) → own a (replies call s cs) ≡ replies_alone a s (own a cs)
  unfolding own replies replies_alone
  alone a s [] = refl
  alone a s (c ∷ cs) =
      choose (eqb a c.0)
      (λ p.
      let e : c ≡ (a, c.1) = λ i. (sym (eqb-true a c.0 p) i, c.1) in
      rw (p, alone a (call s c).0 cs) (ap (λ (d : ℕ × Ask). (call s d).1 ∷ replies_alone a (call s d).0 (own a cs)) e))
      (λ p. rw p (alone a (call s c).0 cs ∙ not_seen a s c (λ q. eqb-false a c.0 p (sym q)) (own a cs)))

  -- only its own calls count for an account's replies
  pub own_calls_count : (a : ℕ) (s : S) (xs ys : List (ℕ × Ask)) → own a xs ≡ own a ys → own a (replies call s xs) ≡ own a (replies call s ys)
  own_calls_count a s xs ys h = alone a s xs ∙ ap (replies_alone a s) h ∙ sym (alone a s ys)

  -- an account's first call may come before all others
  first : (a : ℕ) (s : S) (cs : List (ℕ × Ask)) (x : Ask) (l : List Ask) → own a cs ≡ x ∷ l → left call s cs ≡ left call (call s (a, x)).0 (without a cs)
  unfolding own left without
  first a s [] x l q = absurd (nil≢cons x l q)
  first a s (c ∷ cs) x l q =
      choose (eqb a c.0)
      (λ p.
      let e : c ≡ (a, x) = λ i. (sym (eqb-true a c.0 p) i, (cons_parts (rw p at q)).0 i) in
      rw p (ap (λ (d : ℕ × Ask). left call (call s d).0 cs) e))
      (λ p. rw p (first a (call s c).0 cs x l (rw p at q) ∙ ap (λ (t : S). left call t (without a cs)) (apart s c (a, x) (λ e. eqb-false a c.0 p (sym e))).0))

  same_left : (s : S) (xs ys : List (ℕ × Ask)) → SameForEach xs ys → left call s xs ≡ left call s ys
  unfolding own left
  same_left s [] ys h = ap (left call s) (sym (none_left ys (λ a. sym (h a))))
  same_left s (c ∷ cs) ys h =
      let q : own c.0 ys ≡ c.1 ∷ own c.0 cs = sym (h c.0) ∙ own_cons c cs in
      same_left (call s c).0 cs (without c.0 ys)
      (λ a.
      choose (eqb a c.0)
      (λ p. rw (eqb-true a c.0 p) (sym (own_without c.0 ys c.1 (own c.0 cs) q)))
      (λ p. (rw p at (h a)) ∙ sym (own_without_other c.0 a ys (λ e. eqb-false a c.0 p (sym e)))))
      ∙ sym (first c.0 s ys c.1 (own c.0 cs) q)

  pub any_order : AnyOrder call
  any_order s xs ys h = (λ a. own_calls_count a s xs ys (h a), same_left s xs ys h)
