-- Done and refused are apart, and each tells what it holds.
-- Assumes nothing.
use Rattle.std.specs.Prelude.{ℕ, ◌≡◌}
use Rattle.std.proofs.Common.{sym, ap, ◌∙◌, arith}
use Rattle.answers.specs.declared.Refusal.{Refusal}
use Rattle.answers.specs.Answers.{Answer, done, refused}

pub refused≢done : {A : Type 0} {x : Refusal} {a : A} → refused x ≡ done a → ⊥
refused≢done q = let z : ◌≡◌ {A = ℕ} 0 1 = cc in omega arith

pub done≢refused : {A : Type 0} {x : Refusal} {a : A} → done a ≡ refused x → ⊥
done≢refused q = let z : ◌≡◌ {A = ℕ} 0 1 = cc in omega arith

pub done_is : {A : Type 0} {a b : A} → done a ≡ done b → a ≡ b
done_is q = cc

pub refused_is : {A : Type 0} {x y : Refusal} → ◌≡◌ {A = Answer A} (refused x) (refused y) → x ≡ y
refused_is q = cc

-- a mapping that can be undone gives no answer twice: an answer then fixes the case
pub one_case : {A E : Type 0} (answer : E → Answer A) (case : Answer A → E) → ((x : E) → case (answer x) ≡ x) → (x y : E) → answer x ≡ answer y → x ≡ y
one_case answer case back x y e = sym (back x) ∙ ap case e ∙ back y
