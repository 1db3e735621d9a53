-- Changes under different numbers may come in either order.
-- Assumes nothing.
use Rattle.std.specs.Prelude.{◌≡◌, true, List, ℕ}
use Rattle.std.proofs.Common.{sym, ◌∙◌, subst}
use Rattle.std.proofs.Math.Option.{Option}
use Rattle.laws.specs.Choice.{pick, choose}
use Rattle.values.specs.Values.{same_text}
use Rattle.contents.specs.Contents.{Record, in_order}
use Rattle.contents.specs.Calls.{lookup, changed}
use Rattle.rooms.specs.Order.{same_told}
use Rattle.rooms.specs.Lookup.{same_lookup}
use Rattle.rooms.specs.Listed.{Keeps}
use Rattle.rooms.specs.Changed.{lookup_changed, lookup_changed_other, changed_order}

-- a second change is given what it would be given without the first
kept_other : (x y : List ℕ) (f g : Option Record → Option Record) (rs : List Record) → (x ≡ y → ⊥) → in_order rs ≡ true → Keeps x (f (lookup x rs)) → Keeps y (g (lookup y rs))
    → Keeps y (g (lookup y (changed x f rs)))
kept_other x y f g rs n w k l = subst (λ (o : Option Record). Keeps y (g o)) (sym (lookup_changed_other x f y n rs w k)) l

lookup_twice : (x y : List ℕ) (f g : Option Record → Option Record) (rs : List Record) (n : x ≡ y → ⊥) (w : in_order rs ≡ true) (k : Keeps x (f (lookup x rs))) (l : Keeps y (g (lookup y rs)))
    → (z : List ℕ) → lookup z (changed y g (changed x f rs)) ≡ pick (same_text y z) (g (lookup y rs)) (pick (same_text x z) (f (lookup x rs)) (lookup z rs))
lookup_twice x y f g rs n w k l z =
    lookup_changed y g z (changed x f rs) (changed_order x f rs w k) (kept_other x y f g rs n w k l)
    ∙ rw (lookup_changed_other x f y n rs w k, lookup_changed x f z rs w k)

pub changed_swap : (x y : List ℕ) (f g : Option Record → Option Record) (rs : List Record) → (x ≡ y → ⊥) → in_order rs ≡ true → Keeps x (f (lookup x rs)) → Keeps y (g (lookup y rs))
    → changed x f (changed y g rs) ≡ changed y g (changed x f rs)
changed_swap x y f g rs n w k l =
    let m : y ≡ x → ⊥ = λ e. n (sym e) in
    same_lookup (changed x f (changed y g rs)) (changed y g (changed x f rs))
    (changed_order x f (changed y g rs) (changed_order y g rs w l) (kept_other y x g f rs m w l k))
    (changed_order y g (changed x f rs) (changed_order x f rs w k) (kept_other x y f g rs n w k l))
    (λ z.
    lookup_twice y x g f rs m w l k z
    ∙ choose (same_text x z)
    (λ p.
    choose (same_text y z)
    (λ t. absurd (n (same_told x z p ∙ sym (same_told y z t))))
    (λ t. rw (p, t)))
    (λ p. rw p)
    ∙ sym (lookup_twice x y f g rs n w k l z))
