use mathlib.Core.Path.{sym, ap, ap₂, ◌∙◌}
use Prim.Native.Nat.{ℕ}
use Rattle.parts.specs.declared.Part.{Part}
use Rattle.parts.specs.Places.{occurrence_at, component_at, part_at}
use Rattle.parts.proofs.part_at.Goals as goal

pub returns-then-c-eq1 : goal.returns-then-c-eq1
returns-then-c-eq1 c =
    let a = c.args in
    c.first_component.ensures
    ∙ ap₂ (λ (o d : ℕ). part_at a.s.now a.segment a.e o d) (sym c.if-o-eq1.true) (sym c.if-c-eq1.true)

pub returns : goal.returns
returns c =
    let a = c.args in
    c.component.ensures
    ∙ ap (λ (x : Part). component_at a.s.now x a.c) (c.occurrence.ensures ∙ ap (λ (x : Part). occurrence_at a.s.now x a.o) c.element.ensures)
