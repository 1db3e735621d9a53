-- `character_count` meets its contract.
-- Assumes nothing.
use mathlib.Core.Path.{ap, sym, ◌∙◌}
use mathlib.Core.Bool.{Bool}
use Rattle.calendar.specs.Written.{character_count}
use Rattle.calendar.proofs.day_string.character_count.Goals as goal

pub returns-then-short : goal.returns-then-short
returns-then-short c =
    let a = c.args in
    c.short_count.ensures ∙ ap (λ (x : Bool). character_count x a.days.now a.n) (sym c.if-short.true)
