use mathlib.Core.Path.{sym, ap, ◌∙◌}
use Rattle.desk.specs.Services.{found_service}
use borrow.Author.Rules.{rules}
use Rattle.desk.proofs.reading.drumcallisto_next_service.Goals as goal

-- src/reading.rt:28:1
pub returns-in-Some : goal.returns-in-Some
returns-in-Some c = ap found_service (sym c.in-Some.is ∙ c.next_service.ensures)

-- src/reading.rt:28:1
pub returns-in-None : goal.returns-in-None
returns-in-None c = ap found_service (sym c.in-None.is ∙ c.next_service.ensures)
