-- `put_all` meets its contract.
-- Assumes nothing.
use mathlib.Core.Path.{◌≡◌}
use lib.ListN.{length}
use Rattle.services.specs.Services.{services_of}
use Rattle.services.specs.Walks.{services_left}
use Rattle.service_entries.specs.Room.{puts_in}
use Rattle.service_entries.specs.Front.{Ends}
use Rattle.service_entries.proofs.put_all.Given as goal

abbrev pub invariant-loop-service : goal.invariant-loop-service
invariant-loop-service l =
    (puts_in l.first l.s l.rows (services_left l.service-iterator) l.room ≡ puts_in l.first l.s l.rows (services_of l.s l.rows l.n) l.initial.room) × (length l.room ≡ length l.initial.room) × Ends l.room l.end
