-- `services::test_services` meets its contract: the count of the services that are left leads to the answer.
-- Assumes nothing.
use mathlib.Core.Path.{◌≡◌}
use Prim.Native.Nat.{◌+◌, ◌≤◌}
use lib.ListN.{length}
use Rattle.services.specs.Services.{count_on, counted_of}
use Rattle.services.specs.Walks.{services_left}
use Rattle.services.proofs.test_services.Given as goal

abbrev pub invariant-loop-service : goal.invariant-loop-service
invariant-loop-service l = (l.count + length (services_left l.service-iterator) ≤ l.n) × (count_on l.s l.rows (services_left l.service-iterator) l.count ≡ counted_of l.s l.rows l.n)
