-- `test_all` meets its contract.
-- Assumes nothing.
use mathlib.Core.Path.{◌≡◌}
use lib.ListN.{length}
use Rattle.services.specs.Rows.{row_count}
use Rattle.services.specs.Services.{services_of}
use Rattle.services.specs.Walks.{services_left}
use Rattle.service_entries.specs.Room.{look_at}
use Rattle.service_tests.specs.Tests.{test_all, no_totals}
use Rattle.service_tests.specs.Orders.{orders_all}
use Rattle.service_tests.specs.Ways.{Walked}
use Rattle.service_tests.proofs.test_all.Given as goal

abbrev pub invariant-loop-service : goal.invariant-loop-service
invariant-loop-service l =
    Walked l.marks l.s l.rows (row_count l.rows l.n) (services_left l.service-iterator) l.totals
    × (test_all l.first l.s l.rows (look_at l.room) (services_left l.service-iterator) l.totals ≡ test_all l.first l.s l.rows (look_at l.room) (services_of l.s l.rows l.n) no_totals)
    × (orders_all l.first l.s l.rows (look_at l.room) (services_left l.service-iterator) l.totals l.orders ≡ orders_all l.first l.s l.rows (look_at l.room) (services_of l.s l.rows l.n) no_totals l.initial.orders)
    × (length l.orders ≡ length l.initial.orders)
