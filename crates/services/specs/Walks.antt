-- What the iterators over services and over periods have left.
-- Assumes nothing.
use Rattle.std.specs.Prelude.{ℕ, ◌+◌, ◌≤◌, ◌<◌, ◌≡◌, false, List}
use Rattle.services.specs.declared.Service.{Service}
use Rattle.services.specs.declared.Services.{Services}
use Rattle.services.specs.declared.Periods.{Periods}
use Rattle.services.specs.Rows.{row_count}
use Rattle.services.specs.Services.{is_service, service_at, services_from, periods_from}

-- the services that are not given out yet
unfoldable pub services_left : Services → List Service
services_left it = services_from it.s.now it.rows.now (row_count it.rows.now it.n) it.i

-- of a POP its offset
unfoldable pub periods_left : Periods → List ℕ
periods_left it = periods_from it.rows.now it.i it.to

-- what the first of the services that are left tells, of n rows that the buffer holds and from row i on
pub record First (s rows : List ℕ) (n i : ℕ) (v : Service) (rest : List Service) : Type 0 where
  pub others : rest ≡ services_from s rows n (v.from + 1)
  pub further : i ≤ v.from
  pub inside : v.from < n
  -- the service of its row, and none begins before it
  pub own : v ≡ service_at s rows n v.from
  pub before : (j : ℕ) → i ≤ j → j < v.from → is_service rows j ≡ false
