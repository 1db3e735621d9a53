-- `register::put_quotas` meets its contract. Invariant: the first k quotas stand behind the first two bytes.
-- Assumes nothing.
use mathlib.Core.Path.{◌≡◌}
use Rattle.laws.specs.Put.{put_at}
use Rattle.register.specs.Opening.{quotas_to}
use Rattle.register.proofs.put_quotas.Given as goal

abbrev pub invariant-loop-k : goal.invariant-loop-k
invariant-loop-k l = l.b ≡ put_at l.initial.b 2 (quotas_to l.quotas l.k)
