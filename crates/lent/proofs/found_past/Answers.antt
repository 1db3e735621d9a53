-- `lent::found_past` meets its contract: after each turn the reader is over the same bytes, where as many segments passed bring it.
-- Assumes nothing.
use mathlib.Core.Path.{◌≡◌, sym, ap, ◌∙◌}
use mathlib.Core.List.{List}
use Prim.Native.Nat.{ℕ, ◌+◌}
use Rattle.lent.specs.Lent.{offset_after, offset_past}
use Rattle.lent.specs.Laws.{past_none, past_next}
use Rattle.lent.proofs.found_past.Goals as goal

-- a turn passes one segment more
one_more : (s t : List ℕ) (i at after : ℕ) → t ≡ s → at ≡ offset_past s i → after ≡ offset_after t at → after ≡ offset_past s (i + 1)
one_more s t i at after q p e = e ∙ rw (q, p) (sym (past_next s i))

pub loop-init : goal.loop-init
loop-init c = (ap (λ (b : _). b.now) c.new-r.ensures.0, c.new-r.ensures.1 ∙ sym (past_none c.args.s.now))

pub loop-preserved : goal.loop-preserved
loop-preserved c = (
  ap (λ (b : _). b.now) c.passed-r.ensures.0 ∙ c.loop.invariant.0,
  one_more c.args.s.now c.loop.r.src.now c.loop.counter c.loop.r.at c.passed-r.result.at c.loop.invariant.0 c.loop.invariant.1 c.passed-r.ensures.1,
)
