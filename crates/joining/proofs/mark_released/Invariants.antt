-- The days before the range's start are marked by the characters read; those from there on, by the characters that are left.
-- Assumes nothing.
use Rattle.std.proofs.Common.{◌≡◌, ℕ, ◌+◌, ◌-◌, ◌≤◌, drop, eqb, get_or}
use Rattle.syntax.specs.Bytes.{plain}
use Rattle.joining.specs.Joined.{marked}
use Rattle.joining.proofs.mark_released.Given as goal

abbrev pub invariant-loop-k : goal.invariant-loop-k
invariant-loop-k l = record {
  low : l.at ≤ l.k-iterator.a.start;
  high : l.k-iterator.a.start ≤ l.at + l.n;
  end : l.k-iterator.a.end ≡ l.at + l.n;
  left : drop (l.k-iterator.a.start - l.at) (plain l.part) ≡ plain l.k-iterator.b.rest.now;
  marks : marked (λ (x : ℕ). eqb (get_or (plain l.part) x 0) 49) l.days l.at (l.k-iterator.a.start - l.at) (l.n - (l.k-iterator.a.start - l.at)) ≡ marked (λ (x : ℕ). eqb (get_or (plain l.part) x 0) 49) l.initial.days l.at 0 l.n;
}
