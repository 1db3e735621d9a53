use Rattle.std.proofs.Common.{◌≡◌, ◌+◌, ◌≤◌, length}
use Rattle.laws.specs.Put.{put_at}
use Rattle.syntax.specs.Bytes.{plain}
use Rattle.values.proofs.fill.Given as goal

abbrev pub invariant-loop-n : goal.invariant-loop-n
invariant-loop-n l = record {
  room : l.n-iterator.count + length (plain l.n-iterator.iter.rest.now) ≤ length l.initial.to;
  put : put_at l.to l.n-iterator.count (plain l.n-iterator.iter.rest.now) ≡ put_at l.initial.to 0 (plain l.part);
}
