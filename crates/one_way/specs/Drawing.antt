-- Words to draw an arrangement with: a segment that stands once, a group that stands once, and some places at which nothing stands. Assumes nothing.
use Rattle.std.specs.Prelude.{ℕ, zero, suc}
use Rattle.one_way.specs.Arrangement.{segment, group, Times, nothing, ◌&◌, Arrangement, ◌▸◌}

abbrev pub alone : ℕ → Times
alone tag = segment tag & nothing

abbrev pub once : Arrangement → Times
once a = group a & nothing

unfoldable pub skip : ℕ → Arrangement → Arrangement
skip zero a = a
skip (suc n) a = nothing ▸ skip n a
