-- Where the places reached stand, and how often a group was entered, by a hint. Assumes nothing; there is no proof here.
use Prim.Native.Nat.{ℕ, ◌*◌, ◌≤◌}
use Rattle.placing.specs.declared.Place.{Place}
use Rattle.placing.specs.Table.{Table, level_of}
use Rattle.placing.specs.Place.{count_at}
use Rattle.hints.specs.Kinds.{kind_in}

-- the place that a row stands for has come at least once
abbrev pub Stood : Table → Place → Type 0
Stood t p = 1 ≤ count_at p (level_of t p.row)

-- how often the place of a hint has been entered already, as far as that counts
abbrev pub entered_in : Place → ℕ → ℕ
entered_in p h = (kind_in h).again * count_at p (kind_in h).level
