-- The hints of all types, in one list of rows, and a type's own part of it. Assumes nothing.
use Rattle.std.specs.Prelude.{◌≡◌, refl, List, ◌++◌, ℕ}
use Rattle.laws.specs.Lists.{between}
use Rattle.messages.specs.declared.MessageType.{MessageType}
use Rattle.messages.specs.declared.MessageType.TheVariants.{Skdupd, Tsdupd, Tsdupd12B}
use Rattle.hints.specs.Hint.{laid_out}
use Rattle.hints.specs.SkdupdHints.{skdupd_onward, skdupd_hints}
use Rattle.hints.specs.TsdupdHints.{tsdupd_onward, tsdupd_hints}

unfoldable pub hints : List (List ℕ)
hints = skdupd_hints ++ tsdupd_hints

-- the part of a type among such rows, as many as its table has; the tables of TSDUPD differ in their positions alone, of which no hint tells, so D.12B has those of D.04A
unfoldable pub hints_in : List (List ℕ) → MessageType → List (List ℕ)
hints_in l Skdupd = between l 0 55
hints_in l Tsdupd = between l 55 104
hints_in l Tsdupd12B = between l 55 104

-- the hints of a type
abbrev pub hints_of : MessageType → List (List ℕ)
hints_of message = hints_in hints message

pub skdupd_own : hints_of Skdupd ≡ skdupd_hints
unfolding hints hints_in skdupd_hints tsdupd_hints laid_out skdupd_onward tsdupd_onward
skdupd_own = refl

pub tsdupd_own : hints_of Tsdupd ≡ tsdupd_hints
unfolding hints hints_in skdupd_hints tsdupd_hints laid_out skdupd_onward tsdupd_onward
tsdupd_own = refl

pub tsdupd_12b_own : hints_of Tsdupd12B ≡ tsdupd_hints
unfolding hints_in
tsdupd_12b_own = tsdupd_own
