-- The types of messages, which is of D.12B, and which of their segments are periods that are read. Assumes nothing.
use Rattle.std.specs.Prelude.{ℕ, Bool, true, false, eqb}
use Rattle.laws.specs.Choice.{both}
use Rattle.messages.specs.declared.MessageType.{MessageType}
use Rattle.messages.specs.declared.MessageType.TheVariants.{Skdupd, Tsdupd, Tsdupd12B}
use Rattle.messages.specs.Tags.{POP}

-- Document 02, A8: the directory of a type, D.12B or D.04A
abbrev pub is_12b : MessageType → Bool
is_12b Skdupd = false
is_12b Tsdupd = false
is_12b Tsdupd12B = true

-- "POP in group 4 of SKDUPD .. POP in other places is placed and not read."
abbrev pub is_period : MessageType → ℕ → ℕ → Bool
is_period Skdupd tag group = both (eqb tag POP) (eqb group 4)
is_period Tsdupd tag group = false
is_period Tsdupd12B tag group = false
