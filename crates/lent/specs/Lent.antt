-- What a reader over the lent interchange finds where it has come to. Assumes nothing.
use Rattle.std.specs.Prelude.{ℕ, zero, suc, ◌+◌, List, leb, length, drop, Option, Some, None, Result, Ok, Err}
use Rattle.laws.specs.Choice.{pick}
use Rattle.syntax.specs.declared.segment.ScanError.{ScanError}
use Rattle.syntax.specs.Segment.{segment_at, tag_number, refusal_of}
use Rattle.answers.specs.declared.Refusal.{Refusal}
use Rattle.lent.specs.declared.Segment.{Segment}

-- a whole segment is told by its tag and where the next one begins, any other by its number and place
abbrev pub scanned_found : List ℕ → ℕ → Result ℕ ScanError → Result (Option Segment) Refusal
scanned_found s at (Ok e) = Ok (Some (record { tag = tag_number (drop at s); after = e + 1 }))
scanned_found s at (Err error) = Err (refusal_of at error)

-- what stands at an offset, nothing where the interchange is over
unfoldable pub segment_found : List ℕ → ℕ → Result (Option Segment) Refusal
segment_found s at = pick (leb (length s) at) (Ok None) (scanned_found s at (segment_at s at))

-- past the segment that is found, and no further where none is
abbrev pub after_found : ℕ → Result (Option Segment) Refusal → ℕ
after_found at (Ok (Some segment)) = segment.after
after_found at (Ok None) = at
after_found at (Err refusal) = at

-- "The reader walks forward only": where it stands once it has passed what stands at an offset
unfoldable pub offset_after : List ℕ → ℕ → ℕ
offset_after s at = after_found at (segment_found s at)

-- where it stands once it has passed n segments, from the first byte
unfoldable pub offset_past : List ℕ → ℕ → ℕ
offset_past s zero = 0
offset_past s (suc n) = offset_after s (offset_past s n)
