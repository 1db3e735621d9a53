-- Where the parts of a segment stand in the input (document 01, "Bytes and segments").
-- Assumes nothing.
use Rattle.std.specs.Prelude.{ℕ, zero, suc, ◌+◌, Bool, true, false, List, [], ◌∷◌, ltb, length}
use Rattle.laws.specs.Lists.{between}
use Rattle.syntax.specs.Bytes.{component_mark, element_mark, repetition_mark}
use Rattle.syntax.specs.Segment.{body_at}
use Rattle.syntax.specs.Pieces.{pieces, elements, occurrences, nth}
use Rattle.parts.specs.declared.Part.{Part}

-- Where a part stands: from one index up to and without another. Absent where there is none.
abbrev pub absent : Part
absent = record { from = 0; to = 0 }

-- "An empty part is read as absent."
abbrev pub present : List ℕ → Bool
present [] = false
present (b ∷ l) = true

abbrev pub bytes_of : List ℕ → Part → List ℕ
bytes_of s p = between s p.from p.to

-- the segment that starts at an offset, up to its terminator or to the input's end
abbrev pub segment_of : List ℕ → ℕ → Part
segment_of s at = record { from = at; to = at + length (body_at s at) }

-- where the n-th of some pieces stands, counted from 0: the first begins at index a, and one byte parts each from the next
unfoldable pub span_of : ℕ → List (List ℕ) → ℕ → Part
span_of a [] n = absent
span_of a (p ∷ ps) zero = record { from = a; to = a + length p }
span_of a (p ∷ ps) (suc n) = span_of (a + length p + 1) ps n

-- the pieces of a part, cut at each c
abbrev pub piece_at : List ℕ → Part → ℕ → ℕ → Part
piece_at s p c n = span_of p.from (pieces c (bytes_of s p)) n

-- the same counted from 1
unfoldable pub counted_at : List ℕ → Part → ℕ → ℕ → Part
counted_at s p c zero = absent
counted_at s p c (suc n) = piece_at s p c n

-- element e of a segment, counted from 1: before the first stands the tag
unfoldable pub element_at : List ℕ → Part → ℕ → Part
element_at s segment zero = absent
element_at s segment (suc e) = piece_at s segment element_mark (suc e)

-- occurrence o of an element, component c of an occurrence
abbrev pub occurrence_at : List ℕ → Part → ℕ → Part
occurrence_at s element o = counted_at s element repetition_mark o

abbrev pub component_at : List ℕ → Part → ℕ → Part
component_at s occurrence c = counted_at s occurrence component_mark c

abbrev pub part_at : List ℕ → Part → ℕ → ℕ → ℕ → Part
part_at s segment e o c = component_at s (occurrence_at s (element_at s segment e) o) c

-- "Element repetition": an element with more than one occurrence
abbrev pub repeats : List ℕ → ℕ → Bool
repeats g e = ltb 1 (length (occurrences (nth (elements g) e)))
