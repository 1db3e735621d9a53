-- The parts of a segment: elements, occurrences, components (document 01, "Bytes and segments"; ISO 9735-1).
-- Assumes nothing.
use Rattle.std.specs.Prelude.{ℕ, zero, suc, Bool, true, false, List, [], ◌∷◌, get_or}
use Rattle.laws.specs.Choice.{pick}
use Rattle.syntax.specs.Bytes.{component_mark, element_mark, repetition_mark, releases, stands}

-- the bytes before the first that stands as c, or all; r says whether the first byte is released
unfoldable pub first_piece : ℕ → Bool → List ℕ → List ℕ
first_piece c r [] = []
first_piece c r (b ∷ l) = pick (stands c r b) [] (b ∷ first_piece c (releases r b) l)

abbrev pub join_piece : Bool → List ℕ → List (List ℕ) → List (List ℕ)
join_piece true p ps = p ∷ ps
join_piece false p ps = ps

-- what follows each byte that stands as c, up to the next
unfoldable pub later_pieces : ℕ → Bool → List ℕ → List (List ℕ)
later_pieces c r [] = []
later_pieces c r (b ∷ l) = join_piece (stands c r b) (first_piece c false l) (later_pieces c (releases r b) l)

-- a text cut at each byte that stands as c: one piece more than there are such bytes
abbrev pub pieces : ℕ → List ℕ → List (List ℕ)
pieces c l = first_piece c false l ∷ later_pieces c false l

-- "A segment is a tag .., then elements, then the terminator." g is the segment without its terminator.
abbrev pub tag_text : List ℕ → List ℕ
tag_text g = first_piece element_mark false g

abbrev pub elements : List ℕ → List (List ℕ)
elements g = later_pieces element_mark false g

abbrev pub occurrences : List ℕ → List (List ℕ)
occurrences element = pieces repetition_mark element

abbrev pub components : List ℕ → List (List ℕ)
components occurrence = pieces component_mark occurrence

-- the n-th, counted from 1 as the paper counts; what is not there is empty
abbrev pub nth : List (List ℕ) → ℕ → List ℕ
nth ps zero = []
nth ps (suc n) = get_or ps n []

-- element e, occurrence o, component c as written. "An empty part is read as absent."
unfoldable pub part_of : List ℕ → ℕ → ℕ → ℕ → List ℕ
part_of g e o c = nth (components (nth (occurrences (nth (elements g) e)) o)) c
