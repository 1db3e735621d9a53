-- The bytes of an interchange (document 01, "Bytes and segments").
-- Assumes nothing.
use Rattle.std.specs.Prelude.{ℕ, Bool, true, false, not, List, [], ◌∷◌, leb, eqb}
use Rattle.laws.specs.Choice.{both, either, among}

-- "Service characters: `:` component, `+` element, `*` repetition, `?` release, `'` terminator."
abbrev pub component_mark : ℕ
component_mark = 58

abbrev pub element_mark : ℕ
element_mark = 43

abbrev pub repetition_mark : ℕ
repetition_mark = 42

abbrev pub release_mark : ℕ
release_mark = 63

abbrev pub terminator : ℕ
terminator = 39

-- "Permitted bytes: 32 (space, permitted) to 126 without `# $ @ [ \ ] ^ ` and the backquote, `{ | } ~`."
unfoldable pub permitted_of : ℕ → Bool
permitted_of b =
    both (leb 32 b)
    (both (leb b 126)
    (not (among b (35 ∷ 36 ∷ 64 ∷ 91 ∷ 92 ∷ 93 ∷ 94 ∷ 96 ∷ 123 ∷ 124 ∷ 125 ∷ 126 ∷ []))))

-- "`?` makes the next byte plain text, whichever it is": whether the byte after b is released, where r says whether b is
abbrev pub releases : Bool → ℕ → Bool
releases true b = false
releases false b = eqb b release_mark

-- whether b stands as the service character c: it is c and is not released
abbrev pub stands : ℕ → Bool → ℕ → Bool
stands c true b = false
stands c false b = eqb b c

-- b before l, unless the test holds
abbrev pub unless : Bool → ℕ → List ℕ → List ℕ
unless true b l = l
unless false b l = b ∷ l

-- the text after release: without the bytes that stand as `?`
unfoldable pub plain_on : Bool → List ℕ → List ℕ
plain_on r [] = []
plain_on r (b ∷ l) = unless (stands release_mark r b) b (plain_on (releases r b) l)

abbrev pub plain : List ℕ → List ℕ
plain l = plain_on false l

-- a permitted byte that is no service character
unfoldable pub plain_text : ℕ → Bool
plain_text b =
    both (permitted_of b)
    (not (among b (component_mark ∷ element_mark ∷ repetition_mark ∷ release_mark ∷ terminator ∷ [])))

-- a service character that parts one piece of a segment from the next
unfoldable pub is_mark : ℕ → Bool
is_mark b = either (eqb b element_mark) (either (eqb b repetition_mark) (eqb b component_mark))
