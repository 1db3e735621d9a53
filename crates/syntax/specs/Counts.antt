-- The counts that a scan of a segment keeps.
-- Assumes nothing.
use Rattle.std.specs.Prelude.{ℕ, ◌+◌, true, false, leb, ltb, eqb}
use Rattle.laws.specs.Choice.{pick}
use Rattle.syntax.specs.declared.limits.Counts.{Counts}

abbrev pub none : Counts
none = record { elements = 0; occurrences = 0; components = 0; characters = 0; over = false }

abbrev pub passed_of : Counts → Counts
passed_of k =
    record {
      elements = k.elements;
      occurrences = k.occurrences;
      components = k.components;
      characters = k.characters;
      over = true;
    }

unfoldable pub text_of : Counts → ℕ → Counts
text_of k n =
    pick (leb (k.characters + n) 512)
    (record {
      elements = k.elements;
      occurrences = k.occurrences;
      components = k.components;
      characters = k.characters + n;
      over = k.over;
    })
    (passed_of k)

unfoldable pub element_of : Counts → Counts
element_of k =
    pick (ltb k.elements 64)
    (record { elements = k.elements + 1; occurrences = 0; components = 0; characters = 0; over = k.over })
    (passed_of k)

unfoldable pub occurrence_of : Counts → Counts
occurrence_of k =
    pick (ltb k.occurrences 98)
    (record {
      elements = k.elements;
      occurrences = k.occurrences + 1;
      components = 0;
      characters = 0;
      over = k.over;
    })
    (passed_of k)

unfoldable pub component_of : Counts → Counts
component_of k =
    pick (ltb k.components 31)
    (record {
      elements = k.elements;
      occurrences = k.occurrences;
      components = k.components + 1;
      characters = 0;
      over = k.over;
    })
    (passed_of k)

abbrev pub mark_of : Counts → ℕ → Counts
mark_of k b = pick (eqb b 43) (element_of k) (pick (eqb b 42) (occurrence_of k) (component_of k))
