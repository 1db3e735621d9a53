-- The text that the printing program prints. Document 01, "Printed whole": "columns parted by a tab, newline after each line".
-- The byte of a tab is 9, of a newline 10.
-- Assumes nothing.
use Rattle.std.specs.Prelude.{ℕ, zero, suc, ◌+◌, ◌/◌, ◌%◌, List, [], ◌∷◌, ◌++◌, leb, length, get_or, Option, Some, None}
use Rattle.laws.specs.Choice.{pick}
use Rattle.laws.specs.Text.{bytes}
use Rattle.answers.specs.declared.Refusal.{Refusal}
use Rattle.answers.specs.Answers.{Answer, done, output_too_short}
use Rattle.laws.specs.Decimal.{decimal_of}

-- two numbers parted by a tab, and what follows them
abbrev pub pair_text : ℕ → ℕ → List ℕ → List ℕ
pair_text a b tail = decimal_of a ++ bytes "\t" ++ decimal_of b ++ tail

-- a row: its offset, its group and its tag, three bytes that are one number
abbrev pub tail_text : ℕ → List ℕ
tail_text tag = 9 ∷ (tag / 65536 % 256) ∷ (tag / 256 % 256) ∷ (tag % 256) ∷ 10 ∷ []

unfoldable pub row_text : ℕ → ℕ → ℕ → List ℕ
row_text offset group tag = pair_text offset group (tail_text tag)

-- the first n rows of three numbers; numbers that are fewer than three are no row
unfoldable pub rows_text : ℕ → List ℕ → List ℕ
rows_text zero l = []
rows_text (suc n) [] = []
rows_text (suc n) (a ∷ []) = []
rows_text (suc n) (a ∷ (b ∷ [])) = []
rows_text (suc n) (a ∷ (b ∷ (c ∷ l))) = row_text a b c ++ rows_text n l

-- `offset`, `group`, `tag`
abbrev pub heading : List ℕ
heading = bytes "offset\tgroup\ttag\n"

abbrev pub table_text : ℕ → List ℕ → List ℕ
table_text n rows = heading ++ rows_text n rows

-- "A refusal prints one line: `refused`, number, position"; document 02, A2: "the printed line, which gains a fourth field", the part
abbrev pub refusal_word : List ℕ
refusal_word = bytes "refused\t"

unfoldable pub refusal_text : Refusal → List ℕ
refusal_text x = refusal_word ++ pair_text x.number x.position (bytes "\t") ++ decimal_of x.part ++ bytes "\n"

-- what each case answers: the bytes written, or the refusal
abbrev pub written_answer : Option ℕ → Answer ℕ
written_answer (Some n) = done n
written_answer None = output_too_short

-- a text for which there is room is put at the front of the lent bytes (`put_at`); any other is 17 and leaves them as they were
unfoldable pub printed_answer : List ℕ → List ℕ → Answer ℕ
printed_answer text out = pick (leb (length text) (length out)) (done (length text)) output_too_short
