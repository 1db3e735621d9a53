-- Rows in a buffer, as the reader writes them: three numbers each, offset, group and tag.
-- Assumes nothing.
use Rattle.std.specs.Prelude.{ℕ, zero, suc, ◌+◌, ◌-◌, ◌*◌, ◌/◌, min, Bool, true, false, List, [], ◌∷◌, eqb, ltb, length, get_or, Option, Some, None}
use Rattle.laws.specs.Choice.{pick, both}

-- the offset of row i, or 0 where the buffer does not hold the row
unfoldable pub offset_at : List ℕ → ℕ → ℕ
offset_at rows i = pick (ltb i (length rows / 3)) (get_or rows (3 * i) 0) 0

-- whether the buffer holds row i and it has a group and a tag
unfoldable pub is_row : List ℕ → ℕ → ℕ → ℕ → Bool
is_row rows group tag i = both (ltb i (length rows / 3)) (both (eqb (get_or rows (3 * i + 1) 0) group) (eqb (get_or rows (3 * i + 2) 0) tag))

-- how many of n rows the buffer holds
abbrev pub row_count : List ℕ → ℕ → ℕ
row_count rows n = min n (length rows / 3)

-- the first of k numbers from i on of which a test holds; where it holds of none, the number past them
unfoldable pub first_in : (ℕ → Bool) → ℕ → ℕ → ℕ
first_in f zero i = i
first_in f (suc k) i = pick (f i) i (first_in f k (i + 1))

-- the first number from i on and below n of which a test holds; where it holds of none, n, or i where i is not below n
abbrev pub first_from : (ℕ → Bool) → ℕ → ℕ → ℕ
first_from f i n = first_in f (n - i) i

-- the same, or none where it holds of none
abbrev pub found_from : (ℕ → Bool) → ℕ → ℕ → Option ℕ
found_from f i n = pick (ltb (first_from f i n) n) (Some (first_from f i n)) None

-- whether it holds of any
abbrev pub some_from : (ℕ → Bool) → ℕ → ℕ → Bool
some_from f i n = ltb (first_from f i n) n

-- what g gives for each of k numbers from i on of which a test holds
abbrev pub keep : {A : Type 0} → Bool → A → List A → List A
keep true a l = a ∷ l
keep false a l = l

unfoldable pub list_of : {A : Type 0} → (ℕ → Bool) → (ℕ → A) → ℕ → ℕ → List A
list_of f g zero i = []
list_of f g (suc k) i = keep (f i) (g i) (list_of f g k (i + 1))

-- for each number from i on and below n
abbrev pub list_from : {A : Type 0} → (ℕ → Bool) → (ℕ → A) → ℕ → ℕ → List A
list_from f g i n = list_of f g (n - i) i
