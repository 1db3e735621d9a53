-- The kinds of hints: what each does with the counts of a place, which stand in one number, fourteen bits a level. Assumes nothing.
use Rattle.std.specs.Prelude.{ℕ, suc, ◌+◌, ◌-◌, ◌*◌, ◌/◌, ◌%◌, ◌^◌, Bool, List, [], ◌∷◌, eqb, ltb, get_or}
use Rattle.laws.specs.Choice.{pick, both}

-- the level at which a place is entered, 1 where that is a group, whose head is reached then one level deeper, 1 where the place is
-- entered once more and 0 where it is a later one, and for how often at most
pub record Kind : Type 0 where
  pub level : ℕ
  pub deeper : ℕ
  pub again : ℕ
  pub number : ℕ

abbrev pub kind : ℕ → ℕ → ℕ → ℕ → Kind
kind level deeper again number = record { level = level; deeper = deeper; again = again; number = number }

-- no hint: all bits stay, and they are never less than one, as the place itself has come
abbrev pub no_kind : Kind
no_kind = kind 0 0 5 1

-- a number of a table that has no room in fourteen bits is cut, as no interchange has so many segments
unfoldable pub kinds : List Kind
kinds =
    no_kind ∷
    kind 0 0 0 1 ∷
    kind 0 0 1 9 ∷
    kind 0 1 0 1 ∷
    kind 0 1 1 99 ∷
    kind 0 1 1 16383 ∷
    kind 1 0 0 1 ∷
    kind 1 0 1 3 ∷
    kind 1 0 1 9 ∷
    kind 1 0 1 99 ∷
    kind 1 1 0 1 ∷
    kind 1 1 1 99 ∷
    kind 1 1 1 999 ∷
    kind 2 0 0 1 ∷
    kind 2 0 1 3 ∷
    kind 2 0 1 9 ∷
    kind 2 0 1 99 ∷
    kind 2 1 0 1 ∷
    kind 2 1 1 99 ∷
    kind 2 1 1 999 ∷
    kind 3 0 0 1 ∷
    kind 3 0 1 3 ∷
    kind 3 0 1 9 ∷
    kind 3 0 1 99 ∷
    kind 3 1 0 1 ∷
    kind 3 1 1 99 ∷
    kind 4 0 0 1 ∷
    kind 4 0 1 9 ∷
    []

abbrev pub kind_at : ℕ → Kind
kind_at k = get_or kinds k no_kind

-- the bits that a level's own stand above, and the bits of the levels that stay
abbrev pub shift_of : ℕ → ℕ
shift_of level = 14 * level

abbrev pub kept_of : ℕ → ℕ → ℕ
kept_of level again = pick (ltb (level + again) 5) (shift_of (level + again)) 64

abbrev pub kept_bits : Kind → ℕ
kept_bits x = kept_of x.level x.again

abbrev pub kept_mask : ℕ → ℕ
kept_mask k = 2 ^ kept_bits (kind_at k) - 1

abbrev pub bound_of : ℕ → ℕ
bound_of k = (kind_at k).number * 2 ^ shift_of (kind_at k).level

abbrev pub more_of : ℕ → ℕ
more_of k = (1 + (kind_at k).deeper * 16384) * 2 ^ shift_of (kind_at k).level

-- a hint is the row to which it leads, 32 times, and the number of its kind
abbrev pub row_in : ℕ → ℕ
row_in h = h / 32

abbrev pub kind_in : ℕ → Kind
kind_in h = kind_at (h % 32)

abbrev pub last_in : ℕ → ℕ
last_in h = (kind_in h).level + (kind_in h).deeper

-- which of a row's sixteen hints may tell of a tag: any number below 16 would be right, since a hint is taken for no tag but that of its row
abbrev pub hint_slot : ℕ → ℕ
hint_slot tag = tag * 60675803 / 2 ^ 22 % 16

abbrev pub same_kind : Kind → Kind → Bool
same_kind x y = both (eqb x.level y.level) (both (eqb x.deeper y.deeper) (both (eqb x.again y.again) (eqb x.number y.number)))

-- a kind's number: how many stand before it, counted from i
unfoldable pub number_from : ℕ → Kind → List Kind → ℕ
number_from i x [] = 0
number_from i x (y ∷ l) = pick (same_kind x y) i (number_from (suc i) x l)

abbrev pub hint : Kind → ℕ → ℕ
hint x row = row * 32 + number_from 0 x kinds

-- "a later place of the same group", a segment or a group; "the same place again"; "the group once more"
abbrev pub later_hint : ℕ → ℕ → ℕ
later_hint level row = hint (kind level 0 0 1) row

abbrev pub later_group : ℕ → ℕ → ℕ
later_group level row = hint (kind level 1 0 1) row

abbrev pub again_hint : ℕ → ℕ → ℕ → ℕ
again_hint level number row = hint (kind level 0 1 number) row

abbrev pub once_more : ℕ → ℕ → ℕ → ℕ
once_more level number row = hint (kind level 1 1 number) row
