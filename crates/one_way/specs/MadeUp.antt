-- Two made-up tables that fail the test. Assumes nothing; there is no proof here.
use Rattle.std.specs.Prelude.{List, [], ◌∷◌, ℕ, get_or}
use Rattle.messages.specs.Tags.{UIH, PRD, IFT, UIT}
use Rattle.placing.specs.Table.{Table, row, M, C, no_tag}
use Rattle.one_way.specs.Arrangement.{nothing, Arrangement, end, ◌▸◌, Where}
use Rattle.one_way.specs.Drawing.{alone, once}

-- IFT stands last in a group, and again behind it

unfoldable pub shared_table : Table
shared_table =
    -- 0  UIH
    row 10 UIH M 1 0 0 0 0 ∷
    -- 1  Segment group 1
    row 20 no_tag C 9 1 0 2 0 ∷
    -- 2      PRD
    row 30 PRD M 1 1 1 0 1 ∷
    -- 3      IFT
    row 40 IFT C 1 1 1 0 1 ∷
    -- 4  IFT
    row 50 IFT C 1 0 0 0 0 ∷
    -- 5  UIT
    row 60 UIT M 1 0 0 0 0 ∷
    []

-- the message UIH PRD IFT UIT, with its IFT in the group and behind it
abbrev pub in_group_one : Arrangement
in_group_one = alone UIH ▸ once (alone PRD ▸ alone IFT ▸ end) ▸ nothing ▸ alone UIT ▸ end

abbrev pub behind_it : Arrangement
behind_it = alone UIH ▸ once (alone PRD ▸ nothing ▸ end) ▸ alone IFT ▸ alone UIT ▸ end

-- the row of the third segment
abbrev pub third_row : List Where → ℕ
third_row l = (get_or (get_or l 2 []) 0 (0, 0)).0

-- A conditional IFT stands before a mandatory one

unfoldable pub owed_table : Table
owed_table =
    -- 0  UIH
    row 10 UIH M 1 0 0 0 0 ∷
    -- 1  IFT
    row 20 IFT C 1 0 0 0 0 ∷
    -- 2  IFT
    row 30 IFT M 1 0 0 0 0 ∷
    -- 3  UIT
    row 40 UIT M 1 0 0 0 0 ∷
    []

abbrev pub second_alone : Arrangement
second_alone = alone UIH ▸ nothing ▸ alone IFT ▸ alone UIT ▸ end

abbrev pub both_of_them : Arrangement
both_of_them = alone UIH ▸ alone IFT ▸ alone IFT ▸ alone UIT ▸ end
