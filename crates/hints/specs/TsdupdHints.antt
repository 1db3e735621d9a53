-- The hints for TSDUPD: for each row of its table those that lead on from it, and where each stands among the row's sixteen. Assumes nothing.
-- That each is right is the law in Right.antt.
use Rattle.std.specs.Prelude.{List, [], ◌∷◌, ℕ}
use Rattle.placing.specs.Tsdupd.{tsdupd_table}
use Rattle.hints.specs.Kinds.{later_hint, later_group, again_hint, once_more}
use Rattle.hints.specs.Hint.{laid_out}

unfoldable pub tsdupd_onward : List (List ℕ)
tsdupd_onward =
    -- row 0, UIH
    (later_hint 0 1 ∷ []) ∷
    -- row 1, MSD
    (later_hint 0 2 ∷ later_hint 0 3 ∷ later_hint 0 4 ∷ later_hint 0 5 ∷ later_hint 0 6 ∷ later_hint 0 7 ∷ later_hint 0 8 ∷ later_group 0 10 ∷ later_group 0 14 ∷ later_group 0 42 ∷ []) ∷
    -- row 2, ORG
    (later_hint 0 3 ∷ later_hint 0 4 ∷ later_hint 0 5 ∷ later_hint 0 6 ∷ later_hint 0 7 ∷ later_hint 0 8 ∷ later_group 0 10 ∷ later_group 0 14 ∷ later_group 0 42 ∷ []) ∷
    -- row 3, HDR
    (later_hint 0 4 ∷ later_hint 0 5 ∷ later_hint 0 6 ∷ later_hint 0 7 ∷ later_hint 0 8 ∷ later_group 0 10 ∷ later_group 0 14 ∷ later_group 0 42 ∷ []) ∷
    -- row 4, IFT
    (again_hint 0 9 4 ∷ later_hint 0 5 ∷ later_hint 0 6 ∷ later_hint 0 7 ∷ later_hint 0 8 ∷ later_group 0 10 ∷ later_group 0 14 ∷ later_group 0 42 ∷ []) ∷
    -- row 5, RFR
    (later_hint 0 6 ∷ later_hint 0 7 ∷ later_hint 0 8 ∷ later_group 0 10 ∷ later_group 0 14 ∷ later_group 0 42 ∷ []) ∷
    -- row 6, CNY
    (later_hint 0 7 ∷ later_hint 0 8 ∷ later_group 0 10 ∷ later_group 0 14 ∷ later_group 0 42 ∷ []) ∷
    -- row 7, TIZ
    (later_hint 0 8 ∷ later_group 0 10 ∷ later_group 0 14 ∷ later_group 0 42 ∷ []) ∷
    -- row 8, LNG
    (later_group 0 10 ∷ later_group 0 14 ∷ later_group 0 42 ∷ []) ∷
    -- row 9, group
    [] ∷
    -- row 10, ERI
    (once_more 0 99 10 ∷ later_hint 1 11 ∷ later_hint 1 12 ∷ later_group 0 14 ∷ later_group 0 42 ∷ []) ∷
    -- row 11, RFR
    (once_more 0 99 10 ∷ later_hint 1 12 ∷ later_group 0 14 ∷ later_group 0 42 ∷ []) ∷
    -- row 12, IFT
    (once_more 0 99 10 ∷ later_group 0 14 ∷ later_group 0 42 ∷ []) ∷
    -- row 13, group
    [] ∷
    -- row 14, ALS
    (once_more 0 16383 14 ∷ later_hint 1 15 ∷ later_hint 1 16 ∷ later_hint 1 17 ∷ later_hint 1 18 ∷ later_hint 1 19 ∷ later_hint 1 20 ∷ later_hint 1 21 ∷ later_hint 1 22 ∷ later_hint 1 23 ∷ later_group 1 25 ∷ later_group 1 28 ∷ later_group 1 34 ∷ later_group 0 42 ∷ []) ∷
    -- row 15, ADS
    (once_more 0 16383 14 ∷ later_hint 1 16 ∷ later_hint 1 17 ∷ later_hint 1 18 ∷ later_hint 1 19 ∷ later_hint 1 20 ∷ later_hint 1 21 ∷ later_hint 1 22 ∷ later_hint 1 23 ∷ later_group 1 25 ∷ later_group 1 28 ∷ later_group 1 34 ∷ later_group 0 42 ∷ []) ∷
    -- row 16, POP
    (once_more 0 16383 14 ∷ again_hint 1 9 16 ∷ later_hint 1 17 ∷ later_hint 1 18 ∷ later_hint 1 19 ∷ later_hint 1 20 ∷ later_hint 1 21 ∷ later_hint 1 22 ∷ later_hint 1 23 ∷ later_group 1 25 ∷ later_group 1 28 ∷ later_group 1 34 ∷ later_group 0 42 ∷ []) ∷
    -- row 17, CON
    (once_more 0 16383 14 ∷ later_hint 1 18 ∷ later_hint 1 19 ∷ later_hint 1 20 ∷ later_hint 1 21 ∷ later_hint 1 22 ∷ later_hint 1 23 ∷ later_group 1 25 ∷ later_group 1 28 ∷ later_group 1 34 ∷ later_group 0 42 ∷ []) ∷
    -- row 18, TRF
    (once_more 0 16383 14 ∷ later_hint 1 19 ∷ later_hint 1 20 ∷ later_hint 1 21 ∷ later_hint 1 22 ∷ later_hint 1 23 ∷ later_group 1 25 ∷ later_group 1 28 ∷ later_group 1 34 ∷ later_group 0 42 ∷ []) ∷
    -- row 19, CNY
    (once_more 0 16383 14 ∷ later_hint 1 20 ∷ later_hint 1 21 ∷ later_hint 1 22 ∷ later_hint 1 23 ∷ later_group 1 25 ∷ later_group 1 28 ∷ later_group 1 34 ∷ later_group 0 42 ∷ []) ∷
    -- row 20, TIZ
    (once_more 0 16383 14 ∷ later_hint 1 21 ∷ later_hint 1 22 ∷ later_hint 1 23 ∷ later_group 1 25 ∷ later_group 1 28 ∷ later_group 1 34 ∷ later_group 0 42 ∷ []) ∷
    -- row 21, LNG
    (once_more 0 16383 14 ∷ later_hint 1 22 ∷ later_hint 1 23 ∷ later_group 1 25 ∷ later_group 1 28 ∷ later_group 1 34 ∷ later_group 0 42 ∷ []) ∷
    -- row 22, SER
    (once_more 0 16383 14 ∷ later_hint 1 23 ∷ later_group 1 25 ∷ later_group 1 28 ∷ later_group 1 34 ∷ later_group 0 42 ∷ []) ∷
    -- row 23, IFT
    (once_more 0 16383 14 ∷ again_hint 1 9 23 ∷ later_group 1 25 ∷ later_group 1 28 ∷ later_group 1 34 ∷ later_group 0 42 ∷ []) ∷
    -- row 24, group
    [] ∷
    -- row 25, ASD
    (once_more 0 16383 14 ∷ once_more 1 99 25 ∷ later_hint 2 26 ∷ later_group 1 28 ∷ later_group 1 34 ∷ later_group 0 42 ∷ []) ∷
    -- row 26, CON
    (once_more 0 16383 14 ∷ once_more 1 99 25 ∷ later_group 1 28 ∷ later_group 1 34 ∷ later_group 0 42 ∷ []) ∷
    -- row 27, group
    [] ∷
    -- row 28, PRD
    (once_more 0 16383 14 ∷ once_more 1 99 28 ∷ later_hint 2 29 ∷ later_hint 2 30 ∷ later_hint 2 31 ∷ later_hint 2 32 ∷ later_group 1 34 ∷ later_group 0 42 ∷ []) ∷
    -- row 29, SER
    (once_more 0 16383 14 ∷ once_more 1 99 28 ∷ later_hint 2 30 ∷ later_hint 2 31 ∷ later_hint 2 32 ∷ later_group 1 34 ∷ later_group 0 42 ∷ []) ∷
    -- row 30, FRQ
    (once_more 0 16383 14 ∷ once_more 1 99 28 ∷ later_hint 2 31 ∷ later_hint 2 32 ∷ later_group 1 34 ∷ later_group 0 42 ∷ []) ∷
    -- row 31, IFT
    (once_more 0 16383 14 ∷ once_more 1 99 28 ∷ later_hint 2 32 ∷ later_group 1 34 ∷ later_group 0 42 ∷ []) ∷
    -- row 32, POR
    (once_more 0 16383 14 ∷ once_more 1 99 28 ∷ later_group 1 34 ∷ later_group 0 42 ∷ []) ∷
    -- row 33, group
    [] ∷
    -- row 34, RFR
    (once_more 0 16383 14 ∷ once_more 1 99 34 ∷ later_hint 2 35 ∷ later_hint 2 36 ∷ later_group 2 38 ∷ later_group 0 42 ∷ []) ∷
    -- row 35, MES
    (once_more 0 16383 14 ∷ once_more 1 99 34 ∷ later_hint 2 36 ∷ later_group 2 38 ∷ later_group 0 42 ∷ []) ∷
    -- row 36, RLS
    (once_more 0 16383 14 ∷ once_more 1 99 34 ∷ later_group 2 38 ∷ later_group 0 42 ∷ []) ∷
    -- row 37, group
    [] ∷
    -- row 38, PRD
    (once_more 0 16383 14 ∷ once_more 1 99 34 ∷ once_more 2 99 38 ∷ later_hint 3 39 ∷ later_hint 3 40 ∷ later_group 0 42 ∷ []) ∷
    -- row 39, POP
    (once_more 0 16383 14 ∷ once_more 1 99 34 ∷ once_more 2 99 38 ∷ later_hint 3 40 ∷ later_group 0 42 ∷ []) ∷
    -- row 40, SER
    (once_more 0 16383 14 ∷ once_more 1 99 34 ∷ once_more 2 99 38 ∷ later_group 0 42 ∷ []) ∷
    -- row 41, group
    [] ∷
    -- row 42, NME
    (once_more 0 99 42 ∷ later_hint 1 43 ∷ later_hint 1 44 ∷ later_group 1 46 ∷ []) ∷
    -- row 43, ADS
    (once_more 0 99 42 ∷ later_hint 1 44 ∷ later_group 1 46 ∷ []) ∷
    -- row 44, CON
    (once_more 0 99 42 ∷ later_group 1 46 ∷ []) ∷
    -- row 45, group
    [] ∷
    -- row 46, RFR
    (once_more 0 99 42 ∷ once_more 1 99 46 ∷ later_hint 2 47 ∷ []) ∷
    -- row 47, RLS
    (once_more 0 99 42 ∷ once_more 1 99 46 ∷ []) ∷
    -- row 48, UIT
    [] ∷
    []

unfoldable pub tsdupd_hints : List (List ℕ)
tsdupd_hints = laid_out tsdupd_table tsdupd_onward
