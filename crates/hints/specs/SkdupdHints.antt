-- The hints for SKDUPD: for each row of its table those that lead on from it, and where each stands among the row's sixteen. Assumes nothing.
-- That each is right is the law in Right.antt.
use Rattle.std.specs.Prelude.{List, [], ◌∷◌, ℕ}
use Rattle.placing.specs.Skdupd.{skdupd_table}
use Rattle.hints.specs.Kinds.{later_hint, later_group, again_hint, once_more}
use Rattle.hints.specs.Hint.{laid_out}

unfoldable pub skdupd_onward : List (List ℕ)
skdupd_onward =
    -- row 0, UIH
    (later_hint 0 1 ∷ []) ∷
    -- row 1, MSD
    (later_hint 0 2 ∷ []) ∷
    -- row 2, ORG
    (later_hint 0 3 ∷ []) ∷
    -- row 3, HDR
    (later_hint 0 4 ∷ later_hint 0 5 ∷ later_group 0 7 ∷ later_group 0 11 ∷ []) ∷
    -- row 4, IFT
    (later_hint 0 5 ∷ later_group 0 7 ∷ later_group 0 11 ∷ []) ∷
    -- row 5, RFR
    (again_hint 0 9 5 ∷ later_group 0 7 ∷ later_group 0 11 ∷ []) ∷
    -- row 6, group
    [] ∷
    -- row 7, ERI
    (once_more 0 99 7 ∷ later_hint 1 8 ∷ later_hint 1 9 ∷ later_group 0 11 ∷ []) ∷
    -- row 8, RFR
    (once_more 0 99 7 ∷ later_hint 1 9 ∷ later_group 0 11 ∷ []) ∷
    -- row 9, IFT
    (once_more 0 99 7 ∷ later_group 0 11 ∷ []) ∷
    -- row 10, group
    [] ∷
    -- row 11, PRD
    (once_more 0 16383 11 ∷ later_hint 1 12 ∷ later_hint 1 13 ∷ later_hint 1 14 ∷ later_hint 1 15 ∷ later_hint 1 16 ∷ later_hint 1 17 ∷ later_group 1 19 ∷ later_group 1 22 ∷ []) ∷
    -- row 12, PDT
    (once_more 0 16383 11 ∷ again_hint 1 3 12 ∷ later_hint 1 13 ∷ later_hint 1 14 ∷ later_hint 1 15 ∷ later_hint 1 16 ∷ later_hint 1 17 ∷ later_group 1 19 ∷ later_group 1 22 ∷ []) ∷
    -- row 13, IFT
    (once_more 0 16383 11 ∷ again_hint 1 9 13 ∷ later_hint 1 14 ∷ later_hint 1 15 ∷ later_hint 1 16 ∷ later_hint 1 17 ∷ later_group 1 19 ∷ later_group 1 22 ∷ []) ∷
    -- row 14, TRF
    (once_more 0 16383 11 ∷ again_hint 1 9 14 ∷ later_hint 1 15 ∷ later_hint 1 16 ∷ later_hint 1 17 ∷ later_group 1 19 ∷ later_group 1 22 ∷ []) ∷
    -- row 15, ASD
    (once_more 0 16383 11 ∷ again_hint 1 99 15 ∷ later_hint 1 16 ∷ later_hint 1 17 ∷ later_group 1 19 ∷ later_group 1 22 ∷ []) ∷
    -- row 16, MSD
    (once_more 0 16383 11 ∷ later_hint 1 17 ∷ later_group 1 19 ∷ later_group 1 22 ∷ []) ∷
    -- row 17, RFR
    (once_more 0 16383 11 ∷ again_hint 1 9 17 ∷ later_group 1 19 ∷ later_group 1 22 ∷ []) ∷
    -- row 18, group
    [] ∷
    -- row 19, SER
    (once_more 0 16383 11 ∷ once_more 1 99 19 ∷ later_hint 2 20 ∷ later_group 1 22 ∷ []) ∷
    -- row 20, ASD
    (once_more 0 16383 11 ∷ once_more 1 99 19 ∷ later_group 1 22 ∷ []) ∷
    -- row 21, group
    [] ∷
    -- row 22, POP
    (once_more 0 16383 11 ∷ once_more 1 999 22 ∷ later_hint 2 23 ∷ later_hint 2 24 ∷ later_hint 2 25 ∷ later_hint 2 26 ∷ later_hint 2 27 ∷ later_group 2 29 ∷ later_group 2 32 ∷ later_group 2 35 ∷ later_group 2 45 ∷ []) ∷
    -- row 23, PDT
    (once_more 0 16383 11 ∷ once_more 1 999 22 ∷ again_hint 2 3 23 ∷ later_hint 2 24 ∷ later_hint 2 25 ∷ later_hint 2 26 ∷ later_hint 2 27 ∷ later_group 2 29 ∷ later_group 2 32 ∷ later_group 2 35 ∷ later_group 2 45 ∷ []) ∷
    -- row 24, IFT
    (once_more 0 16383 11 ∷ once_more 1 999 22 ∷ later_hint 2 25 ∷ later_hint 2 26 ∷ later_hint 2 27 ∷ later_group 2 29 ∷ later_group 2 32 ∷ later_group 2 35 ∷ later_group 2 45 ∷ []) ∷
    -- row 25, TRF
    (once_more 0 16383 11 ∷ once_more 1 999 22 ∷ again_hint 2 9 25 ∷ later_hint 2 26 ∷ later_hint 2 27 ∷ later_group 2 29 ∷ later_group 2 32 ∷ later_group 2 35 ∷ later_group 2 45 ∷ []) ∷
    -- row 26, ASD
    (once_more 0 16383 11 ∷ once_more 1 999 22 ∷ again_hint 2 99 26 ∷ later_hint 2 27 ∷ later_group 2 29 ∷ later_group 2 32 ∷ later_group 2 35 ∷ later_group 2 45 ∷ []) ∷
    -- row 27, FRQ
    (once_more 0 16383 11 ∷ once_more 1 999 22 ∷ again_hint 2 9 27 ∷ later_group 2 29 ∷ later_group 2 32 ∷ later_group 2 35 ∷ later_group 2 45 ∷ []) ∷
    -- row 28, group
    [] ∷
    -- row 29, SER
    (once_more 0 16383 11 ∷ once_more 1 999 22 ∷ once_more 2 99 29 ∷ later_hint 3 30 ∷ later_group 2 32 ∷ later_group 2 35 ∷ later_group 2 45 ∷ []) ∷
    -- row 30, ASD
    (once_more 0 16383 11 ∷ once_more 1 999 22 ∷ once_more 2 99 29 ∷ later_group 2 32 ∷ later_group 2 35 ∷ later_group 2 45 ∷ []) ∷
    -- row 31, group
    [] ∷
    -- row 32, DTI
    (once_more 0 16383 11 ∷ once_more 1 999 22 ∷ once_more 2 99 32 ∷ later_hint 3 33 ∷ later_group 2 35 ∷ later_group 2 45 ∷ []) ∷
    -- row 33, IFT
    (once_more 0 16383 11 ∷ once_more 1 999 22 ∷ once_more 2 99 32 ∷ again_hint 3 9 33 ∷ later_group 2 35 ∷ later_group 2 45 ∷ []) ∷
    -- row 34, group
    [] ∷
    -- row 35, POR
    (once_more 0 16383 11 ∷ once_more 1 999 22 ∷ once_more 2 999 35 ∷ later_hint 3 36 ∷ later_hint 3 37 ∷ later_hint 3 38 ∷ later_hint 3 39 ∷ later_group 3 41 ∷ later_group 2 45 ∷ []) ∷
    -- row 36, MES
    (once_more 0 16383 11 ∷ once_more 1 999 22 ∷ once_more 2 999 35 ∷ later_hint 3 37 ∷ later_hint 3 38 ∷ later_hint 3 39 ∷ later_group 3 41 ∷ later_group 2 45 ∷ []) ∷
    -- row 37, ASD
    (once_more 0 16383 11 ∷ once_more 1 999 22 ∷ once_more 2 999 35 ∷ again_hint 3 9 37 ∷ later_hint 3 38 ∷ later_hint 3 39 ∷ later_group 3 41 ∷ later_group 2 45 ∷ []) ∷
    -- row 38, SER
    (once_more 0 16383 11 ∷ once_more 1 999 22 ∷ once_more 2 999 35 ∷ again_hint 3 9 38 ∷ later_hint 3 39 ∷ later_group 3 41 ∷ later_group 2 45 ∷ []) ∷
    -- row 39, TRF
    (once_more 0 16383 11 ∷ once_more 1 999 22 ∷ once_more 2 999 35 ∷ later_group 3 41 ∷ later_group 2 45 ∷ []) ∷
    -- row 40, group
    [] ∷
    -- row 41, RFR
    (once_more 0 16383 11 ∷ once_more 1 999 22 ∷ once_more 2 999 35 ∷ once_more 3 99 41 ∷ later_hint 4 42 ∷ later_hint 4 43 ∷ later_group 2 45 ∷ []) ∷
    -- row 42, RLS
    (once_more 0 16383 11 ∷ once_more 1 999 22 ∷ once_more 2 999 35 ∷ once_more 3 99 41 ∷ later_hint 4 43 ∷ later_group 2 45 ∷ []) ∷
    -- row 43, TCE
    (once_more 0 16383 11 ∷ once_more 1 999 22 ∷ once_more 2 999 35 ∷ once_more 3 99 41 ∷ again_hint 4 9 43 ∷ later_group 2 45 ∷ []) ∷
    -- row 44, group
    [] ∷
    -- row 45, ODI
    (once_more 0 16383 11 ∷ once_more 1 999 22 ∷ once_more 2 999 45 ∷ later_hint 3 46 ∷ later_hint 3 47 ∷ later_hint 3 48 ∷ later_hint 3 49 ∷ later_hint 3 50 ∷ later_group 3 52 ∷ []) ∷
    -- row 46, PDT
    (once_more 0 16383 11 ∷ once_more 1 999 22 ∷ once_more 2 999 45 ∷ again_hint 3 3 46 ∷ later_hint 3 47 ∷ later_hint 3 48 ∷ later_hint 3 49 ∷ later_hint 3 50 ∷ later_group 3 52 ∷ []) ∷
    -- row 47, IFT
    (once_more 0 16383 11 ∷ once_more 1 999 22 ∷ once_more 2 999 45 ∷ later_hint 3 48 ∷ later_hint 3 49 ∷ later_hint 3 50 ∷ later_group 3 52 ∷ []) ∷
    -- row 48, TRF
    (once_more 0 16383 11 ∷ once_more 1 999 22 ∷ once_more 2 999 45 ∷ again_hint 3 9 48 ∷ later_hint 3 49 ∷ later_hint 3 50 ∷ later_group 3 52 ∷ []) ∷
    -- row 49, TFF
    (once_more 0 16383 11 ∷ once_more 1 999 22 ∷ once_more 2 999 45 ∷ later_hint 3 50 ∷ later_group 3 52 ∷ []) ∷
    -- row 50, ASD
    (once_more 0 16383 11 ∷ once_more 1 999 22 ∷ once_more 2 999 45 ∷ again_hint 3 99 50 ∷ later_group 3 52 ∷ []) ∷
    -- row 51, group
    [] ∷
    -- row 52, SER
    (once_more 0 16383 11 ∷ once_more 1 999 22 ∷ once_more 2 999 45 ∷ once_more 3 99 52 ∷ later_hint 4 53 ∷ []) ∷
    -- row 53, ASD
    (once_more 0 16383 11 ∷ once_more 1 999 22 ∷ once_more 2 999 45 ∷ once_more 3 99 52 ∷ []) ∷
    -- row 54, UIT
    [] ∷
    []

unfoldable pub skdupd_hints : List (List ℕ)
skdupd_hints = laid_out skdupd_table skdupd_onward
