-- The segment table of TSDUPD in directory D.12B, document 003, row for row. Assumes nothing.
-- Before each row stand its number, counted from 0 as the last column means it, and its name, indented by its level.
-- The columns are those of Table.antt: position, tag, status, greatest number, group, level, how many rows a group holds, row of the group it stands in.
-- 003 ends a group by naming its trigger once more, which decides the nesting. It gives groups no status and no position: they are conditional, as
-- in 000, and a group has the number that is left free before its trigger.
use Rattle.std.specs.Prelude.{[], ◌∷◌}
use Rattle.placing.specs.Table.{Table, row, no_tag, M, C}
use Rattle.messages.specs.Tags.{ADS, ALS, ASD, CNY, CON, ERI, FRQ, HDR, IFT, LNG, MES, MSD, NME, ORG, POP, POR, PRD, RFR, RLS, SER, TIZ, TRF, UIH, UIT}

unfoldable pub tsdupd_12b_table : Table
tsdupd_12b_table =
    --  0  00010 UIH Interactive message header
    row 10 UIH M 1 0 0 0 0 ∷
    --  1  00020 MSD Message action details
    row 20 MSD M 1 0 0 0 0 ∷
    --  2  00030 ORG Originator of request details
    row 30 ORG C 1 0 0 0 0 ∷
    --  3  00040 HDR Header information
    row 40 HDR C 1 0 0 0 0 ∷
    --  4  00050 IFT Interactive free text
    row 50 IFT C 9 0 0 0 0 ∷
    --  5  00060 RFR Reference
    row 60 RFR C 1 0 0 0 0 ∷
    --  6  00070 CNY Country information
    row 70 CNY C 1 0 0 0 0 ∷
    --  7  00080 TIZ Time zone information
    row 80 TIZ C 1 0 0 0 0 ∷
    --  8  00090 LNG Language
    row 90 LNG C 1 0 0 0 0 ∷
    --  9  00100 Segment group 1
    row 100 no_tag C 99 1 0 3 0 ∷
    -- 10      00110 ERI Application error information
    row 110 ERI M 1 1 1 0 9 ∷
    -- 11      00120 RFR Reference
    row 120 RFR C 1 1 1 0 9 ∷
    -- 12      00130 IFT Interactive free text
    row 130 IFT C 1 1 1 0 9 ∷
    -- 13  00140 Segment group 2
    row 140 no_tag C 99999 2 0 27 0 ∷
    -- 14      00150 ALS Additional location information
    row 150 ALS M 1 2 1 0 13 ∷
    -- 15      00160 ADS Address
    row 160 ADS C 1 2 1 0 13 ∷
    -- 16      00170 POP Period of operation
    row 170 POP C 9 2 1 0 13 ∷
    -- 17      00180 CON Contact information
    row 180 CON C 1 2 1 0 13 ∷
    -- 18      00190 TRF Traffic restriction details
    row 190 TRF C 1 2 1 0 13 ∷
    -- 19      00200 CNY Country information
    row 200 CNY C 1 2 1 0 13 ∷
    -- 20      00210 TIZ Time zone information
    row 210 TIZ C 1 2 1 0 13 ∷
    -- 21      00220 LNG Language
    row 220 LNG C 1 2 1 0 13 ∷
    -- 22      00230 SER Facility information
    row 230 SER C 1 2 1 0 13 ∷
    -- 23      00240 IFT Interactive free text
    row 240 IFT C 9 2 1 0 13 ∷
    -- 24      00250 Segment group 3
    row 250 no_tag C 99 3 1 2 13 ∷
    -- 25          00260 ASD Service details
    row 260 ASD M 1 3 2 0 24 ∷
    -- 26          00270 CON Contact information
    row 270 CON C 1 3 2 0 24 ∷
    -- 27      00280 Segment group 4
    row 280 no_tag C 99 4 1 5 13 ∷
    -- 28          00290 PRD Product identification
    row 290 PRD M 1 4 2 0 27 ∷
    -- 29          00300 SER Facility information
    row 300 SER C 1 4 2 0 27 ∷
    -- 30          00310 FRQ Frequency
    row 310 FRQ C 1 4 2 0 27 ∷
    -- 31          00320 IFT Interactive free text
    row 320 IFT C 1 4 2 0 27 ∷
    -- 32          00330 POR Location and/or related time information
    row 330 POR C 1 4 2 0 27 ∷
    -- 33      00340 Segment group 5
    row 340 no_tag C 99 5 1 7 13 ∷
    -- 34          00350 RFR Reference
    row 350 RFR M 1 5 2 0 33 ∷
    -- 35          00360 MES Measurements
    row 360 MES C 1 5 2 0 33 ∷
    -- 36          00370 RLS Relationship
    row 370 RLS C 1 5 2 0 33 ∷
    -- 37          00380 Segment group 6
    row 380 no_tag C 99 6 2 3 33 ∷
    -- 38              00390 PRD Product identification
    row 390 PRD M 1 6 3 0 37 ∷
    -- 39              00400 POP Period of operation
    row 400 POP C 1 6 3 0 37 ∷
    -- 40              00410 SER Facility information
    row 410 SER C 1 6 3 0 37 ∷
    -- 41  00420 Segment group 7
    row 420 no_tag C 99 7 0 6 0 ∷
    -- 42      00430 NME Name
    row 430 NME M 1 7 1 0 41 ∷
    -- 43      00440 ADS Address
    row 440 ADS C 1 7 1 0 41 ∷
    -- 44      00450 CON Contact information
    row 450 CON C 1 7 1 0 41 ∷
    -- 45      00460 Segment group 8
    row 460 no_tag C 99 8 1 2 41 ∷
    -- 46          00470 RFR Reference
    row 470 RFR M 1 8 2 0 45 ∷
    -- 47          00480 RLS Relationship
    row 480 RLS C 1 8 2 0 45 ∷
    -- 48  00490 UIT Interactive message trailer
    row 490 UIT M 1 0 0 0 0 ∷
    []
