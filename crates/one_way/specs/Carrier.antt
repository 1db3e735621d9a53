-- A carrier's message, how it is drawn and where its segments stand. Assumes nothing; there is no proof here.
use Rattle.std.specs.Prelude.{List, [], ◌∷◌, ℕ}
use Rattle.messages.specs.Tags.{UIH, MSD, ORG, HDR, PRD, POP, ODI, IFT, UIT}
use Rattle.one_way.specs.Arrangement.{nothing, Arrangement, end, ◌▸◌, Where}
use Rattle.one_way.specs.Drawing.{alone, once, skip}

-- the message
abbrev pub carriers : List ℕ
carriers = UIH ∷ MSD ∷ ORG ∷ HDR ∷ PRD ∷ POP ∷ ODI ∷ IFT ∷ UIT ∷ []

-- group 9: ODI, PDT, IFT, TRF, TFF, ASD, group 10
unfoldable pub pair : Arrangement
pair = alone ODI ▸ nothing ▸ alone IFT ▸ skip 4 end

-- group 4: POP, PDT, IFT, TRF, ASD, FRQ, groups 5, 6, 7 and 9
unfoldable pub period : Arrangement
period = alone POP ▸ skip 8 (once pair ▸ end)

-- group 2: PRD, PDT, IFT, TRF, ASD, MSD, RFR, groups 3 and 4
unfoldable pub service : Arrangement
service = alone PRD ▸ skip 7 (once period ▸ end)

-- UIH, MSD, ORG, HDR, IFT, RFR, groups 1 and 2, UIT
unfoldable pub drawn : Arrangement
drawn = alone UIH ▸ alone MSD ▸ alone ORG ▸ alone HDR ▸ skip 3 (once service ▸ alone UIT ▸ end)

-- where its segments stand: the IFT in row 47, for the first time, in the first group 9 of the first group 4 of the first group 2

abbrev pub in_service : Where
in_service = (10, 1) ∷ []

abbrev pub in_period : Where
in_period = (21, 1) ∷ in_service

abbrev pub in_pair : Where
in_pair = (44, 1) ∷ in_period

abbrev pub carriers_places : List Where
carriers_places =
    ((0, 1) ∷ [])
    ∷ ((1, 1) ∷ [])
    ∷ ((2, 1) ∷ [])
    ∷ ((3, 1) ∷ [])
    ∷ ((11, 1) ∷ in_service)
    ∷ ((22, 1) ∷ in_period)
    ∷ ((45, 1) ∷ in_pair)
    ∷ ((47, 1) ∷ in_pair)
    ∷ ((54, 1) ∷ [])
    ∷ []
