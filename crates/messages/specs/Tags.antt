-- The tags that stand in the tables and in the envelope: a tag is its three bytes as one number. Assumes nothing.
use Rattle.std.specs.Prelude.{ℕ, ◌+◌, ◌*◌}
use Prim.Native.Char.{code}
use Prim.Native.String.{String, [], ◌∷◌}

-- the bytes of a text behind those that are in a number already
abbrev pub behind : ℕ → String → ℕ
behind n [] = n
behind n (c ∷ text) = behind (n * 256 + code c) text

abbrev pub tag_of : String → ℕ
tag_of text = behind 0 text

abbrev pub ADS : ℕ
ADS = tag_of "ADS"

abbrev pub ALS : ℕ
ALS = tag_of "ALS"

abbrev pub ASD : ℕ
ASD = tag_of "ASD"

abbrev pub CNY : ℕ
CNY = tag_of "CNY"

abbrev pub CON : ℕ
CON = tag_of "CON"

abbrev pub DTI : ℕ
DTI = tag_of "DTI"

abbrev pub ERI : ℕ
ERI = tag_of "ERI"

abbrev pub FRQ : ℕ
FRQ = tag_of "FRQ"

abbrev pub HDR : ℕ
HDR = tag_of "HDR"

abbrev pub IFT : ℕ
IFT = tag_of "IFT"

abbrev pub LNG : ℕ
LNG = tag_of "LNG"

abbrev pub MES : ℕ
MES = tag_of "MES"

abbrev pub MSD : ℕ
MSD = tag_of "MSD"

abbrev pub NME : ℕ
NME = tag_of "NME"

abbrev pub ODI : ℕ
ODI = tag_of "ODI"

abbrev pub ORG : ℕ
ORG = tag_of "ORG"

abbrev pub PDT : ℕ
PDT = tag_of "PDT"

abbrev pub POP : ℕ
POP = tag_of "POP"

abbrev pub POR : ℕ
POR = tag_of "POR"

abbrev pub PRD : ℕ
PRD = tag_of "PRD"

abbrev pub RFR : ℕ
RFR = tag_of "RFR"

abbrev pub RLS : ℕ
RLS = tag_of "RLS"

abbrev pub SER : ℕ
SER = tag_of "SER"

abbrev pub TCE : ℕ
TCE = tag_of "TCE"

abbrev pub TFF : ℕ
TFF = tag_of "TFF"

abbrev pub TIZ : ℕ
TIZ = tag_of "TIZ"

abbrev pub TRF : ℕ
TRF = tag_of "TRF"

abbrev pub UIB : ℕ
UIB = tag_of "UIB"

abbrev pub UIH : ℕ
UIH = tag_of "UIH"

abbrev pub UIT : ℕ
UIT = tag_of "UIT"

abbrev pub UIZ : ℕ
UIZ = tag_of "UIZ"
