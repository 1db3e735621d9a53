-- Where a run of bytes that are passed over led.
-- Assumes nothing.
use Rattle.std.specs.Prelude.{◌≡◌, Option, Some, None, List, ℕ, ◌≤◌, ◌<◌, length}
use Rattle.std.proofs.Common.{subst}
use Rattle.syntax.specs.Found.{end_from}
use Rattle.syntax.specs.declared.ends.Run.{Run}
use Rattle.syntax.specs.declared.ends.Run.TheVariants.{Stops, Left}

-- the segment ends where it does from there on; where the run stops there is a byte
abbrev pub RunTold : List ℕ → ℕ → Run → Type 0
RunTold s from (Stops j) = (from ≤ j) × (j < length s) × (end_from s j ≡ end_from s from)
RunTold s from (Left j) = (from ≤ j) × (end_from s j ≡ end_from s from)

pub stops_known : (s : List ℕ) (from : ℕ) {r : Run} {j : ℕ} → RunTold s from r → r ≡ Stops j → (from ≤ j) × (j < length s) × (end_from s j ≡ end_from s from)
stops_known s from t q = subst (RunTold s from) q t

pub left_known : (s : List ℕ) (from : ℕ) {r : Run} {j : ℕ} → RunTold s from r → r ≡ Left j → (from ≤ j) × (end_from s j ≡ end_from s from)
left_known s from t q = subst (RunTold s from) q t

-- where one byte is passed: the segment ends where it does from there on, or nowhere
abbrev pub PastTold : List ℕ → ℕ → Option ℕ → Type 0
PastTold s j (Some k) = (j < k) × (end_from s k ≡ end_from s j)
PastTold s j None = end_from s j ≡ length s
