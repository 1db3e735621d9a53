-- Runs of plain text, which a scan passes over at once.
-- Assumes nothing.
use Rattle.std.specs.Prelude.{◌≡◌, true, false, List, [], ◌∷◌, ℕ, suc, ◌+◌, ◌≤◌, ◌<◌, length, get_or, drop}
use Rattle.std.proofs.Common.{add-one, arith, drop_of_length-le}
use Rattle.std.proofs.Math.Seq.{drop-cons}
use Rattle.laws.specs.Choice.{pick}
use Rattle.syntax.specs.Bytes.{plain_text}

-- how many bytes of plain text a list begins with
unfoldable pub text_run : List ℕ → ℕ
text_run [] = 0
text_run (b ∷ l) = pick (plain_text b) (suc (text_run l)) 0

pub run_past : (s : List ℕ) (i : ℕ) → length s ≤ i → text_run (drop i s) ≡ 0
unfolding text_run
run_past s i h = rw (drop_of_length-le s)

module _ (s : List ℕ) (i : ℕ) (h : i < length s) where
  pub run_on : plain_text (get_or s i 0) ≡ true → i + text_run (drop i s) ≡ i + 1 + text_run (drop (i + 1) s)
  unfolding text_run
  run_on p = rw (add-one, drop-cons s i 0, p) (omega arith)

  pub run_ends : plain_text (get_or s i 0) ≡ false → text_run (drop i s) ≡ 0
  unfolding text_run
  run_ends p = rw (drop-cons s i 0, p)
