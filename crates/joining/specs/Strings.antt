-- A day string with no release in it: its bytes are the characters of its days, and past them no day runs.
-- Assumes nothing.
use Rattle.std.specs.Prelude.{◌≡◌, Bool, true, List, ℕ, ◌+◌, ◌-◌, ◌≤◌, min, eqb, length, get_or}
use Rattle.std.proofs.Common.{sym, ap, ◌∙◌, arith}
use Rattle.std.proofs.Math.ListN.{get_or-eq_default}
use Rattle.laws.specs.Choice.{all, all_weaker}
use Rattle.syntax.specs.Bytes.{plain}
use Rattle.syntax.specs.Pieces.{part_of}
use Rattle.free_texts.specs.Free.{numeric, plain_all, no_release}
use Rattle.period.specs.Period.{zero_or_one, day_text}
use Rattle.period.specs.Pops.{day_numeric}
use Rattle.joining.specs.Joined.{marked}
use Rattle.joining.specs.Marks.{mark_none}
use Rattle.joining.specs.Eights.{mark_on}

-- the days that a text tells
abbrev pub runs_on : List ℕ → ℕ → Bool
runs_on t k = eqb (get_or t k 0) 49

module _ (g p : List ℕ) (e : p ≡ part_of g 1 1 4) (d : all zero_or_one p ≡ true) where
  pub bare_text : day_text g ≡ p
  bare_text = sym (ap plain e) ∙ plain_all p (no_release p (all_weaker zero_or_one numeric p day_numeric d))

  -- marking the days that it has characters for marks all that run
  pub bare_marked : (c : List ℕ) (at n : ℕ) {last : List ℕ} → length (day_text g) ≤ n → last ≡ marked (runs_on p) c at 0 (length p)
      → last ≡ marked (runs_on (day_text g)) c at 0 n
  bare_marked c at n {last} h l =
      let u = ap length bare_text in
      let v : length p ≡ min (length p) (n - 0) = omega arith in
      let w : n - 0 ≡ n = omega arith in
      sym (mark_none (runs_on p) at last (0 + length p) (n - (0 + length p)) (λ j k. ap (λ (x : ℕ). eqb x 49) (get_or-eq_default p 0 (omega arith))))
      ∙ mark_on (runs_on p) at c 0 (length p) n (l ∙ ap (marked (runs_on p) c at 0) v)
      ∙ ap (marked (runs_on p) c at 0) w
      ∙ ap (λ (t : List ℕ). marked (runs_on t) c at 0 n) (sym bare_text)
