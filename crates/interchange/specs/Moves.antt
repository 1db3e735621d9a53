-- A reading moved on: what was left from one state on is what is left from another.
-- Assumes nothing.
use Rattle.std.specs.Prelude.{◌≡◌, refl, true, false, List, ◌++◌, ℕ, ◌+◌, ◌-◌, ◌*◌, ◌≤◌, ◌<◌, length, take}
use Rattle.std.proofs.Common.{sym, ap, ◌∙◌, arith}
use Rattle.placing.specs.Tables.{tables}
use Rattle.steps.specs.declared.state.State.{State}
use Rattle.steps.specs.declared.state.Row.{Row}
use Rattle.interchange.specs.Reader.{Outcome, is_closed, turn_at, goes_on}
use Rattle.interchange.specs.Laws.{put_row, length_put_row}
use Rattle.interchange.specs.Offsets.{turn_on}
use Rattle.interchange.specs.Gather.{Left, left_step}

-- from a state, an offset and so many numbers gathered to others: three numbers a segment, each of four bytes at least
pub record Moved (s : List ℕ) (st : State) (at n : ℕ) (room : List ℕ) (st₁ : State) (at₁ n₁ : ℕ) (room₁ : List ℕ) : Type 0 where
  pub kept : (w : Outcome) (f : ℕ) → Left s f st at n room w → (g : ℕ) × Left s g st₁ at₁ n₁ room₁ w
  pub within : at ≤ length s → at₁ ≤ length s
  pub paced : 4 * n₁ + 3 * at ≤ 3 * at₁ + 4 * n
  pub onward : n ≤ n₁
  pub sized : length room₁ ≡ length room

pub moved_none : (s : List ℕ) (st : State) (at n : ℕ) (room : List ℕ) → Moved s st at n room st at n room
moved_none s st at n room = record { kept = λ w f v. (f, v); within = λ h. h; paced = omega arith; onward = omega arith; sized = refl }

pub moved_both : (s : List ℕ) {st st₁ st₂ : State} {at at₁ at₂ n n₁ n₂ : ℕ} {room room₁ room₂ : List ℕ}
    → Moved s st at n room st₁ at₁ n₁ room₁ → Moved s st₁ at₁ n₁ room₁ st₂ at₂ n₂ room₂ → Moved s st at n room st₂ at₂ n₂ room₂
moved_both s a b =
    record {
      kept = λ w f v. let x = a.kept w f v in b.kept w x.0 x.1;
      within = λ h. b.within (a.within h);
      paced = let p = a.paced in let q = b.paced in omega arith;
      onward = let p = a.onward in let q = b.onward in omega arith;
      sized = b.sized ∙ a.sized;
    }

-- by one turn, its row put behind those that stand
pub moved_turn : (s : List ℕ) (st : State) (at n : ℕ) (room : List ℕ) (next : State) (r : Row) (then : ℕ) → is_closed st.phase ≡ false → at < length s
    → turn_at tables s st at ≡ goes_on next r then → n + 2 < length room → Moved s st at n room next then (n + 3) (put_row room n r)
moved_turn s st at n room next r then c h e k =
    let p = turn_on tables s st at next r then e in
    record {
      kept = λ w f v. (f - 1, left_step s f st at n room w v h c next r then e p.1 k);
      within = λ _. p.2;
      paced = omega arith;
      onward = omega arith;
      sized = length_put_row room n r;
    }

pub moved_as : (s : List ℕ) {st st₁ st₂ : State} {at n at₁ n₁ : ℕ} {room room₁ room₂ : List ℕ} → st₂ ≡ st₁ → room₂ ≡ room₁
    → Moved s st at n room st₁ at₁ n₁ room₁ → Moved s st at n room st₂ at₁ n₁ room₂
moved_as s e f m = rw (e, f) m
