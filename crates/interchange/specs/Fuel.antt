-- How many segments a reading may still take does not matter, where they are enough.
-- Assumes nothing.
use Rattle.std.specs.Prelude.{Result, Ok, Err, ◌≡◌, refl, Bool, true, false, List, ℕ, zero, suc, ◌+◌, ◌-◌, ◌≤◌, ◌<◌, length}
use Rattle.std.proofs.Common.{sym, ap, ◌∙◌, arith, lt-ltb}
use Rattle.std.proofs.Math.Decide.{dec_lt}
use Rattle.laws.specs.Choice.{choose}
use Rattle.placing.specs.Tables.{tables}
use Rattle.answers.specs.declared.Refusal.{Refusal}
use Rattle.steps.specs.declared.state.State.{State}
use Rattle.steps.specs.declared.state.Row.{Row}
use Rattle.interchange.specs.declared.turn.Turn.{Turn}
use Rattle.interchange.specs.Reader.{Outcome, before, is_closed, turn_at, after_turn, read_on}
use Rattle.interchange.specs.Laws.{read_past, read_accepted, read_stops}
use Rattle.interchange.specs.Offsets.{turn_on}

module _ (s : List ℕ) where
  steps : (f : ℕ) (st : State) (at : ℕ) → at < length s → is_closed st.phase ≡ false
      → read_on (suc f) s st at ≡ after_turn (read_on f s) (turn_at tables s st at)
  unfolding read_on
  steps f st at h c = rw (lt-ltb at (length s) h, c)

  -- after a turn that is the same, what follows is the same
  turn_same : (f g : ℕ) → ((st : State) (at : ℕ) → at ≤ length s → length s < at + f → length s < at + g → read_on f s st at ≡ read_on g s st at)
      → (st : State) (at : ℕ) → length s < at + suc f → length s < at + suc g → (x : Result Turn Refusal) → turn_at tables s st at ≡ x
      → after_turn (read_on f s) x ≡ after_turn (read_on g s) x
  turn_same f g h st at a b (Ok t) e =
      let w = turn_on tables s st at t.state t.row t.then e in
      ap (before t.row) (h t.state t.then w.2 (omega arith) (omega arith))
  turn_same f g h st at a b (Err x) e = refl

  pub fuel_same : (f g : ℕ) (st : State) (at : ℕ) → at ≤ length s → length s < at + f → length s < at + g → read_on f s st at ≡ read_on g s st at
  fuel_same zero g st at h a b = absurd (omega arith)
  fuel_same (suc f) zero st at h a b = absurd (omega arith)
  fuel_same (suc f) (suc g) st at h a b =
      elim (dec_lt at (length s)) [
        | yes l ↦
            choose (is_closed st.phase)
            (λ c. read_past (suc f) s st at l a c ∙ sym (read_past (suc g) s st at l b c))
            (λ c.
            steps f st at l c
            ∙ turn_same f g (λ st at. fuel_same f g st at) st at a b (turn_at tables s st at) refl
            ∙ sym (steps g st at l c))
        | no l ↦
            choose (is_closed st.phase)
            (λ c. read_accepted (suc f) s st at (omega arith) h a c ∙ sym (read_accepted (suc g) s st at (omega arith) h b c))
            (λ c. read_stops (suc f) s st at (omega arith) h a c ∙ sym (read_stops (suc g) s st at (omega arith) h b c))
      ]
