-- What is left of a reading while its rows are gathered.
-- Assumes nothing.
use Rattle.std.specs.Prelude.{◌≡◌, refl, Bool, true, false, List, [], ◌∷◌, ◌++◌, ℕ, zero, suc, ◌+◌, ◌-◌, ◌*◌, ◌≤◌, ◌<◌, length, take}
use Rattle.std.proofs.Common.{sym, ap, ◌∙◌, arith}
use Rattle.placing.specs.Tables.{tables}
use Rattle.steps.specs.declared.state.State.{State}
use Rattle.steps.specs.declared.state.Row.{Row}
use Rattle.interchange.specs.declared.turn.Turn.{Turn}
use Rattle.interchange.specs.Reader.{Outcome, before, is_closed, turn_at, after_turn, read_on, numbers, goes_on}
use Rattle.interchange.specs.Laws.{read_on_lem, put_row, rows_step}

-- what is left from a state and an offset on leads to the whole reading w, n numbers being gathered
pub record Left (s : List ℕ) (f : ℕ) (st : State) (at n : ℕ) (room : List ℕ) (w : Outcome) : Type 0 where
  pub enough : length s < at + f
  pub verdict : (read_on f s st at).verdict ≡ w.verdict
  pub rows : take n room ++ numbers (read_on f s st at).rows ≡ numbers w.rows
  pub count : n + 3 * length (read_on f s st at).rows ≡ 3 * length w.rows

pub left_start : (s : List ℕ) (st : State) (at : ℕ) (room : List ℕ) → Left s (length s + 1) st at 0 room (read_on (length s + 1) s st at)
left_start s st at room = record { enough = omega arith; verdict = refl; rows = refl; count = omega arith }

module _ (s : List ℕ) (f : ℕ) (st : State) (at n : ℕ) (room : List ℕ) (w : Outcome) (v : Left s f st at n room w) where
  pub left_verdict : (o : Outcome) → read_on f s st at ≡ o → o.verdict ≡ w.verdict
  left_verdict o e = sym (ap (λ (x : Outcome). x.verdict) e) ∙ v.verdict

  pub left_step : at < length s → is_closed st.phase ≡ false → (next : State) (r : Row) (then : ℕ)
      → turn_at tables s st at ≡ goes_on next r then → at + 4 ≤ then → n + 2 < length room
      → Left s (f - 1) next then (n + 3) (put_row room n r) w
  left_step h c next r then e g k =
      let q = read_on_lem f s st at h v.enough c ∙ ap (after_turn (read_on (f - 1) s)) e in
      let m = v.enough in
      let o = read_on (f - 1) s next then in
      let y = ap (λ (x : Outcome). length x.rows) q in
      let z = v.count in
      record {
        enough = omega arith;
        verdict = left_verdict (before r o) q;
        rows = rows_step room n r o.rows k ∙ ap (λ (x : Outcome). take n room ++ numbers x.rows) (sym q) ∙ v.rows;
        count = omega arith;
      }
