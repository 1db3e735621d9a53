-- Some rows of a reading, gathered in a room of the reader's own: what is told of them.
-- Assumes nothing.
use Rattle.std.specs.Prelude.{Result, Ok, Err, ◌≡◌, refl, Bool, true, false, List, [], ◌∷◌, ◌++◌, ℕ, ◌+◌, ◌-◌, ◌*◌, ◌≤◌, ◌<◌, length, take}
use Rattle.std.proofs.Common.{sym, ap, ◌∙◌, subst, append-nil, arith}
use Rattle.laws.specs.Choice.{pick}
use Rattle.answers.specs.Answers.{Answer, done, refused, wrong_envelope}
use Rattle.answers.specs.declared.Refusal.{Refusal}
use Rattle.placing.specs.Tables.{tables}
use Rattle.steps.specs.declared.state.Phase.{Phase}
use Rattle.steps.specs.declared.state.State.{State}
use Rattle.interchange.specs.declared.gather.Gathered.{Gathered}
use Rattle.interchange.specs.declared.gather.Gathered.TheVariants.{Numbers, Full}
use Rattle.interchange.specs.Reader.{Outcome, accepted, fault, is_closed, turn_at, after_turn, read_on, numbers}
use Rattle.interchange.specs.Laws.{read_past, read_on_lem, read_accepted, read_stops}
use Rattle.interchange.specs.Fuel.{fuel_same}
use Rattle.interchange.specs.Gather.{Left, left_start, left_verdict}
use Rattle.interchange.specs.Moves.{Moved}
use Rattle.interchange.specs.Room.{room_size, full_from}

-- the reading from a state and an offset on
abbrev pub whole_from : List ℕ → State → ℕ → Outcome
whole_from s st at = read_on (length s + 1) s st at

-- all rows, or a fault
abbrev pub gathered_by : Answer ℕ → Result Gathered Refusal
gathered_by (done n) = Ok (Numbers n)
gathered_by (refused refusal) = Err refusal

-- what is told at the input's end
abbrev pub ended_at : Bool → ℕ → ℕ → Result Gathered Refusal
ended_at closed n size = gathered_by (pick closed (done n) (wrong_envelope size))

-- what is gathered of a reading: all its rows; those before the room was full, the rest being read from another state on; or its fault
pub record Filled (w rest : Outcome) (n : ℕ) (room : List ℕ) : Type 0 where
  pub verdict : rest.verdict ≡ w.verdict
  pub rows : take n room ++ numbers rest.rows ≡ numbers w.rows
  pub count : n + 3 * length rest.rows ≡ 3 * length w.rows

abbrev pub Chunk : List ℕ → State → ℕ → Result Gathered Refusal → List ℕ → Type 0
Chunk s st at (Ok (Numbers n)) room = Filled (whole_from s st at) (record { rows = []; verdict = accepted }) n room × (n ≤ room_size)
Chunk s st at (Ok (Full f)) room = Filled (whole_from s st at) (whole_from s f.state f.at) f.numbers room × (f.numbers ≤ room_size) × (f.at ≤ length s) × (4 * f.numbers + 3 * at ≤ 3 * f.at) × (full_from ≤ f.numbers)
Chunk s st at (Err x) room = (whole_from s st at).verdict ≡ refused x

pub chunk_as : (s : List ℕ) (st : State) (at : ℕ) (r x : Result Gathered Refusal) (room : List ℕ) → r ≡ x → Chunk s st at r room → Chunk s st at x room
chunk_as s st at r x room e c = subst (λ y. Chunk s st at y room) e c

module _ (s : List ℕ) (st₀ : State) (at₀ : ℕ) (room₀ : List ℕ) (st : State) (at n : ℕ) (room : List ℕ) (m : Moved s st₀ at₀ 0 room₀ st at n room) where
  abbrev whole : Outcome
  whole = whole_from s st₀ at₀

  abbrev enough : ℕ
  enough = (m.kept whole (length s + 1) (left_start s st₀ at₀ room₀)).0

  left : Left s enough st at n room whole
  left = (m.kept whole (length s + 1) (left_start s st₀ at₀ room₀)).1

  filled : (o : Outcome) → read_on enough s st at ≡ o → Filled whole o n room
  filled o e =
      let v = left in
      record {
        verdict = left_verdict s enough st at n room whole v o e;
        rows = ap (λ (x : Outcome). take n room ++ numbers x.rows) (sym e) ∙ v.rows;
        count = ap (λ (x : Outcome). n + 3 * length x.rows) (sym e) ∙ v.count;
      }

  module _ (h : at < length s) where
    pub chunk_past : is_closed st.phase ≡ true → Chunk s st₀ at₀ (gathered_by (wrong_envelope at)) room
    chunk_past c = sym (filled (fault (wrong_envelope at)) (read_past enough s st at h left.enough c)).verdict

    pub chunk_stop : is_closed st.phase ≡ false → (x : Refusal) → turn_at tables s st at ≡ Err x → Chunk s st₀ at₀ (Err x) room
    chunk_stop c x e =
        sym (filled (fault (refused x)) (read_on_lem enough s st at h left.enough c ∙ ap (after_turn (read_on (enough - 1) s)) e)).verdict

  module _ (h : length s ≤ at) (g : at ≤ length s) (k : n ≤ room_size) where
    pub chunk_ended : (b : Bool) → is_closed st.phase ≡ b → Chunk s st₀ at₀ (ended_at b n (length s)) room
    chunk_ended true c = (filled (record { rows = []; verdict = accepted }) (read_accepted enough s st at h g left.enough c), k)
    chunk_ended false c = sym (filled (fault (wrong_envelope (length s))) (read_stops enough s st at h g left.enough c)).verdict

  pub chunk_full : at ≤ length s → n ≤ room_size → full_from ≤ n → Chunk s st₀ at₀ (Ok (Full (record { state = st; at = at; numbers = n }))) room
  chunk_full g k f =
      let p = m.paced in
      (filled (whole_from s st at) (fuel_same s enough (length s + 1) st at g left.enough (omega arith)), k, g, omega arith, f)
