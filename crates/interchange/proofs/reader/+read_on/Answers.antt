use Rattle.answers.specs.Answers.{refused}
-- `read_on` meets its contract: what was gathered is a part of what the whole comes to, and the rest is read behind it.
use Rattle.std.proofs.Common.{◌≡◌, ◌+◌, ◌≤◌, length, ℕ, List, [], sym, ap, ◌∙◌, arith}
use Rattle.steps.specs.declared.state.State.{State}
use Rattle.interchange.specs.declared.gather.Gathered.{Gathered}
use Rattle.interchange.specs.declared.gather.Gathered.TheVariants.{Numbers, Full}
use Rattle.std.specs.Prelude.{Result, Ok, Err}
use Rattle.std.proofs.lemmas.Result.{err_from_is_err_and}
use Rattle.answers.specs.declared.Refusal.{Refusal}
use Rattle.interchange.specs.Reader.{Outcome, accepted, read_answer}
use Rattle.interchange.specs.Room.{room_size}
use Rattle.interchange.specs.Chunks.{whole_from, Filled, Chunk, chunk_as}
use Rattle.interchange.specs.Answers.{Behind, behind_fault, behind_short, behind_rows, behind_refused, behind_full, behind_fits}
use Rattle.interchange.proofs.reader.+read_on.Goals.{In-Numbers, After-read_on}
use Rattle.interchange.proofs.reader.+read_on.Goals as goal

-- all rows are gathered
all : (t : ℕ) (k : In-Numbers t)
    → Filled (whole_from k.args.s.now k.args.from.state k.args.from.at) (record { rows = []; verdict = accepted }) k.in-Numbers.n k.gather.new.room × (k.in-Numbers.n ≤ room_size)
all t k =
    chunk_as k.args.s.now k.args.from.state k.args.from.at k.gather.result (Ok (Numbers k.in-Numbers.n)) k.gather.new.room (k.in_ok-gathered.was ∙ ap Ok k.in-Numbers.is) k.gather.ensures.0

-- the rest was read
module _ (t : ℕ) (r : After-read_on t) where
  part : Chunk r.args.s.now r.args.from.state r.args.from.at (Ok (Full r.in-Full.full)) r.gather.new.room
  part =
      chunk_as r.args.s.now r.args.from.state r.args.from.at r.gather.result (Ok (Full r.in-Full.full)) r.gather.new.room (r.in_ok-gathered.was ∙ ap Ok r.in-Full.is) r.gather.ensures.0

  abbrev rest : Outcome
  rest = whole_from r.args.s.now r.in-Full.full.state r.in-Full.full.at

  told : (x : Result ℕ Refusal) → r.read_on.result ≡ x → Behind (r.args.from.numbers + r.in-Full.full.numbers) rest r.args.rows.now (read_answer x) r.read_on.new.rows
  told x e = let b = r.read_on.ensures in (sym (ap read_answer e) ∙ b.0, b.1)

pub returns-then-rows-behind : goal.returns-then-rows-behind
returns-then-rows-behind t c =
    let a = c.args in
    let b = behind_short a.from.numbers (whole_from a.s.now a.from.state a.from.at) a.rows.now c.in-Numbers.n c.gather.new.room
    (all t (goal.at.returns-then-rows-behind t c).In-Numbers).0 c.if-rows-behind.true in
    (ap refused c.at.ensures ∙ b.0, b.1)

pub returns-else-rows-behind : goal.returns-else-rows-behind
returns-else-rows-behind t c =
    let a = c.args in
    let b = behind_rows a.from.numbers (whole_from a.s.now a.from.state a.from.at) a.rows.now c.in-Numbers.n c.gather.new.room
    (all t (goal.at.returns-else-rows-behind t c).In-Numbers).0 c.if-rows-behind.false in
    (b.0, c.copy_rows.ensures ∙ b.1)

pub returns-in_ok-m-in-Full : goal.returns-in_ok-m-in-Full
returns-in_ok-m-in-Full t c =
    let a = c.args in
    let r = (goal.at.returns-in_ok-m-in-Full t c).After-read_on in
    let z = c.gather.ensures.1 in
    let p = (part t r).1 in
    let b = behind_full a.from.numbers (whole_from a.s.now a.from.state a.from.at) a.rows.now c.in-Full.full.numbers c.gather.new.room (rest t r) (part t r).0 c.in_ok-m-in-Full.m c.read_on.new.rows
    (told t r (Ok c.in_ok-m-in-Full.m) c.in_ok-m-in-Full.was) (omega arith) in
    (b.0, c.copy_rows-in-Full.ensures ∙ b.1)

pub returns-in_err-m-in-Full : goal.returns-in_err-m-in-Full
returns-in_err-m-in-Full t c =
    let a = c.args in
    let r = (goal.at.returns-in_err-m-in-Full t c).After-read_on in
    let q = err_from_is_err_and c.from_residual-in_err-m-in-Full.result c.from_residual-in_err-m-in-Full.ensures.1 in
    rw (q.1, q.2)
    (behind_refused a.from.numbers (whole_from a.s.now a.from.state a.from.at) a.rows.now c.in-Full.full.numbers c.gather.new.room (rest t r) (part t r).0 c.in_err-m-in-Full.field-0.0 c.read_on.new.rows
    (told t r (Err c.in_err-m-in-Full.field-0.0) c.in_err-m-in-Full.was))
