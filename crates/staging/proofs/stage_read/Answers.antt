-- `stage_read` meets its contract.
-- Assumes nothing.
use mathlib.Core.Path.{◌≡◌, sym, ap, subst, ◌∙◌}
use native.Mathlib.Omega.{arith}
use Prim.Native.Nat.{ℕ}
use lib.ListN.{length, replicate, length-replicate}
use Rattle.std.proofs.lemmas.Result.{err_from_is_err_and}
use Rattle.answers.specs.Answers.{refused}
use Rattle.services.specs.Services.{counted_answer}
use Rattle.interchange.specs.Reader.{read_answer}
use Rattle.staging.specs.Few.{Rows, read_refused, read_rows, few_rows}
use Rattle.staging.specs.Closing.{read_stops}
use Rattle.staging.proofs.stage_read.Goals.{In_ok-n}
use Rattle.staging.proofs.stage_read.Goals as goal

-- the rows that were read
module _ (n : In_ok-n) where
  accepts : Rows n.args.wish n.args.s.now n.in_ok-n.n n.read.new.rows
  accepts =
      let l : length {A = ℕ} (replicate 45000 0) ≡ 45000 = length-replicate {A = ℕ} 45000 0 in
      subst (Rows n.args.wish n.args.s.now n.in_ok-n.n) (sym n.read.ensures.left)
      (read_rows n.args.wish n.args.s.now (replicate 45000 0) l n.in_ok-n.n (sym n.read.ensures.told ∙ ap read_answer n.in_ok-n.was))

pub stage_rows-requires : goal.stage_rows-requires
stage_rows-requires c =
    let l : length {A = ℕ} (replicate 45000 0) ≡ 45000 = length-replicate {A = ℕ} 45000 0 in
    let w = (accepts (goal.at.stage_rows-requires c).In_ok-n).count in
    let h = few_rows c.args.s.now c.args.wish in
    (c.requires.0, c.requires.1, c.read.auto.rows ∙ l, omega arith)

pub returns : goal.returns
returns c =
    record {
      told = c.stage_rows.ensures.told c.args.wish (accepts (goal.at.returns c).In_ok-n);
      left = c.stage_rows.ensures.left c.args.wish (accepts (goal.at.returns c).In_ok-n);
    }

pub returns-in_err-n : goal.returns-in_err-n
returns-in_err-n c =
    let l : length {A = ℕ} (replicate 45000 0) ≡ 45000 = length-replicate {A = ℕ} 45000 0 in
    let y = c.in_err-n.field-0.0 in
    let p = err_from_is_err_and c.from_residual.result c.from_residual.ensures.1 in
    let both = read_stops c.args.b.now c.args.account c.requires.0 c.requires.1 c.args.wish c.args.s.now y
    (read_refused c.args.wish c.args.s.now (replicate 45000 0) l y (sym c.read.ensures.told ∙ ap read_answer c.in_err-n.was)) in
    record { told = ap counted_answer p.1 ∙ ap refused p.2 ∙ both.0; left = both.1 }
