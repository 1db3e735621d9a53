-- `parcels::end_answer` meets its contract.
-- Assumes nothing.
use mathlib.Core.Path.{ap, ◌∙◌}
use mathlib.Core.List.{List}
use Prim.Native.Nat.{ℕ, ◌+◌}
use native.Mathlib.Omega.{arith}
use lib.ListN.{length}
use Rattle.syntax.specs.Segment.{body_answer}
use Rattle.answers.specs.declared.Refusal.{Refusal}
use Rattle.answers.specs.Answers.{refused}
use Rattle.arrival.specs.Arrived.{given}
use Rattle.parcels.specs.CallLaws.{length_body, end_none, end_cut, end_closed, end_early}
use Rattle.parcels.proofs.end_answer.Goals as goal

pub returns-then-kept-eq0 : goal.returns-then-kept-eq0
returns-then-kept-eq0 c =
    ap (λ (r : Refusal). given (refused r)) c.at.ensures ∙ end_none c.args.kept c.args.store.now c.requires.0 c.requires.1 c.if-kept-eq0.true

pub cut_answer-requires : goal.cut_answer-requires
cut_answer-requires c =
    let l = ap length c.bytes_of-body.ensures ∙ length_body c.args.kept c.args.store.now c.requires.0 c.requires.1 in
    let s = c.requires.1.body in
    let o = c.requires.1.offset in
    (omega arith, o)

pub returns-then-kept-gt0 : goal.returns-then-kept-gt0
returns-then-kept-gt0 c =
    end_cut c.args.kept c.args.store.now c.requires.0 c.requires.1 c.if-kept-eq0.false (refused c.cut_answer.result) c.if-kept-gt0.true
    (c.cut_answer.ensures ∙ ap (λ (g : List ℕ). body_answer (c.args.kept.offset + length g) c.args.kept.offset g) c.bytes_of-body.ensures)

pub returns-then-is_closed : goal.returns-then-is_closed
returns-then-is_closed c =
    end_closed c.args.kept c.args.store.now c.requires.0 c.requires.1 c.if-kept-eq0.false c.is_closed.result (omega (arith, c.if-kept-gt0.false)) c.is_closed.ensures c.if-is_closed.true

pub returns : goal.returns
returns c =
    ap (λ (r : Refusal). given (refused r)) c.at-2.ensures ∙ end_early c.args.kept c.args.store.now c.requires.0 c.requires.1 c.if-kept-eq0.false c.is_closed.result (omega (arith, c.if-kept-gt0.false)) c.is_closed.ensures c.if-is_closed.false
