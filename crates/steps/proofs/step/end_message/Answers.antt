use mathlib.Core.Path.{◌≡◌, sym, ap, ◌∙◌}
use mathlib.Core.Bool.{Bool}
use Prim.Native.Nat.{ℕ}
use Rattle.envelope.specs.Envelope.{uit_of}
use Rattle.steps.specs.State.{one_more}
use Rattle.steps.specs.Ways.{next_is, trailing_good, trailing_wrong}
use borrow.Author.Rules.{rules}
use Rattle.steps.proofs.step.end_message.Goals.{After-check_uit}
use Rattle.steps.proofs.step.end_message.Goals as goal

-- what the test told, of the count that was handed over
module _ (u : After-check_uit) where
  told : u.check_uit.result ≡ uit_of u.args.segment.now u.args.reference.now (one_more u.args.st.segments)
  told =
      let a = u.args in
      u.check_uit.ensures.uit ∙ ap (uit_of a.segment.now a.reference.now) u.one_more.ensures

pub returns-then-check_uit : goal.returns-then-check_uit
returns-then-check_uit c =
    let a = c.args in
    next_is c.ended.ensures c.row.ensures
    ∙ trailing_good a.st a.at a.segment.now a.reference.now a.place a.group (sym (told (goal.at.returns-then-check_uit c).After-check_uit) ∙ c.if-check_uit.true)

pub returns : goal.returns
returns c =
    let a = c.args in
    c.refused.ensures ∙ trailing_wrong a.st a.at a.segment.now a.reference.now a.place a.group (sym (told (goal.at.returns c).After-check_uit) ∙ c.if-check_uit.false)
