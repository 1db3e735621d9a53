use mathlib.Core.Path.{◌≡◌, sym, ap, ◌∙◌}
use mathlib.Core.Bool.{Bool}
use Prim.Native.Nat.{ℕ}
use Rattle.messages.specs.Types.{is_period}
use Rattle.syntax.specs.Segment.{tag_number}
use Rattle.steps.specs.Ways.{next_is, placed_uit, placed_period, placed_other}
use borrow.Author.Rules.{rules}
use Rattle.steps.proofs.step.take_segment.Goals.{After-is_period, After-tag_at-tag}
use Rattle.steps.proofs.step.take_segment.Goals as goal

module _ (u : After-is_period) where
  told : u.is_period.result ≡ is_period u.args.st.message (tag_number u.args.segment.now) u.args.group
  told =
      let a = u.args in
      u.is_period.ensures ∙ ap (λ (x : ℕ). is_period a.st.message x a.group) u.tag_at-tag.ensures

pub returns-then-tag-eq-UIT : goal.returns-then-tag-eq-UIT
returns-then-tag-eq-UIT c =
    let a = c.args in
    c.end_message.ensures ∙ placed_uit a.st a.at a.segment.now a.reference.now a.place a.group (sym c.tag_at-tag.ensures ∙ c.if-tag-eq-UIT.true)

pub returns-then-is_period : goal.returns-then-is_period
returns-then-is_period c =
    let a = c.args in
    c.judge_period.ensures
    ∙ placed_period a.st a.at a.segment.now a.reference.now a.place a.group (λ e. c.if-tag-eq-UIT.false (c.tag_at-tag.ensures ∙ e)) (sym (told (goal.at.returns-then-is_period c).After-is_period) ∙ c.if-is_period.true)

pub returns : goal.returns
returns c =
    let a = c.args in
    next_is c.onward.ensures c.row.ensures
    ∙ placed_other a.st a.at a.segment.now a.reference.now a.place a.group (λ e. c.if-tag-eq-UIT.false (c.tag_at-tag.ensures ∙ e)) (sym (told (goal.at.returns c).After-is_period) ∙ c.if-is_period.false)
