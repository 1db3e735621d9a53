-- `is_day_string` meets its contract: a character that is next is the first of what is left.
-- Assumes nothing.
use Rattle.std.proofs.Common.{◌∙◌}
use Rattle.syntax.specs.Bytes.{plain}
use Rattle.period.specs.Steps.{string_longer, string_below, string_above, string_goes, string_ends}
use Rattle.period.proofs.forms.is_day_string.Goals.{then-left-eq0-via-then-left-eq0, then-left-eq0-via-else-left-eq0+then-b-lt48, then-left-eq0-via-else-left-eq0+else-b-lt48+then-b-gt49}
use Rattle.period.proofs.forms.is_day_string.Goals as goal

pub returns-then-left-eq0 : goal.returns-then-left-eq0
returns-then-left-eq0 c =
    elim c.then-left-eq0.branch [
      | then-left-eq0-via-then-left-eq0 w ↦
          string_longer (plain c.loop-b.b-iterator.rest.now) (plain c.next.new.self.rest.now) c.in-Some.b c.in-Some.ensures.steps c.loop-b.left w.if-left-eq0.true ∙ c.loop-b.invariant
      | then-left-eq0-via-else-left-eq0+then-b-lt48 w ↦
          string_below (plain c.loop-b.b-iterator.rest.now) (plain c.next.new.self.rest.now) c.in-Some.b c.in-Some.ensures.steps c.loop-b.left w.if-b-lt48.true ∙ c.loop-b.invariant
      | then-left-eq0-via-else-left-eq0+else-b-lt48+then-b-gt49 w ↦
          string_above (plain c.loop-b.b-iterator.rest.now) (plain c.next.new.self.rest.now) c.in-Some.b c.in-Some.ensures.steps c.loop-b.left w.if-b-gt49.true ∙ c.loop-b.invariant
    ]

pub loop-b-preserved : goal.loop-b-preserved
loop-b-preserved c =
    string_goes (plain c.loop-b.b-iterator.rest.now) (plain c.next.new.self.rest.now) c.in-Some.b c.in-Some.ensures.steps c.loop-b.left c.if-left-eq0.false c.if-b-lt48.false c.if-b-gt49.false ∙ c.loop-b.invariant

pub returns : goal.returns
returns c =
    string_ends (plain c.loop-b.b-iterator.rest.now) c.in-None.ensures.steps.0 c.loop-b.left ∙ c.loop-b.invariant
