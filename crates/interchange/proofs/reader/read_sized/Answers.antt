use borrow.Author.Rules.{rules}
use mathlib.Core.Path.{ap}
use Rattle.steps.specs.declared.state.State.{State}
use Rattle.steps.specs.State.{opening_state}
use Rattle.interchange.specs.Reader.{read_answer}
use Rattle.interchange.specs.Chunks.{whole_from}
use Rattle.interchange.specs.Answers.{right_same, right_behind}
use Rattle.interchange.proofs.reader.read_sized.Goals as goal

pub returns : goal.returns
returns c =
    let a = c.args in
    let list = a.s.now in
    let lent = a.rows.now in
    let after = c.read_on.new.rows in record {
      told = (right_same (whole_from list c.opening.result 0) (whole_from list (opening_state a.wish) 0) lent (read_answer c.read_on.result) after
          (ap (λ (st : State). whole_from list st 0) c.opening.ensures)
          (right_behind (whole_from list c.opening.result 0) lent (read_answer c.read_on.result) after c.read_on.ensures)).0;
      left = (right_same (whole_from list c.opening.result 0) (whole_from list (opening_state a.wish) 0) lent (read_answer c.read_on.result) after
          (ap (λ (st : State). whole_from list st 0) c.opening.ensures)
          (right_behind (whole_from list c.opening.result 0) lent (read_answer c.read_on.result) after c.read_on.ensures)).1;
    }
