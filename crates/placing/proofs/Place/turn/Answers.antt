-- `placing::Place::turn` meets its contract. Assumes nothing.
use mathlib.Core.Path.{◌≡◌, sym, ap, ◌∙◌}
use Rattle.std.proofs.Common.{Some, None, Break, Continue}
use Rattle.placing.specs.Reading.{Reading, turn_by, turn_of}
use Rattle.placing.proofs.Walks.{turn_again, turn_later}
use Rattle.placing.proofs.Place.turn.Goals.{After-in_group}
use Rattle.placing.proofs.Place.turn.Goals as goal

-- what the later places come to is what the level comes to
later_is : (o : After-in_group) (g : Reading) → o.in_group.result ≡ g → turn_by o.args.self o.args.level None g ≡ turn_of o.args.table.now o.args.self o.args.tag o.args.level o.args.row
later_is o g e =
    let a = o.args in
    turn_later a.table.now a.self a.tag a.level a.row o.once_more-again.result o.depth_below.result o.after-next.result o.end-last.result g
    o.once_more-again.ensures (sym o.is_some.ensures ∙ o.if-is_some.false) o.depth_below.ensures o.after-next.ensures o.end-last.ensures (sym o.in_group.ensures ∙ e)

pub returns-then-is_some : goal.returns-then-is_some
returns-then-is_some c =
    let a = c.args in
    sym (turn_again a.table.now a.self a.tag a.level a.row c.once_more-again.result c.once_more-again.ensures (sym c.is_some.ensures ∙ c.if-is_some.true))

pub returns-in-Break-Some : goal.returns-in-Break-Some
returns-in-Break-Some c =
    rw c.placed.ensures (later_is (goal.at.returns-in-Break-Some c).After-in_group (Break (Some c.in-Break-Some.fit)) (c.in-Break-Some.is ∙ ap Break c.in-Break-Some.field-0-is))

pub returns-in-Break-None : goal.returns-in-Break-None
returns-in-Break-None c =
    later_is (goal.at.returns-in-Break-None c).After-in_group (Break None) (c.in-Break-None.is ∙ ap Break c.in-Break-None.field-0-is)

pub returns-in-Continue : goal.returns-in-Continue
returns-in-Continue c = later_is (goal.at.returns-in-Continue c).After-in_group (Continue tt) c.in-Continue.is
