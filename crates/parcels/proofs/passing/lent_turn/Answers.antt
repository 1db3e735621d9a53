use Rattle.placing.specs.Tables.{tables}
use Rattle.parcel_store.specs.Store.{stand_of}
use Rattle.parcels.specs.OneSegment.{turn_lent}
use Rattle.parcels.proofs.passing.lent_turn.Goals as goal

pub returns : goal.returns
returns c =
    let stand = stand_of c.args.kept c.args.store.now in
    turn_lent c.args.segment.now c.args.kept.state c.tables-all.result tables c.bytes_of-dialogue.result.now stand.dialogue c.bytes_of-reference.result.now stand.reference
    c.turn_with.result c.turn_with.ensures c.tables-all.ensures c.bytes_of-dialogue.ensures c.bytes_of-reference.ensures
