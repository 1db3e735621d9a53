use Rattle.parcels.specs.OneSegment.{passed_is, passed_left}
use Rattle.parcels.proofs.passing.passed.Goals as goal

pub returns : goal.returns
returns c =
    let a = c.args in
    record {
      told = passed_is a.kept a.segment.now a.next a.size c.requires.0 c.requires.1 c.keep_dialogue-dialogue.result c.keep_reference-reference.result c.one_more.result
          c.keep_dialogue-dialogue.ensures.told.0 c.keep_reference-reference.ensures.told.0 c.one_more.ensures c.requires.2;
      left = passed_left a.kept a.segment.now a.next a.size c.requires.0 c.requires.1 a.store.now c.keep_dialogue-dialogue.new.store c.keep_reference-reference.new.store
          c.keep_dialogue-dialogue.ensures.left c.keep_reference-reference.ensures.left;
    }
