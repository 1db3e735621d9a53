use mathlib.Core.Path.{sym, ◌∙◌}
use Rattle.parts.specs.Places.{bytes_of}
use Rattle.arrival.specs.Arrived.{opens}
use Rattle.parcel_store.specs.Store.{dialogue_place}
use Rattle.parcels.specs.OneSegment.{not_kept, kept_now, text_short}
use Rattle.parcels.proofs.passing.keep_dialogue.Goals as goal

pub returns-then-not-opens : goal.returns-then-not-opens
returns-then-not-opens c =
    let t = not_kept (opens c.args.kept.state.phase) c.args.store.now dialogue_place (bytes_of c.args.segment.now c.args.next.dialogue) c.args.kept.dialogue
    (sym c.opens.ensures ∙ c.if-not-opens.true) c.requires.1 in
    record { told = t.0; left = t.1 }

pub put_part-requires : goal.put_part-requires
put_part-requires c =
    text_short c.args.segment.now c.bytes_of-text.result.now c.args.next.dialogue c.bytes_of-text.ensures c.requires.0

pub returns : goal.returns
returns c =
    let t = kept_now (opens c.args.kept.state.phase) c.args.store.now dialogue_place c.args.segment.now c.bytes_of-text.result.now c.args.next.dialogue c.args.kept.dialogue c.put_part.new.store
    (sym c.opens.ensures ∙ c.if-not-opens.false) c.bytes_of-text.ensures c.requires.0 c.put_part.ensures in
    record { told = t.0; left = t.1 }
