use mathlib.Core.Path.{sym, ◌∙◌}
use Rattle.parts.specs.Places.{bytes_of}
use Rattle.arrival.specs.Arrived.{heads}
use Rattle.parcel_store.specs.Store.{reference_place}
use Rattle.parcels.specs.OneSegment.{not_kept, kept_now, text_short}
use Rattle.parcels.proofs.passing.keep_reference.Goals as goal

pub returns-then-not-heads : goal.returns-then-not-heads
returns-then-not-heads c =
    let t = not_kept (heads c.args.kept.state.phase c.args.next.phase) c.args.store.now reference_place (bytes_of c.args.segment.now c.args.next.reference) c.args.kept.reference
    (sym c.heads.ensures ∙ c.if-not-heads.true) c.requires.1 in
    record { told = t.0; left = t.1 }

pub put_part-requires : goal.put_part-requires
put_part-requires c =
    text_short c.args.segment.now c.bytes_of-text.result.now c.args.next.reference c.bytes_of-text.ensures c.requires.0

pub returns : goal.returns
returns c =
    let t = kept_now (heads c.args.kept.state.phase c.args.next.phase) c.args.store.now reference_place c.args.segment.now c.bytes_of-text.result.now c.args.next.reference c.args.kept.reference c.put_part.new.store
    (sym c.heads.ensures ∙ c.if-not-heads.false) c.bytes_of-text.ensures c.requires.0 c.put_part.ensures in
    record { told = t.0; left = t.1 }
