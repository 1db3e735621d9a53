-- `parcels::finish` meets its contract.
-- Assumes nothing.
use mathlib.Core.Path.{ap, sym, ◌∙◌}
use native.Mathlib.Omega.{arith}
use Rattle.answers.specs.Answers.{refused}
use Rattle.interchange.specs.Reader.{read_answer}
use Rattle.arrival.specs.Arrived.{awaited_end}
use Rattle.parcel_store.specs.Store.{stand_of}
use Rattle.parcels.specs.CallLaws.{finish_other, finish_given, finish_open, sized_loaded, awaited_is, given_final}
use Rattle.parcels.proofs.finish.Goals as goal

pub returns-then-store-ne-STORE : goal.returns-then-store-ne-STORE
returns-then-store-ne-STORE c =
    let t = finish_other c.args.store.now c.if-store-ne-STORE.true in
    record { told = ap refused c.at.ensures ∙ t.0; left = t.1 }

pub final_reading-requires : goal.final_reading-requires
final_reading-requires c = sym c.is_awaited.ensures ∙ c.if-not-is_awaited.true

pub returns-then-not-is_awaited : goal.returns-then-not-is_awaited
returns-then-not-is_awaited c =
    let t = finish_given c.args.store.now c.load-kept.result (read_answer c.final_reading.result) c.if-store-ne-STORE.false c.load-kept.ensures
    (sym c.is_awaited.ensures ∙ c.if-not-is_awaited.true) c.final_reading.ensures in
    record { told = t.0; left = t.1 }

pub end_answer-last-requires : goal.end_answer-last-requires
end_answer-last-requires c =
    (c.if-store-ne-STORE.false, sized_loaded c.args.store.now c.load-kept.result c.load-kept.ensures (λ i. omega (arith, c.slice_known-1.given i)))

pub final_reading-requires-2 : goal.final_reading-requires-2
final_reading-requires-2 c =
    given_final c.end_answer-last.result c.load-kept.result.count (awaited_end (stand_of c.load-kept.result c.args.store.now)) c.end_answer-last.ensures

pub returns : goal.returns
returns c =
    let b = c.args.store.now in
    let g = sized_loaded b c.load-kept.result c.load-kept.ensures (λ i. omega (arith, c.slice_known-1.given i)) in
    let t = finish_open b c.load-kept.result c.end_answer-last.result c.answered.result c.save.new.store (read_answer c.final_reading-2.result) c.if-store-ne-STORE.false c.load-kept.ensures
    (awaited_is c.load-kept.result.answer (sym c.is_awaited.ensures ∙ c.if-not-is_awaited.false))
    g c.end_answer-last.ensures c.answered.ensures c.save.ensures c.final_reading-2.ensures in
    record { told = t.0; left = t.1 }
