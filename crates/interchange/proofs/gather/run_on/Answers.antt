use borrow.Author.Rules.{rules}
use mathlib.Core.Path.{◌≡◌, refl, sym, ap, ◌∙◌}
use mathlib.Core.List.{List}
use Prim.Native.Nat.{ℕ}
use native.Mathlib.Omega.{arith}
use borrow.Author.Tests.{not-false}
use Rattle.messages.specs.declared.MessageType.{MessageType}
use Rattle.messages.specs.declared.MessageType.TheVariants.{Skdupd, Tsdupd, Tsdupd12B}
use Rattle.placing.specs.Tables.{table_in, table_of, lent_own, apart_own}
use Rattle.hints.specs.Hints.{hints_in, hints_of}
use Rattle.steps.specs.declared.state.Phase.TheVariants.{Inside}
use Rattle.interchange.specs.Runs.{inside_is, own_given, period_row, passed_here}
use Rattle.interchange.proofs.gather.run_on.Goals.{After-is_inside, Else-not-is_inside, Start}
use Rattle.interchange.proofs.gather.run_on.Goals as goal

-- inside a message: the phase, and a type's own table and hints where that type is known
module _ (i : Else-not-is_inside) where
  inside : i.args.from.state.phase ≡ Inside
  inside = inside_is i.args.from.state.phase (sym i.is_inside.ensures ∙ i.if-not-is_inside.false)

  owned : (known : MessageType) → i.args.from.state.message ≡ known → (table words : List (List ℕ)) → table ≡ table_in i.args.tables.now known → words ≡ hints_in i.args.hints.now known
      → (table ≡ table_of i.args.from.state.message) × (words ≡ hints_of i.args.from.state.message)
  owned known q table words e f = own_given i.args.tables.now table i.args.hints.now words i.args.from.state.message known q i.requires.0 i.requires.1 e f

pub returns-then-not-is_inside : goal.returns-then-not-is_inside
returns-then-not-is_inside c =
    let a = c.args in
    let r = c.stay.result in
    let e = c.stay.ensures in
    let l = c.requires.4 in
    let z = c.requires.3 in
    passed_here a.s.now a.from.state a.from.at a.from.numbers a.room.now (omega arith) r.place r.segments r.at r.numbers e.0 e.1 e.2 e.3

pub run-requires : goal.run-requires
run-requires c =
    let q = c.in-Skdupd.is in
    let p = c.requires in
    let w = owned (goal.at.run-requires c).Else-not-is_inside Skdupd q c.table_of-table.result.now c.hints_of-hinted.result.now (c.table_of-table.ensures ∙ lent_own c.args.tables.now Skdupd refl) c.hints_of-hinted.ensures in
    (inside (goal.at.run-requires c).Else-not-is_inside, w.0, w.1, sym (ap period_row q), p.2, p.3, p.4, refl)

pub run-requires-in-Tsdupd : goal.run-requires-in-Tsdupd
run-requires-in-Tsdupd c =
    let q = c.in-Tsdupd.is in
    let p = c.requires in
    let w = owned (goal.at.run-requires-in-Tsdupd c).Else-not-is_inside Tsdupd q c.table_of-table-in-Tsdupd.result.now c.hints_of-hinted-in-Tsdupd.result.now (c.table_of-table-in-Tsdupd.ensures ∙ lent_own c.args.tables.now Tsdupd refl) c.hints_of-hinted-in-Tsdupd.ensures in
    (inside (goal.at.run-requires-in-Tsdupd c).Else-not-is_inside, w.0, w.1, sym (ap period_row q), p.2, p.3, p.4, refl)

pub run-requires-in-Tsdupd12B : goal.run-requires-in-Tsdupd12B
run-requires-in-Tsdupd12B c =
    let q = c.in-Tsdupd12B.is in
    let p = c.requires in
    let w = owned (goal.at.run-requires-in-Tsdupd12B c).Else-not-is_inside Tsdupd12B q c.tsdupd_12b-table.result c.hints_of-hinted-in-Tsdupd12B.result.now (c.tsdupd_12b-table.ensures ∙ apart_own c.args.tables.now Tsdupd12B refl) c.hints_of-hinted-in-Tsdupd12B.ensures in
    (inside (goal.at.run-requires-in-Tsdupd12B c).Else-not-is_inside, w.0, w.1, sym (ap period_row q), p.2, p.3, p.4, refl)
