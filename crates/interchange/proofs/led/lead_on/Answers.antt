use borrow.Author.Rules.{rules}
use mathlib.Core.Path.{◌≡◌, sym, ap, ◌∙◌, subst}
use mathlib.Core.Bool.{true}
use mathlib.Core.List.{List, []}
use Prim.Native.Nat.{ℕ, ◌/◌}
use native.Mathlib.Omega.{arith}
use borrow.Author.Tests.{not-false}
use lib.Dec.{lit≤}
use lib.ListN.{drop, get_or}
use Rattle.syntax.specs.Segment.{tag_number}
use Rattle.placing.specs.Table.{Table, tag_at}
use Rattle.placing.proofs.Walks.{entry_in}
use Rattle.interchange.specs.Heads.{capitals, capital_tag, head_capitals, tag_number_lem}
use Rattle.interchange.specs.Packs.{Leads}
use Rattle.interchange.proofs.led.lead_on.Goals.{In_ok-next, Start}
use Rattle.interchange.proofs.led.lead_on.Goals as goal

-- the place that was told
module _ (e : In_ok-next) where
  led : Leads e.args.table.now e.args.place.row e.args.place.counts e.in_ok-next.next.row e.in_ok-next.next.counts
  led = e.in_ok-next.ensures

  found : get_or (get_or e.args.table.now e.in_ok-next.next.row []) 1 0 ≡ tag_at e.args.table.now e.in_ok-next.next.row
  found = sym (entry_in e.args.table.now e.in_ok-next.next.row 1 (lit≤ tt))

  letters : e.head_at-head.result / 256 ≡ get_or (get_or e.args.table.now e.in_ok-next.next.row []) 1 0 → capitals e.args.s.now e.args.at ≡ true
  letters q =
      let b = e.head_at-head.ensures in
      let o = led.on (e.head_at-head.result / 256) (sym (q ∙ found)) in
      head_capitals e.args.s.now e.args.at b.1
      (subst (λ x. capital_tag (x / 256) ≡ true) b.0 (e.requires.5 e.args.place.row e.args.place.counts (e.head_at-head.result / 256) e.in_ok-next.next.row e.in_ok-next.next.counts o))

pub offset_bounds-table-to : goal.offset_bounds-table-to
offset_bounds-table-to c =
    let i = (led (goal.at.offset_bounds-table-to c).In_ok-next).inside in
    let f = c.requires.6 in
    omega arith

pub bounds-table-to : goal.bounds-table-to
bounds-table-to c = (led (goal.at.bounds-table-to c).In_ok-next).inside

pub end_at-requires : goal.end_at-requires
end_at-requires c =
    let b = c.head_at-head.ensures in
    (c.requires.0, b.1, b.0, letters (goal.at.end_at-requires c).In_ok-next)

pub returns : goal.returns
returns c =
    let a = c.args in
    let b = c.head_at-head.ensures in
    let w = c.end_at.ensures c.in_ok-end.end c.in_ok-end.was in
    let n : c.head_at-head.result / 256 ≡ tag_number (drop a.at c.args.s.now) = ap (λ x. x / 256) b.0 ∙ tag_number_lem c.args.s.now a.at b.1 c.requires.0 in
    let g : tag_at c.args.table.now c.in_ok-next.next.row ≡ tag_number (drop a.at c.args.s.now) = sym (found (goal.at.returns c).In_ok-next) ∙ sym w.1 ∙ n in
    record { whole = w.0; on = (led (goal.at.returns c).In_ok-next).on (tag_number (drop a.at c.args.s.now)) g; tagged = g; inside = (led (goal.at.returns c).In_ok-next).inside; fits = (led (goal.at.returns c).In_ok-next).fits; good = w.2 }
