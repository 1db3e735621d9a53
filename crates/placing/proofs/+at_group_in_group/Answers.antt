-- The cycle of calls of `at_place`, `at_group` and `in_group`: each meets its contract, the depth left falling.
use Rattle.std.proofs.Common.{◌≡◌, ℕ, ◌+◌, ◌-◌, ◌<◌, ◌∷◌, length, sym, ap, ◌∙◌, arith}
use Rattle.placing.specs.Table.{Table, places, after_of}
use Rattle.placing.specs.Rule.{in_group, fits}
use Rattle.placing.specs.Reading.{Reading, read, read_group}
use Rattle.placing.proofs.Walks.{found, group_empty, group_found, group_shut, group_open, places_end, places_past, places_step, after_grows, read_none, read_here, read_barred, read_on_lem}
use Rattle.placing.proofs.+at_group_in_group.Goals as goal

-- what was found in a group is what the group fits
went : (d : ℕ) (table : Table) (tag row end : ℕ) (r x : Reading) → end ≡ after_of table row → r ≡ read_group d table tag (row + 1) end → r ≡ x
    → found x ≡ in_group d table tag row
went d table tag row end r x a b e =
    ap found (sym e ∙ b) ∙ ap (λ n. found (read_group d table tag (row + 1) n)) a ∙ sym (group_found d table tag row)

-- what is read from a place on is the group's reading
onto : (d : ℕ) (table : Table) (tag from end row : ℕ) (x : Reading)
    → read (fits (d - 1) table tag) table (places table row end) ≡ read_group d table tag from end → row < end → row < length table
    → read (fits (d - 1) table tag) table (row ∷ places table (after_of table row) end) ≡ x → x ≡ read_group d table tag from end
onto d table tag from end row x v h k e = sym (ap (read (fits (d - 1) table tag) table) (places_step table row end h k) ∙ e) ∙ v

pub at_group-returns-in-Break : goal.at_group-returns-in-Break
at_group-returns-in-Break t c =
    went c.args.depth c.args.table.now c.args.tag c.args.row c.after-end.result c.in_group.result _ c.after-end.ensures c.in_group.ensures c.in-Break.is

pub at_group-returns-in_default : goal.at_group-returns-in_default
at_group-returns-in_default t c =
    went c.args.depth c.args.table.now c.args.tag c.args.row c.after-end.result c.in_group.result _ c.after-end.ensures c.in_group.ensures c.in_default.is

pub at_group-returns-else-row-end : goal.at_group-returns-else-row-end
at_group-returns-else-row-end t c =
    let a = c.args in
    sym (group_empty a.depth a.table.now a.tag a.row (rw c.after-end.ensures at c.if-row-end.false))

pub in_group-returns-then-depth-eq0 : goal.in_group-returns-then-depth-eq0
in_group-returns-then-depth-eq0 t c = rw c.if-depth-eq0.true (sym (group_shut _ _ _ _))

pub in_group-loop-row-init : goal.in_group-loop-row-init
in_group-loop-row-init t c =
    let a = c.args in
    sym (group_open a.depth a.table.now a.tag a.from a.end c.if-depth-eq0.false)

pub in_group-returns-then-table-row : goal.in_group-returns-then-table-row
in_group-returns-then-table-row t c =
    let a = c.args in
    let f = fits (a.depth - 1) a.table.now a.tag in
    sym (ap (read f a.table.now) (places_past a.table.now c.loop-row.row a.end c.if-table-row.true) ∙ read_none f a.table.now) ∙ c.loop-row.invariant

pub in_group-returns-then-is_some : goal.in_group-returns-then-is_some
in_group-returns-then-is_some t c =
    let a = c.args in
    let row = c.loop-row.row in
    onto a.depth a.table.now a.tag a.from a.end row _ c.loop-row.invariant c.loop-row-test.true c.if-table-row.false
    (read_here (fits (a.depth - 1) a.table.now a.tag) a.table.now (places a.table.now (after_of a.table.now row) a.end) row
    c.at_place-fit.result c.at_place-fit.ensures (sym c.is_some.ensures ∙ c.if-is_some.true))

pub in_group-returns-then-entry-ne0 : goal.in_group-returns-then-entry-ne0
in_group-returns-then-entry-ne0 t c =
    let a = c.args in
    let row = c.loop-row.row in
    let e = c.entry.ensures in
    onto a.depth a.table.now a.tag a.from a.end row _ c.loop-row.invariant c.loop-row-test.true c.if-table-row.false
    (read_barred (fits (a.depth - 1) a.table.now a.tag) a.table.now (places a.table.now (after_of a.table.now row) a.end) row
    c.at_place-fit.result c.at_place-fit.ensures (sym c.is_some.ensures ∙ c.if-is_some.false) (λ z. c.if-entry-ne0.true (e ∙ z)))

pub in_group-loop-row-smaller : goal.in_group-loop-row-smaller
in_group-loop-row-smaller t c =
    let g = after_grows c.args.table.now c.loop-row.row c.if-table-row.false in
    let e = c.after-row.ensures in
    let l = c.loop-row-test.true in
    omega arith

pub in_group-loop-row-preserved : goal.in_group-loop-row-preserved
in_group-loop-row-preserved t c =
    let a = c.args in
    let row = c.loop-row.row in
    let e = c.entry.ensures in
    rw c.after-row.ensures (onto a.depth a.table.now a.tag a.from a.end row _ c.loop-row.invariant c.loop-row-test.true c.if-table-row.false
    (read_on_lem (fits (a.depth - 1) a.table.now a.tag) a.table.now (places a.table.now (after_of a.table.now row) a.end) row
    c.at_place-fit.result c.at_place-fit.ensures (sym c.is_some.ensures ∙ c.if-is_some.false) (sym e ∙ c.if-entry-ne0.false)))

pub in_group-returns : goal.in_group-returns
in_group-returns t c =
    let a = c.args in
    let f = fits (a.depth - 1) a.table.now a.tag in
    sym (ap (read f a.table.now) (places_end a.table.now c.loop-row.row a.end c.loop-row-test.false) ∙ read_none f a.table.now) ∙ c.loop-row.invariant
