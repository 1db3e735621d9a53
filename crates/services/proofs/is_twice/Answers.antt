-- `services::is_twice` meets its contract: the search goes from one service to the next.
-- Assumes nothing.
use mathlib.Core.Path.{refl}
use native.Mathlib.Omega.{arith}
use Rattle.services.specs.Search.{found_row, found_no_row}
use Rattle.services.specs.Services.{is_service}
use Rattle.services.specs.Ways.{twice_no, twice_further, twice_yes, twice_on}
use Rattle.services.proofs.is_twice.Goals as goal

pub loop-k-init : goal.loop-k-init
loop-k-init c = (omega arith, refl)

pub first_row-requires : goal.first_row-requires
first_row-requires c =
    let e = c.row_count-count.ensures in
    omega arith

pub returns : goal.returns
returns c =
    let a = c.args in
    let n = c.row_count-count.result in
    twice_no a.s.now a.rows.now a.number.now a.before n c.loop-k.i _ c.row_count-count.ensures c.loop-k.invariant.0 c.loop-k.invariant.1 refl
    (found_no_row (is_service a.rows.now) c.loop-k.i n c.first_row.result c.first_row.ensures c.in_default.is)

pub returns-then-says_number : goal.returns-then-says_number
returns-then-says_number c =
    let a = c.args in
    let n = c.row_count-count.result in
    let w = found_row (is_service a.rows.now) c.loop-k.i n c.first_row.result c.first_row.ensures c.in-Some.k c.in-Some.is in
    twice_yes a.s.now a.rows.now a.number.now a.before n c.loop-k.i c.in-Some.k c.row_count-count.ensures c.loop-k.invariant.0 c.loop-k.invariant.1 w.0 w.1 c.offset_of.result c.says_number.result c.offset_of.ensures c.says_number.ensures c.if-says_number.true

pub overflow_add-i : goal.overflow_add-i
overflow_add-i c =
    let w = found_row (is_service c.args.rows.now) c.loop-k.i c.row_count-count.result c.first_row.result c.first_row.ensures c.in-Some.k c.in-Some.is in
    let h = w.1 in
    omega arith

pub loop-k-smaller : goal.loop-k-smaller
loop-k-smaller c =
    let a = c.args in
    let n = c.row_count-count.result in
    let w = found_row (is_service a.rows.now) c.loop-k.i n c.first_row.result c.first_row.ensures c.in-Some.k c.in-Some.is in
    let d = twice_further a.s.now a.rows.now a.number.now a.before n c.loop-k.i c.in-Some.k c.row_count-count.ensures c.loop-k.invariant.0 c.loop-k.invariant.1 w.0 in
    let h = w.1 in
    omega arith

pub loop-k-preserved : goal.loop-k-preserved
loop-k-preserved c =
    let a = c.args in
    let n = c.row_count-count.result in
    let w = found_row (is_service a.rows.now) c.loop-k.i n c.first_row.result c.first_row.ensures c.in-Some.k c.in-Some.is in
    let h = w.1 in (
      omega arith,
      twice_on a.s.now a.rows.now a.number.now a.before n c.loop-k.i c.in-Some.k c.row_count-count.ensures c.loop-k.invariant.0 c.loop-k.invariant.1 w.0 h c.offset_of.result c.says_number.result c.offset_of.ensures c.says_number.ensures c.if-says_number.false,
    )
