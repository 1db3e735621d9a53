use mathlib.Core.Path.{◌≡◌, sym}
use Prim.Native.Nat.{◌+◌, ◌-◌, ◌≤◌}
use native.Mathlib.Omega.{arith}
use lib.ListN.{length, take}
use Rattle.parcel_store.specs.Store.{part_size}
use Rattle.parcels.specs.OneSegment.{length_whole, good_within, length_good, short_good, good_onward, good_faster, bad_within, bad_onward}
use Rattle.parcels.proofs.passing.pass_one.Goals.{After-lent_turn, In-Ok, In-Err, Start}
use Rattle.parcels.proofs.passing.pass_one.Goals as goal

-- the turn
module _ (l : After-lent_turn) where
  length_all : length l.args.segment.now ≡ l.args.x.kept.body + length l.requires.bytes + 1
  length_all = length_whole l.args.x l.args.store.now l.args.segment.now l.requires

-- a good segment
module _ (k : In-Ok) where
  within_good : (1 ≤ k.in-Ok.turn.then) × (k.in-Ok.turn.then ≤ length k.args.segment.now) × (k.in-Ok.turn.row.offset ≡ 0)
  within_good =
      good_within k.args.x k.args.store.now k.args.segment.now k.requires k.lent_turn.result k.lent_turn.ensures k.in-Ok.turn.state k.in-Ok.turn.row k.in-Ok.turn.then k.in-Ok.is

  length_segment : length (take (k.in-Ok.turn.then - 1) k.args.segment.now) ≡ k.in-Ok.turn.then - 1
  length_segment =
      length_good k.args.x k.args.store.now k.args.segment.now k.requires k.lent_turn.result k.lent_turn.ensures k.in-Ok.turn.state k.in-Ok.turn.row k.in-Ok.turn.then k.in-Ok.is

  short_segment : length (take (k.in-Ok.turn.then - 1) k.args.segment.now) ≤ part_size
  short_segment =
      short_good k.args.x k.args.store.now k.args.segment.now k.requires k.lent_turn.result k.lent_turn.ensures k.in-Ok.turn.state k.in-Ok.turn.row k.in-Ok.turn.then k.in-Ok.is

-- a faulty one
module _ (k : In-Err) where
  within_bad : k.in-Err.refusal.position ≤ length k.args.segment.now
  within_bad = bad_within k.args.x k.args.store.now k.args.segment.now k.requires k.lent_turn.result k.lent_turn.ensures k.in-Err.refusal k.in-Err.is

pub slice_bounds-passed-count : goal.slice_bounds-passed-count
slice_bounds-passed-count c = let w = within_good (goal.at.slice_bounds-passed-count c).In-Ok in omega arith

pub slice_bounds-passed-length : goal.slice_bounds-passed-length
slice_bounds-passed-length c = sym (length_segment (goal.at.slice_bounds-passed-length c).In-Ok)

pub passed-after-requires : goal.passed-after-requires
passed-after-requires c =
    let r = c.requires in
    let h = r.next.within in
    let n = length_all (goal.at.passed-after-requires c).After-lent_turn in
    (r.goes.sized, short_segment (goal.at.passed-after-requires c).In-Ok, omega arith)

pub overflow_sub-result : goal.overflow_sub-result
overflow_sub-result c = let n = length_all (goal.at.overflow_sub-result c).After-lent_turn in omega arith

pub overflow_add-result : goal.overflow_add-result
overflow_add-result c =
    let n = length_all (goal.at.overflow_add-result c).After-lent_turn in
    let h = c.requires.room in
    omega arith

pub overflow_add-result-in-Ok : goal.overflow_add-result-in-Ok
overflow_add-result-in-Ok c =
    let r = c.requires in
    let h = r.goes.paced in
    let o = r.goes.sized.offset in
    omega arith

pub overflow_add-kept : goal.overflow_add-kept
overflow_add-kept c =
    let w = within_bad (goal.at.overflow_add-kept c).In-Err in
    let n = length_all (goal.at.overflow_add-kept c).After-lent_turn in
    let r = c.requires in
    let h = r.next.short in
    let o = r.goes.sized.offset in
    omega arith

pub returns-in-Ok : goal.returns-in-Ok
returns-in-Ok c =
    let a = c.args in (
      good_onward a.x a.store.now a.segment.now c.requires c.lent_turn.result c.lent_turn.ensures c.in-Ok.turn.state c.in-Ok.turn.row c.in-Ok.turn.then c.in-Ok.is
          c.passed-after.result c.passed-after.new.store a.rows.now c.put_rows.new.rows c.passed-after.ensures.told.0 c.passed-after.ensures.told.1 c.passed-after.ensures.left c.put_rows.ensures,
      good_faster a.x a.store.now a.segment.now c.requires c.lent_turn.result c.lent_turn.ensures c.in-Ok.turn.state c.in-Ok.turn.row c.in-Ok.turn.then c.in-Ok.is
          c.passed-after.result c.passed-after.new.store a.rows.now c.put_rows.new.rows c.passed-after.ensures.told.0 c.passed-after.ensures.told.1 c.passed-after.ensures.left c.put_rows.ensures,
    )

pub returns-in-Err : goal.returns-in-Err
returns-in-Err c =
    let a = c.args in
    bad_onward a.x a.store.now a.segment.now c.requires c.lent_turn.result c.lent_turn.ensures c.in-Err.refusal c.in-Err.is a.rows.now c.named.result c.named.ensures
