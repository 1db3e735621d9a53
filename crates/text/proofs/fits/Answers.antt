-- `fits` meets its contract: what is left of the room is for the rows that are left.
-- Assumes nothing.
use mathlib.Core.Path.{◌∙◌}
use Prim.Native.Nat.{◌-◌}
use native.Mathlib.Omega.{arith}
use lib.ListN.{length, take, drop, get_or}
use Rattle.text.specs.Text.{rows_text}
use Rattle.text.specs.Laws.{rows_none, rows_few, room_none, room_step, room_over, three_first}
use Rattle.text.proofs.fits.Goals as goal

pub returns-in_default : goal.returns-in_default
returns-in_default c =
    let k = c.args.n - c.loop-k.k in
    let rest = c.loop-k.rest.now in
    room_none (rows_text k rest) c.loop-k.left (rows_few k rest c.in_default.len_below) ∙ c.loop-k.invariant

pub returns-then-left-m : goal.returns-then-left-m
returns-then-left-m c =
    let rest = c.loop-k.rest.now in
    let is = three_first rest c.in-len3-up.len_at_least in
    room_over c.args.n c.loop-k.k (get_or rest 0 0) (get_or rest 1 0) (get_or rest 2 0) rest (take (length rest - 3) (drop 3 rest)) c.loop-k-test.true is
    c.put_row-m.result c.loop-k.left c.put_row-m.ensures.told.1 c.if-left-m.true
    ∙ c.loop-k.invariant

pub loop-k-preserved : goal.loop-k-preserved
loop-k-preserved c =
    let rest = c.loop-k.rest.now in
    let is = three_first rest c.in-len3-up.len_at_least in
    room_step c.args.n c.loop-k.k (get_or rest 0 0) (get_or rest 1 0) (get_or rest 2 0) rest (take (length rest - 3) (drop 3 rest)) c.loop-k-test.true is
    c.put_row-m.result c.loop-k.left c.put_row-m.ensures.told.1 c.if-left-m.false
    ∙ c.loop-k.invariant

pub returns : goal.returns
returns c =
    let k = c.args.n - c.loop-k.k in
    let rest = c.loop-k.rest.now in
    room_none (rows_text k rest) c.loop-k.left (rows_none c.args.n c.loop-k.k rest (omega arith)) ∙ c.loop-k.invariant
