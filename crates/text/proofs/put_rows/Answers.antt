-- `put_rows` meets its contract: the rows that are left, put behind those that stand, give the whole text.
-- Assumes nothing.
use mathlib.Core.Path.{◌≡◌, refl, ap, ◌∙◌}
use Prim.Native.Nat.{◌-◌}
use native.Mathlib.Omega.{arith}
use native.Mathlib.Nat.{sub-zero}
use lib.ListN.{length, take, drop, get_or}
use Rattle.laws.specs.Put.{length_put}
use Rattle.text.specs.Text.{rows_text}
use Rattle.text.specs.Laws.{rows_none, rows_few, rows_length, one_put, all_put, three_first}
use Rattle.text.proofs.put_rows.Goals as goal

pub returns-in_default : goal.returns-in_default
returns-in_default c =
    let a = c.args in
    let k = a.n - c.loop-k.k in
    let rest = c.loop-k.rest.now in
    let i = c.loop-k.invariant in
    let w = all_put c.loop-k.out a.out.now (rows_text k rest) (rows_text a.n a.rows.now) c.loop-k.to a.at (rows_few k rest c.in_default.len_below) i.1 i.2 i.3 in
    record { told = w.0; left = w.1 }

pub overflow_add-to : goal.overflow_add-to
overflow_add-to c =
    let a = c.args in
    let rest = c.loop-k.rest.now in
    let is = three_first rest c.in-len3-up.len_at_least in
    let q = rows_length a.n c.loop-k.k (get_or rest 0 0) (get_or rest 1 0) (get_or rest 2 0) rest (take (length rest - 3) (drop 3 rest)) c.loop-k-test.true is in
    omega arith

pub loop-k-preserved : goal.loop-k-preserved
loop-k-preserved c =
    let a = c.args in
    let rest = c.loop-k.rest.now in
    let i = c.loop-k.invariant in
    let is = three_first rest c.in-len3-up.len_at_least in
    let s = one_put a.n c.loop-k.k (get_or rest 0 0) (get_or rest 1 0) (get_or rest 2 0) rest (take (length rest - 3) (drop 3 rest)) c.loop-k-test.true is
    c.loop-k.out c.put_first.new.out (take c.put_row-m.result c.put_row-m.new.out) c.loop-k.to c.put_row-m.result c.put_row-m.ensures.told.1 c.put_row-m.ensures.left c.put_first.ensures i.1 in
    let k : length c.put_first.new.out ≡ length c.loop-k.out = ap length c.put_first.ensures ∙ length_put c.loop-k.out c.loop-k.to (take c.put_row-m.result c.put_row-m.new.out) in
    (k ∙ i.0, rw (k, s.0) i.1, s.0 ∙ i.2, s.1 ∙ i.3)

pub returns : goal.returns
returns c =
    let a = c.args in
    let k = a.n - c.loop-k.k in
    let rest = c.loop-k.rest.now in
    let i = c.loop-k.invariant in
    let w = all_put c.loop-k.out a.out.now (rows_text k rest) (rows_text a.n a.rows.now) c.loop-k.to a.at (rows_none a.n c.loop-k.k rest (omega arith)) i.1 i.2 i.3 in
    record { told = w.0; left = w.1 }
