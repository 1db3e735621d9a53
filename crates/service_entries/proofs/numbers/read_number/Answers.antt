-- `read_number` meets its contract.
-- Assumes nothing.
use native.Mathlib.Omega.{arith}
use Rattle.service_entries.specs.Numbers.{number_quiet}
use Rattle.service_entries.proofs.numbers.read_number.Goals as goal

pub overflow_sub-length : goal.overflow_sub-length
overflow_sub-length c =
    let n = c.is_near in
    let h = n.ensures (c.if-not-is_near.false) in
    omega arith

pub ten_at-bytes-requires : goal.ten_at-bytes-requires
ten_at-bytes-requires c =
    let n = c.is_near in
    let h = n.ensures (c.if-not-is_near.false) in
    (h.2, omega arith)

pub returns-then-is_quiet : goal.returns-then-is_quiet
returns-then-is_quiet c =
    let a = c.args in
    let n = c.is_near in
    let h = n.ensures (c.if-not-is_near.false) in
    number_quiet a.s.now a.part.from a.part.to c.ten_at-bytes.result h.1 (omega arith) c.ten_at-bytes.ensures (c.is_quiet.ensures c.if-is_quiet.true)
