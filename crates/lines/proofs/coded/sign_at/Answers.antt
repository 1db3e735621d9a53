-- `lines::sign_at` reads one sign.
-- Assumes nothing.
use native.Mathlib.Omega.{arith}
use Rattle.lines.specs.Coded.{sign_none, sign_other, sign_short, sign_coded}
use Rattle.lines.proofs.coded.sign_at.Goals.{then-b-ne126-via-then-b-ne126, then-b-ne126-via-else-b-ne126+then-text-i-lt3}
use Rattle.lines.proofs.coded.sign_at.Goals as goal

pub returns-then-text-i : goal.returns-then-text-i
returns-then-text-i c = let a = c.args in sign_none a.text.now a.i c.if-text-i.true

pub returns-then-b-ne126 : goal.returns-then-b-ne126
returns-then-b-ne126 c =
    let a = c.args in
    elim c.then-b-ne126.branch [
      | then-b-ne126-via-then-b-ne126 w ↦ sign_other a.text.now a.i (omega arith) w.if-b-ne126.true
      | then-b-ne126-via-else-b-ne126+then-text-i-lt3 w ↦ sign_short a.text.now a.i (omega arith) w.if-text-i-lt3.true
    ]

pub returns : goal.returns
returns c = let a = c.args in sign_coded a.text.now a.i (omega arith) (omega arith) (omega arith) c.hexadecimal-high.result c.hexadecimal-low.result c.hexadecimal-high.ensures.0 c.hexadecimal-low.ensures.0
