-- `is_wrong` meets its contract.
-- Assumes nothing.
use native.Mathlib.Omega.{arith}
use Rattle.service_tests.specs.Ways.{wrong_short, wrong_long, wrong_removal, wrong_put}
use Rattle.service_tests.proofs.is_wrong.Goals as goal

pub returns-then-length-lt1 : goal.returns-then-length-lt1
returns-then-length-lt1 c =
    let a = c.args in
    wrong_short a.removal a.length a.carries c.if-length-lt1.true

pub returns-then-length-gt10 : goal.returns-then-length-gt10
returns-then-length-gt10 c =
    let a = c.args in
    wrong_long a.removal a.length a.carries c.if-length-gt10.true

pub returns-then-removal : goal.returns-then-removal
returns-then-removal c =
    let a = c.args in
    wrong_removal a.removal a.length a.carries (omega arith) (omega arith) c.if-removal.true

pub returns : goal.returns
returns c =
    let a = c.args in
    wrong_put a.removal a.length a.carries (omega arith) (omega arith) c.if-removal.false
