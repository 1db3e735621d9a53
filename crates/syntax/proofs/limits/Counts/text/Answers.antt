use borrow.Author.Tests.{le-leb, lt-leb}
use Prim.Native.Nat.{◌+◌}
use native.Mathlib.Omega.{arith}
use Rattle.syntax.specs.Counts.{text_of}
use Rattle.syntax.proofs.limits.Counts.text.Goals as goal

pub returns-then-n-gt512 : goal.returns-then-n-gt512
unfolding text_of
returns-then-n-gt512 c =
    let a = c.args in
    rw (lt-leb (a.self.characters + a.n) 512 (omega arith)) c.passed.ensures

pub returns-then-n-self : goal.returns-then-n-self
unfolding text_of
returns-then-n-self c =
    let a = c.args in
    rw (lt-leb (a.self.characters + a.n) 512 (omega arith)) c.passed-then-n-self.ensures

pub returns : goal.returns
unfolding text_of
returns c =
    let a = c.args in
    rw (le-leb (a.self.characters + a.n) 512 (omega arith))
