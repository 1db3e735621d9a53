use lib.ListN.{length, take, drop}
use Prim.Native.Nat.{◌-◌}
use Rattle.laws.specs.Lists.{rest_is}
use Rattle.interchange.specs.Stretches.{ended_found, ended_none}
use borrow.Author.Rules.{rules}
use Rattle.interchange.proofs.stretch.halt_at.Goals as goal

pub returns-then-ending-rest : goal.returns-then-ending-rest
returns-then-ending-rest c =
    let a = c.args in
    rw (ended_found a.s.now (take (length a.s.now - a.at) (drop a.at a.s.now)) a.at c.find_terminator-ending.result.at c.requires (rest_is a.s.now a.at) c.find_terminator-ending.ensures.0 c.if-ending-rest.true)

pub returns : goal.returns
returns c =
    let a = c.args in
    rw (ended_none a.s.now (take (length a.s.now - a.at) (drop a.at a.s.now)) a.at c.find_terminator-ending.result.at c.requires (rest_is a.s.now a.at) c.find_terminator-ending.ensures.0 c.if-ending-rest.false)
