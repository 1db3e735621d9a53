-- `read_behind` meets its contract.
-- Assumes nothing.
use mathlib.Core.Path.{sym, ◌∙◌}
use native.Mathlib.Omega.{arith}
use Rattle.period.specs.Pops.{alone_pop, string_pop}
use Rattle.period.proofs.written.read_behind.Goals as goal

pub returns-then-g-eq39 : goal.returns-then-g-eq39
returns-then-g-eq39 c =
    c.new.ensures ∙ alone_pop c.args.s.now c.args.at c.args.g.now (sym c.requires.0) c.requires.1 c.requires.2 c.if-g-eq39.true

pub returns : goal.returns
returns c =
    c.new-2.ensures ∙ string_pop c.args.s.now c.args.at c.args.g.now (sym c.requires.0) c.requires.1 c.in_ok-end.end (c.in_ok-end.ensures)
