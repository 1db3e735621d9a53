-- `read_passed` meets its contract.
-- Assumes nothing.
use mathlib.Core.Path.{refl, sym, ◌∙◌}
use lib.ListN.{drop}
use Rattle.syntax.specs.Quick.{quick_segment}
use Rattle.period.specs.Pops.{passed_pop, passed_tag, passed_plus}
use Rattle.period.proofs.written.read_passed.Goals as goal

pub returns : goal.returns
returns c =
    let a = c.args in
    let p = c.requires in
    let s = a.s.now in
    let end = c.in_ok-end.end in
    c.new.ensures
    ∙ passed_pop s a.at (drop a.at s) refl p.0 p.2 p.3 p.1 end
    (quick_segment s a.at (passed_tag s a.at (drop a.at s) refl p.0 p.2 p.3 p.1) end
    (passed_plus s a.at (drop a.at s) refl p.0 p.2 p.3 p.1)
    (sym c.quick_end.ensures ∙ c.in_ok-end.was))
