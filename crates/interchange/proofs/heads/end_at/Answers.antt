-- `end_at` meets its contract.
-- Assumes nothing.
use Rattle.std.specs.Prelude.{Ok}
use mathlib.Core.Path.{refl, sym, ap, ◌∙◌}
use borrow.Author.Rules.{rules}
use lib.Dec.{lit≤}
use Rattle.syntax.specs.Segment.{body_at}
use Rattle.syntax.specs.Quick.{quick_segment}
use Rattle.std.proofs.lemmas.Option.{same_Some}
use Rattle.syntax.specs.Whole.{whole_bare}
use Rattle.interchange.specs.Heads.{head_told, head_behind, head_ahead}
use Rattle.interchange.specs.Led.{good_other, good_read}
use Rattle.interchange.proofs.heads.end_at.Goals as goal

pub returns-then-read : goal.returns-then-read
returns-then-read c =
    λ e q.
    let a = c.args in
    let p = c.requires in
    let k = c.pop_end.ensures e q in
    (k.0, head_told a.s.now a.at a.head p.1 p.2 a.tag 43 c.if-found-wanted.true (lit≤ tt), good_read a.wish a.read (body_at a.s.now a.at) c.if-read.true k.1)

pub returns-then-found-wanted : goal.returns-then-found-wanted
returns-then-found-wanted c =
    λ e q.
    let a = c.args in
    let p = c.requires in
    let x = c.if-found-wanted.true in
    let g = head_ahead a.s.now a.at a.head p.1 p.2 a.tag 43 x (lit≤ tt) p.0 p.3 refl in
    (quick_segment a.s.now a.at g e (head_behind a.s.now a.at a.head p.1 p.2 a.tag 43 x (lit≤ tt)) (sym c.quick_end.ensures ∙ q), head_told a.s.now a.at a.head p.1 p.2 a.tag 43 x (lit≤ tt), good_other a.wish a.read (body_at a.s.now a.at) c.if-read.false)

pub returns-then-read-2 : goal.returns-then-read-2
returns-then-read-2 c = λ e q. absurd (cc)

pub returns-then-found-wanted-2 : goal.returns-then-found-wanted-2
returns-then-found-wanted-2 c =
    λ e q.
    let a = c.args in
    let p = c.requires in
    let x = c.if-found-wanted-2.true in
    let g = head_ahead a.s.now a.at a.head p.1 p.2 a.tag 39 x (lit≤ tt) p.0 p.3 refl in
    (sym (whole_bare a.s.now a.at g (head_behind a.s.now a.at a.head p.1 p.2 a.tag 39 x (lit≤ tt))) ∙ ap Ok (same_Some _ _ q), head_told a.s.now a.at a.head p.1 p.2 a.tag 39 x (lit≤ tt), good_other a.wish a.read (body_at a.s.now a.at) c.if-read-2.false)

pub returns : goal.returns
returns c = λ e q. absurd (cc)
