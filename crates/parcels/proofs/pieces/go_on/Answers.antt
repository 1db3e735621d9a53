-- `parcels::pieces::go_on` looks at the next bytes, so many as may be: each way out is one law.
-- Assumes nothing.
use mathlib.Core.Path.{◌≡◌, sym, ap, ◌∙◌}
use mathlib.Core.Bool.{false}
use Prim.Native.Nat.{◌-◌, min}
use native.Mathlib.Omega.{arith}
use lib.ListN.{length}
use Rattle.interchange.specs.Reader.{is_closed}
use Rattle.parcels.specs.Onward.{named_at}
use Rattle.parcels.specs.NextPiece.{Taken, most_taken, went_none, went_three, went_closed, went_unended, next_ready, went_on}
use Rattle.parcels.proofs.pieces.go_on.Goals.{After-min-n}
use Rattle.parcels.proofs.pieces.go_on.Goals as goal

-- the piece that is looked at
module _ (m : After-min-n) where
  opened : is_closed m.args.x.kept.state.phase ≡ false
  opened = sym m.is_closed.ensures ∙ m.if-is_closed.false

  most : Taken m.args.parcel.now m.args.x m.min-n.result
  most =
      most_taken m.args.parcel.now m.args.x m.args.store.now m.args.rows.now m.requires.0 m.if-left-eq0.false m.if-arrived-ge-INTERCHANGE.false m.min-n.result
      (m.min-n.ensures ∙ ap (min (length m.args.parcel.now - m.args.x.at)) m.min.ensures)

pub returns-then-left-eq0 : goal.returns-then-left-eq0
returns-then-left-eq0 c =
    let a = c.args in
    went_none a.parcel.now a.x a.store.now a.rows.now c.requires.0 c.if-left-eq0.true c.halted.result c.halted.ensures

pub returns-then-arrived-ge-INTERCHANGE : goal.returns-then-arrived-ge-INTERCHANGE
returns-then-arrived-ge-INTERCHANGE c =
    let a = c.args in
    went_three a.parcel.now a.x a.store.now a.rows.now c.requires.0 c.if-left-eq0.false c.if-arrived-ge-INTERCHANGE.true c.named.result
    (c.named.ensures ∙ ap (named_at a.x) c.at.ensures)

pub returns-then-is_closed : goal.returns-then-is_closed
returns-then-is_closed c =
    let a = c.args in
    went_closed a.parcel.now a.x a.store.now a.rows.now c.requires.0 c.if-left-eq0.false c.if-arrived-ge-INTERCHANGE.false (sym c.is_closed.ensures ∙ c.if-is_closed.true) c.named-then-is_closed.result
    (c.named-then-is_closed.ensures ∙ ap (named_at a.x) c.at-then-is_closed.ensures)

pub overflow_add-piece : goal.overflow_add-piece
overflow_add-piece c =
    let i = (most (goal.at.overflow_add-piece c).After-min-n).inside in
    omega arith

pub unended-requires : goal.unended-requires
unended-requires c = (most (goal.at.unended-requires c).After-min-n).within

pub returns-then-end-n : goal.returns-then-end-n
returns-then-end-n c =
    went_unended c.args.parcel.now c.args.x c.args.store.now c.args.rows.now c.requires.0 c.if-left-eq0.false (opened (goal.at.returns-then-end-n c).After-min-n) c.min-n.result (most (goal.at.returns-then-end-n c).After-min-n)
    (sym c.find_terminator-end.ensures.0 ∙ c.if-end-n.true) c.unended.result c.unended.ensures

pub pass_piece-requires : goal.pass_piece-requires
pass_piece-requires c =
    next_ready c.args.parcel.now c.args.x c.args.store.now c.args.rows.now c.requires.0 c.if-left-eq0.false (opened (goal.at.pass_piece-requires c).After-min-n) c.min-n.result (most (goal.at.pass_piece-requires c).After-min-n)
    c.find_terminator-end.result.at c.find_terminator-end.ensures.0 c.if-end-n.false (omega arith)

pub returns : goal.returns
returns c =
    went_on c.args.parcel.now c.args.x c.args.store.now c.args.rows.now c.requires.0 c.if-left-eq0.false (opened (goal.at.returns c).After-min-n) c.min-n.result (most (goal.at.returns c).After-min-n)
    c.pass_piece.result c.pass_piece.new.store c.pass_piece.new.rows c.pass_piece.ensures.0 c.pass_piece.ensures.1
