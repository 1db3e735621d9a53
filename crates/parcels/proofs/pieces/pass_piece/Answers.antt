-- `parcels::pieces::pass_piece` hands the front of a piece on, or all of it inside a message.
-- Assumes nothing.
use mathlib.Core.Path.{sym, ◌∙◌}
use Prim.Native.Nat.{◌+◌}
use Rattle.parcels.specs.NextPiece.{onward_front, piece_long, piece_ready, one_ready, one_onward, stretch_ready}
use Rattle.parcels.proofs.pieces.pass_piece.Goals as goal

pub slice_bounds-pass_cut-end : goal.slice_bounds-pass_cut-end
slice_bounds-pass_cut-end c =
    let a = c.args in
    piece_long a.x a.store.now a.piece.now a.end c.requires

pub pass_cut-requires : goal.pass_cut-requires
pass_cut-requires c =
    let a = c.args in
    piece_ready a.x a.store.now a.piece.now a.end c.requires

pub returns-then-kept-gt0 : goal.returns-then-kept-gt0
returns-then-kept-gt0 c =
    let a = c.args in
    let r = c.pass_cut in
    (onward_front (a.end + 1) a.piece.now a.x a.store.now a.rows.now r.result r.new.store r.new.rows r.ensures.0, r.ensures.1)

pub pass_stretch-requires : goal.pass_stretch-requires
pass_stretch-requires c =
    let a = c.args in
    stretch_ready a.x a.store.now a.piece.now a.end c.requires c.if-kept-gt0.false c.if-kept.false (sym c.is_inside.ensures ∙ c.if-is_inside.true)

pub slice_bounds-pass_one-end : goal.slice_bounds-pass_one-end
slice_bounds-pass_one-end c =
    let a = c.args in
    piece_long a.x a.store.now a.piece.now a.end c.requires

pub pass_one-requires : goal.pass_one-requires
pass_one-requires c =
    let a = c.args in
    one_ready a.x a.store.now a.piece.now a.end c.requires c.if-kept-gt0.false

pub returns : goal.returns
returns c =
    let a = c.args in
    let r = c.pass_one in
    (one_onward a.x a.store.now a.piece.now a.end c.requires c.if-kept-gt0.false a.rows.now r.result r.new.store r.new.rows r.ensures.0, r.ensures.1)
