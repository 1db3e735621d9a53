use Rattle.std.proofs.Common.{◌≡◌, ◌+◌, ◌-◌, ◌≤◌, ℕ, refl, sym, ◌∙◌, length, take, length-take-le, arith}
use Rattle.std.proofs.lemmas.Slice.{put_mid-paste}
use Rattle.laws.specs.Put.{put_room}
use Rattle.interchange.proofs.rows.copy_rows.Goals as goal

pub returns : goal.returns
returns c =
    let a = c.args in
    let r = take a.n a.from.now in
    let e = length-take-le a.n a.from.now c.requires.0 in
    let h = c.requires.1 in
    put_mid-paste a.at (a.at + a.n - a.at) a.to.now c.copy_from_slice.new.self r (length r) c.copy_from_slice.ensures.after (omega arith) refl
    ∙ sym (put_room a.to.now a.at r (omega arith))
