-- `shown::put_line` meets its contract.
-- Assumes nothing.
use mathlib.Core.Path.{◌∙◌, ap}
use mathlib.Core.List.{List, ◌∷◌, []}
use Prim.Native.Nat.{ℕ, ◌+◌}
use lib.ListN.{length}
use Rattle.laws.specs.Put.{put_at}
use Rattle.calendar.specs.Written.{day_characters}
use Rattle.shown.specs.Laws.{line_put}
use Rattle.shown.proofs.put_line.Goals as goal

pub returns : goal.returns
returns c =
    let a = c.args in
    let second = a.at + length a.number.now in
    let third = second + length a.mark.now in
    let d = day_characters a.days.now 0 a.n in
    c.put_bytes-3.ensures.1
    ∙ ap (λ (l : List ℕ). put_at l (third + a.n) (10 ∷ []))
    (c.put_days.ensures
    ∙ ap (λ (l : List ℕ). put_at l third d) (c.put_bytes-2.ensures.1 ∙ ap (λ (l : List ℕ). put_at l second a.mark.now) c.put_bytes.ensures.1))
    ∙ line_put a.out.now a.number.now a.mark.now a.days.now a.at a.n c.requires
