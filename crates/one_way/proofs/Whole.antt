-- A whole message: what is left of it before its first segment is its arrangement. Assumes nothing.
use Rattle.std.specs.Prelude.{◌≡◌, true, ℕ, ◌<◌, T, eqb, Some}
use Rattle.std.proofs.Math.Path.{sym, ap}
use Rattle.std.proofs.Common.{◌∙◌, arith}
use mathlib.Core.List.{List, [], ◌∷◌, map, append-nil}
use borrow.Author.Tests.{eqb-false, eq-eqb}
use Rattle.messages.specs.Tags.{UIH}
use Rattle.placing.specs.Table.{Table, rows, tag_at, group_at}
use Rattle.placing.specs.Place.{start_place}
use Rattle.placing.specs.Rule.{reachable, go, first_of}
use Rattle.placing.proofs.Walks.{places_step}
use Rattle.placing.specs.WellFormed.{well_formed}
use Rattle.placing.proofs.Formed.{group_none, segment_fits}
use Rattle.placing.proofs.Envelope.{MessageTable}
use Rattle.one_way.specs.Arrangement.{Arrangement, Where, tags_of, outermost, is_arrangement, standings}
use Rattle.one_way.specs.Placings.{before_all, first_choices, first_place}
use Rattle.one_way.specs.Test.{OneFits}
use Rattle.one_way.proofs.Reach.{path, start, placed, put}
use Rattle.one_way.proofs.Left.{Left, tags_left, where_left, where_from_lem, to_left, from_left}
use Rattle.one_way.proofs.Finds.{finds}
use Rattle.one_way.proofs.Sound.{has}
use Rattle.one_way.proofs.Alike.{flat}
use Rattle.one_way.proofs.Begun.{start_sane, Fine, clear, clear_start}

module _ (t : Table) (good : T (well_formed t)) where
  pub put_arranged : OneFits t → (a : Arrangement) → is_arrangement t a ≡ true → put t (start t) (tags_of a) ≡ placed (standings t a)
  unfolding tags_left where_left path
  put_arranged h a v =
      ap (put t (start t)) (sym (append-nil (tags_of a)))
      ∙ finds t good (Fine t good h) (clear t good h) (a ∷ []) (start t) (clear_start t good h) (to_left a t (outermost t) v, tt)
      ∙ ap placed (append-nil _ ∙ where_from_lem a t (outermost t) [])

  alone_by : (w : List ℕ) (p : List Where) (l : List Arrangement) → Left t (start t) l → tags_left l ≡ w → where_left t (start t) l ≡ p
      → (a : Arrangement) × (is_arrangement t a ≡ true) × (tags_of a ≡ w) × (standings t a ≡ p)
  unfolding tags_left where_left path
  alone_by w p [] f d s = absurd f
  alone_by w p (a ∷ []) f d s =
      (a, from_left a t (outermost t) f.0, sym (append-nil (tags_of a)) ∙ d, sym (where_from_lem a t (outermost t) []) ∙ sym (append-nil _) ∙ s)
  alone_by w p (a ∷ b ∷ l) f d s = absurd f.1

  pub put_has : (w : List ℕ) (p : List Where) → put t (start t) w ≡ placed p → (a : Arrangement) × (is_arrangement t a ≡ true) × (tags_of a ≡ w) × (standings t a ≡ p)
  put_has w p e = let h = has t good w (start t) p (start_sane t good) e in alone_by w p h.by h.fits h.reads h.stands

-- "UIH is the first place of a message": it reaches the place where the reader starts
module _ (t : Table) (last : ℕ) (m : MessageTable t last) where
  some_rows : 0 < rows t
  some_rows = omega (arith, m.long)

  no_group : tag_at t 0 ≡ 0 → ⊥
  no_group = eqb-false (tag_at t 0) 0 (ap (λ x. eqb x 0) m.uih)

  pub uih_free : group_at t 0 ≡ 0
  uih_free = group_none t m.well 0 some_rows no_group (flat t m.well some_rows)

  pub uih_first : first_place t UIH ≡ Some start_place
  unfolding first_place first_choices reachable first_of
  uih_first =
      ap (λ l. first_of t before_all UIH (map (λ row. go row 0 1) (reachable t l))) (places_step t 0 (rows t) some_rows some_rows)
      ∙ rw (segment_fits 4 t UIH 0 no_group, eq-eqb (tag_at t 0) UIH m.uih)
