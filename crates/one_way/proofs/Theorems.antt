-- Only one way to read a message: document 02, A13. Arrangement.antt says what an arrangement is, Placings.antt where the placing rule puts each segment,
-- Test.antt when one place at most fits, and the computed test of it. Assumes nothing.
use Rattle.std.specs.Prelude.{◌≡◌, true, List, [], ◌∷◌, ◌++◌, ◌↔◌, ℕ, T}
use Rattle.std.proofs.Common.{sym, ◌∙◌, ap}
use Rattle.laws.specs.Lists.{cons_parts}
use Rattle.messages.specs.Tags.{UIH, UIT}
use Rattle.placing.specs.Table.{Table}
use Rattle.placing.specs.WellFormed.{well_formed}
use Rattle.placing.proofs.Envelope.{MessageTable}
use Rattle.one_way.specs.Arrangement.{Arrangement, tags_of, outermost, is_arrangement, standings}
use Rattle.one_way.specs.Placings.{all_placed, where_placed, uih_to_uit}
use Rattle.one_way.specs.Test.{OneFits, one_way}
use Rattle.one_way.proofs.Reach.{start}
use Rattle.one_way.proofs.Left.{tags_left, to_left}
use Rattle.one_way.proofs.Only.{only}
use Rattle.one_way.proofs.Tested.{one_fits}
use Rattle.one_way.proofs.Begun.{Fine, clear, clear_start}
use Rattle.one_way.proofs.Walked.{put_placings, placings_put}
use Rattle.one_way.proofs.Whole.{put_arranged, put_has}

module _ (t : Table) (good : T (well_formed t)) where
  -- the computed test is enough for what the theorems ask
  pub tested : T (one_way t) → OneFits t
  tested h = one_fits t good h

  -- "for each table in which no tag fits two places among the placing rule's choices from any place reached"
  module _ (h : OneFits t) where
    -- "a message has at most one arrangement in the groups by the table alone"
    pub at_most_one : (a b : Arrangement) → is_arrangement t a ≡ true → is_arrangement t b ≡ true → tags_of a ≡ tags_of b → a ≡ b
    unfolding tags_left
    at_most_one a b v w e =
        (cons_parts (only t good (Fine t good h) (clear t good h) (a ∷ []) (start t) (b ∷ []) (clear_start t good h)
        (to_left a t (outermost t) v, tt) (to_left b t (outermost t) w, tt) (ap (λ l. l ++ []) e))).0

    -- "and .. the placing rule finds it whenever there is one": it places every segment, each where the arrangement has it
    pub rule_finds : (a : Arrangement) → is_arrangement t a ≡ true → (all_placed t (tags_of a) ≡ true) × (where_placed t (tags_of a) ≡ standings t a)
    rule_finds a v = put_placings t good (tags_of a) (standings t a) (put_arranged t good h a v)

-- A message is UIH to UIT
module _ (t : Table) (last : ℕ) (m : MessageTable t last) (w : List ℕ) where
  -- where the placing rule places every segment there is an arrangement with each segment where the rule places it, whether the table passes the test or not
  pub arranged_when : all_placed t (uih_to_uit w) ≡ true → (a : Arrangement) × (is_arrangement t a ≡ true) × (tags_of a ≡ uih_to_uit w) × (standings t a ≡ where_placed t (uih_to_uit w))
  arranged_when e = put_has t m.well (uih_to_uit w) (where_placed t (uih_to_uit w)) (placings_put t m.well last UIT m.long m.uit_free m.uit_only UIH w e)

  -- so the placing rule places every segment of a message exactly when the message has an arrangement
  pub exactly_when : OneFits t → (all_placed t (uih_to_uit w) ≡ true) ↔ ((a : Arrangement) × (is_arrangement t a ≡ true) × (tags_of a ≡ uih_to_uit w))
  exactly_when h =
      (λ e. let c = arranged_when e in (c.0, c.1, c.2), λ c. ap (all_placed t) (sym c.2) ∙ (rule_finds t m.well h c.0 c.1).0)
