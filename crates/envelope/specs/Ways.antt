-- The ways through a UIB and a UIH, a law for each answer of the code.
-- Assumes nothing.
use Rattle.std.specs.Prelude.{ℕ, ◌≡◌, Bool, true, false, not, List, [], ◌∷◌, Some, None, Err}
use Rattle.std.proofs.Common.{subst}
use Rattle.laws.specs.Choice.{both, all, both_true, both_false, both_parts, choose}
use Rattle.parts.specs.Places.{present}
use Rattle.envelope.specs.Envelope.{says, value_of, place_of, directory_of, typed, typed_12b, type_of, version_of, release_number_of, agency_of, sub_function_of, reference_of, UNOB, version4, version_d, release_04a, release_12b, agency_un, uib_of, uih_of}
use Rattle.envelope.specs.declared.HeadError.TheVariants.{Missing, Unknown}

-- a test of three values or of four, each known under another name
pub of_three : (f : List ℕ → List ℕ → List ℕ → Bool) {a b d a' b' d' : List ℕ} → a ≡ a' → b ≡ b' → d ≡ d' → f a b d ≡ f a' b' d'
of_three f p q r = rw (p, q, r)

pub of_four : (f : List ℕ → List ℕ → List ℕ → List ℕ → Bool) {a b d e a' b' d' e' : List ℕ} → a ≡ a' → b ≡ b' → d ≡ d' → e ≡ e' → f a b d e ≡ f a' b' d' e'
of_four f p q r s = rw (p, q, r, s)

-- the parts of S306 that are the same in every directory: all after the type but the release
abbrev pub besides_release : List ℕ → List ℕ → List ℕ → Bool
besides_release version subFunction agency = both (says version version_d) (both (not (present subFunction)) (says agency agency_un))

-- a directory is these and its release
module _ (named version release subFunction agency : List ℕ) where
  pub directory_other : besides_release version subFunction agency ≡ false → directory_of named version release subFunction agency ≡ false
  directory_other p =
      choose (says version version_d)
      (λ q. rw (q, subst (λ x. both x (both (not (present subFunction)) (says agency agency_un)) ≡ false) q p) (both_false (says release named)))
      (λ q. rw q)

  module _ (p : besides_release version subFunction agency ≡ true) where
    pub directory_by : directory_of named version release subFunction agency ≡ says release named
    directory_by =
        let w = both_parts (says version version_d) (both (not (present subFunction)) (says agency agency_un)) p in
        rw (w.0, w.1) (both_true (says release named))

-- the ways through a UIB
module _ (g : List ℕ) where
  pub uib_level : says (value_of g 1 1) UNOB ≡ false → None ≡ uib_of g
  unfolding uib_of
  uib_level a = rw a

  pub uib_version : says (value_of g 1 1) UNOB ≡ true → says (value_of g 1 2) version4 ≡ false → None ≡ uib_of g
  unfolding uib_of
  uib_version a b = rw (a, b)

  pub uib_absent : says (value_of g 1 1) UNOB ≡ true → says (value_of g 1 2) version4 ≡ true → present (value_of g 2 1) ≡ false → None ≡ uib_of g
  unfolding uib_of
  uib_absent a b d = rw (a, b, d)

  pub uib_good : says (value_of g 1 1) UNOB ≡ true → says (value_of g 1 2) version4 ≡ true → present (value_of g 2 1) ≡ true → Some (place_of g 2 1) ≡ uib_of g
  unfolding uib_of
  uib_good a b d = rw (a, b, d)

  -- the ways through a UIH
  pub uih_absent : present (reference_of g) ≡ false → Err Missing ≡ uih_of g
  unfolding uih_of
  uih_absent h = simp (h, both_false)

  module _ (h : present (reference_of g) ≡ true) where
    pub uih_missing : all present (type_of g ∷ version_of g ∷ release_number_of g ∷ agency_of g ∷ []) ≡ false → Err Missing ≡ uih_of g
    unfolding uih_of
    uih_missing a = rw (h, a)

    module _ (a : all present (type_of g ∷ version_of g ∷ release_number_of g ∷ agency_of g ∷ []) ≡ true) where
      pub uih_unknown : besides_release (version_of g) (sub_function_of g) (agency_of g) ≡ false → Err Unknown ≡ uih_of g
      unfolding uih_of
      uih_unknown b =
          rw (h, a, directory_other release_04a (version_of g) (release_number_of g) (sub_function_of g) (agency_of g) b, directory_other release_12b (version_of g) (release_number_of g) (sub_function_of g) (agency_of g) b)

      module _ (b : besides_release (version_of g) (sub_function_of g) (agency_of g) ≡ true) where
        named : (release : List ℕ) → directory_of release (version_of g) (release_number_of g) (sub_function_of g) (agency_of g) ≡ says (release_number_of g) release
        named release = directory_by release (version_of g) (release_number_of g) (sub_function_of g) (agency_of g) b

        pub uih_typed : says (release_number_of g) release_04a ≡ true → typed (type_of g) (place_of g 2 1) ≡ uih_of g
        unfolding uih_of
        uih_typed d = rw (h, a, named release_04a, d)

        module _ (d : says (release_number_of g) release_04a ≡ false) where
          pub uih_typed_12b : says (release_number_of g) release_12b ≡ true → typed_12b (type_of g) (place_of g 2 1) ≡ uih_of g
          unfolding uih_of
          uih_typed_12b e = rw (h, a, named release_04a, d, named release_12b, e)

          pub uih_other : says (release_number_of g) release_12b ≡ false → Err Unknown ≡ uih_of g
          unfolding uih_of
          uih_other e = rw (h, a, named release_04a, d, named release_12b, e)
