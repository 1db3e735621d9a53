-- The end of a segment by a scan that counts no parts.
-- Assumes nothing.
use Rattle.std.specs.Prelude.{◌≡◌, refl, Bool, true, Option, Some, None, ltb, eqb, drop, get_or}
use Rattle.std.proofs.Common.{◌∙◌, add-zero, drop-drop}
use Rattle.std.proofs.Math.Bool.{false}
use mathlib.Core.List.{List, [], ◌∷◌}
use Prim.Native.Nat.{ℕ, zero, suc, ◌+◌, ◌≤◌, ◌<◌}
use native.Mathlib.Omega.{arith}
use borrow.Author.Tests.{le-ltb, lt-ltb, ltb-true, ltb-false}
use Rattle.std.proofs.Math.ListN.{length}
use Rattle.laws.specs.Choice.{pick, both, all, choose}
use Rattle.laws.specs.Lists.{drop_here, drop_past}
use Rattle.laws.specs.Leads.{run_of}
use Rattle.syntax.specs.Bytes.{permitted_of}
use Rattle.syntax.specs.Pieces.{first_piece}
use Rattle.syntax.specs.Passed.{goes, common, Goes, goes_fine, common_fine}

-- the index past the body g that begins at index i, where g is ended in an input of n bytes and all its bytes are permitted; else n
unfoldable pub found_end : ℕ → ℕ → List ℕ → ℕ
found_end n i g = pick (both (all permitted_of g) (ltb (i + length g) n)) (i + length g) n

-- the same for what is left of a segment from an index of the input on
abbrev pub end_from : List ℕ → ℕ → ℕ
end_from s i = found_end (length s) i (first_piece 39 false (drop i s))

pub fine_question : permitted_of 63 ≡ true
unfolding permitted_of
fine_question = refl

module _ (n i : ℕ) where
  pub end_byte : (b : ℕ) (g : List ℕ) → permitted_of b ≡ true → found_end n i (b ∷ g) ≡ found_end n (i + 1) g
  unfolding found_end
  end_byte b g p =
      let e : i + suc (length g) ≡ i + 1 + length g = omega arith in
      rw (p, e)

  end_bad : (b : ℕ) (g : List ℕ) → permitted_of b ≡ false → found_end n i (b ∷ g) ≡ n
  unfolding found_end
  end_bad b g p = rw p

  end_none : n ≤ i → found_end n i [] ≡ n
  unfolding found_end
  end_none h = simp (add-zero, le-ltb i n h)

  end_here : i < n → found_end n i [] ≡ i
  unfolding found_end
  end_here h = simp (add-zero, lt-ltb i n h)

first_other : (b : ℕ) (l : List ℕ) → eqb b 39 ≡ false → eqb b 63 ≡ false → first_piece 39 false (b ∷ l) ≡ b ∷ first_piece 39 false l
unfolding first_piece
first_other b l p q = rw (p, q)

-- a byte that is permitted and stands neither as terminator nor as release, and a run of those that are passed over
pub end_on : (n i b : ℕ) (l : List ℕ) → permitted_of b ≡ true → eqb b 39 ≡ false → eqb b 63 ≡ false → found_end n i (first_piece 39 false (b ∷ l)) ≡ found_end n (i + 1) (first_piece 39 false l)
end_on n i b l f p q = rw (first_other b l p q) (end_byte n i b (first_piece 39 false l) f)

pub goes_on : (n i b : ℕ) (l : List ℕ) → goes b ≡ true → found_end n i (first_piece 39 false (b ∷ l)) ≡ found_end n (i + 1) (first_piece 39 false l)
goes_on n i b l q = let g = goes_fine b q in end_on n i b l g.permitted g.quote g.question

run : (f : ℕ → Bool) → ((b : ℕ) → f b ≡ true → Goes b) → (n k : ℕ) (l : List ℕ) (i : ℕ) → k ≤ run_of f l → found_end n i (first_piece 39 false l) ≡ found_end n (i + k) (first_piece 39 false (drop k l))
unfolding run_of
run f fine n zero l i h = simp add-zero
run f fine n (suc k) [] i h = absurd (omega arith)
run f fine n (suc k) (b ∷ l) i h =
    choose (f b)
    (λ q.
    let e : i + suc k ≡ i + 1 + k = omega arith in
    let w = fine b q in
    let g = rw q at h in
    end_on n i b l w.permitted w.quote w.question ∙ run f fine n k l (i + 1) (omega arith) ∙ rw e)
    (λ q. let g = rw q at h in absurd (omega arith))

pub end_run : (s : List ℕ) (i k : ℕ) → k ≤ run_of goes (drop i s) → end_from s i ≡ end_from s (i + k)
end_run s i k h = run goes goes_fine (length s) k (drop i s) i h ∙ rw drop-drop

pub end_common : (s : List ℕ) (i k : ℕ) → k ≤ run_of common (drop i s) → end_from s i ≡ end_from s (i + k)
end_common s i k h = run common common_fine (length s) k (drop i s) i h ∙ rw drop-drop

-- the steps at an index of the input
pub end_past : (s : List ℕ) (j : ℕ) → length s ≤ j → end_from s j ≡ length s
unfolding first_piece
end_past s j h = rw (drop_past s j h) (end_none (length s) j h)

module _ (s : List ℕ) (j : ℕ) (h : j < length s) where
  pub end_quote : get_or s j 0 ≡ 39 → end_from s j ≡ j
  unfolding first_piece
  end_quote e = rw (drop_here s j h, e) (end_here (length s) j h)

  pub end_plain : permitted_of (get_or s j 0) ≡ true → eqb (get_or s j 0) 39 ≡ false → eqb (get_or s j 0) 63 ≡ false → end_from s j ≡ end_from s (j + 1)
  end_plain f p q = rw (drop_here s j h) (end_on (length s) j (get_or s j 0) (drop (j + 1) s) f p q)

  pub end_other : permitted_of (get_or s j 0) ≡ false → eqb (get_or s j 0) 39 ≡ false → end_from s j ≡ length s
  unfolding first_piece
  end_other f p =
      rw (drop_here s j h, p) (end_bad (length s) j (get_or s j 0) (first_piece 39 (eqb (get_or s j 0) 63) (drop (j + 1) s)) f)

  pub end_question : get_or s j 0 ≡ 63 → length s ≤ j + 1 → end_from s j ≡ length s
  unfolding first_piece
  end_question e g =
      rw (drop_here s j h, e, drop_past s (j + 1) g) (end_byte (length s) j 63 [] fine_question ∙ end_none (length s) (j + 1) g)

  module _ (e : get_or s j 0 ≡ 63) (g : j + 1 < length s) where
    two : drop j s ≡ 63 ∷ get_or s (j + 1) 0 ∷ drop (j + 1 + 1) s
    two = drop_here s j h ∙ rw (e, drop_here s (j + 1) g)

    pub end_released_bad : permitted_of (get_or s (j + 1) 0) ≡ false → end_from s j ≡ length s
    unfolding first_piece
    end_released_bad p =
        rw two (end_byte (length s) j 63 (get_or s (j + 1) 0 ∷ first_piece 39 false (drop (j + 1 + 1) s)) fine_question
        ∙ end_bad (length s) (j + 1) (get_or s (j + 1) 0) (first_piece 39 false (drop (j + 1 + 1) s)) p)

    pub end_released : permitted_of (get_or s (j + 1) 0) ≡ true → end_from s j ≡ end_from s (j + 1 + 1)
    unfolding first_piece
    end_released p =
        rw two (end_byte (length s) j 63 (get_or s (j + 1) 0 ∷ first_piece 39 false (drop (j + 1 + 1) s)) fine_question
        ∙ end_byte (length s) (j + 1) (get_or s (j + 1) 0) (first_piece 39 false (drop (j + 1 + 1) s)) p)

-- an end that is found is that of the body
pub end_body : (s : List ℕ) (at : ℕ) → end_from s at < length s → end_from s at ≡ at + length (first_piece 39 false (drop at s))
unfolding found_end
end_body s at h =
    choose (both (all permitted_of (first_piece 39 false (drop at s))) (ltb (at + length (first_piece 39 false (drop at s))) (length s)))
    (λ p. rw p)
    (λ p. let g = rw p at h in absurd (omega arith))

-- an index as an end, and none where it is the input's length
unfoldable pub told_of : ℕ → ℕ → Option ℕ
told_of n e = pick (ltb e n) (Some e) None

pub told_some : (n e : ℕ) → e < n → Some e ≡ told_of n e
unfolding told_of
told_some n e h = rw (lt-ltb e n h)

pub told_none : (n e : ℕ) → n ≤ e → None ≡ told_of n e
unfolding told_of
told_none n e h = rw (le-ltb e n h)

-- and back
pub told_is : (n e f : ℕ) → told_of n e ≡ Some f → (e ≡ f) × (e < n)
unfolding told_of
told_is n e f q =
    choose (ltb e n)
    (λ p. let g = rw p at q in (cc, ltb-true e n p))
    (λ p. let g = rw p at q in absurd cc)

pub told_past : (n e : ℕ) → told_of n e ≡ None → n ≤ e
unfolding told_of
told_past n e q =
    choose (ltb e n)
    (λ p. let g = rw p at q in absurd cc)
    (λ p. ltb-false e n p)
