-- What callers cite of a segment: where its end lies, and that what stands before the end decides the answer.
-- Assumes nothing.
use Rattle.std.specs.Prelude.{◌≡◌, refl, Bool, true, false, List, [], ◌∷◌, ◌++◌, ℕ, zero, suc, ◌+◌, ◌-◌, ◌≤◌, ◌<◌, ltb, length, take, drop, Result, Ok, Err}
use Rattle.std.proofs.Common.{sym, ap, ◌∙◌, arith, not-suc-le-zero, ltb-true, lt-ltb, length-take, length-drop, length-append}
use Rattle.std.proofs.lemmas.List.{drop-append-le}
use Rattle.laws.specs.Choice.{all, choose, both_parts, false≢true}
use Rattle.laws.specs.Lists.{drop_take}
use Rattle.syntax.specs.declared.segment.ScanError.{ScanError}
use Rattle.syntax.specs.declared.segment.ScanError.TheVariants.{NotPermitted, Unended, Malformed}
use Rattle.syntax.specs.Bytes.{permitted_of, stands, releases}
use Rattle.syntax.specs.Pieces.{first_piece, tag_text}
use Rattle.syntax.specs.Firsts.{first_take, first_length}
use Rattle.syntax.specs.Segment.{body_at, three_capitals, tagged, within_limits, well_formed, permitted_run, scan_of, segment_at, tag_number}

-- what an end tells
pub record Ended (s : List ℕ) (at e : ℕ) : Type 0 where
  pub fine : all permitted_of (body_at s at) ≡ true
  pub formed : well_formed (body_at s at) ≡ true
  pub place : e ≡ at + length (body_at s at)
  pub inside : e < length s

apart : (x : ScanError) (e : ℕ) → Err x ≡ Ok e → ⊥
apart x e q = let z : ◌≡◌ {A = ℕ} 0 1 = cc in omega arith

end_is : (i e : ℕ) → ◌≡◌ {A = Result ℕ ScanError} (Ok i) (Ok e) → i ≡ e
end_is i e q = cc

pub ended : (s : List ℕ) (at e : ℕ) → segment_at s at ≡ Ok e → Ended s at e
unfolding scan_of
ended s at e q =
    choose (all permitted_of (body_at s at))
    (λ f.
    choose (ltb (at + length (body_at s at)) (length s))
    (λ h.
    choose (well_formed (body_at s at))
    (λ w.
    let p = end_is (at + length (body_at s at)) e (rw (f, h, w) at q) in
    let l = ltb-true (at + length (body_at s at)) (length s) h in
    record { fine = f; formed = w; place = sym p; inside = omega arith })
    (λ w. absurd (apart Malformed e (rw (f, h, w) at q))))
    (λ h. absurd (apart Unended e (rw (f, h) at q))))
    (λ f. absurd (apart (NotPermitted (at + permitted_run (body_at s at))) e (rw f at q)))

-- the bytes from a segment's start to its end are its body
pub body_slice : (s : List ℕ) (at e : ℕ) → segment_at s at ≡ Ok e → take (e - at) (drop at s) ≡ body_at s at
body_slice s at e q =
    let w = ended s at e q in
    let d : e - at ≡ length (body_at s at) = omega (arith, w.place) in
    ap (λ (n : ℕ). take n (drop at s)) d ∙ sym (first_take 39 false (drop at s))

-- "its end lies past its start and within the input": three letters stand before it
letters : (l : List ℕ) → three_capitals l ≡ true → length l ≡ 3
letters [] q = absurd (false≢true q)
letters (a ∷ []) q = absurd (false≢true q)
letters (a ∷ b ∷ []) q = absurd (false≢true q)
letters (a ∷ b ∷ c ∷ []) q = refl
letters (a ∷ b ∷ c ∷ d ∷ l) q = absurd (false≢true q)

formed_length : (g : List ℕ) → well_formed g ≡ true → 3 ≤ length g
unfolding well_formed tagged
formed_length g q =
    let t = letters (tag_text g) (both_parts (tagged g) (within_limits g) q).0 in
    let h = first_length 43 false g in
    omega arith

pub end_within : (s : List ℕ) (at e : ℕ) → segment_at s at ≡ Ok e → (at + 3 ≤ e) × (e < length s)
end_within s at e q =
    let w = ended s at e q in
    let l = formed_length (body_at s at) w.formed in
    (omega arith, w.inside)

-- the tag's number is that of the segment's first bytes
number_take : (n : ℕ) (l : List ℕ) → 3 ≤ n → tag_number (take n l) ≡ tag_number l
number_take zero l h = absurd (omega arith)
number_take (suc zero) l h = absurd (omega arith)
number_take (suc (suc zero)) l h = absurd (omega arith)
number_take (suc (suc (suc n))) [] h = refl
number_take (suc (suc (suc n))) (a ∷ []) h = refl
number_take (suc (suc (suc n))) (a ∷ b ∷ []) h = refl
number_take (suc (suc (suc n))) (a ∷ b ∷ c ∷ l) h = refl

pub end_tag : (s : List ℕ) (at e : ℕ) → segment_at s at ≡ Ok e → tag_number (drop at s) ≡ tag_number (body_at s at)
end_tag s at e q =
    let w = ended s at e q in
    let l = formed_length (body_at s at) w.formed in
    sym (ap tag_number (first_take 39 false (drop at s)) ∙ number_take (length (body_at s at)) (drop at s) l)

-- "what stands before the end decides the answer": a piece that is ended does not change with what follows
first_decides : (c : ℕ) (r : Bool) (l t : List ℕ) → length (first_piece c r l) < length l → first_piece c r (take (suc (length (first_piece c r l))) l ++ t) ≡ first_piece c r l
unfolding first_piece
first_decides c r [] t h = absurd (not-suc-le-zero h)
first_decides c r (b ∷ l) t h =
    choose (stands c r b) (λ q. rw q)
    (λ q. let g = rw q at h in rw q (ap (λ (x : List ℕ). b ∷ x) (first_decides c (releases r b) l t (omega arith))))

front : (s t : List ℕ) (at k : ℕ) → at + k ≤ length s → drop at (take (at + k) s ++ t) ≡ take k (drop at s) ++ t
front s t at k h =
    let l = length-take (at + k) s in
    let e : at + k - at ≡ k = omega arith in
    drop-append-le at (take (at + k) s) t (omega arith) ∙ ap (λ (x : List ℕ). x ++ t) (drop_take at (at + k) s ∙ ap (λ (n : ℕ). take n (drop at s)) e)

pub body_decides : (s t : List ℕ) (at : ℕ) → at + length (body_at s at) < length s
    → body_at (take (at + suc (length (body_at s at))) s ++ t) at ≡ body_at s at
body_decides s t at h =
    let d = length-drop at s in
    rw (front s t at (suc (length (body_at s at))) (omega arith)) (first_decides 39 false (drop at s) t (omega arith))

pub end_decides : (s t : List ℕ) (at : ℕ) → at + length (body_at s at) < length s
    → segment_at (take (at + suc (length (body_at s at))) s ++ t) at ≡ segment_at s at
unfolding scan_of
end_decides s t at h =
    let b = body_decides s t at h in
    let m = length-append (take (at + suc (length (body_at s at))) s) t in
    let n = length-take (at + suc (length (body_at s at))) s in
    let i : at + length (body_at s at) < length (take (at + suc (length (body_at s at))) s ++ t) = omega arith in
    rw (b, lt-ltb (at + length (body_at s at)) (length (take (at + suc (length (body_at s at))) s ++ t)) i, lt-ltb (at + length (body_at s at)) (length s) h)

-- and so for the first byte that is not permitted
abbrev found : ℕ → List ℕ → Type 0
found m g = (permitted_run g ≡ m) × (all permitted_of g ≡ false)

bad_decides : (r : Bool) (l t : List ℕ) → all permitted_of (first_piece 39 r l) ≡ false
    → found (permitted_run (first_piece 39 r l)) (first_piece 39 r (take (suc (permitted_run (first_piece 39 r l))) l ++ t))
unfolding first_piece permitted_run
bad_decides r [] t q = absurd (false≢true (sym q))
bad_decides r (b ∷ l) t q =
    choose (stands 39 r b) (λ p. absurd (false≢true (sym (rw p at q))))
    (λ p.
    choose (permitted_of b)
    (λ f. let w = bad_decides (releases r b) l t (rw (p, f) at q) in rw (p, f) (ap suc w.0, w.1))
    (λ f. rw (p, f) (refl, refl)))

-- what a byte that is not permitted tells
is_bad : Result ℕ ScanError → Bool
is_bad (Ok e) = false
is_bad (Err (NotPermitted j)) = true
is_bad (Err Unended) = false
is_bad (Err Malformed) = false

bad_is : (i j : ℕ) → ◌≡◌ {A = Result ℕ ScanError} (Err (NotPermitted i)) (Err (NotPermitted j)) → i ≡ j
bad_is i j q = cc

good : (n at : ℕ) (g : List ℕ) → all permitted_of g ≡ true → is_bad (scan_of n at g) ≡ false
unfolding scan_of is_bad
good n at g f =
    rw f
    (choose (ltb (at + length g) n) (λ h. rw h (choose (well_formed g) (λ w. rw w) (λ w. rw w))) (λ h. rw h))

bad : (s : List ℕ) (at j : ℕ) → segment_at s at ≡ Err (NotPermitted j) → (all permitted_of (body_at s at) ≡ false) × (j ≡ at + permitted_run (body_at s at))
unfolding scan_of is_bad
bad s at j q =
    choose (all permitted_of (body_at s at))
    (λ f. absurd (false≢true (sym (good (length s) at (body_at s at) f) ∙ ap is_bad q)))
    (λ f. (f, sym (bad_is (at + permitted_run (body_at s at)) j (rw f at q))))

run_short : (g : List ℕ) → all permitted_of g ≡ false → permitted_run g < length g
unfolding permitted_run
run_short [] q = absurd (false≢true (sym q))
run_short (b ∷ g) q =
    choose (permitted_of b) (λ f. rw f (let h = run_short g (rw f at q) in omega arith)) (λ f. rw f (omega arith))

pub bad_within : (s : List ℕ) (at j : ℕ) → segment_at s at ≡ Err (NotPermitted j) → (at ≤ j) × (j < length s)
bad_within s at j q =
    let w = bad s at j q in
    let r = run_short (body_at s at) w.0 in
    let l = first_length 39 false (drop at s) in
    let d = length-drop at s in
    (omega arith, omega arith)

pub bad_stays : (s t : List ℕ) (at j : ℕ) → segment_at s at ≡ Err (NotPermitted j) → segment_at (take (j + 1) s ++ t) at ≡ Err (NotPermitted j)
unfolding scan_of
bad_stays s t at j q =
    let h = bad_within s at j q in
    let w = bad s at j q in
    let m = permitted_run (body_at s at) in
    let e : j + 1 ≡ at + suc m = omega arith in
    let d = bad_decides false (drop at s) t w.0 in
    let b : body_at (take (j + 1) s ++ t) at ≡ first_piece 39 false (take (suc m) (drop at s) ++ t) =
    ap (λ (n : ℕ). first_piece 39 false (drop at (take n s ++ t))) e ∙ ap (first_piece 39 false) (front s t at (suc m) (omega arith)) in
    rw (b, d.1, d.0) (ap (λ (k : ℕ). Err (NotPermitted k)) (sym w.1))
