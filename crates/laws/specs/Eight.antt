-- Eight bytes of a list as one number, and how it is read.
-- Assumes nothing.
use Rattle.std.specs.Prelude.{◌≡◌, refl, Bool, List, [], ◌∷◌, ◌++◌, ℕ, zero, suc, ◌+◌, ◌*◌, ◌^◌, ◌≤◌, ◌<◌, length, get_or, drop}
use Rattle.std.proofs.Common.{sym, ap, ◌∙◌, arith}
use Rattle.std.specs.Int.Bits.{bit_or}
use Rattle.std.proofs.lemmas.Nat.{or_shifted}
use Rattle.laws.specs.Choice.{both, all, both_assoc}
use Rattle.laws.specs.Lists.{drop_here}
use Rattle.laws.specs.Words.{word_by, word_of, Every, none, one, Byte}

-- the eight bytes from an index on
abbrev pub eight_at : List ℕ → ℕ → List ℕ
eight_at s i =
    get_or s i 0 ∷ get_or s (i + 1) 0 ∷ get_or s (i + 2) 0 ∷ get_or s (i + 3) 0 ∷ get_or s (i + 4) 0 ∷ get_or s (i + 5) 0 ∷ get_or s (i + 6) 0 ∷ get_or s (i + 7) 0 ∷ []

-- a number that is these eight bytes
pub record Word (s : List ℕ) (i x : ℕ) : Type 0 where
  pub is : x ≡ word_of (eight_at s i)
  pub bytes : Every Byte (eight_at s i)

-- the n elements from k behind an index on
further : List ℕ → ℕ → ℕ → ℕ → List ℕ
further s i k zero = []
further s i k (suc n) = get_or s (i + k) 0 ∷ further s i (suc k) n

drop_further : (s : List ℕ) (i n k : ℕ) → i + k + n ≤ length s → drop (i + k) s ≡ further s i k n ++ drop (i + (k + n)) s
unfolding further
drop_further s i zero k h = let e : k + 0 ≡ k = omega arith in rw e
drop_further s i (suc n) k h =
    let e : i + k + 1 ≡ i + suc k = omega arith in
    let f : k + suc n ≡ suc k + n = omega arith in
    rw f
    (drop_here s (i + k) (omega arith)
    ∙ ap (λ (j : ℕ). get_or s (i + k) 0 ∷ drop j s) e
    ∙ ap (λ (l : List ℕ). get_or s (i + k) 0 ∷ l) (drop_further s i n (suc k) (omega arith)))

pub drop_eight : (s : List ℕ) (i : ℕ) → i + 8 ≤ length s → drop i s ≡ eight_at s i ++ drop (i + 8) s
unfolding further
drop_eight s i h = drop_here s i (omega arith) ∙ ap (λ (l : List ℕ). get_or s i 0 ∷ l) (drop_further s i 7 1 (omega arith))

pub all_joined : (f : ℕ → Bool) (l k : List ℕ) → all f (l ++ k) ≡ both (all f l) (all f k)
all_joined f [] k = refl
all_joined f (a ∷ l) k = ap (both (f a)) (all_joined f l k) ∙ sym (both_assoc (f a) (all f l) (all f k))

-- ---- put together by `|`: each byte stands below the ones before it

below_or : (s a k b : ℕ) → s ≡ a * 2 ^ k → b < 2 ^ k → bit_or s b ≡ s + b
below_or s a k b e h = rw e (or_shifted a k b h)

abbrev pub row : ℕ → ℕ → ℕ → ℕ → ℕ → ℕ → ℕ → ℕ → ℕ
row a b c d e f g h = bit_or (bit_or (bit_or (bit_or (bit_or (bit_or (bit_or (a * 72057594037927936) (b * 281474976710656)) (c * 1099511627776)) (d * 4294967296)) (e * 16777216)) (f * 65536)) (g * 256)) h

module _ (a b c d e f g h : ℕ) (bb : b < 256) (bc : c < 256) (bd : d < 256) (be : e < 256) (bf : f < 256) (bg : g < 256) (bh : h < 256) where
  pub row_sum : row a b c d e f g h ≡ a * 72057594037927936 + b * 281474976710656 + c * 1099511627776 + d * 4294967296 + e * 16777216 + f * 65536 + g * 256 + h
  row_sum =
      rw (below_or (a * 72057594037927936) a 56 (b * 281474976710656) (omega arith) (omega arith))
      (rw (below_or (a * 72057594037927936 + b * 281474976710656) (a * 256 + b) 48 (c * 1099511627776) (omega arith) (omega arith))
      (rw (below_or (a * 72057594037927936 + b * 281474976710656 + c * 1099511627776) (a * 65536 + b * 256 + c) 40 (d * 4294967296) (omega arith) (omega arith))
      (rw (below_or (a * 72057594037927936 + b * 281474976710656 + c * 1099511627776 + d * 4294967296) (a * 16777216 + b * 65536 + c * 256 + d) 32 (e * 16777216) (omega arith) (omega arith))
      (rw (below_or (a * 72057594037927936 + b * 281474976710656 + c * 1099511627776 + d * 4294967296 + e * 16777216) (a * 4294967296 + b * 16777216 + c * 65536 + d * 256 + e) 24 (f * 65536) (omega arith) (omega arith))
      (rw (below_or (a * 72057594037927936 + b * 281474976710656 + c * 1099511627776 + d * 4294967296 + e * 16777216 + f * 65536) (a * 1099511627776 + b * 4294967296 + c * 16777216 + d * 65536 + e * 256 + f) 16 (g * 256) (omega arith) (omega arith))
      (below_or (a * 72057594037927936 + b * 281474976710656 + c * 1099511627776 + d * 4294967296 + e * 16777216 + f * 65536 + g * 256) (a * 281474976710656 + b * 1099511627776 + c * 4294967296 + d * 16777216 + e * 65536 + f * 256 + g) 8 h (omega arith) (omega arith)))))))

-- the bytes read one by one, the last first
abbrev pub Read : ℕ → ℕ → Type 0
Read r b = (r ≡ b) × (r < 256)

read_byte : {r b : ℕ} → Read r b → Byte b
read_byte p = omega (arith, p.0, p.1)

pub word_row : (s : List ℕ) (i : ℕ) {a b c d e f g h : ℕ} → Read a (get_or s (i + 7) 0) → Read b (get_or s (i + 6) 0) → Read c (get_or s (i + 5) 0) → Read d (get_or s (i + 4) 0)
    → Read e (get_or s (i + 3) 0) → Read f (get_or s (i + 2) 0) → Read g (get_or s (i + 1) 0) → Read h (get_or s i 0) → Word s i (row a b c d e f g h)
unfolding word_by
word_row s i {a} {b} {c} {d} {e} {f} {g} {h} pa pb pc pd pe pf pg ph =
    record {
      is = row_sum a b c d e f g h pb.1 pc.1 pd.1 pe.1 pf.1 pg.1 ph.1 ∙ omega (arith, pa.0, pb.0, pc.0, pd.0, pe.0, pf.0, pg.0, ph.0);
      bytes = one (read_byte ph) (one (read_byte pg) (one (read_byte pf) (one (read_byte pe) (one (read_byte pd) (one (read_byte pc) (one (read_byte pb) (one (read_byte pa) none)))))));
    }
