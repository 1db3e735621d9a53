-- Bytes that a text names: `~`, which is 126, and two hexadecimal digits.
-- Assumes nothing.
use Rattle.std.specs.Prelude.{Option, Some, None, ℕ, zero, suc, ◌+◌, ◌-◌, ◌*◌, ◌≤◌, ◌<◌, ◌≡◌, ◌⊎◌, eqb, leb, length, get_or, set, take, drop}
use Rattle.std.proofs.Math.Path.{refl}
use Rattle.std.proofs.Common.{sym, ap, subst, ◌∙◌, inl, inr, length-drop, length-set, drop-drop}
use mathlib.Core.List.{List, [], ◌∷◌}
use native.Mathlib.Omega.{arith}
use Rattle.std.proofs.Math.Seq.{take-nil}
use Rattle.std.proofs.Math.Nat.{sub-zero}
use borrow.Author.Tests.{eq-eqb, ne_eqb, le-leb, lt-leb}
use Rattle.laws.specs.Choice.{pick, both, choose}
use Rattle.laws.specs.Lists.{drop_here, drop_past}
use Rattle.laws.specs.Put.{put_at, put_none, put_step}
use Rattle.lines.specs.declared.coded.Sign.{Sign}
use Rattle.lines.specs.Numbers.{is_digit}

-- `0` to `9` and `A` to `F`; any other byte says 0
unfoldable pub hex_of : ℕ → ℕ
hex_of b = pick (is_digit b) (b - 48) (pick (both (leb 65 b) (leb b 70)) (b - 55) 0)

abbrev sign : ℕ → ℕ → Sign
sign byte next = record { byte = byte; next = next }

-- the sign at the front of what stands from an index on
unfoldable pub sign_in : List ℕ → ℕ → Option Sign
sign_in [] i = None
sign_in (b ∷ []) i = Some (sign b (i + 1))
sign_in (b ∷ (x ∷ [])) i = Some (sign b (i + 1))
sign_in (b ∷ (x ∷ (y ∷ l))) i = Some (pick (eqb b 126) (sign (hex_of x * 16 + hex_of y) (i + 3)) (sign b (i + 1)))

abbrev pub sign_at : List ℕ → ℕ → Option Sign
sign_at s i = sign_in (drop i s) i

-- the bytes that a text says
unfoldable pub said : List ℕ → List ℕ
said [] = []
said (b ∷ []) = b ∷ []
said (b ∷ (x ∷ [])) = b ∷ x ∷ []
said (b ∷ (x ∷ (y ∷ l))) = pick (eqb b 126) ((hex_of x * 16 + hex_of y) ∷ said l) (b ∷ said (x ∷ (y ∷ l)))

-- as many of them as there is room for
abbrev pub fitting : List ℕ → List ℕ → List ℕ
fitting text out = take (length out) (said text)

-- the ways through a hexadecimal digit
module _ (b : ℕ) where
  pub hex_low : b < 48 → (0 ≡ hex_of b) × (0 < 16)
  unfolding hex_of
  hex_low h = (rw (lt-leb 48 b h, lt-leb 65 b (omega arith)), omega arith)

  pub hex_digit : 48 ≤ b → b ≤ 57 → (b - 48 ≡ hex_of b) × (b - 48 < 16)
  unfolding hex_of
  hex_digit h k = (rw (le-leb 48 b h, le-leb b 57 k), omega arith)

  pub hex_middle : 57 < b → b < 65 → (0 ≡ hex_of b) × (0 < 16)
  unfolding hex_of
  hex_middle h k = (rw (le-leb 48 b (omega arith), lt-leb b 57 h, lt-leb 65 b k), omega arith)

  pub hex_letter : 65 ≤ b → b ≤ 70 → (b - 65 + 10 ≡ hex_of b) × (b - 65 + 10 < 16)
  unfolding hex_of
  hex_letter h k = (rw (le-leb 48 b (omega arith), lt-leb b 57 (omega arith), le-leb 65 b h, le-leb b 70 k) (omega arith), omega arith)

  pub hex_high : 70 < b → (0 ≡ hex_of b) × (0 < 16)
  unfolding hex_of
  hex_high h = (rw (le-leb 48 b (omega arith), lt-leb b 57 (omega arith), le-leb 65 b (omega arith), lt-leb b 70 h), omega arith)

-- the ways through a sign
module _ (s : List ℕ) (i : ℕ) where
  pub sign_none : length s ≤ i → None ≡ sign_at s i
  unfolding sign_in
  sign_none h = rw (drop_past s i h)

  module _ (h : i < length s) where
    sign_lone : (l : List ℕ) → length l < 3 → 0 < length l → Some (sign (get_or l 0 0) (i + 1)) ≡ sign_in l i
    unfolding sign_in
    sign_lone [] a b = absurd (omega arith)
    sign_lone (x ∷ []) a b = refl
    sign_lone (x ∷ (y ∷ [])) a b = refl
    sign_lone (x ∷ (y ∷ (z ∷ l))) a b = absurd (omega arith)

    sign_plain : (l : List ℕ) → 0 < length l → (get_or l 0 0 ≡ 126 → ⊥) → Some (sign (get_or l 0 0) (i + 1)) ≡ sign_in l i
    unfolding sign_in
    sign_plain [] a b = absurd (omega arith)
    sign_plain (x ∷ []) a b = refl
    sign_plain (x ∷ (y ∷ [])) a b = refl
    sign_plain (x ∷ (y ∷ (z ∷ l))) a b = rw (ne_eqb x 126 b)

    pub sign_other : (get_or s i 0 ≡ 126 → ⊥) → Some (sign (get_or s i 0) (i + 1)) ≡ sign_at s i
    sign_other q = rw (drop_here s i h) (sign_plain (get_or s i 0 ∷ drop (i + 1) s) (omega arith) q)

    pub sign_short : length s - i < 3 → Some (sign (get_or s i 0) (i + 1)) ≡ sign_at s i
    sign_short q =
        let l = length-drop (i + 1) s in
        rw (drop_here s i h) (sign_lone (get_or s i 0 ∷ drop (i + 1) s) (omega arith) (omega arith))

    pub sign_coded : get_or s i 0 ≡ 126 → 3 ≤ length s - i → (a b : ℕ) → a ≡ hex_of (get_or s (i + 1) 0) → b ≡ hex_of (get_or s (i + 2) 0) → Some (sign (a * 16 + b) (i + 3)) ≡ sign_at s i
    unfolding sign_in
    sign_coded q k a b ea eb =
        let e : i + 1 + 1 ≡ i + 2 = omega arith in
        rw (drop_here s i h, drop_here s (i + 1) (omega arith), e, drop_here s (i + 2) (omega arith), eq-eqb (get_or s i 0) 126 q, ea, eb)

none≢some : {x : Sign} → ◌≡◌ {A = Option Sign} None (Some x) → ⊥
none≢some q = let z : ◌≡◌ {A = ℕ} 0 1 = cc in omega arith

some_is : {x y : Sign} → Some x ≡ Some y → x ≡ y
some_is q = cc

-- a sign takes one byte or three, and the text goes on behind it
past_one : (i : ℕ) → i + 1 - i ≡ 1
past_one i = omega arith

past_three : (i : ℕ) → i + 3 - i ≡ 3
past_three i = omega arith

pub record Said (l : List ℕ) (i : ℕ) (x : Sign) : Type 0 where
  pub some : 0 < length l
  pub further : i < x.next
  pub says : said l ≡ x.byte ∷ said (drop (x.next - i) l)

said_sign : (l : List ℕ) (i : ℕ) (x : Sign) → sign_in l i ≡ Some x → Said l i x
unfolding sign_in said
said_sign [] i x q = absurd (none≢some q)
said_sign (b ∷ []) i x q = subst (Said (b ∷ []) i) (some_is q) (record { some = omega arith; further = omega arith; says = rw (past_one i) })
said_sign (b ∷ (c ∷ [])) i x q = subst (Said (b ∷ c ∷ []) i) (some_is q) (record { some = omega arith; further = omega arith; says = rw (past_one i) })
said_sign (b ∷ (c ∷ (d ∷ l))) i x q =
    subst (Said (b ∷ c ∷ d ∷ l) i) (some_is q)
    (choose (eqb b 126) (λ p. rw p (record { some = omega arith; further = omega arith; says = rw (p, past_three i) })) (λ p. rw p (record { some = omega arith; further = omega arith; says = rw (p, past_one i) })))

module _ (s : List ℕ) (i : ℕ) (x : Sign) (q : sign_at s i ≡ Some x) where
  pub sign_forward : i < x.next
  sign_forward = (said_sign (drop i s) i x q).further

  pub sign_inside : i < length s
  sign_inside = let h = (said_sign (drop i s) i x q).some in let l = length-drop i s in omega arith

  pub said_on : said (drop i s) ≡ x.byte ∷ said (drop x.next s)
  said_on =
      let w = said_sign (drop i s) i x q in
      let f = w.further in
      let e : i + (x.next - i) ≡ x.next = omega arith in
      w.says ∙ ap (λ (y : List ℕ). x.byte ∷ said y) (drop-drop (x.next - i) i s ∙ ap (λ (k : ℕ). drop k s) e)

-- past the last sign nothing is said
ended : (l : List ℕ) (i : ℕ) → sign_in l i ≡ None → said l ≡ []
unfolding sign_in said
ended [] i q = refl
ended (b ∷ []) i q = absurd (none≢some (sym q))
ended (b ∷ (c ∷ [])) i q = absurd (none≢some (sym q))
ended (b ∷ (c ∷ (d ∷ l))) i q = absurd (none≢some (sym q))

pub said_none : (s : List ℕ) (i : ℕ) → sign_at s i ≡ None → said (drop i s) ≡ []
said_none s i q = ended (drop i s) i q

-- a text being written: n bytes stand, and those behind them are still to come
pub record Writing (text out₀ : List ℕ) (n : ℕ) (out rest : List ℕ) : Type 0 where
  pub same : length out ≡ length out₀
  pub within : n ≤ length out
  pub count : n + length (take (length out₀ - n) rest) ≡ length (fitting text out₀)
  pub goes : put_at out n (take (length out₀ - n) rest) ≡ put_at out₀ 0 (fitting text out₀)

take_most : (n : ℕ) (l : List ℕ) → length (take n l) ≤ n
take_most zero l = omega arith
take_most (suc n) [] = omega arith
take_most (suc n) (b ∷ l) = let h = take_most n l in omega arith

module _ (text out₀ : List ℕ) where
  pub writing_starts : Writing text out₀ 0 out₀ (said text)
  writing_starts =
      record {
        same = refl;
        within = omega arith;
        count = rw sub-zero (omega arith);
        goes = rw sub-zero;
      }

  pub writing_on : (n i : ℕ) (out : List ℕ) (x : Sign) → Writing text out₀ n out (said (drop i text)) → n < length out → sign_at text i ≡ Some x
      → Writing text out₀ (n + 1) (set out n x.byte) (said (drop x.next text))
  writing_on n i out x w hn q =
      let a = w.same in
      let e : length out₀ - n ≡ suc (length out₀ - (n + 1)) = omega arith in
      let r : said (drop i text) ≡ x.byte ∷ said (drop x.next text) = said_on text i x q in
      let t : take (length out₀ - n) (said (drop i text)) ≡ x.byte ∷ take (length out₀ - (n + 1)) (said (drop x.next text)) = rw (r, e) in
      let c = w.count in
      let l = ap length t in
      let k = length-set out n x.byte in
      let m = take_most (length out₀ - (n + 1)) (said (drop x.next text)) in
      record {
        same = omega arith;
        within = omega arith;
        count = omega arith;
        goes = put_step out n x.byte (take (length out₀ - (n + 1)) (said (drop x.next text))) (omega arith) ∙ ap (put_at out n) (sym t) ∙ w.goes;
      }

  pub writing_ends : (n : ℕ) (out rest : List ℕ) → Writing text out₀ n out rest → (rest ≡ []) ⊎ (length out ≤ n)
      → (n ≡ length (fitting text out₀)) × (out ≡ put_at out₀ 0 (fitting text out₀))
  writing_ends n out rest w h =
      let a = w.same in
      let t : take (length out₀ - n) rest ≡ [] = nothing_left h in
      let c = w.count in
      let l = ap length t in
      (omega arith, sym (put_none out n) ∙ ap (put_at out n) (sym t) ∙ w.goes)
    where
      nothing_left : (rest ≡ []) ⊎ (length out ≤ n) → take (length out₀ - n) rest ≡ []
      nothing_left (inl e) = rw e (take-nil (length out₀ - n))
      nothing_left (inr k) =
          let a = w.same in
          let z : length out₀ - n ≡ 0 = omega arith in
          rw z
