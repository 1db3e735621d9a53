-- Places in two numbers, as the reader packs them and moves them on.
-- Assumes nothing.
use Rattle.std.specs.Prelude.{◌≡◌, refl, Bool, true, false, ℕ, ◌+◌, ◌*◌, ◌/◌, ◌%◌, ◌^◌, ◌<◌, ◌≤◌, T, ltb, get_or, List, []}
use Rattle.std.proofs.Common.{sym, ap, ◌∙◌, subst, arith, ltb-true, ltb-false, lt-ltb}
use Rattle.std.specs.Int.Bits.{bit_and}
use Rattle.std.proofs.lemmas.Nat.{and_mask}
use Rattle.laws.specs.Choice.{pick, both, both_parts, choose}
use Rattle.placing.specs.declared.Place.{Place}
use Rattle.placing.specs.Table.{Table, rows, entry_of, tag_at, level_of}
use Rattle.placing.specs.Place.{count_at}
use Rattle.hints.specs.Laws.{Stood}
use Rattle.hints.specs.Packing.{place_of, packed, made, place_packed, five}
use Rattle.hints.proofs.Onward.{Onward, more_fits, onward_row, onward}
use Rattle.hints.specs.Told.{right}
use Rattle.hints.specs.Kinds.{kind_in, kept_bits, kept_mask, bound_of, more_of}

-- each count has room in its bits
abbrev pub narrow : Place → Bool
narrow p = both (ltb p.c0 16384) (both (ltb p.c1 16384) (both (ltb p.c2 16384) (both (ltb p.c3 16384) (ltb p.c4 256))))

pub narrow_last : (p : Place) → p.c0 < 16384 → p.c1 < 16384 → p.c2 < 16384 → p.c3 < 16384 → ltb p.c4 256 ≡ narrow p
narrow_last p a b c d = rw (lt-ltb p.c0 16384 a, lt-ltb p.c1 16384 b, lt-ltb p.c2 16384 c, lt-ltb p.c3 16384 d)

-- a place that is packed has come
pub record Packs (t : Table) (p : Place) (row counts : ℕ) : Type 0 where
  pub same : place_of row counts ≡ p
  pub stood : Stood t (place_of row counts)
  pub inside : row < rows t
  pub fits : counts < 18446744073709551616

-- a place that a hint leads to is the next where the tag is the one of its row
pub record Leads (t : Table) (row counts to next : ℕ) : Type 0 where
  pub on : (tag : ℕ) → tag_at t to ≡ tag → Onward t row counts tag to next
  pub inside : to < rows t
  pub fits : next < 18446744073709551616

-- what the bits of a level say
count_bits : (row n level : ℕ) → n < 18446744073709551616 → level < 5 → n / 2 ^ (14 * level) % 16384 ≡ count_at (place_of row n) level
count_bits row n level b h =
    five (λ k. n / 2 ^ (14 * k) % 16384 ≡ count_at (place_of row n) k) (omega arith) refl refl refl (omega arith) level h

pub narrow_parts : (p : Place) → narrow p ≡ true → (p.c0 < 16384) × (p.c1 < 16384) × (p.c2 < 16384) × (p.c3 < 16384) × (p.c4 < 256)
narrow_parts p g =
    let a = both_parts (ltb p.c0 16384) (both (ltb p.c1 16384) (both (ltb p.c2 16384) (both (ltb p.c3 16384) (ltb p.c4 256)))) g in
    let b = both_parts (ltb p.c1 16384) (both (ltb p.c2 16384) (both (ltb p.c3 16384) (ltb p.c4 256))) a.1 in
    let c = both_parts (ltb p.c2 16384) (both (ltb p.c3 16384) (ltb p.c4 256)) b.1 in
    let d = both_parts (ltb p.c3 16384) (ltb p.c4 256) c.1 in
    (ltb-true p.c0 16384 a.0, ltb-true p.c1 16384 b.0, ltb-true p.c2 16384 c.0, ltb-true p.c3 16384 d.0, ltb-true p.c4 256 d.1)

module _ (t : Table) (p : Place) (counts : ℕ) (e : counts ≡ packed p.c0 p.c1 p.c2 p.c3 p.c4) (g : narrow p ≡ true) where
  pub packs : (level : ℕ) → level ≡ entry_of t p.row 5 → level ≤ 4 → (counts / 2 ^ (14 * level) % 16384 ≡ 0 → ⊥) → p.row < rows t → Packs t p p.row counts
  packs level l h z w =
      let n = narrow_parts p g in
      let m : counts < 18446744073709551616 = omega arith in
      let q = count_bits p.row counts level m (omega arith) in
      let v : level_of t p.row ≡ level = level_is (entry_of t p.row 5) level l h in
      let u : 1 ≤ count_at (place_of p.row counts) level = subst (λ x. 1 ≤ x) q (omega arith) in
      record {
        same = ap (place_of p.row) e ∙ place_packed p.c0 p.c1 p.c2 p.c3 p.c4 n.0 n.1 n.2 n.3 p.row;
        stood = subst (λ x. 1 ≤ count_at (place_of p.row counts) x) (sym v) u;
        inside = w;
        fits = m;
      }
    where
      level_is : (x k : ℕ) → k ≡ x → k ≤ 4 → pick (ltb x 4) x 4 ≡ k
      level_is x k f o = choose (ltb x 4) (λ q. rw q (sym f)) (λ q. let r = ltb-false x 4 q in rw q (omega arith))

-- what a hint adds has room
pub next_fits : (k kept bound more : ℕ) → k < 32 → bound ≡ bound_of k → more ≡ more_of k → kept < bound → kept + more < 18446744073709551616
next_fits k kept bound more h eb em l =
    let f : bound + more ≤ 18446744073709551616 = subst (λ x. x + more ≤ 18446744073709551616) (sym eb) (subst (λ x. bound_of k + x ≤ 18446744073709551616) (sym em) (more_fits k h)) in
    omega arith

-- a hint that tells
module _ (t : Table) (l : List (List ℕ)) (g : T (right t l)) (row n j : ℕ) (s : Stood t (place_of row n)) (b : n < 18446744073709551616) (h : ℕ) (e : h ≡ get_or (get_or l row []) j 0) where
  pub leads : (mask bound more : ℕ) → mask ≡ kept_mask (h % 32) → bound ≡ bound_of (h % 32) → more ≡ more_of (h % 32) → bit_and n mask < bound
      → Leads t row n (h / 32) (bit_and n mask + more)
  leads mask bound more ek eb em u =
      let z : bit_and n mask ≡ n % 2 ^ kept_bits (kind_in h) = ap (bit_and n) ek ∙ and_mask n (kept_bits (kind_in h)) in
      let v : n % 2 ^ kept_bits (kind_in h) < bound_of (h % 32) = subst (λ y. y < bound_of (h % 32)) z (subst (λ y. bit_and n mask < y) eb u) in
      record {
        on = λ tag q. subst (λ y. Onward t row n tag (h / 32) (y + more)) (sym z) (subst (λ y. Onward t row n tag (h / 32) (n % 2 ^ kept_bits (kind_in h) + y)) (sym em) (onward t l g row n j s b h e v tag q));
        inside = onward_row t l g row n j s b h e;
        fits = next_fits (h % 32) (bit_and n mask) bound more (omega arith) eb em u;
      }
