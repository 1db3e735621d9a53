-- A store that a reading is written into holds that reading; and what any store tells.
-- Assumes nothing.
use Rattle.std.specs.Prelude.{◌≡◌, Bool, true, false, ℕ, ◌+◌, ◌<◌, ◌≤◌, eqb, leb, ltb, get_or}
use Rattle.std.proofs.Math.Path.{refl, ap}
use Rattle.std.proofs.Common.{sym, subst, ◌∙◌, arith, leb-true, ltb-false}
use mathlib.Core.List.{List, ◌++◌}
use Rattle.std.proofs.lemmas.Bool.{eqb-false}
use Rattle.std.proofs.Math.ListN.{length}
use Rattle.laws.specs.Choice.{both, choose, both_parts}
use Rattle.laws.specs.Lists.{between, length_between}
use Rattle.laws.specs.Put.{put_at, length_put, put_put}
use Rattle.laws.specs.Filled.{filled_up}
use Rattle.answers.specs.Answers.{done, refused}
use Rattle.steps.specs.declared.state.State.{State}
use Rattle.steps.specs.Parts.{is_part}
use Rattle.arrival.specs.Arrived as arrival
use Rattle.arrival.specs.Arrived.{Stand, Brought, awaited, given, bare}
use Rattle.parcel_store.specs.declared.Final.{Final}
use Rattle.parcel_store.specs.declared.Final.TheVariants.{Awaited, Accepted, Refused}
use Rattle.parcel_store.specs.declared.Kept.{Kept}
use Rattle.parcel_store.specs.Store.{store_size, dialogue_place, reference_place, body_place, part_size, number_in, final_of, length_of, place_in, kept_in, final_by, stand_of, held_in, final_number, final_position, final_part, answer_number, answer_position, answer_part, state_head, other_head, other_with, head_of, put_part, referred, keep}
use Rattle.parcel_store.specs.Puts.{before_kept, behind_kept, text_read, length_filled, filled_read, part_read}
use Rattle.parcel_store.specs.Bounds.{Counted, StateFits, FinalFits, Fits}
use Rattle.parcel_store.specs.Numbers.{answer_of, kept_of, kept_read}

-- What `save` writes is the head of the reading

length_part : (b : List ℕ) (at n : ℕ) → at + n ≤ length b → length (between b at (at + n)) ≡ n
length_part b at n h = length_between b at (at + n) h ∙ omega arith

final_number_lem : (a : Final) (count : ℕ) → final_number (final_by a count) ≡ answer_number a
final_number_lem Awaited count = refl
final_number_lem Accepted count = refl
final_number_lem (Refused x) count = refl

final_position_lem : (a : Final) (count : ℕ) → final_position (final_by a count) ≡ answer_position a
final_position_lem Awaited count = refl
final_position_lem Accepted count = refl
final_position_lem (Refused x) count = refl

final_part_lem : (a : Final) (count : ℕ) → final_part (final_by a count) ≡ answer_part a
final_part_lem Awaited count = refl
final_part_lem Accepted count = refl
final_part_lem (Refused x) count = refl

-- the ten other numbers, where most of them are known by equations
other_is : (x : Stand) (k : Kept) → x.offset ≡ k.offset → length x.body ≡ k.body → x.released ≡ k.released → length x.dialogue ≡ k.dialogue
    → length x.reference ≡ k.reference → x.count ≡ k.count → final_number x.final ≡ answer_number k.answer → final_position x.final ≡ answer_position k.answer
    → final_part x.final ≡ answer_part k.answer → x.state.wish ≡ k.state.wish → other_head x ≡ other_with k
other_is x k a b c d e f g h i j = rw (a, b, c, d, e, f, g, h, i, j)

module _ (k : Kept) (b : List ℕ) (size : length b ≡ store_size) (body : k.body ≤ part_size) (dialogue : k.dialogue ≤ part_size) (reference : k.reference ≤ part_size) where
  pub head_is : head_of (stand_of k b) ≡ state_head k.state ++ other_with k
  unfolding head_of
  head_is =
      ap (λ (l : List ℕ). state_head k.state ++ l)
      (other_is (stand_of k b) k refl (length_part b body_place k.body (omega arith)) refl (length_part b dialogue_place k.dialogue (omega arith))
      (length_part b reference_place k.reference (omega arith)) refl (final_number_lem k.answer k.count) (final_position_lem k.answer k.count) (final_part_lem k.answer k.count) refl)

  pub saved : put_at (put_at b 0 (state_head k.state)) 20 (other_with k) ≡ put_at b 0 (head_of (stand_of k b))
  saved = put_put b 0 (state_head k.state) 20 (other_with k) refl (omega arith) ∙ ap (put_at b 0) (sym head_is)

-- What any store tells, its elements being bytes

number_small : (b : List ℕ) → ((i : ℕ) → get_or b i 0 < 256) → (at : ℕ) → number_in b at < 65536
number_small b h at =
    let low = h at in
    let high = h (at + 1) in
    omega arith

narrow : {n : ℕ} → n < 65536 → n ≤ 65535
narrow h = omega arith

length_small : (n : ℕ) → length_of n ≤ part_size
length_small n = choose (ltb part_size n) (λ p. rw p (omega arith)) (λ p. rw p (ltb-false part_size n p))

position_small : (n p q : ℕ) → p < 65536 → answer_position (final_of n p q) < 65536
position_small n p q h =
    choose (eqb n 0) (λ a. rw a (omega arith))
    (λ a. rw a (choose (eqb n 1) (λ c. rw c (omega arith)) (λ c. rw c (choose (both (leb n 21) (is_part n q)) (λ d. rw d h) (λ d. rw d (omega arith))))))

-- what `load` tells of a store
pub record Sizes (k : Kept) : Type 0 where
  pub state : StateFits k.state
  pub offset : k.offset < 65536
  pub body : k.body ≤ part_size
  pub dialogue : k.dialogue ≤ part_size
  pub reference : k.reference ≤ part_size
  pub count : k.count < 65536
  pub position : answer_position k.answer < 65536

module _ (b : List ℕ) (bytes : (i : ℕ) → get_or b i 0 < 256) where
  pub kept_sizes : Sizes (kept_in b)
  unfolding kept_in
  kept_sizes =
      let small = number_small b bytes in
      record {
        state =
            record {
              messages = small 4;
              segments = small 6;
              row = small 8;
              counts = (narrow (small 10), narrow (small 12), narrow (small 14), narrow (small 16), narrow (small 18));
            };
        offset = small 20;
        body = length_small (number_in b 22);
        dialogue = length_small (number_in b 26);
        reference = length_small (number_in b 28);
        count = small 30;
        position = position_small (number_in b 32) (number_in b 34) (number_in b 36) (small 34);
      }

final_fits : (n p q count : ℕ) → p < 65536 → FinalFits count (final_by (final_of n p q) count)
final_fits n p q count h =
    choose (eqb n 0) (λ a. rw a tt)
    (λ a.
    rw a
    (choose (eqb n 1) (λ c. rw c refl)
    (λ c.
    rw c
    (choose (both (leb n 21) (is_part n q))
    (λ d.
    let z = eqb-false n 0 a in
    let o = eqb-false n 1 c in
    let u = both_parts (leb n 21) (is_part n q) d in
    let l = leb-true n 21 u.0 in
    rw d (omega arith, l, h, u.1))
    (λ d. rw d tt)))))

-- so that what it holds has room in a store
pub fits_held : (b : List ℕ) → length b ≡ store_size → ((i : ℕ) → get_or b i 0 < 256) → Counted (number_in b 20 + 1) (place_in b) → Fits (held_in b)
unfolding kept_in
fits_held b size bytes counted =
    let s = kept_sizes b bytes in
    let k = kept_in b in
    let d = s.dialogue in
    let r = s.reference in
    let t = s.body in
    record {
      state = record { messages = s.state.messages; segments = s.state.segments; row = s.state.row; counts = s.state.counts };
      counted = counted;
      bared = refl;
      offset = s.offset;
      body = subst (λ (n : ℕ). n ≤ part_size) (sym (length_part b body_place k.body (omega arith))) t;
      dialogue = subst (λ (n : ℕ). n ≤ part_size) (sym (length_part b dialogue_place k.dialogue (omega arith))) d;
      reference = subst (λ (n : ℕ). n ≤ part_size) (sym (length_part b reference_place k.reference (omega arith))) r;
      count = s.count;
      final = final_fits (number_in b 32) (number_in b 34) (number_in b 36) (number_in b 30) (number_small b bytes 34);
    }

-- The round trip

final_read : (count : ℕ) (f : arrival.Final) → FinalFits count f → final_by (answer_of f) count ≡ f
final_read count awaited h = refl
final_read count (given (done n)) h = ap (λ (k : ℕ). given (done k)) (sym h)
final_read count (given (refused refusal)) h = refl

-- a store with the numbers of a reading, and its texts in their places
same_stand : (x : Stand) (b : List ℕ) → bare x.state ≡ x.state → between b body_place (body_place + length x.body) ≡ x.body
    → between b dialogue_place (dialogue_place + length x.dialogue) ≡ x.dialogue → between b reference_place (reference_place + length x.reference) ≡ x.reference
    → FinalFits x.count x.final → stand_of (kept_of x) b ≡ x
same_stand x b state body dialogue reference final = joined state body dialogue reference (final_read x.count x.final final)
  where
    joined : {s : State} {t d r : List ℕ} {f : arrival.Final} → s ≡ x.state → t ≡ x.body → d ≡ x.dialogue → r ≡ x.reference → f ≡ x.final
        → ◌≡◌ {A = Stand}
        (record { state = s; offset = x.offset; body = t; released = x.released; dialogue = d; reference = r; count = x.count; final = f })
        x
    joined p q u v w = rw (p, q, u, v, w)

-- one text, written if it came: it stands there, and what stands beside it is as it was
length_part_put : (came : Bool) (b : List ℕ) (at : ℕ) (s : List ℕ) → length (put_part came b at s) ≡ length b
length_part_put true b at s = length_put b at (filled_up part_size s)
length_part_put false b at s = refl

part_here : (came : Bool) (b : List ℕ) (at : ℕ) (s : List ℕ) → length s ≤ part_size → at + part_size ≤ length b
    → (came ≡ false → between b at (at + length s) ≡ s) → between (put_part came b at s) at (at + length s) ≡ s
part_here true b at s h l old = filled_read b at part_size s h l
part_here false b at s h l old = old refl

part_before : (came : Bool) (b : List ℕ) (at : ℕ) (s : List ℕ) (from to : ℕ) → to ≤ at → between (put_part came b at s) from to ≡ between b from to
part_before true b at s from to h = before_kept b at (filled_up part_size s) from to h
part_before false b at s from to h = refl

part_behind : (came : Bool) (b : List ℕ) (at : ℕ) (s : List ℕ) (from to : ℕ) → length s ≤ part_size → at + part_size ≤ from
    → between (put_part came b at s) from to ≡ between b from to
part_behind true b at s from to l h =
    let k = length_filled part_size s l in
    behind_kept b at (filled_up part_size s) from to (omega arith)
part_behind false b at s from to l h = refl

pub length_keep : (x : Brought) (b : List ℕ) → length (keep x b) ≡ length b
unfolding keep referred
length_keep x b =
    let first = put_part x.opened b dialogue_place x.stand.dialogue in
    let second = put_part x.headed first reference_place x.stand.reference in
    length_put (put_at second body_place x.stand.body) 0 (head_of x.stand)
    ∙ length_put second body_place x.stand.body
    ∙ length_part_put x.headed first reference_place x.stand.reference
    ∙ length_part_put x.opened b dialogue_place x.stand.dialogue

length_head : (x : Stand) → length (head_of x) ≡ 40
unfolding head_of
length_head x = refl

-- the old text of a part that did not come
old_part : (b : List ℕ) (at n : ℕ) (s : List ℕ) → at + part_size ≤ length b → s ≡ between b at (at + length_of n) → between b at (at + length s) ≡ s
old_part b at n s h e =
    let l = length_small n in
    part_read b at (length_of n) s (omega arith) e

module _ (x : Brought) (b : List ℕ) (size : length b ≡ store_size) (fits : Fits x.stand) where
  abbrev dialogue : List ℕ
  dialogue = x.stand.dialogue

  abbrev reference : List ℕ
  reference = x.stand.reference

  abbrev body : List ℕ
  body = x.stand.body

  -- the store after the dialogue reference, after the other one, and after the segment
  abbrev first : List ℕ
  first = put_part x.opened b dialogue_place dialogue

  abbrev second : List ℕ
  second = put_part x.headed first reference_place reference

  abbrev third : List ℕ
  third = put_at second body_place body

  length_first : length first ≡ store_size
  length_first = length_part_put x.opened b dialogue_place dialogue ∙ size

  length_second : length second ≡ store_size
  length_second = length_part_put x.headed first reference_place reference ∙ length_first

  length_third : length third ≡ store_size
  length_third = length_put second body_place body ∙ length_second

  -- what stands behind the numbers
  behind_head : (from to : ℕ) → 40 ≤ from → between (put_at third 0 (head_of x.stand)) from to ≡ between third from to
  behind_head from to h =
      let n = length_head x.stand in
      behind_kept third 0 (head_of x.stand) from to (omega arith)

  body_stands : between (put_at third 0 (head_of x.stand)) body_place (body_place + length body) ≡ body
  body_stands =
      let s = length_second in
      let f = fits.body in
      behind_head body_place (body_place + length body) (omega arith) ∙ text_read second body_place body (omega arith)

  reference_stands : (x.headed ≡ false → reference ≡ (held_in b).reference)
      → between (put_at third 0 (head_of x.stand)) reference_place (reference_place + length reference) ≡ reference
  unfolding kept_in
  reference_stands old =
      let s = length_first in
      let f = fits.reference in
      behind_head reference_place (reference_place + length reference) (omega arith)
      ∙ before_kept second body_place body reference_place (reference_place + length reference) (omega arith)
      ∙ part_here x.headed first reference_place reference f (omega arith)
      (λ q.
      part_behind x.opened b dialogue_place dialogue reference_place (reference_place + length reference) fits.dialogue (omega arith)
      ∙ old_part b reference_place (number_in b 28) reference (omega arith) (old q))

  dialogue_stands : (x.opened ≡ false → dialogue ≡ (held_in b).dialogue)
      → between (put_at third 0 (head_of x.stand)) dialogue_place (dialogue_place + length dialogue) ≡ dialogue
  unfolding kept_in
  dialogue_stands old =
      let f = fits.dialogue in
      behind_head dialogue_place (dialogue_place + length dialogue) (omega arith)
      ∙ before_kept second body_place body dialogue_place (dialogue_place + length dialogue) (omega arith)
      ∙ part_before x.headed first reference_place reference dialogue_place (dialogue_place + length dialogue) (omega arith)
      ∙ part_here x.opened b dialogue_place dialogue f (omega arith) (λ q. old_part b dialogue_place (number_in b 26) dialogue (omega arith) (old q))

  -- a reference that did not come is the one that the store holds
  pub held_kept : (x.opened ≡ false → x.stand.dialogue ≡ (held_in b).dialogue) → (x.headed ≡ false → x.stand.reference ≡ (held_in b).reference)
      → held_in (keep x b) ≡ x.stand
  unfolding keep referred
  held_kept unopened unheaded =
      let h = put_at third 0 (head_of x.stand) in
      let l = length_third in
      ap (λ (k : Kept). stand_of k h) (kept_read x.stand fits third h (omega arith) refl)
      ∙ same_stand x.stand h fits.bared body_stands (dialogue_stands unopened) (reference_stands unheaded) fits.final
