-- How far a parcel is read, and what the bytes up to there brought.
-- Assumes nothing.
use Rattle.std.specs.Prelude.{◌≡◌, Bool, true, ℕ, ◌+◌, ◌-◌, ◌*◌, ◌≤◌, ◌<◌, length, drop}
use Rattle.std.proofs.Math.Path.{refl, sym}
use Rattle.std.proofs.Common.{ap, ◌∙◌}
use Rattle.std.proofs.Math.Bool.{false}
use mathlib.Core.List.{List, [], ◌++◌}
use native.Mathlib.Omega.{arith}
use Rattle.laws.specs.Choice.{either}
use Rattle.laws.specs.Lists.{between_none}
use Rattle.laws.specs.Put.{put_at, put_none, length_put}
use Rattle.laws.specs.Filled.{filled_up}
use Rattle.answers.specs.declared.Refusal.{Refusal}
use Rattle.answers.specs.Answers.{Answer, refused}
use Rattle.interchange.specs.Reader.{numbers}
use Rattle.arrival.specs.Arrived as arrival
use Rattle.arrival.specs.Arrived.{Stand, Brought, given, only, answered, followed, arrived_on}
use Rattle.arrival.specs.Folded.{arrived_stays}
use Rattle.parcel_store.specs.declared.Final.{Final}
use Rattle.parcel_store.specs.declared.Final.TheVariants.{Refused}
use Rattle.parcel_store.specs.declared.Kept.{Kept}
use Rattle.parcel_store.specs.Store.{part_size, store_size, dialogue_place, reference_place, body_place, stand_of, put_part, referred, final_by}
use Rattle.parcel_store.specs.Puts.{length_filled}
use Rattle.parcels.specs.declared.passing.Progress.{Progress}
use Rattle.parcels.specs.Parts.{put_over_lem, put_apart}

-- the numbers that are kept have room in a store
pub record Sized (k : Kept) : Type 0 where
  pub body : k.body ≤ part_size
  pub dialogue : k.dialogue ≤ part_size
  pub reference : k.reference ≤ part_size
  pub offset : k.offset < 65536

-- from x, where the bytes l are next, to y: b is the store and lent the buffer for the rows before, c and out are those after
pub record Onward (l : List ℕ) (x : Progress) (b lent : List ℕ) (y : Progress) (c out : List ℕ) : Type 0 where
  pub brought : Brought
  pub told : (rest : List ℕ) → arrived_on (stand_of x.kept b) (l ++ rest) ≡ followed brought (arrived_on (stand_of y.kept c) (drop (y.at - x.at) l ++ rest))
  pub stands : brought.stand ≡ stand_of y.kept c
  pub store : c ≡ referred brought b
  pub unopened : brought.opened ≡ false → brought.stand.dialogue ≡ (stand_of x.kept b).dialogue
  pub unheaded : brought.headed ≡ false → brought.stand.reference ≡ (stand_of x.kept b).reference
  pub count : y.numbers ≡ x.numbers + 3 * length brought.rows
  pub put : y.numbers ≤ length lent → out ≡ put_at lent x.numbers (numbers brought.rows)
  pub long : length out ≡ length lent
  pub sized : Sized y.kept
  pub from : x.at ≤ y.at
  pub to : y.at ≤ x.at + length l
  pub paced : x.numbers ≤ 3 * x.kept.offset → y.numbers ≤ 3 * y.kept.offset

-- the final answer is there, and no byte of a segment is kept
abbrev pub answered_kept : Kept → Final → Kept
answered_kept k a =
    record {
      state = k.state;
      offset = k.offset;
      body = 0;
      released = false;
      dialogue = k.dialogue;
      reference = k.reference;
      count = k.count;
      answer = a;
    }

-- a fault is named
abbrev pub named_kept : Kept → Refusal → Kept
named_kept k refusal = answered_kept k (Refused refusal)

abbrev pub named_at : Progress → Refusal → Progress
named_at x refusal = record { kept = named_kept x.kept refusal; at = x.at; numbers = x.numbers; ended = true }

pub answered_stand : (k : Kept) (b : List ℕ) (last : Final) (a : Answer ℕ) → final_by last k.count ≡ given a → stand_of (answered_kept k last) b ≡ answered (stand_of k b) a
answered_stand k b last a e =
    ap (λ (l : List ℕ).
    record {
      state = (stand_of k b).state;
      offset = k.offset;
      body = l;
      released = false;
      dialogue = (stand_of k b).dialogue;
      reference = (stand_of k b).reference;
      count = k.count;
      final = final_by last k.count;
    })
    (between_none b body_place (body_place + 0) (omega arith))
    ∙ ap (λ (f : arrival.Final).
    record {
      state = (stand_of k b).state;
      offset = k.offset;
      body = [];
      released = false;
      dialogue = (stand_of k b).dialogue;
      reference = (stand_of k b).reference;
      count = k.count;
      final = f;
    })
    e

pub named_stand : (k : Kept) (b : List ℕ) (refusal : Refusal) → stand_of (named_kept k refusal) b ≡ answered (stand_of k b) (refused refusal)
named_stand k b refusal = answered_stand k b (Refused refusal) (refused refusal) refl

pub named_sized : (k : Kept) (refusal : Refusal) → Sized k → Sized (named_kept k refusal)
named_sized k refusal w = record { body = omega arith; dialogue = w.dialogue; reference = w.reference; offset = w.offset }

pub unfold_referred : (x : Brought) (b : List ℕ) → x.opened ≡ false → x.headed ≡ false → b ≡ referred x b
unfolding referred
unfold_referred x b o h = rw (o, h)

-- what some bytes bring that show a fault and no row
pub onward_named : (l : List ℕ) (x : Progress) (b lent : List ℕ) (refusal : Refusal) → Sized x.kept
    → ((rest : List ℕ) → arrived_on (stand_of x.kept b) (l ++ rest) ≡ only (answered (stand_of x.kept b) (refused refusal)))
    → Onward l x b lent (named_at x refusal) b lent
unfolding numbers
onward_named l x b lent refusal w t =
    let a = refused refusal in
    let s = answered (stand_of x.kept b) a in
    let e = named_stand x.kept b refusal in
    record {
      brought = only s;
      told = λ rest.
          t rest
          ∙ ap (followed (only s)) (sym (arrived_stays s a refl (drop (x.at - x.at) l ++ rest)))
          ∙ ap (λ (y : Stand). followed (only s) (arrived_on y (drop (x.at - x.at) l ++ rest))) (sym e);
      stands = sym e;
      store = unfold_referred (only s) b refl refl;
      unopened = λ _. refl;
      unheaded = λ _. refl;
      count = omega arith;
      put = λ _. sym (put_none lent x.numbers);
      long = refl;
      sized = named_sized x.kept refusal w;
      from = omega arith;
      to = omega arith;
      paced = λ h. h;
    }

-- nothing is read
pub onward_none : (l : List ℕ) (x : Progress) (b lent : List ℕ) (y : Progress) → y.kept ≡ x.kept → y.at ≡ x.at → y.numbers ≡ x.numbers → Sized x.kept → Onward l x b lent y b lent
unfolding numbers
onward_none l x b lent y e f g w =
    let s = stand_of x.kept b in
    let z : y.at - x.at ≡ 0 = omega arith in
    rw (e, f, g)
    (record {
      brought = only s;
      told = λ rest. ap (λ (n : ℕ). followed (only s) (arrived_on s (drop n l ++ rest))) (sym (the_same x.at));
      stands = refl;
      store = unfold_referred (only s) b refl refl;
      unopened = λ _. refl;
      unheaded = λ _. refl;
      count = omega arith;
      put = λ _. sym (put_none lent x.numbers);
      long = refl;
      sized = w;
      from = omega arith;
      to = omega arith;
      paced = λ h. h;
    })
  where
    the_same : (n : ℕ) → n - n ≡ 0
    the_same n = omega arith

-- what one part brings and then another: the references of both
module _ (b : List ℕ) (big : length b ≡ store_size) where
  part_over : (came again : Bool) (at : ℕ) (s t : List ℕ) → at + part_size ≤ store_size → length s ≤ part_size → length t ≤ part_size → (again ≡ false → t ≡ s)
      → put_part again (put_part came b at s) at t ≡ put_part (either came again) b at t
  part_over true true at s t h k l e =
      let m = length_filled part_size s k in
      let n = length_filled part_size t l in
      put_over_lem b at (filled_up part_size s) (filled_up part_size t) (omega arith) (omega arith)
  part_over true false at s t h k l e = ap (λ (x : List ℕ). put_at b at (filled_up part_size x)) (sym (e refl))
  part_over false true at s t h k l e = refl
  part_over false false at s t h k l e = refl

  part_apart : (came again : Bool) (i j : ℕ) (s t : List ℕ) → i + part_size ≤ j → j + part_size ≤ store_size → length s ≤ part_size → length t ≤ part_size
      → put_part again (put_part came b i s) j t ≡ put_part came (put_part again b j t) i s
  part_apart true true i j s t h k l m =
      let n = length_filled part_size s l in
      let o = length_filled part_size t m in
      put_apart b i (filled_up part_size s) j (filled_up part_size t) (omega arith) (omega arith)
  part_apart true false i j s t h k l m = refl
  part_apart false true i j s t h k l m = refl
  part_apart false false i j s t h k l m = refl

pub length_part : (came : Bool) (b : List ℕ) (at : ℕ) (s : List ℕ) → length (put_part came b at s) ≡ length b
length_part true b at s = length_put b at (filled_up part_size s)
length_part false b at s = refl

pub length_referred : (x : Brought) (b : List ℕ) → length (referred x b) ≡ length b
unfolding referred
length_referred x b =
    length_part x.headed (put_part x.opened b dialogue_place x.stand.dialogue) reference_place x.stand.reference
    ∙ length_part x.opened b dialogue_place x.stand.dialogue

-- the references of a part have room
pub record Short (x : Brought) : Type 0 where
  pub dialogue : length x.stand.dialogue ≤ part_size
  pub reference : length x.stand.reference ≤ part_size

pub referred_both : (b : List ℕ) → length b ≡ store_size → (x y : Brought) → Short x → Short y
    → (y.opened ≡ false → y.stand.dialogue ≡ x.stand.dialogue) → (y.headed ≡ false → y.stand.reference ≡ x.stand.reference)
    → referred y (referred x b) ≡ referred (followed x y) b
unfolding referred
referred_both b big x y v w d r =
    let d₁ = x.stand.dialogue in
    let d₂ = y.stand.dialogue in
    let r₁ = x.stand.reference in
    let r₂ = y.stand.reference in
    let c = put_part x.opened b dialogue_place d₁ in
    let n = length_part x.opened b dialogue_place d₁ in
    ap (λ (l : List ℕ). put_part y.headed l reference_place r₂)
    (sym (part_apart c (n ∙ big) y.opened x.headed dialogue_place reference_place d₂ r₁ (omega arith) (omega arith) w.dialogue v.reference))
    ∙ part_over (put_part y.opened c dialogue_place d₂) (length_part y.opened c dialogue_place d₂ ∙ n ∙ big) x.headed y.headed reference_place r₁ r₂ (omega arith) v.reference w.reference r
    ∙ ap (λ (l : List ℕ). put_part (either x.headed y.headed) l reference_place r₂)
    (part_over b big x.opened y.opened dialogue_place d₁ d₂ (omega arith) v.dialogue w.dialogue d)
