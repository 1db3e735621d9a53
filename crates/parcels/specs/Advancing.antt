-- A parcel from its front to its end.
-- Assumes nothing.
use Rattle.std.specs.Prelude.{◌≡◌, refl, Bool, true, false, List, [], ℕ, ◌+◌, ◌-◌, ◌≤◌, ◌<◌, length, drop}
use Rattle.std.proofs.Math.Path.{sym}
use Rattle.std.proofs.Common.{ap, subst, ◌∙◌, append-nil, arith, length-drop}
use Rattle.laws.specs.Choice.{pick, either, choose, false≢true}
use Rattle.laws.specs.Put.{put_at, length_put}
use Rattle.steps.specs.declared.state.Row.{Row}
use Rattle.interchange.specs.Reader.{numbers}
use Rattle.arrival.specs.Arrived.{Stand, Brought, only, followed, arrived_on}
use Rattle.parcel_store.specs.declared.Final.TheVariants.{Awaited}
use Rattle.parcel_store.specs.Store.{store_size, body_place, stand_of, referred}
use Rattle.parcels.specs.declared.passing.Progress.{Progress}
use Rattle.parcels.specs.Onward.{Sized, Onward, onward_none, length_referred}
use Rattle.parcels.specs.Pieces.{Standing, Tail, Went}
use Rattle.parcels.specs.Whole.{Held, Advanced}
use Rattle.parcels.specs.Both.{onward_both}

-- a parcel p is read up to x: from is where it began, b and lent were the store and the buffer there
pub record Upto (p : List ℕ) (from : Progress) (b lent : List ℕ) (x : Progress) (c out : List ℕ) : Type 0 where
  pub big : length b ≡ store_size
  pub front : from.at ≡ 0
  pub none : from.numbers ≡ 0
  pub onward : Onward p from b lent x c out
  pub last : x.ended ≡ true → Tail p x c
  pub awaits : x.ended ≡ false → x.kept.answer ≡ Awaited

abbrev pub left_of : List ℕ → Progress → ℕ
left_of p x = pick x.ended 0 (1 + (length p - x.at))

pub upto_start : (p : List ℕ) (x : Progress) (b lent : List ℕ) → length b ≡ store_size → x.at ≡ 0 → x.numbers ≡ 0 → x.ended ≡ false → Sized x.kept → x.kept.answer ≡ Awaited
    → Upto p x b lent x b lent
upto_start p x b lent big f n e w a =
    record {
      big = big;
      front = f;
      none = n;
      onward = onward_none p x b lent x refl refl refl w;
      last = λ q. absurd (false≢true (sym e ∙ q));
      awaits = λ _. a;
    }

module _ (p : List ℕ) (from : Progress) (b lent : List ℕ) (x : Progress) (c out : List ℕ) (u : Upto p from b lent x c out) where
  -- all that is known where the next segments are asked for
  pub upto_size : length c ≡ store_size
  upto_size = ap length u.onward.store ∙ length_referred u.onward.brought b ∙ u.big

  pub upto_within : x.at ≤ length p
  upto_within =
      let t = u.onward.to in
      let f = u.front in
      omega arith

  pub upto_standing : x.ended ≡ false → Standing x c
  upto_standing e =
      let n = u.none in
      record { big = upto_size; sized = u.onward.sized; awaits = u.awaits e; paced = u.onward.paced (omega arith) }

  rest_is : drop (x.at - from.at) p ≡ drop x.at p
  rest_is =
      let f = u.front in
      let e : x.at - from.at ≡ x.at = omega arith in
      ap (λ (n : ℕ). drop n p) e

  module _ (y : Progress) (d next : List ℕ) (w : Went p x c out y d next) where
    pub upto_on : Upto p from b lent y d next
    upto_on =
        record {
          big = u.big;
          front = u.front;
          none = u.none;
          onward = onward_both p from b lent x c out y d next u.big u.onward (subst (λ (l : List ℕ). Onward l x c out y d next) (sym rest_is) w.onward);
          last = w.last;
          awaits = λ e. (w.more e).1;
        }

    pub upto_less : x.ended ≡ false → left_of p y < left_of p x
    upto_less e =
        let t = w.onward.to in
        let h = upto_within in
        let l = length-drop x.at p in
        choose y.ended
        (λ q. rw (e, q) (omega arith))
        (λ q.
        let m = (w.more q).0 in
        rw (e, q) (omega arith))

  -- the bytes at its end are kept
  module _ (y : Progress) (d : List ℕ) (h : Held p x c y d) where
    abbrev so_far : Brought
    so_far = u.onward.brought

    abbrev whole : Brought
    whole = followed so_far (only (stand_of y.kept d))

    told : arrived_on (stand_of from.kept b) p ≡ whole
    told =
        ap (arrived_on (stand_of from.kept b)) (sym (append-nil p))
        ∙ u.onward.told []
        ∙ ap (λ (l : List ℕ). followed so_far (arrived_on (stand_of x.kept c) l)) (append-nil (drop (x.at - from.at) p) ∙ rest_is)
        ∙ ap (followed so_far) h.told

    rows_same : whole.rows ≡ so_far.rows
    rows_same = append-nil so_far.rows

    last_same : (a : Bool) → either a false ≡ a
    last_same true = refl
    last_same false = refl

    -- the references that came are those of the bytes so far
    referred_same : referred whole b ≡ c
    unfolding referred
    referred_same =
        rw (last_same so_far.opened, last_same so_far.headed, h.dialogue ∙ sym (ap (λ (s : Stand). s.dialogue) u.onward.stands), h.reference ∙ sym (ap (λ (s : Stand). s.reference) u.onward.stands))
        (sym u.onward.store)

    pub upto_held : length d ≡ length b
    upto_held = ap length h.store ∙ length_put c body_place (stand_of y.kept d).body ∙ upto_size ∙ sym u.big

    pub advanced : Advanced p from.kept b lent y d out
    advanced =
        let n = u.none in
        let m = u.onward.count in
        let k = h.count in
        let r = ap length rows_same in
        record {
          brought = whole;
          told = told;
          stands = refl;
          store = h.store ∙ ap (λ (l : List ℕ). put_at l body_place (stand_of y.kept d).body) (sym referred_same);
          count = omega arith;
          put = λ g. u.onward.put (omega arith) ∙ ap (λ (i : ℕ). put_at lent i (numbers so_far.rows)) n ∙ ap (λ (l : List Row). put_at lent 0 (numbers l)) (sym rows_same);
          long = u.onward.long;
          sized = h.sized;
        }
