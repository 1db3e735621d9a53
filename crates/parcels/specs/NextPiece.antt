-- What comes next of a parcel: a piece in which a segment ends, or a byte that shows a fault, or nothing.
-- Assumes nothing.
use Rattle.std.specs.Prelude.{◌≡◌, refl, Bool, true, false, ℕ, suc, ◌+◌, ◌-◌, ◌≤◌, ◌<◌, min, leb, ltb, length, take, drop, get_or}
use Rattle.std.proofs.Math.Path.{sym, subst}
use Rattle.std.proofs.Common.{ap, ◌∙◌, arith, length-append, take-append-drop, length-take-le, take_all, take_at, le-leb, leb-true, leb-false, lt-ltb, ltb-true, ltb-false}
use mathlib.Core.List.{List, [], ◌∷◌, ◌++◌, append_assoc}
use Rattle.std.proofs.Math.ListN.{length-drop}
use Rattle.std.proofs.lemmas.List.{drop-append-le}
use Rattle.std.proofs.lemmas.Bool.{lt-leb}
use Rattle.laws.specs.Choice.{choose, false≢true}
use Rattle.laws.specs.Lists.{length_between, between_none, drop_here, drop_past}
use Rattle.answers.specs.declared.Refusal.{Refusal}
use Rattle.answers.specs.Answers.{Answer, refused, naming, bad_size, wrong_envelope, segment_too_long}
use Rattle.syntax.specs.Pieces.{first_piece}
use Rattle.syntax.specs.Firsts.{first_length}
use Rattle.interchange.specs.Reader.{is_closed}
use Rattle.interchange.specs.Runs.{is_inside, inside_is}
use Rattle.arrival.specs.Arrived as arrival
use Rattle.arrival.specs.Arrived.{Stand, Brought, awaited, only, answered, arrived_bytes, awaited_byte, byte_by, followed, arrived_on}
use Rattle.arrival.specs.Folded.{lengthened, lengthened_none, arrived_append, arrived_plain, arrived_stays}
use Rattle.cuts.specs.Laws.{first_unreleased}
use Rattle.arrival.specs.Fitting.{first_first, first_all, first_cut}
use Rattle.parcel_store.specs.declared.Final.{Final}
use Rattle.parcel_store.specs.declared.Final.TheVariants.{Awaited, Accepted, Refused}
use Rattle.parcel_store.specs.Store.{part_size, body_place, final_by, stand_of}
use Rattle.parcels.specs.declared.passing.Progress.{Progress}
use Rattle.parcels.specs.Onward.{Onward, named_at, onward_named, onward_none}
use Rattle.parcels.specs.Passing.{Plain, Ready, ReadyPiece, ReadyStretch, NamedBy, Faster}
use Rattle.parcels.specs.Pieces.{halted_at, unended_at, ReadyEnd, Standing, TailBy, Went}

-- more bytes behind those that are read from
pub onward_wider : (l m : List ℕ) (x : Progress) (b lent : List ℕ) (y : Progress) (c out : List ℕ) → Onward l x b lent y c out → Onward (l ++ m) x b lent y c out
onward_wider l m x b lent y c out o =
    let f = o.from in
    let t = o.to in
    let n = length-append l m in
    record {
      brought = o.brought;
      told = λ rest.
          ap (arrived_on (stand_of x.kept b)) (append_assoc l m rest)
          ∙ o.told (m ++ rest)
          ∙ ap (λ (a : List ℕ). followed o.brought (arrived_on (stand_of y.kept c) a))
          (sym (append_assoc (drop (y.at - x.at) l) m rest) ∙ ap (λ (a : List ℕ). a ++ rest) (sym (drop-append-le (y.at - x.at) l m (omega arith))));
      stands = o.stands;
      store = o.store;
      unopened = o.unopened;
      unheaded = o.unheaded;
      count = o.count;
      put = o.put;
      long = o.long;
      sized = o.sized;
      from = o.from;
      to = omega arith;
      paced = o.paced;
    }

pub onward_front : (n : ℕ) (l : List ℕ) (x : Progress) (b lent : List ℕ) (y : Progress) (c out : List ℕ) → Onward (take n l) x b lent y c out → Onward l x b lent y c out
onward_front n l x b lent y c out o = subst (λ (a : List ℕ). Onward a x b lent y c out) (take-append-drop n l) (onward_wider (take n l) (drop n l) x b lent y c out o)

-- The ways of `unended_at`

pub unended_halted : (x : Progress) (n left : ℕ) → left ≤ n → unended_at x n left ≡ halted_at x
unended_halted x n left h = rw (le-leb left n h)

pub unended_three : (x : Progress) (n left : ℕ) → n < left → 60000 ≤ x.kept.offset + x.kept.body + n → unended_at x n left ≡ named_at x (naming 3 0)
unended_three x n left h k = rw (lt-leb left n h, le-leb 60000 (x.kept.offset + x.kept.body + n) k)

pub unended_long : (x : Progress) (n left : ℕ) → n < left → x.kept.offset + x.kept.body + n < 60000 → unended_at x n left ≡ named_at x (naming 21 x.kept.offset)
unended_long x n left h k = rw (lt-leb left n h, lt-leb 60000 (x.kept.offset + x.kept.body + n) k)

-- A piece in which a segment ends

module _ (x : Progress) (b p : List ℕ) (end : ℕ) (w : ReadyEnd x b p end) where
  abbrev bytes : List ℕ
  bytes = first_piece 39 x.kept.released p

  shorter : length bytes < length p
  shorter = let e = w.is in let h = w.ended in omega arith

  pub piece_long : end + 1 ≡ length (take (end + 1) p)
  piece_long = let h = w.ended in sym (length-take-le (end + 1) p (omega arith))

  piece_is : take (end + 1) p ≡ bytes ++ (39 ∷ [])
  piece_is =
      let e = w.is in
      let n = length-append bytes (39 ∷ []) in
      ap (take (end + 1)) (first_cut x.kept.released p shorter ∙ sym (append_assoc bytes (39 ∷ []) (drop (suc (length bytes)) p)))
      ∙ take_at (bytes ++ (39 ∷ [])) (drop (suc (length bytes)) p) (end + 1) (omega arith)

  piece_next : Plain x bytes
  piece_next =
      let h = shorter in
      let s = w.short in
      let i = w.within in
      record {
        plain = first_first x.kept.released p;
        unreleased = first_unreleased x.kept.released p shorter;
        within = omega arith;
        short = omega arith;
      }

  piece_room : x.at + length bytes + 1 < 18446744073709551616
  piece_room = let h = shorter in let r = w.room in omega arith

  pub piece_ready : ReadyPiece x b (take (end + 1) p)
  piece_ready = record { goes = w.goes; bytes = bytes; is = piece_is; next = piece_next; room = piece_room }

  -- no byte of the segment came before
  module _ (empty : x.kept.body ≤ 0) where
    none : x.kept.body ≡ 0
    none = omega arith

    pub one_ready : Ready x b (take (end + 1) p)
    one_ready =
        record {
          goes = w.goes;
          bytes = bytes;
          is = piece_is ∙ ap (λ (a : List ℕ). a ++ (bytes ++ (39 ∷ []))) (sym (between_none b body_place (body_place + x.kept.body) (omega arith)));
          next = piece_next;
          room = piece_room;
        }

    pub one_onward : (lent : List ℕ) (y : Progress) (c out : List ℕ) → Onward (drop x.kept.body (take (end + 1) p)) x b lent y c out → Onward p x b lent y c out
    one_onward lent y c out o = onward_front (end + 1) p x b lent y c out (subst (λ (n : ℕ). Onward (drop n (take (end + 1) p)) x b lent y c out) none o)

    pub stretch_ready : x.kept.released ≡ false → is_inside x.kept.state.phase ≡ true → ReadyStretch x b p
    stretch_ready u i =
        let s = w.short in
        let h = w.within in
        record {
          goes = w.goes;
          empty = none;
          unreleased = u;
          inside = inside_is x.kept.state.phase i;
          short = omega arith;
          within = omega arith;
          ended = let z = subst (λ (r : Bool). length (first_piece 39 r p) < length p) u shorter in lt-ltb (0 + length (first_piece 39 false p)) (length p) (omega arith);
          room = w.room;
        }

-- One byte that shows a fault

byte_shows : (s : Stand) (c : ℕ) (l : List ℕ) (a : Answer ℕ) → s.final ≡ awaited → awaited_byte s c ≡ only (answered s a) → arrived_on s (c ∷ l) ≡ only (answered s a)
unfolding arrived_on
byte_shows s c l a f h =
    ap (λ (y : Brought). followed y (arrived_on y.stand l)) (ap (λ (g : arrival.Final). byte_by g s c) f ∙ h)
    ∙ arrived_stays (answered s a) a refl l

byte_three : (s : Stand) (c : ℕ) → 60000 ≤ arrived_bytes s → awaited_byte s c ≡ only (answered s bad_size)
unfolding awaited_byte
byte_three s c h = rw (le-leb 60000 (arrived_bytes s) h)

byte_closed : (s : Stand) (c : ℕ) → arrived_bytes s < 60000 → is_closed s.state.phase ≡ true → awaited_byte s c ≡ only (answered s (wrong_envelope s.offset))
unfolding awaited_byte
byte_closed s c h q = rw (lt-leb 60000 (arrived_bytes s) h, q)

byte_long : (s : Stand) (c : ℕ) → arrived_bytes s < 60000 → is_closed s.state.phase ≡ false → 4096 ≤ length s.body
    → awaited_byte s c ≡ only (answered s (segment_too_long s.offset))
unfolding awaited_byte
byte_long s c h q k = rw (lt-leb 60000 (arrived_bytes s) h, q, le-leb 4096 (length s.body) k)

-- behind bytes among which no terminator stands
behind_shows : (s : Stand) (q : List ℕ) (c : ℕ) (l : List ℕ) (a : Answer ℕ) → s.final ≡ awaited → is_closed s.state.phase ≡ false → first_piece 39 s.released q ≡ q
    → arrived_bytes s + length q ≤ 60000 → length s.body + length q ≤ 4096 → awaited_byte (lengthened s q) c ≡ only (answered s a)
    → arrived_on s (q ++ (c ∷ l)) ≡ only (answered s a)
behind_shows s q c l a f o p h k e =
    arrived_append s q (c ∷ l)
    ∙ ap (λ (y : Brought). followed y (arrived_on y.stand (c ∷ l))) (arrived_plain s q f o p h k)
    ∙ ap (followed (only (lengthened s q))) (byte_shows (lengthened s q) c l a f e)

-- the next bytes: so many as there are, as the segment and as the interchange may have
pub record Taken (p : List ℕ) (x : Progress) (n : ℕ) : Type 0 where
  pub within : x.kept.offset + x.kept.body + n ≤ 60000
  pub short : x.kept.body + n ≤ 4096
  pub inside : x.at + n ≤ length p
  pub full : n < length p - x.at → x.kept.offset + x.kept.body + n < 60000 → 4096 ≤ x.kept.body + n

-- Where a reading stands

tail_named : (a : Final) (p : List ℕ) (y : Progress) (c : List ℕ) → NamedBy a y.kept.body → TailBy a p y c
tail_named Awaited p y c h = absurd h
tail_named Accepted p y c h = absurd h
tail_named (Refused r) p y c h = h

module _ (p : List ℕ) (x : Progress) (b lent : List ℕ) (w : Standing x b) where
  abbrev here : Stand
  here = stand_of x.kept b

  abbrev next : List ℕ
  next = drop x.at p

  waits : here.final ≡ awaited
  waits = ap (λ (a : Final). final_by a x.kept.count) w.awaits

  body_long : length here.body ≡ x.kept.body
  body_long =
      let s = w.big in
      let k = w.sized.body in
      length_between b body_place (body_place + x.kept.body) (omega arith) ∙ omega arith

  -- nothing more is read
  went_halted : first_piece 39 x.kept.released next ≡ next → arrived_on here next ≡ only (lengthened here next) → x.kept.body + length next ≤ part_size → Went p x b lent (halted_at x) b lent
  went_halted q a h =
      record {
        onward = onward_none next x b lent (halted_at x) refl refl refl w.sized;
        more = λ e. absurd (false≢true (sym e));
        last = λ _. subst (λ (f : Final). TailBy f p (halted_at x) b) (sym w.awaits) (q, a, h);
      }

  went_named : (refusal : Refusal) → ((rest : List ℕ) → arrived_on here (next ++ rest) ≡ only (answered here (refused refusal)))
      → Went p x b lent (named_at x refusal) b lent
  went_named refusal t =
      record {
        onward = onward_named next x b lent refusal w.sized t;
        more = λ e. absurd (false≢true (sym e));
        last = λ _. refl;
      }

  pub went_none : length p - x.at ≡ 0 → (y : Progress) → y ≡ halted_at x → Went p x b lent y b lent
  unfolding first_piece arrived_on
  went_none z y e =
      let k = w.sized.body in
      let d : next ≡ [] = drop_past p x.at (omega arith) in
      let n = length-drop x.at p in
      subst (λ (v : Progress). Went p x b lent v b lent) (sym e)
      (went_halted (ap (first_piece 39 x.kept.released) d ∙ sym d) (subst (λ (l : List ℕ). arrived_on here l ≡ only (lengthened here l)) (sym d) (ap only (lengthened_none here))) (omega arith))

  -- a byte is there
  module _ (some : length p - x.at ≡ 0 → ⊥) where
    there : x.at < length p
    there = choose (ltb x.at (length p)) (λ q. ltb-true x.at (length p) q) (λ q. let h = ltb-false x.at (length p) q in absurd (some (omega arith)))

    first_byte : (rest : List ℕ) → next ++ rest ≡ get_or p x.at 0 ∷ (drop (x.at + 1) p ++ rest)
    first_byte rest = ap (λ (l : List ℕ). l ++ rest) (drop_here p x.at there)

    pub went_three : 60000 ≤ x.kept.offset + x.kept.body → (y : Progress) → y ≡ named_at x (naming 3 0) → Went p x b lent y b lent
    went_three h y e =
        let n = body_long in
        subst (λ (v : Progress). Went p x b lent v b lent) (sym e)
        (went_named (naming 3 0)
        (λ rest.
        ap (arrived_on here) (first_byte rest)
        ∙ byte_shows here (get_or p x.at 0) (drop (x.at + 1) p ++ rest) bad_size waits (byte_three here (get_or p x.at 0) (omega arith))))

    pub went_closed : x.kept.offset + x.kept.body < 60000 → is_closed x.kept.state.phase ≡ true → (y : Progress) → y ≡ named_at x (naming 7 x.kept.offset) → Went p x b lent y b lent
    went_closed h q y e =
        let n = body_long in
        subst (λ (v : Progress). Went p x b lent v b lent) (sym e)
        (went_named (naming 7 x.kept.offset)
        (λ rest.
        ap (arrived_on here) (first_byte rest)
        ∙ byte_shows here (get_or p x.at 0) (drop (x.at + 1) p ++ rest) (wrong_envelope x.kept.offset) waits (byte_closed here (get_or p x.at 0) (omega arith) q)))

    pub most_taken : x.kept.offset + x.kept.body < 60000 → (n : ℕ) → n ≡ min (length p - x.at) (min (4096 - x.kept.body) (60000 - (x.kept.offset + x.kept.body))) → Taken p x n
    most_taken h n e =
        let k = w.sized.body in
        let t = there in
        record { within = omega arith; short = omega arith; inside = omega arith; full = λ a c. omega arith }

    module _ (q : is_closed x.kept.state.phase ≡ false) (n : ℕ) (most : Taken p x n) where
      abbrev piece : List ℕ
      piece = take (x.at + n - x.at) next

      piece_size : length piece ≡ n
      piece_size =
          let k = most.inside in
          let d = length-drop x.at p in
          let g : x.at + n - x.at ≡ n = omega arith in
          length-take-le (x.at + n - x.at) next (omega arith) ∙ g

      -- no segment ends in them
      module _ (unended : length (first_piece 39 x.kept.released piece) ≡ n) where
        plain : first_piece 39 x.kept.released piece ≡ piece
        plain = let k = piece_size in first_all x.kept.released piece (omega arith)

        follows : n < length p - x.at → (a : Answer ℕ) → ((c : ℕ) → awaited_byte (lengthened here piece) c ≡ only (answered here a)) → (rest : List ℕ)
            → arrived_on here (next ++ rest) ≡ only (answered here a)
        follows k a e rest =
            let s = piece_size in
            let i = most.within in
            let j = most.short in
            let m = body_long in
            let d = length-drop x.at p in
            let g = x.at + n - x.at in
            let c = get_or next g 0 in
            ap (λ (l : List ℕ). arrived_on here (l ++ rest)) (sym (take-append-drop g next) ∙ ap (λ (l : List ℕ). piece ++ l) (drop_here next g (omega arith)))
            ∙ ap (arrived_on here) (append_assoc piece (c ∷ drop (g + 1) next) rest)
            ∙ behind_shows here piece c (drop (g + 1) next ++ rest) a waits q plain (omega arith) (omega arith) (e c)

        unended_went : Went p x b lent (unended_at x n (length p - x.at)) b lent
        unended_went =
            let s = piece_size in
            let i = most.within in
            let j = most.short in
            let m = body_long in
            let z = length-append here.body piece in
            choose (leb (length p - x.at) n)
            (λ t.
            let o = leb-true (length p - x.at) n t in
            let d = length-drop x.at p in
            let all : piece ≡ next = take_all (x.at + n - x.at) next (omega arith) in
            let own = subst (λ (l : List ℕ). first_piece 39 x.kept.released l ≡ l) all plain in
            subst (λ (v : Progress). Went p x b lent v b lent) (sym (unended_halted x n (length p - x.at) o))
            (went_halted own (arrived_plain here next waits q own (omega arith) (omega arith)) (omega arith)))
            (λ t.
            let o = leb-false (length p - x.at) n t in
            choose (leb 60000 (x.kept.offset + x.kept.body + n))
            (λ u.
            let k = leb-true 60000 (x.kept.offset + x.kept.body + n) u in
            subst (λ (v : Progress). Went p x b lent v b lent) (sym (unended_three x n (length p - x.at) o k))
            (went_named (naming 3 0) (follows o bad_size (λ c. byte_three (lengthened here piece) c (omega arith)))))
            (λ u.
            let k = leb-false 60000 (x.kept.offset + x.kept.body + n) u in
            let f = most.full o k in
            subst (λ (v : Progress). Went p x b lent v b lent) (sym (unended_long x n (length p - x.at) o k))
            (went_named (naming 21 x.kept.offset) (follows o (segment_too_long x.kept.offset) (λ c. byte_long (lengthened here piece) c (omega arith) q (omega arith))))))

        pub went_unended : (y : Progress) → y ≡ unended_at x n (length p - x.at) → Went p x b lent y b lent
        went_unended y e = subst (λ (v : Progress). Went p x b lent v b lent) (sym e) unended_went

      -- a segment ends in them
      pub next_ready : (end : ℕ) → end ≡ length (first_piece 39 x.kept.released piece) → (end ≡ n → ⊥) → length p < 18446744073709551616 → ReadyEnd x b piece end
      next_ready end e o r =
          let s = piece_size in
          let i = most.within in
          let j = most.short in
          let g = most.inside in
          let f = first_length 39 x.kept.released piece in
          record {
            goes = record { big = w.big; sized = w.sized; awaits = w.awaits; opened = q; paced = w.paced };
            is = e;
            ended = choose (ltb end n) (λ t. let u = ltb-true end n t in omega arith) (λ t. let u = ltb-false end n t in absurd (o (omega arith)));
            short = omega arith;
            within = omega arith;
            room = omega arith;
          }

      pub went_on : (y : Progress) (c out : List ℕ) → Onward piece x b lent y c out → Faster x y → Went p x b lent y c out
      went_on y c out o f =
          record {
            onward = onward_front (x.at + n - x.at) next x b lent y c out o;
            more = λ e. (f.0 e, f.2 e);
            last = λ e. tail_named y.kept.answer p y c (f.1 e);
          }
