-- The bytes at a parcel's end that no terminator follows are kept behind those that are kept already.
-- Assumes nothing.
use Rattle.std.specs.Prelude.{◌≡◌, refl, Bool, true, false, List, [], ◌++◌, ℕ, ◌+◌, ◌≤◌, length, drop}
use Rattle.std.proofs.Common.{sym, ap, subst, ◌∙◌, arith, length-append}
use Rattle.laws.specs.Choice.{false≢true}
use Rattle.laws.specs.Lists.{between, between_none, length_between}
use Rattle.laws.specs.Put.{put_at, put_none}
use Rattle.syntax.specs.Pieces.{first_piece}
use Rattle.cuts.specs.Cuts.{released_after}
use Rattle.answers.specs.Answers.{refused}
use Rattle.arrival.specs.Arrived.{Stand, only}
use Rattle.arrival.specs.Folded.{lengthened, arrived_stays}
use Rattle.parcel_store.specs.declared.Final.{Final}
use Rattle.parcel_store.specs.declared.Final.TheVariants.{Awaited, Accepted, Refused}
use Rattle.parcel_store.specs.declared.Kept.{Kept}
use Rattle.parcel_store.specs.Store.{part_size, store_size, body_place, final_by, stand_of}
use Rattle.parcel_store.specs.Puts.{before_kept, text_read}
use Rattle.parcels.specs.declared.passing.Progress.{Progress}
use Rattle.parcels.specs.Parts.{put_onto}
use Rattle.parcels.specs.Onward.{Sized}
use Rattle.parcels.specs.Pieces.{Tail, TailBy}
use Rattle.parcels.specs.Whole.{is_awaited, Held}

pub awaited_is : (a : Final) → is_awaited a ≡ true → a ≡ Awaited
awaited_is Awaited q = refl
awaited_is Accepted q = absurd (false≢true q)
awaited_is (Refused x) q = absurd (false≢true q)

-- n bytes more
abbrev pub longer_kept : Kept → ℕ → Bool → Kept
longer_kept k n released =
    record {
      state = k.state;
      offset = k.offset;
      body = k.body + n;
      released = released;
      dialogue = k.dialogue;
      reference = k.reference;
      count = k.count;
      answer = Awaited;
    }

abbrev pub held_at : Progress → ℕ → ℕ → Bool → Progress
held_at x at n released = record { kept = longer_kept x.kept n released; at = at; numbers = x.numbers; ended = true }

-- the rest has room
pub tail_fits : (p : List ℕ) (x : Progress) (b : List ℕ) → x.kept.answer ≡ Awaited → Tail p x b → (rest : List ℕ) → rest ≡ drop x.at p → x.kept.body + length rest ≤ part_size
tail_fits p x b e t rest is = subst (λ (l : List ℕ). x.kept.body + length l ≤ part_size) (sym is) (subst (λ (a : Final). TailBy a p x b) e t).2

module _ (p : List ℕ) (x : Progress) (b : List ℕ) (big : length b ≡ store_size) (w : Sized x.kept) where
  -- no byte is kept, and the answer is there
  pub held_final : is_awaited x.kept.answer ≡ false → Tail p x b → Held p x b x b
  held_final q t = by_answer x.kept.answer refl q t
    where
      empty : x.kept.body ≡ 0 → (stand_of x.kept b).body ≡ []
      empty z = between_none b body_place (body_place + x.kept.body) (omega arith)

      by_answer : (a : Final) → x.kept.answer ≡ a → is_awaited a ≡ false → TailBy a p x b → Held p x b x b
      by_answer Awaited e q t = absurd (false≢true (sym q))
      by_answer Accepted e q t = absurd t
      by_answer (Refused r) e q t =
          record {
            told = arrived_stays (stand_of x.kept b) (refused r) (ap (λ (a : Final). final_by a x.kept.count) e) (drop x.at p);
            store = sym (put_none b body_place) ∙ ap (put_at b body_place) (sym (empty t));
            dialogue = refl;
            reference = refl;
            count = refl;
            sized = w;
          }

  -- the bytes are kept
  module _ (rest : List ℕ) (is : rest ≡ drop x.at p) (released : Bool) (flag : released ≡ released_after x.kept.released (first_piece 39 x.kept.released rest))
      (e : x.kept.answer ≡ Awaited) (t : Tail p x b) (at : ℕ) (c : List ℕ) (put : c ≡ put_at b (body_place + x.kept.body) rest) where
    abbrev k : Kept
    k = x.kept

    abbrev s : Stand
    s = stand_of k b

    tail : TailBy Awaited p x b
    tail = subst (λ (a : Final). TailBy a p x b) e t

    room : k.body + length rest ≤ part_size
    room = tail_fits p x b e t rest is

    length_body : length s.body ≡ k.body
    length_body =
        let z = w.body in
        length_between b body_place (body_place + k.body) (omega arith) ∙ omega arith

    onto : c ≡ put_at b body_place (s.body ++ rest)
    onto = let h = room in put ∙ put_onto b body_place k.body rest (omega arith)

    body_is : between c body_place (body_place + (k.body + length rest)) ≡ s.body ++ rest
    body_is =
        let h = room in
        let n = length-append s.body rest in
        let m = length_body in
        let z : k.body + length rest ≡ length (s.body ++ rest) = omega arith in
        ap (λ (i : ℕ). between c body_place (body_place + i)) z
        ∙ ap (λ (l : List ℕ). between l body_place (body_place + length (s.body ++ rest))) onto
        ∙ text_read b body_place (s.body ++ rest) (omega arith)

    kept_text : (from n : ℕ) → from + n ≤ body_place → between c from (from + n) ≡ between b from (from + n)
    kept_text from n h = ap (λ (l : List ℕ). between l from (from + n)) put ∙ before_kept b (body_place + k.body) rest from (from + n) (omega arith)

    flag_is : released ≡ released_after k.released rest
    flag_is = flag ∙ ap (released_after k.released) (subst (λ (l : List ℕ). first_piece 39 k.released l ≡ l) (sym is) tail.0)

    stand_is : lengthened s rest ≡ stand_of (longer_kept k (length rest) released) c
    stand_is =
        let d = w.dialogue in
        let r = w.reference in
        rw (sym body_is, sym (kept_text 40 k.dialogue (omega arith)), sym (kept_text 4136 k.reference (omega arith)), sym flag_is, e)

    pub held_on : Held p x b (held_at x at (length rest) released) c
    held_on =
        let h = room in
        let d = w.dialogue in
        let r = w.reference in
        record {
          told = tail.1 ∙ ap (λ (l : List ℕ). only (lengthened s l)) (sym is) ∙ ap only stand_is;
          store = onto ∙ ap (put_at b body_place) (sym body_is);
          dialogue = kept_text 40 k.dialogue (omega arith);
          reference = kept_text 4136 k.reference (omega arith);
          count = refl;
          sized = record { body = h; dialogue = w.dialogue; reference = w.reference; offset = w.offset };
        }
