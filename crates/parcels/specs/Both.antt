-- A parcel is read on from where it stands: one part after the other, and the bytes at its end.
-- Assumes nothing.
use Rattle.std.specs.Prelude.{◌≡◌, refl, Bool, true, false, List, ◌++◌, ℕ, ◌+◌, ◌-◌, ◌≤◌, length, drop}
use Rattle.std.proofs.Common.{sym, ap, ◌∙◌, arith, length-append, length-drop, drop-drop}
use Rattle.laws.specs.Choice.{either, false≢true}
use Rattle.laws.specs.Lists.{length_between}
use Rattle.laws.specs.Put.{put_at, put_put}
use Rattle.interchange.specs.Reader.{numbers}
use Rattle.interchange.specs.Laws.{length_numbers, numbers_append}
use Rattle.arrival.specs.Arrived.{Stand, Brought, followed, arrived_on}
use Rattle.arrival.specs.Folded.{followed_assoc}
use Rattle.parcel_store.specs.declared.Kept.{Kept}
use Rattle.parcel_store.specs.Store.{store_size, stand_of, referred}
use Rattle.parcels.specs.declared.passing.Progress.{Progress}
use Rattle.parcels.specs.Onward.{Sized, Onward, Short, length_referred, referred_both}

-- the references of a stand in a store have room
stand_short : (k : Kept) (b : List ℕ) → length b ≡ store_size → Sized k → (y : Brought) → y.stand ≡ stand_of k b → Short y
stand_short k b big w y e =
    let d = length_between b 40 (40 + k.dialogue) (omega (arith, w.dialogue)) in
    let r = length_between b 4136 (4136 + k.reference) (omega (arith, w.reference)) in
    let d₁ = ap (λ (s : Stand). length s.dialogue) e in
    let r₁ = ap (λ (s : Stand). length s.reference) e in
    let d₂ = w.dialogue in
    let r₂ = w.reference in
    record { dialogue = omega arith; reference = omega arith }

neither : (a b : Bool) → either a b ≡ false → (a ≡ false) × (b ≡ false)
neither true b q = absurd (false≢true (sym q))
neither false b q = (refl, q)

module _ (l : List ℕ) (x : Progress) (b lent : List ℕ) (y : Progress) (c out : List ℕ) (z : Progress) (d last : List ℕ) (big : length b ≡ store_size)
    (f : Onward l x b lent y c out) (g : Onward (drop (y.at - x.at) l) y c out z d last) where
  abbrev first : Brought
  first = f.brought

  abbrev second : Brought
  second = g.brought

  size : length c ≡ store_size
  size = ap length f.store ∙ length_referred first b ∙ big

  end_size : length d ≡ store_size
  end_size = ap length g.store ∙ length_referred second c ∙ size

  rest_same : drop (z.at - y.at) (drop (y.at - x.at) l) ≡ drop (z.at - x.at) l
  rest_same =
      let p = f.from in
      let q = g.from in
      let e : y.at - x.at + (z.at - y.at) ≡ z.at - x.at = omega arith in
      drop-drop (z.at - y.at) (y.at - x.at) l ∙ ap (λ (n : ℕ). drop n l) e

  store_both : d ≡ referred (followed first second) b
  store_both =
      g.store ∙ ap (referred second) f.store
      ∙ referred_both b big first second (stand_short y.kept c size f.sized first f.stands) (stand_short z.kept d end_size g.sized second g.stands)
      (λ q. g.unopened q ∙ sym (ap (λ (s : Stand). s.dialogue) f.stands))
      (λ q. g.unheaded q ∙ sym (ap (λ (s : Stand). s.reference) f.stands))

  put_both : z.numbers ≤ length lent → last ≡ put_at lent x.numbers (numbers (first.rows ++ second.rows))
  put_both h =
      let m = f.count in
      let n = g.count in
      let o = f.long in
      let i = length_numbers first.rows in
      let j = length_numbers second.rows in
      g.put (omega arith)
      ∙ ap (λ (t : List ℕ). put_at t y.numbers (numbers second.rows)) (f.put (omega arith))
      ∙ put_put lent x.numbers (numbers first.rows) y.numbers (numbers second.rows) (omega arith) (omega arith)
      ∙ ap (put_at lent x.numbers) (sym (numbers_append first.rows second.rows))

  pub onward_both : Onward l x b lent z d last
  onward_both =
      let m = f.count in
      let n = g.count in
      let k = length-append first.rows second.rows in
      let p = f.from in
      let q = g.from in
      let u = f.to in
      let v = g.to in
      let w = length-drop (y.at - x.at) l in
      record {
        brought = followed first second;
        told = λ rest.
            f.told rest ∙ ap (followed first) (g.told rest)
            ∙ followed_assoc first second (arrived_on (stand_of z.kept d) (drop (z.at - y.at) (drop (y.at - x.at) l) ++ rest))
            ∙ ap (λ (t : List ℕ). followed (followed first second) (arrived_on (stand_of z.kept d) (t ++ rest))) rest_same;
        stands = g.stands;
        store = store_both;
        unopened = λ e. let o = neither first.opened second.opened e in g.unopened o.1 ∙ sym (ap (λ (s : Stand). s.dialogue) f.stands) ∙ f.unopened o.0;
        unheaded = λ e. let o = neither first.headed second.headed e in g.unheaded o.1 ∙ sym (ap (λ (s : Stand). s.reference) f.stands) ∙ f.unheaded o.0;
        count = omega arith;
        put = put_both;
        long = g.long ∙ f.long;
        sized = g.sized;
        from = omega arith;
        to = omega arith;
        paced = λ h. g.paced (f.paced h);
      }
