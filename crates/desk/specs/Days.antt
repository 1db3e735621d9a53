-- The days of a service over a window, as C takes them.
-- Assumes nothing.
use Rattle.std.specs.Prelude.{◌≡◌, refl, Bool, true, false, List, [], ◌++◌, ℕ, ◌≤◌, eqb, length, drop, Some, None, Option}
use Rattle.std.proofs.Common.{sym, ◌∙◌, ap, append-nil, arith, eq-eqb, ne_eqb, drop_of_length-le}
use Rattle.laws.specs.Choice.{pick, both}
use Rattle.answers.specs.Answers.{Answer, done, outside_window, bad_calendar}
use Rattle.dates.specs.Dates.{valid, number, number_of}
use Rattle.dates.specs.Laws.{number_known, number_unknown}
use Rattle.laws.specs.Put.{put_at, put_front}
use Rattle.dates.specs.declared.Date.{Date}
use Rattle.stages.specs.Stage.{first_outside, days_of}

-- 13 at the first POP that is not wholly in the window
abbrev pub inside_answer : Option ℕ → Answer ℕ
inside_answer None = done 0
inside_answer (Some at) = outside_window at

abbrev pub inside_days : Option ℕ → List ℕ → List ℕ → List ℕ
inside_days None days lent = days
inside_days (Some at) days lent = lent

-- "bad dates, bad length" is 19: a first date that is none, or a calendar that is not 64 bytes
abbrev pub may_write : Date → List ℕ → Bool
may_write first lent = both (eqb (length lent) 64) (valid first)

-- pops are the offsets of the POPs, the wish is true where the caller asks for the old reading of one with neither form
unfoldable pub days_answer : Bool → List ℕ → List ℕ → Date → List ℕ → Answer ℕ
days_answer wish s pops first lent = pick (may_write first lent) (inside_answer (first_outside wish (number first) s pops)) bad_calendar

unfoldable pub days_bytes : Bool → List ℕ → List ℕ → Date → List ℕ → List ℕ
days_bytes wish s pops first lent = pick (may_write first lent) (inside_days (first_outside wish (number first) s pops) (days_of wish (number first) s pops) lent) lent

-- ---- for the code

-- a text over one of its own length
pub put_whole : (o s : List ℕ) → length s ≡ length o → put_at o 0 s ≡ s
put_whole o s e = put_front o s (omega arith) ∙ rw (drop_of_length-le o {i = length s} (omega arith)) (append-nil s)

module _ (wish : Bool) (s pops : List ℕ) (first : Date) (lent : List ℕ) where
  pub not_64 : (length lent ≡ 64 → ⊥) → (bad_calendar ≡ days_answer wish s pops first lent) × (lent ≡ days_bytes wish s pops first lent)
  unfolding days_answer days_bytes
  not_64 h = (rw (ne_eqb (length lent) 64 h), rw (ne_eqb (length lent) 64 h))

  module _ (h : length lent ≡ 64) where
    pub no_first : number_of first ≡ None → (bad_calendar ≡ days_answer wish s pops first lent) × (lent ≡ days_bytes wish s pops first lent)
    unfolding days_answer days_bytes
    no_first q = let v = number_unknown first q in (rw (eq-eqb (length lent) 64 h, v), rw (eq-eqb (length lent) 64 h, v))

    pub from_first : (n : ℕ) → number_of first ≡ Some n
        → (inside_answer (first_outside wish n s pops) ≡ days_answer wish s pops first lent) × (inside_days (first_outside wish n s pops) (days_of wish n s pops) lent ≡ days_bytes wish s pops first lent)
    unfolding days_answer days_bytes
    from_first n q = let v = number_known first q in (rw (eq-eqb (length lent) 64 h, v.0, v.1), rw (eq-eqb (length lent) 64 h, v.0, v.1))

module _ (o : Option ℕ) (days lent : List ℕ) where
  pub days_inside : None ≡ o → (found last : List ℕ) → found ≡ days → length lent ≡ 64 → length days ≡ 64 → last ≡ put_at lent 0 found → last ≡ inside_days o days lent
  days_inside e found last f h k q =
      let l : length found ≡ length lent = ap length f ∙ k ∙ sym h in
      q ∙ put_whole lent found l ∙ f ∙ ap (λ (x : Option ℕ). inside_days x days lent) e

  pub days_outside : (at : ℕ) → Some at ≡ o → lent ≡ inside_days o days lent
  days_outside at e = ap (λ (x : Option ℕ). inside_days x days lent) e
