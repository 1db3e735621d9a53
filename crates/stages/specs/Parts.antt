-- A refusal of stage has a part beside 10 alone, and there one of the six.
-- Assumes nothing.
use Rattle.std.specs.Prelude.{◌≡◌, refl, Bool, ℕ, leb, length, Some, None}
use Rattle.std.proofs.Common.{subst}
use Rattle.std.proofs.Math.Bool.{true}
use mathlib.Core.List.{List, [], ◌∷◌}
use Rattle.std.specs.declared.option.Option as found
use Rattle.laws.specs.Choice.{both, choose}
use Rattle.answers.specs.declared.Refusal.{Refusal}
use Rattle.answers.specs.Answers.{Answer, done, refused}
use Rattle.parts.specs.Places.{bytes_of}
use Rattle.steps.specs.Parts.{part_fits, Parted}
use Rattle.interchange.specs.Reader.{Verdict, reading_of, numbers}
use Rattle.interchange.specs.Parts.{reading_parted}
use Rattle.services.specs.declared.Service.{Service}
use Rattle.services.specs.Services.{periods_of, is_wrong, is_twice, services_of}
use Rattle.contents.specs.Contents.{Record}
use Rattle.contents.specs.Calls.{View, lookup}
use Rattle.stages.specs.Stage.{number_in, first_outside, is_unknown, enter_known, enter_inside, enter, and_then, enter_all, close_by, stage_by, stage_of}

module _ (first : ℕ) (s rows : List ℕ) where
  known_parted : (v : Service) (rs : List Record) → Parted (enter_known first s rows v rs)
  unfolding enter_known
  known_parted v rs = choose (both v.removal (is_unknown (lookup (number_in s v) rs))) (λ p. rw p refl) (λ p. rw p tt)

  inside_parted : (o : found.Option ℕ) (next : Answer (List Record)) → Parted next → Parted (enter_inside o next)
  inside_parted None next p = p
  inside_parted (Some at) next p = refl

  one_parted : (v : Service) (rs : List Record) → Parted (enter first s rows v rs)
  unfolding enter
  one_parted v rs =
      choose (is_wrong s rows v) (λ p. rw p refl)
      (λ p.
      choose (is_twice s rows (bytes_of s v.number) v.from) (λ q. rw (p, q) refl)
      (λ q. rw (p, q) (inside_parted (first_outside true first s (periods_of rows v)) (enter_known first s rows v rs) (known_parted v rs))))

  then_parted : (more : List Record → Answer (List Record)) (x : Answer (List Record)) → ((rs : List Record) → Parted (more rs)) → Parted x → Parted (and_then more x)
  then_parted more (done rs) m p = m rs
  then_parted more (refused x) m p = p

  all_parted : (vs : List Service) (rs : List Record) → Parted (enter_all first s rows vs rs)
  unfolding enter_all
  all_parted [] rs = tt
  all_parted (v ∷ vs) rs = then_parted (enter_all first s rows vs) (enter first s rows v rs) (all_parted vs) (one_parted v rs)

close_parted : (s : List ℕ) (count : ℕ) (v : View) (x : Answer (List Record)) → Parted x → Parted (close_by s count v x).answer
close_parted s count v (refused x) p = p
close_parted s count v (done rs) p = choose (leb (length rs) v.quota) (λ q. rw q tt) (λ q. rw q refl)

stage_by_lem : (s rows : List ℕ) (n : ℕ) (a : Verdict) (v : View) → Parted a → Parted (stage_by s rows n a v).answer
stage_by_lem s rows n (done u) v p =
    close_parted s (length (services_of s rows n)) v (enter_all v.first s rows (services_of s rows n) v.records) (all_parted v.first s rows (services_of s rows n) v.records)
stage_by_lem s rows n (refused x) v p = p

pub stage_parted : (wish : Bool) (s : List ℕ) (v : View) → Parted (stage_of wish s v).answer
unfolding stage_of
stage_parted wish s v = stage_by_lem s (numbers (reading_of wish s).rows) (length (reading_of wish s).rows) (reading_of wish s).verdict v (reading_parted wish s)

pub stage_part : (wish : Bool) (s : List ℕ) (v : View) (x : Refusal) → (stage_of wish s v).answer ≡ refused x → part_fits x ≡ true
stage_part wish s v x e = subst Parted e (stage_parted wish s v)
