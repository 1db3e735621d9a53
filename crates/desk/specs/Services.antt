-- The services of a reading as C takes them.
-- Assumes nothing.
use Rattle.std.specs.Prelude.{Option, Some, None, ◌≡◌, ℕ, true, false, List, ltb, length}
use Rattle.std.proofs.Common.{◌∙◌}
use Rattle.laws.specs.Choice.{pick, choose}
use Rattle.laws.specs.Put.{put_at}
use Rattle.answers.specs.Answers.{Answer, done, output_too_short}
use Rattle.syntax.specs.Bytes.{plain}
use Rattle.parts.specs.declared.Part.{Part}
use Rattle.parts.specs.Places.{bytes_of}
use Rattle.values.specs.Values.{copied_of}
use Rattle.services.specs.declared.Service.{Service}
use Rattle.desk.specs.declared.reading.ServiceFound.{ServiceFound}

-- a service, or none
abbrev pub found_service : Option Service → ServiceFound
found_service (Some v) =
    record {
      found = true;
      removal = v.removal;
      prd = v.prd;
      number_from = v.number.from;
      number_to = v.number.to;
      from = v.from;
      to = v.to;
    }
found_service None = record { found = false; removal = false; prd = 0; number_from = 0; number_to = 0; from = 0; to = 0 }

abbrev pub part_from : ℕ → ℕ → Part
part_from from to = record { from = from; to = to }

-- "lent output too short" is 17
abbrev pub copied_answer : Option ℕ → Answer ℕ
copied_answer (Some n) = done n
copied_answer None = output_too_short

-- what a part says after release, where it fits
abbrev pub number_answer : List ℕ → Part → List ℕ → Answer ℕ
number_answer s p out = pick (ltb (length out) (length (plain (bytes_of s p)))) output_too_short (done (length (plain (bytes_of s p))))

abbrev pub number_output : List ℕ → Part → List ℕ → List ℕ
number_output s p out = put_at out 0 (plain (bytes_of s p))

-- ---- for `drumcallisto_number`: p is the part's bytes, w what came of copying them

module _ (s : List ℕ) (part : Part) (out p : List ℕ) (e : p ≡ bytes_of s part) where
  pub number_told : (w : Option ℕ) → w ≡ copied_of (length (plain p)) (length out) → copied_answer w ≡ number_answer s part out
  number_told w q = rw (q, e) (choose (ltb (length out) (length (plain (bytes_of s part)))) (λ t. rw t) (λ t. rw t))

  pub number_left : (last : List ℕ) → last ≡ put_at out 0 (plain p) → last ≡ number_output s part out
  number_left last q = q ∙ rw e
