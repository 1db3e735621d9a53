-- What a service segment comes to is what the table of numbers answers.
-- Assumes nothing.
use Rattle.std.specs.Prelude.{◌≡◌, Bool, List, ℕ, Option, Result}
use Rattle.std.proofs.Common.{ap, ◌∙◌}
use Rattle.laws.specs.Choice.{pick, choose}
use Rattle.answers.specs.Answers.{done, wrong_envelope}
use Rattle.parts.specs.declared.Part.{Part}
use Rattle.envelope.specs.Envelope.{says, SKDUPD, TSDUPD, place_of, opens, uib_of, type_of, version_of, release_number_of, sub_function_of, agency_of, reference_of, complete, directory, directory_12b, typed, typed_12b, uih_of, opening_answer, headed_answer, trailer_answer, uib_answer, type_answer, type_12b_answer, uih_answer}
use Rattle.envelope.specs.declared.Head.{Head}
use Rattle.envelope.specs.declared.HeadError.{HeadError}

pub uib_said : (g : List ℕ) {x : Option Part} → x ≡ uib_of g → (x ≡ uib_of g) × ((at : ℕ) → opening_answer at x ≡ uib_answer at g)
unfolding uib_of uib_answer
uib_said g e = (e, λ at. ap (opening_answer at) e ∙ choose (opens g) (λ q. rw q) (λ q. rw q))

type_said : (at : ℕ) (type : List ℕ) (p : Part) → headed_answer at (typed type p) ≡ type_answer at type p
type_said at type p = choose (says type SKDUPD) (λ q. rw q) (λ q. choose (says type TSDUPD) (λ r. rw (q, r)) (λ r. rw (q, r)))

type_12b_said : (at : ℕ) (type : List ℕ) (p : Part) → headed_answer at (typed_12b type p) ≡ type_12b_answer at type p
type_12b_said at type p = choose (says type TSDUPD) (λ q. rw q) (λ q. rw q)

head_said : (at : ℕ) (g : List ℕ) → headed_answer at (uih_of g) ≡ uih_answer at g
unfolding uih_of uih_answer
head_said at g =
    choose (complete (type_of g) (version_of g) (release_number_of g) (agency_of g) (reference_of g))
    (λ q.
    choose (directory (version_of g) (release_number_of g) (sub_function_of g) (agency_of g)) (λ d. rw (q, d) (type_said at (type_of g) (place_of g 2 1)))
    (λ d.
    choose (directory_12b (version_of g) (release_number_of g) (sub_function_of g) (agency_of g)) (λ e. rw (q, d, e) (type_12b_said at (type_of g) (place_of g 2 1))) (λ e. rw (q, d, e))))
    (λ q. rw q)

pub uih_said : (g : List ℕ) {x : Result Head HeadError} → x ≡ uih_of g → (x ≡ uih_of g) × ((at : ℕ) → headed_answer at x ≡ uih_answer at g)
uih_said g e = (e, λ at. ap (headed_answer at) e ∙ head_said at g)

pub trailer_said : {x y : Bool} → x ≡ y → (x ≡ y) × ((at : ℕ) → trailer_answer at x ≡ pick y (done tt) (wrong_envelope at))
trailer_said {x} {y} e = (e, λ at. ap (trailer_answer at) e ∙ choose y (λ q. rw q) (λ q. rw q))
