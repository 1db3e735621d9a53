-- The calls of a run are the public functions: the answer and the bytes that a function's contract permits are those of the call. `a` is
-- what its contract answers: `staged_answer`, `released_answer`, `withdrawn_answer` or `record_answer` of its result.
-- Assumes nothing.
use Rattle.std.specs.Prelude.{◌≡◌, Bool, List, [], ℕ}
use Rattle.laws.specs.Choice.{both, choose}
use Rattle.answers.specs.Answers.{Answer}
use Rattle.contents.specs.Written.{is_register}
use Rattle.contents.specs.Calls.{release_of, withdraw_of, show_answer, show_bytes, is_account, answer_on, bytes_after, output_after}
use Rattle.rooms.specs.Views.{written_back}
use Rattle.stages.specs.Stage.{stage_of}
use Rattle.shuffle.specs.Register.{stage, release, withdraw, show, called}

-- a call that lends no output has none afterwards
no_output : (b : List ℕ) (account : ℕ) → output_after b account [] (λ v. []) ≡ []
unfolding output_after
no_output b account = choose (both (is_register b) (is_account account)) (λ p. rw p) (λ p. rw p)

-- `show` is lent the register to read alone
same_register : (b : List ℕ) (account : ℕ) → bytes_after b account (λ v. v.records) ≡ b
unfolding bytes_after
same_register b account =
    choose (is_register b)
    (λ p. choose (is_account account) (λ q. rw (p, q) (written_back b p account q)) (λ q. rw (p, q)))
    (λ p. rw p)

module _ (b : List ℕ) (account : ℕ) where
  pub stage_is : (wish : Bool) (s after : List ℕ) (a : Answer ℕ) → a ≡ answer_on b account (λ v. (stage_of wish s v).answer) → after ≡ bytes_after b account (λ v. (stage_of wish s v).records)
      → called b (account, stage wish s) ≡ (after, record { answer = a; output = [] })
  unfolding called
  stage_is wish s after a p q = rw (called, p, q, no_output b account)

  pub release_is : (after : List ℕ) (a : Answer ℕ) → a ≡ answer_on b account (λ v. (release_of v).answer) → after ≡ bytes_after b account (λ v. (release_of v).records)
      → called b (account, release) ≡ (after, record { answer = a; output = [] })
  unfolding called
  release_is after a p q = rw (called, p, q, no_output b account)

  pub withdraw_is : (x after : List ℕ) (a : Answer ℕ) → a ≡ answer_on b account (λ v. (withdraw_of x v).answer) → after ≡ bytes_after b account (λ v. (withdraw_of x v).records)
      → called b (account, withdraw x) ≡ (after, record { answer = a; output = [] })
  unfolding called
  withdraw_is x after a p q = rw (called, p, q, no_output b account)

  pub show_is : (k : ℕ) (out after : List ℕ) (a : Answer ℕ) → a ≡ answer_on b account (show_answer k out) → after ≡ output_after b account out (show_bytes k out)
      → called b (account, show k out) ≡ (b, record { answer = a; output = after })
  unfolding called
  show_is k out after a p q = rw (called, p, q, same_register b account)
