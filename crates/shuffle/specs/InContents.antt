-- A call on contents, and that calls of different accounts do not touch each other there.
-- Assumes nothing.
use Rattle.std.specs.Prelude.{◌≡◌, true, false, ℕ}
use Rattle.std.proofs.Common.{sym}
use Rattle.laws.specs.Choice.{pick, choose}
use Rattle.answers.specs.Answers.{bad_account}
use Rattle.contents.specs.Contents.{Contents}
use Rattle.contents.specs.Calls.{is_account, view_of, with_records}
use Rattle.rooms.specs.Views.{view_other, records_swap}
use Rattle.shuffle.specs.Calls.{Apart}
use Rattle.shuffle.specs.Register.{Ask, Reply, asked_answer, records_by, lent_by, output_by}

-- what the call of an account leaves of the contents, and its reply
abbrev pub by_view : Contents → ℕ × Ask → Contents × Reply
by_view c d = (
  with_records c d.0 (records_by d.1 (view_of c d.0)),
  record { answer = asked_answer d.1 (view_of c d.0); output = output_by d.1 (view_of c d.0) },
)

-- a number that is no account's gets 2, and nothing changes
abbrev pub no_account : Contents → ℕ × Ask → Contents × Reply
no_account c d = (c, record { answer = bad_account; output = lent_by d.1 })

unfoldable pub in_contents : Contents → ℕ × Ask → Contents × Reply
in_contents c d = pick (is_account d.0) (by_view c d) (no_account c d)

-- ---- different accounts

pub in_yes : (c : Contents) (d : ℕ × Ask) → is_account d.0 ≡ true → in_contents c d ≡ by_view c d
unfolding in_contents
in_yes c d p = rw (in_contents, p)

pub in_no : (c : Contents) (d : ℕ × Ask) → is_account d.0 ≡ false → in_contents c d ≡ no_account c d
unfolding in_contents
in_no c d p = rw (in_contents, p)

pub in_apart : Apart in_contents
in_apart s c d n =
    choose (is_account c.0)
    (λ p.
    choose (is_account d.0)
    (λ q. both_accounts p q)
    (λ q. (rw (in_yes s c p, in_no s d q, in_no (by_view s c).0 d q, in_yes s c p), rw (in_yes s c p, in_no s d q, in_no (by_view s c).0 d q))))
    (λ p. (rw (in_no s c p, in_no (in_contents s d).0 c p), rw (in_no s c p)))
  where
    both_accounts : is_account c.0 ≡ true → is_account d.0 ≡ true → ((in_contents (in_contents s c).0 d).0 ≡ (in_contents (in_contents s d).0 c).0) × ((in_contents (in_contents s c).0 d).1 ≡ (in_contents s d).1)
    both_accounts p q =
        let v = view_other s c.0 (records_by c.1 (view_of s c.0)) d.0 p q n in
        let w = view_other s d.0 (records_by d.1 (view_of s d.0)) c.0 q p (λ e. n (sym e)) in (
          rw (in_yes s c p, in_yes s d q, in_yes (by_view s c).0 d q, in_yes (by_view s d).0 c p, v, w)
              (records_swap s c.0 (records_by c.1 (view_of s c.0)) d.0 p q n (records_by d.1 (view_of s d.0))),
          rw (in_yes s c p, in_yes s d q, in_yes (by_view s c).0 d q, v),
        )
