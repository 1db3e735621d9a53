-- `register::open` meets its contract.
-- Assumes nothing.
use mathlib.Core.Path.{◌≡◌, sym, ◌∙◌, ap}
use mathlib.Core.List.{List, map}
use Prim.Native.Nat.{ℕ, ◌≤◌}
use native.Mathlib.Omega.{arith}
use lib.ListN.{length}
use Rattle.laws.specs.Joined.{joined}
use Rattle.laws.specs.Put.{put_at}
use Rattle.dates.specs.Laws.{number_known, number_unknown}
use Rattle.contents.specs.Written.{two_bytes}
use Rattle.register.specs.Register.{opened_answer}
use Rattle.register.specs.Opening.{open_length, open_date, open_window, open_quotas, open_answer_lem, open_bytes_lem}
use borrow.Author.Rules.{rules}
use Rattle.register.proofs.open.Goals as goal

pub returns-then-b-ne-LENGTH : goal.returns-then-b-ne-LENGTH
unfolding opened_answer
returns-then-b-ne-LENGTH c =
    let a = c.args in
    let w = open_length a.b.now a.first a.quotas c.if-b-ne-LENGTH.true in
    record { told = w.0; left = w.1 }

pub returns-in_default : goal.returns-in_default
unfolding opened_answer
returns-in_default c =
    let a = c.args in
    let w = open_date a.b.now a.first a.quotas c.if-b-ne-LENGTH.false (number_unknown a.first (sym c.day_number.ensures ∙ c.in_default.is)) in
    record { told = w.0; left = w.1 }

pub returns-then-day : goal.returns-then-day
unfolding opened_answer
returns-then-day c =
    let a = c.args in
    let d = number_known a.first (sym c.day_number.ensures ∙ c.in-Some.is) in
    let w = open_window a.b.now a.first a.quotas c.if-b-ne-LENGTH.false d.0 c.in-Some.day (sym d.1) (omega arith) in
    record { told = w.0; left = w.1 }

pub returns-then-total_of-gt256 : goal.returns-then-total_of-gt256
unfolding opened_answer
returns-then-total_of-gt256 c =
    let a = c.args in
    let d = number_known a.first (sym c.day_number.ensures ∙ c.in-Some.is) in
    let e : length a.quotas ≡ 8 = search rules in
    let w = open_quotas a.b.now a.first a.quotas c.if-b-ne-LENGTH.false d.0 c.in-Some.day (sym d.1) (omega arith) e c.total_of.result c.total_of.ensures c.if-total_of-gt256.true in
    record { told = w.0; left = w.1 }

pub returns : goal.returns
unfolding opened_answer
returns c =
    let a = c.args in
    let d = number_known a.first (sym c.day_number.ensures ∙ c.in-Some.is) in
    let n = c.in-Some.day in
    let e : length a.quotas ≡ 8 = search rules in
    let w : n ≤ 39665 = omega arith in
    record {
      told = open_answer_lem a.b.now a.first a.quotas c.if-b-ne-LENGTH.false d.0 n (sym d.1) w e c.total_of.result c.total_of.ensures c.if-total_of-gt256.false;
      left = c.clear_from.ensures
          ∙ open_bytes_lem a.b.now a.first a.quotas c.if-b-ne-LENGTH.false d.0 n (sym d.1) w e c.total_of.result c.total_of.ensures c.if-total_of-gt256.false c.put_quotas.new.b
          (c.put_quotas.ensures ∙ ap (λ (l : List ℕ). put_at l 2 (joined (map two_bytes a.quotas))) c.put_number.ensures);
    }
