-- `read_any` meets its contract.
-- Assumes nothing.
use Rattle.std.specs.Prelude.{Option, Some, Err}
use borrow.Author.Rules.{rules}
use mathlib.Core.Path.{◌≡◌, sym, ap, ◌∙◌}
use mathlib.Core.List.{List}
use Prim.Native.Nat.{ℕ}
use Rattle.syntax.specs.Bytes.{plain}
use Rattle.parts.specs.declared.Part.{Part}
use Rattle.parts.specs.Places.{bytes_of}
use Rattle.period.specs.declared.elements.Element.{Element}
use Rattle.period.specs.Period.{first_last, day_text, week_text, span_in, formed_of, rest_good}
use Rattle.period.specs.Elements.{element_found, text_in, text_in_lem, rest_in_lem}
use Rattle.period.specs.Tests.{wrong_dates, wrong_form, wrong_rest, good_period_lem}
use Rattle.period.proofs.any.read_any.Goals.{After-is_rest_good, After-read_dates, After-read_form}
use Rattle.period.proofs.any.read_any.Goals as goal
use Rattle.calendar.specs.declared.Span.{Span}

-- what the dates say
dates : (s : List ℕ) (segment : Part) (first : Element) (text : List ℕ) (said : Option Span)
    → first ≡ element_found s segment 1 → text ≡ text_in s first 2 → said ≡ span_in (plain text) → span_in (first_last (bytes_of s segment)) ≡ said
dates s segment first text said a b e = sym (e ∙ ap (λ (t : List ℕ). span_in (plain t)) (b ∙ text_in_lem s segment 1 2 a))

at_dates : (d : After-read_dates) → span_in (first_last (bytes_of d.args.s.now d.args.segment)) ≡ d.read_dates.result
at_dates d = dates d.args.s.now d.args.segment d.find_element-first.result d.text_in.result.now d.read_dates.result d.find_element-first.ensures d.text_in.ensures d.read_dates.ensures

-- what the form says
module _ (m : After-read_form) where
  abbrev g : List ℕ
  g = bytes_of m.args.s.now m.args.segment

  span : span_in (first_last g) ≡ Some m.in-Some.span
  span =
      dates m.args.s.now m.args.segment m.find_element-first.result m.text_in.result.now m.read_dates.result m.find_element-first.ensures m.text_in.ensures m.read_dates.ensures
      ∙ m.in-Some.is

  told : formed_of m.args.wish m.in-Some.span.count (day_text g) (week_text g) ≡ m.read_form.result
  told =
      sym (m.read_form.ensures
      ∙ ap (λ (t : List ℕ). formed_of m.args.wish m.in-Some.span.count (plain t) (plain m.text_in-weekdays.result.now)) (m.text_in-days.ensures ∙ text_in_lem m.args.s.now m.args.segment 1 4 m.find_element-first.ensures)
      ∙ ap (λ (t : List ℕ). formed_of m.args.wish m.in-Some.span.count (day_text g) (plain t)) (m.text_in-weekdays.ensures ∙ text_in_lem m.args.s.now m.args.segment 2 1 m.find_second-second.ensures))

-- what the rest says
rest : (k : After-is_rest_good) → rest_good (bytes_of k.args.s.now k.args.segment) ≡ k.is_rest_good.result
rest k = sym (k.is_rest_good.ensures ∙ rest_in_lem k.args.s.now k.args.segment k.find_element-first.ensures k.find_second-second.ensures)

pub returns-in_default : goal.returns-in_default
returns-in_default c =
    wrong_dates c.args.wish (bytes_of c.args.s.now c.args.segment) (at_dates (goal.at.returns-in_default c).After-read_dates ∙ c.in_default.is)

pub find_second-second-requires : goal.find_second-second-requires
find_second-second-requires c = c.find_element-first.ensures

pub returns-in_err-form : goal.returns-in_err-form
returns-in_err-form c =
    let r : c.from_residual.result ≡ Err c.in_err-form.field-0.0 = search rules in
    r ∙ wrong_form c.args.wish (bytes_of c.args.s.now c.args.segment) (span (goal.at.returns-in_err-form c).After-read_form) (told (goal.at.returns-in_err-form c).After-read_form ∙ c.in_err-form.was)

pub returns-then-not-is_rest_good : goal.returns-then-not-is_rest_good
returns-then-not-is_rest_good c =
    wrong_rest c.args.wish (bytes_of c.args.s.now c.args.segment) (span (goal.at.returns-then-not-is_rest_good c).After-read_form) (told (goal.at.returns-then-not-is_rest_good c).After-read_form ∙ c.in_ok-form.was) (rest (goal.at.returns-then-not-is_rest_good c).After-is_rest_good ∙ c.if-not-is_rest_good.true)

pub returns : goal.returns
returns c =
    good_period_lem c.args.wish (bytes_of c.args.s.now c.args.segment) (span (goal.at.returns c).After-read_form) (told (goal.at.returns c).After-read_form ∙ c.in_ok-form.was) (rest (goal.at.returns c).After-is_rest_good ∙ c.if-not-is_rest_good.false)
