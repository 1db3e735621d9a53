-- `stage` meets its contract.
-- Assumes nothing.
use mathlib.Core.Path.{sym, ap, ◌∙◌}
use Rattle.std.specs.Prelude.{Err}
use Rattle.std.proofs.lemmas.Result.{err_from_is_err_and}
use Rattle.services.specs.Services.{counted_answer}
use Rattle.stages.specs.Stage.{stage_of}
use Rattle.staging.specs.Room.{staged_answer}
use Rattle.staging.specs.Closing.{not_register_lem, no_account_lem, account_low, account_high, account_some}
use Rattle.staging.proofs.stage.Goals as goal

pub returns-then-not-is_register : goal.returns-then-not-is_register
returns-then-not-is_register c =
    let a = c.args in record {
      told = (not_register_lem a.b.now a.account (λ v. (stage_of a.wish a.interchange.now v).answer) (λ v. (stage_of a.wish a.interchange.now v).records)
          (sym c.is_register.ensures ∙ c.if-not-is_register.true)).0;
      left = (not_register_lem a.b.now a.account (λ v. (stage_of a.wish a.interchange.now v).answer) (λ v. (stage_of a.wish a.interchange.now v).records)
          (sym c.is_register.ensures ∙ c.if-not-is_register.true)).1;
    }

pub returns-then-account-lt1 : goal.returns-then-account-lt1
returns-then-account-lt1 c =
    let a = c.args in record {
      told = (no_account_lem a.b.now a.account (λ v. (stage_of a.wish a.interchange.now v).answer) (λ v. (stage_of a.wish a.interchange.now v).records)
          (sym c.is_register.ensures ∙ c.if-not-is_register.false) (account_low a.account c.if-account-lt1.true)).0;
      left = (no_account_lem a.b.now a.account (λ v. (stage_of a.wish a.interchange.now v).answer) (λ v. (stage_of a.wish a.interchange.now v).records)
          (sym c.is_register.ensures ∙ c.if-not-is_register.false) (account_low a.account c.if-account-lt1.true)).1;
    }

pub returns-then-account-gt8 : goal.returns-then-account-gt8
returns-then-account-gt8 c =
    let a = c.args in record {
      told = (no_account_lem a.b.now a.account (λ v. (stage_of a.wish a.interchange.now v).answer) (λ v. (stage_of a.wish a.interchange.now v).records)
          (sym c.is_register.ensures ∙ c.if-not-is_register.false) (account_high a.account c.if-account-lt1.false c.if-account-gt8.true)).0;
      left = (no_account_lem a.b.now a.account (λ v. (stage_of a.wish a.interchange.now v).answer) (λ v. (stage_of a.wish a.interchange.now v).records)
          (sym c.is_register.ensures ∙ c.if-not-is_register.false) (account_high a.account c.if-account-lt1.false c.if-account-gt8.true)).1;
    }

pub stage_read-requires : goal.stage_read-requires
stage_read-requires c =
    let a = c.args in
    (sym c.is_register.ensures ∙ c.if-not-is_register.false, account_some a.account c.if-account-lt1.false c.if-account-gt8.false)

pub returns-in_err-stage_read : goal.returns-in_err-stage_read
returns-in_err-stage_read c =
    let p = err_from_is_err_and c.from_residual.result c.from_residual.ensures.1 in
    record {
      told = ap staged_answer (p.1 ∙ ap Err p.2) ∙ sym (ap counted_answer c.in_err-stage_read.was) ∙ c.stage_read.ensures.told;
      left = c.stage_read.ensures.left;
    }
