-- `Services::next` meets its contract.
-- Assumes nothing.
use mathlib.Core.Path.{sym, ap, ◌∙◌}
use Rattle.std.proofs.Common.{rules, length, arith}
use Rattle.services.proofs.Walks.{service_first, service_none}
use Rattle.services.proofs.ServicesIterator.next.Goals as goal

pub returns-in_err-service-clause-steps : goal.returns-in_err-service-clause-steps
returns-in_err-service-clause-steps c =
    let e = service_none c.args.self.now (sym c.next_service.ensures ∙ c.in_err-service.was) in
    rw c.from_residual.ensures (e, e)

pub returns-clause-steps : goal.returns-clause-steps
returns-clause-steps c = service_first c.args.self.now c.in_ok-service.service (sym c.next_service.ensures ∙ c.in_ok-service.was)

pub returns-clause-goes : goal.returns-clause-goes
returns-clause-goes c =
    let e = ap length (service_first c.args.self.now c.in_ok-service.service (sym c.next_service.ensures ∙ c.in_ok-service.was)) in
    search rules
