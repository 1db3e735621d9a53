-- `register::total_of` meets its contract.
-- Assumes nothing.
use Rattle.std.proofs.Common.{ap, ◌∙◌, rules}
use Rattle.std.specs.Slice.Iter.{iter_rest}
use Rattle.std.proofs.lemmas.Iterator.{YieldsList-from_slice, YieldsList-from_map}
use Rattle.std.proofs.lemmas.Iterator.Consumers.{sum_by_from_yields_List}
use Rattle.register.specs.Opening.{sum_is}
use Rattle.register.proofs.total_of.Goals as goal

pub returns : goal.returns
returns c =
    let q = c.args.quotas.now in
    let source = YieldsList-from_slice q (ap iter_rest c.map.ensures.source ∙ c.iter.ensures.rest) in
    sum_by_from_yields_List (λ x. x) q _ c.sum.result c.sum.ensures.ran (YieldsList-from_map _ (λ x. x) source c.map.ensures.closure (λ x r f k. search rules))
    ∙ sum_is q
