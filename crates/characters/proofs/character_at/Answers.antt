use Rattle.std.proofs.Common.{ap, sym, ◌∙◌}
use Rattle.std.specs.Option.{unwrap_or}
use Rattle.std.proofs.lemmas.Option.{unwrap_or-slice_get}
use Rattle.std.proofs.lemmas.Iterator.Adapters.{option_map_id}
use Rattle.std.proofs.lemmas.Iterator.Consumers.{nth_from_yields_List}
use Rattle.syntax.specs.Bytes.{plain}
use Rattle.values.proofs.Yields.{characters_yield}
use Rattle.characters.proofs.character_at.Goals as goal

pub returns : goal.returns
returns c =
    let e = nth_from_yields_List c.nth.result c.nth.new.self c.args.k c.nth.ensures.ran (characters_yield c.characters.ensures) in
    c.unwrap_or.ensures ∙ ap (λ o. unwrap_or o 0) (sym (option_map_id c.nth.result) ∙ e) ∙ unwrap_or-slice_get (plain c.args.part.now) c.args.k 0
