use mathlib.Core.Path.{ap, ◌∙◌}
use Rattle.laws.specs.Put.{put_at}
use Rattle.parcels.specs.OneSegment.{put_zeros}
use Rattle.parcels.proofs.passing.put_part.Goals as goal

pub returns : goal.returns
returns c =
    c.put_bytes-2.ensures.1
    ∙ ap (put_at c.args.store.now c.args.at) (put_zeros 4096 c.put_bytes.new.out c.args.text.now c.put_bytes.ensures.1 c.requires)
