-- `write_refusal` meets its contract.
-- Assumes nothing.
use mathlib.Core.Path.{◌≡◌, refl}
use native.Mathlib.Omega.{arith}
use lib.ListN.{replicate}
use Rattle.laws.specs.Put.{put_at}
use Rattle.text.specs.Text.{refusal_text}
use Rattle.text.specs.Laws.{refusal_refused, refusal_put, refusal_written}
use Rattle.text.proofs.write_refusal.Goals.{After-put_bytes, After-put_bytes-2, After-put_decimal-k, After-put_pair-n, Start}
use Rattle.text.proofs.write_refusal.Goals as goal

-- the line that was put together
module _ (l : After-put_bytes-2) where
  line : l.put_bytes-2.new.out ≡ put_at (replicate 72 0) 0 (refusal_text l.args.refusal)
  line =
      refusal_put l.args.refusal l.put_pair-n.result l.put_decimal-k.result l.put_pair-n.ensures.told.1 l.put_decimal-k.ensures.told.1 (replicate 72 0)
      l.put_pair-n.ensures.told.0 l.put_decimal-k.ensures.told.0 refl l.put_bytes.ensures.1 l.put_pair-n.ensures.left l.put_decimal-k.ensures.left l.put_bytes-2.ensures.1

pub returns-then-out-n : goal.returns-then-out-n
returns-then-out-n c =
    let a = c.args in record { told = (refusal_refused a.refusal c.put_pair-n.result c.put_decimal-k.result c.put_pair-n.ensures.told.1 c.put_decimal-k.ensures.told.1 a.out.now c.if-out-n.true).0; left = (refusal_refused a.refusal c.put_pair-n.result c.put_decimal-k.result c.put_pair-n.ensures.told.1 c.put_decimal-k.ensures.told.1 a.out.now c.if-out-n.true).1 }

pub returns : goal.returns
returns c =
    let a = c.args in record {
      told = (refusal_written a.refusal c.put_pair-n.result c.put_decimal-k.result c.put_pair-n.ensures.told.1 c.put_decimal-k.ensures.told.1 a.out.now (replicate 72 0) c.put_bytes-2.new.out
          (line (goal.at.returns c).After-put_bytes-2) refl c.put_pair-n.ensures.told.0 c.put_decimal-k.ensures.told.0 (omega arith) c.put_first.ensures).0;
      left = (refusal_written a.refusal c.put_pair-n.result c.put_decimal-k.result c.put_pair-n.ensures.told.1 c.put_decimal-k.ensures.told.1 a.out.now (replicate 72 0) c.put_bytes-2.new.out
          (line (goal.at.returns c).After-put_bytes-2) refl c.put_pair-n.ensures.told.0 c.put_decimal-k.ensures.told.0 (omega arith) c.put_first.ensures).1;
    }
