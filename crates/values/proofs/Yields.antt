-- What the characters of a part yield: its text after release.
-- Assumes nothing.
use Rattle.std.proofs.Common.{◌≡◌, ap, List, ℕ}
use Rattle.std.specs.Iterator.{YieldsFirst}
use Rattle.std.proofs.lemmas.Iterator.{YieldsList}
use Rattle.std.proofs.lemmas.Iterator.Consumers.{YieldsList-from_first}
use Rattle.syntax.specs.Bytes.{plain}
use Rattle.values.specs.declared.AfterRelease.{AfterRelease}

pub characters_yield : {s : AfterRelease} {part : List ℕ} → s.rest.now ≡ part → YieldsList (YieldsFirst (λ (c : AfterRelease). plain c.rest.now)) (λ (x : ℕ). x) s (plain part)
characters_yield e = YieldsList-from_first (λ x. x) (λ (c : AfterRelease). plain c.rest.now) _ (ap plain e)
