-- A text filled up with zeros.
-- Assumes nothing.
use Rattle.std.specs.Prelude.{List, ◌++◌, ℕ, ◌-◌, length, replicate}

-- a text, and zeros up to n bytes
unfoldable pub filled_up : ℕ → List ℕ → List ℕ
filled_up n x = x ++ replicate (n - length x) 0
