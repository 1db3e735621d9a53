-- A set of bytes below 128 as two numbers of 64 bits, and the two sets that the code keeps so.
-- Assumes nothing.
use Rattle.std.specs.Prelude.{◌≡◌, Bool, false, ℕ, ◌-◌, ◌/◌, ◌%◌, ◌^◌, ◌<◌, ltb, eqb}
use Rattle.laws.specs.Choice.{pick}
use Rattle.laws.specs.Sweep.{agree}
use Rattle.syntax.specs.Bytes.{permitted_of, plain_text}

-- whether a byte's bit is set
unfoldable pub in_mask : ℕ → ℕ → ℕ → Bool
in_mask low high b =
    pick (ltb b 64) (eqb (low / 2 ^ b % 2) 1) (pick (ltb b 128) (eqb (high / 2 ^ (b - 64) % 2) 1) false)

pub permitted_mask : (b : ℕ) → b < 256 → in_mask 18446743966335369216 576460745995190270 b ≡ permitted_of b
unfolding in_mask permitted_of
permitted_mask = agree (in_mask 18446743966335369216 576460745995190270) permitted_of 256 tt

pub text_mask : (b : ℕ) → b < 256 → in_mask 8935127809433534464 576460745995190270 b ≡ plain_text b
unfolding in_mask plain_text permitted_of
text_mask = agree (in_mask 8935127809433534464 576460745995190270) plain_text 256 tt
