-- The room of an account, or why there is none.
-- Assumes nothing.
use Rattle.std.specs.Prelude.{◌≡◌, ℕ, ◌≤◌, true, false, List, length}
use Rattle.contents.specs.Written.{is_register}
use Rattle.contents.specs.Calls.{is_account}
use Rattle.rooms.specs.Views.{room_start, room_end}
use Rattle.register.specs.declared.AccountError.{AccountError}
use Rattle.register.specs.declared.AccountError.TheVariants.{NotRegister, BadAccount}

-- a register, an account, and the bounds of its room
pub record Room (b : List ℕ) (account from to : ℕ) : Type 0 where
  pub register : is_register b ≡ true
  pub known : is_account account ≡ true
  pub start : from ≡ room_start b account
  pub end : to ≡ room_end b account
  pub order : from ≤ to
  pub within : to ≤ length b

-- which of the two tests fails
abbrev pub NoRoom : List ℕ → ℕ → AccountError → Type 0
NoRoom b account NotRegister = is_register b ≡ false
NoRoom b account BadAccount = (is_register b ≡ true) × (is_account account ≡ false)
