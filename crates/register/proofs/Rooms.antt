-- Laws on the room of an account, and on the calls that find none.
-- Assumes nothing.
use Rattle.std.specs.Prelude.{◌≡◌, ℕ, ◌≤◌, true, false, List, length}
use Rattle.std.proofs.Common.{arith}
use Rattle.contents.specs.Contents.{Record}
use Rattle.contents.specs.Written.{is_register}
use Rattle.contents.specs.Calls.{View, is_account, answer_on, bytes_after, output_after}
use Rattle.answers.specs.Answers.{Answer}
use Rattle.rooms.specs.Views.{room_start, room_end, room_from, room_within}
use Rattle.register.specs.declared.AccountError.{AccountError}
use Rattle.register.specs.declared.AccountError.TheVariants.{NotRegister, BadAccount}
use Rattle.register.specs.Register.{account_answer}
use Rattle.register.specs.Laws.{answer_register, answer_account, bytes_register, bytes_account, output_register, output_account}
use Rattle.register.specs.Room.{Room, NoRoom}

pub room_is : (b : List ℕ) (account from to : ℕ) → is_register b ≡ true → is_account account ≡ true → from ≡ room_start b account → to ≡ room_end b account → Room b account from to
room_is b account from to q h f t =
    let o = room_from b q account h in
    let w = room_within b q account h in
    record { register = q; known = h; start = f; end = t; order = omega arith; within = omega arith }

-- where there is none a call is refused, and changes nothing
module _ (b : List ℕ) (account : ℕ) where
  pub answer_refused : (call : View → Answer ℕ) (e : AccountError) → NoRoom b account e → account_answer e ≡ answer_on b account call
  unfolding account_answer
  answer_refused call NotRegister q = answer_register b account call q
  answer_refused call BadAccount q = answer_account b account call q.0 q.1

  pub bytes_refused : (call : View → List Record) (e : AccountError) → NoRoom b account e → b ≡ bytes_after b account call
  bytes_refused call NotRegister q = bytes_register b account call q
  bytes_refused call BadAccount q = bytes_account b account call q.0 q.1

  pub output_refused : (out : List ℕ) (call : View → List ℕ) (e : AccountError) → NoRoom b account e → out ≡ output_after b account out call
  output_refused out call NotRegister q = output_register b account out call q
  output_refused out call BadAccount q = output_account b account out call q.0 q.1
