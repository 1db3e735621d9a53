-- A buffer that says what a state is, or says none: a call on the buffer is the state's call, and what it leaves, written.
-- Assumes nothing.
use Rattle.std.specs.Prelude.{◌≡◌, ℕ}
use Rattle.std.proofs.Math.Path.{refl}
use Rattle.std.proofs.Common.{ap}
use Rattle.std.proofs.Math.Option.{Option, none, some}
use Rattle.shuffle.specs.Calls.{Apart, AnyOrder}
use Rattle.shuffle.specs.Order.{any_order}

-- `refusal c` is the reply to the call c where the buffer says no state; nothing changes then
module _ {B S Ask Reply : Type 0} (read : B → Option S) (write : S → B) (call : S → ℕ × Ask → S × Reply) (refusal : ℕ × Ask → Reply) where
  abbrev pub on_state : Option S → B → ℕ × Ask → B × Reply
  on_state none b c = (b, refusal c)
  on_state (some s) b c = (write (call s c).0, (call s c).1)

  unfoldable pub on_buffer : B → ℕ × Ask → B × Reply
  on_buffer b c = on_state (read b) b c

  -- what a call leaves of a state that was read is read back from its writing
  module _ (again : (b : B) (s : S) (c : ℕ × Ask) → read b ≡ some s → read (write (call s c).0) ≡ some (call s c).0) (apart : Apart call) where
    pub buffer_apart : Apart on_buffer
    unfolding on_buffer
    buffer_apart b c d n = go (read b) refl
      where
        go : (o : Option S) → read b ≡ o → ((on_buffer (on_buffer b c).0 d).0 ≡ (on_buffer (on_buffer b d).0 c).0) × ((on_buffer (on_buffer b c).0 d).1 ≡ (on_buffer b d).1)
        go none q = (rw (on_buffer, q) (rw q), rw (on_buffer, q) (rw q))
        go (some s) q = (rw (on_buffer, q) (rw (again b s c q, again b s d q) (ap write (apart s c d n).0)), rw (on_buffer, q) (rw (again b s c q) (apart s c d n).1))

    pub buffer_any_order : AnyOrder on_buffer
    buffer_any_order = any_order on_buffer buffer_apart
