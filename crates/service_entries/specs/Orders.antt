-- Orders, one behind the other in a buffer: each a number as it stands in a slot, and the pending entry that a service gives it.
-- Assumes nothing.
use Prim.Native.Nat.{ℕ, zero, suc, ◌+◌, ◌-◌, ◌*◌, ◌/◌, ◌≤◌, ◌<◌}
use Rattle.std.specs.Prelude.{◌≡◌, refl, Bool, eqb, ltb, take, drop, replicate}
use Rattle.std.proofs.Common.{sym, ◌∙◌, eq-eqb, ne_eqb, lt-ltb, le-ltb, length-append, length-drop, take-take, length-take-le}
use Rattle.std.proofs.Math.Path.{ap}
use Rattle.std.proofs.Math.Bool.{true}
use mathlib.Core.List.{List, ◌∷◌, ◌++◌, append-nil}
use native.Mathlib.Omega.{arith}
use Rattle.std.proofs.Math.Decide.{dec_lt}
use Rattle.std.proofs.Math.ListN.{length, get_or}
use Rattle.std.proofs.Math.Seq.{take_at, drop_at, get_or-append-add}
use Rattle.std.proofs.lemmas.List.{take-append-le}
use Rattle.laws.specs.Choice.{pick, choose}
use Rattle.laws.specs.Lists.{drop_take, drop_past, between, length_between}
use Rattle.laws.specs.Put.{put_at, length_put, put_is, put_front, put_take, put_behind, put_no_room}
use Rattle.services.specs.declared.Service.{Service}
use Rattle.services.specs.Services.{periods_of}
use Rattle.stages.specs.Stage.{number_in, days_of}
use Rattle.stages.specs.Permitted.{days_length}
use Rattle.service_entries.specs.Room.{number_bytes, put_in, put_bytes}

-- the flag of a pending entry
abbrev pub flag_of : Bool → ℕ
flag_of removal = pick removal 2 1

-- what is kept of a service
abbrev pub order_of : ℕ → List ℕ → List ℕ → Service → List ℕ
order_of first s rows v = number_bytes (number_in s v) ++ (flag_of v.removal ∷ days_of true first s (periods_of rows v))

-- a buffer with order k set, where it has room for it
unfoldable pub ordered : List ℕ → ℕ → List ℕ → List ℕ
ordered d k o = pick (ltb k (length d / 75)) (put_at d (75 * k) o) d

unfoldable pub order_at : List ℕ → ℕ → List ℕ
order_at d k = between d (75 * k) (75 * k + 75)

-- a room with what an order puts, and with what some of them put, one after the other
unfoldable pub put_order : List ℕ → List ℕ → List ℕ
put_order o room = pick (eqb (get_or o 10 0) 1) (put_in room (take 10 o) (drop 10 o)) room

unfoldable pub put_orders : List ℕ → ℕ → ℕ → List ℕ → List ℕ
put_orders d k zero room = room
put_orders d k (suc m) room = put_orders d (k + 1) m (put_order (order_at d k) room)

-- ---- the ways through the code

pub order_part : (d : List ℕ) (k : ℕ) → between d (75 * k) (75 * k + 75) ≡ order_at d k
unfolding order_at
order_part d k = refl

pub order_length : (d : List ℕ) (k : ℕ) → 75 * k + 75 ≤ length d → length (between d (75 * k) (75 * k + 75)) ≡ 75
order_length d k h = length_between d (75 * k) (75 * k + 75) h ∙ (omega arith)

pub ordered_not : (d : List ℕ) (k : ℕ) (o : List ℕ) → length d / 75 ≤ k → d ≡ ordered d k o
unfolding ordered
ordered_not d k o h = rw (le-ltb k (length d / 75) h)

pub ordered_is : (d : List ℕ) (k : ℕ) (x e : List ℕ) {a b f : List ℕ} → k < length d / 75 → a ≡ put_at d (75 * k) x → b ≡ put_at a (75 * k + 10) f → f ≡ e → length x ≡ 10 → length f ≡ 65
    → b ≡ ordered d k (x ++ e)
unfolding ordered
ordered_is d k x e {a} {b} {f} h p q i l m =
    let m₁ : length e ≡ 65 = ap length (sym i) ∙ m in
    rw (lt-ltb k (length d / 75) h)
    (put_behind d (75 * k) x e (75 * k + 10) p q i (omega arith) (omega arith))

pub order_not : (o room : List ℕ) → (get_or o 10 0 ≡ 1 → ⊥) → room ≡ put_order o room
unfolding put_order
order_not o room h = rw (ne_eqb (get_or o 10 0) 1 h)

-- a text put over all of a buffer is the buffer
pub put_whole : (o s : List ℕ) → length s ≡ length o → put_at o 0 s ≡ s
put_whole o s h = put_front o s (omega arith) ∙ rw (drop_past o (length s) (omega arith)) (append-nil s)

pub order_puts : (o room : List ℕ) {x e t u last : List ℕ} → length o ≡ 75 → get_or o 10 0 ≡ 1 → t ≡ take 10 o → u ≡ drop 10 o → x ≡ put_at (replicate 10 0) 0 t → e ≡ put_at (replicate 65 0) 0 u
    → last ≡ put_in room x e → last ≡ put_order o room
unfolding put_order
order_puts o room {x} {e} {t} {u} {last} l q a b f g h =
    let m : length (take 10 o) ≡ 10 = length-take-le 10 o (omega arith) in
    let n = length-drop 10 o in
    let y : x ≡ take 10 o = f ∙ ap (put_at (replicate 10 0) 0) a ∙ put_whole (replicate 10 0) (take 10 o) m in
    let z : e ≡ drop 10 o = g ∙ ap (put_at (replicate 65 0) 0) b ∙ put_whole (replicate 65 0) (drop 10 o) (omega arith) in
    rw (eq-eqb (get_or o 10 0) 1 q) (h ∙ ap (λ (w : List ℕ). put_in room w e) y ∙ ap (put_in room (take 10 o)) z)

module _ (d : List ℕ) (k count : ℕ) (room : List ℕ) where
  pub orders_none : count ≤ k → put_orders d k (count - k) room ≡ room
  unfolding put_orders
  orders_none h =
      let e : count - k ≡ 0 = omega arith in
      rw e

  pub orders_on : {last p : List ℕ} → k < count → p ≡ order_at d k → last ≡ put_order p room → put_orders d (k + 1) (count - (k + 1)) last ≡ put_orders d k (count - k) room
  unfolding put_orders
  orders_on {last} {p} h q r =
      let e : count - k ≡ suc (count - (k + 1)) = omega arith in
      rw e (ap (put_orders d (k + 1) (count - (k + 1))) (r ∙ ap (λ (o : List ℕ). put_order o room) q))

-- ---- what is kept of services stands there

module _ (d : List ℕ) (k : ℕ) (o : List ℕ) (h : 75 * k + 75 ≤ length d) (l : length o ≡ 75) where
  pub order_same : order_at (ordered d k o) k ≡ o
  unfolding order_at ordered
  order_same =
      let e : 75 * k + 75 - 75 * k ≡ length o = omega arith in
      rw (lt-ltb k (length d / 75) (omega arith), e) (put_take d (75 * k) o (omega arith))

pub ordered_length : (d : List ℕ) (k : ℕ) (o : List ℕ) → length (ordered d k o) ≡ length d
unfolding ordered
ordered_length d k o = choose (ltb k (length d / 75)) (λ q. rw q (length_put d (75 * k) o)) (λ q. rw q)

-- orders before it stay as they were
order_front : (x y : List ℕ) (k : ℕ) → take (75 * k + 75) x ≡ take (75 * k + 75) y → order_at x k ≡ order_at y k
unfolding order_at
order_front x y k e = sym (drop_take (75 * k) (75 * k + 75) x) ∙ ap (drop (75 * k)) e ∙ drop_take (75 * k) (75 * k + 75) y

pub order_other : (d : List ℕ) (k : ℕ) (o : List ℕ) (j : ℕ) → j < k → order_at (ordered d k o) j ≡ order_at d j
unfolding ordered
order_other d k o j h =
    choose (ltb k (length d / 75))
    (λ q. rw q (elim (dec_lt (length d) (75 * k + length o)) [
      | yes u ↦ ap (λ (z : List ℕ). order_at z j) (put_no_room d (75 * k) o u)
      | no u ↦
          order_front (put_at d (75 * k) o) d j
          (ap (take (75 * j + 75)) (put_is d (75 * k) o (omega arith))
          ∙ take-append-le (75 * j + 75) (take (75 * k) d) (o ++ drop (75 * k + length o) d) (front_long (omega arith))
          ∙ take-take (75 * j + 75) (75 * k) d (omega arith))
    ]))
    (λ q. rw q)
  where
    front_long : 75 * k + length o ≤ length d → 75 * j + 75 ≤ length (take (75 * k) d)
    front_long u =
        let m = length-take-le (75 * k) d (omega arith) in
        omega arith

number_length : (x : List ℕ) → length (number_bytes x) ≡ 10
unfolding number_bytes
number_length x = length_put (replicate 10 0) 0 x

module _ (first : ℕ) (s rows : List ℕ) (v : Service) where
  pub order_size : length (order_of first s rows v) ≡ 75
  order_size =
      let n = number_length (number_in s v) in
      let m = days_length true first s (periods_of rows v) in
      length-append (number_bytes (number_in s v)) (flag_of v.removal ∷ days_of true first s (periods_of rows v)) ∙ (omega arith)

  -- an order enters as its service does
  pub order_enters : (room : List ℕ) → put_order (order_of first s rows v) room ≡ put_bytes first s rows v room
  unfolding put_order
  order_enters room =
      let x = number_bytes (number_in s v) in
      let e = flag_of v.removal ∷ days_of true first s (periods_of rows v) in
      let n = number_length (number_in s v) in
      let k : length x + 0 ≡ 10 = omega arith in
      let f : get_or (x ++ e) 10 0 ≡ flag_of v.removal = ap (λ (i : ℕ). get_or (x ++ e) i 0) (sym k) ∙ get_or-append-add x e 0 0 in
      rw (f, take_at x e 10 n, drop_at x e 10 n) (choose v.removal (λ q. rw q) (λ q. rw q))
