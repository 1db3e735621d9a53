-- A change that keeps the number of any record it is given, under the laws of `rooms`.
-- Assumes nothing.
use Rattle.std.specs.Prelude.{ℕ, ◌≡◌, refl, Bool, true, false, List}
use Rattle.std.proofs.Math.Option.{Option, none, some}
use Rattle.laws.specs.Choice.{pick}
use Rattle.values.specs.Values.{same_text}
use Rattle.services.specs.declared.Service.{Service}
use Rattle.services.specs.Services.{periods_of}
use Rattle.contents.specs.Contents.{Record, in_order}
use Rattle.contents.specs.Calls.{lookup, changed}
use Rattle.rooms.specs.Order.{not_same}
use Rattle.rooms.specs.Lookup.{lookup_number}
use Rattle.rooms.specs.Listed.{Keeps}
use Rattle.rooms.specs.Changed.{lookup_changed_other, changed_order}
use Rattle.rooms.specs.Swapped.{changed_swap}
use Rattle.stages.specs.Stage.{number_in, days_of, removed_by, removed, put_over, entry}

-- a change makes of a record of the number one of the same number, or none
abbrev pub KeepsNumber : List ℕ → (Option Record → Option Record) → Type 0
KeepsNumber x f = (o : Option Record) → Keeps x o → Keeps x (f o)

found_keeps : (x : List ℕ) (rs : List Record) → Keeps x (lookup x rs)
found_keeps x rs = go (lookup x rs) refl
  where
    go : (o : Option Record) → lookup x rs ≡ o → Keeps x o
    go none e = tt
    go (some r) e = lookup_number x rs r e

module _ (x : List ℕ) (f : Option Record → Option Record) (rs : List Record) (w : in_order rs ≡ true) (keeps : KeepsNumber x f) where
  -- what is looked up and changed has the number
  pub keeps_found : Keeps x (f (lookup x rs))
  keeps_found = keeps (lookup x rs) (found_keeps x rs)

  -- the record of another number stays
  pub other : (y : List ℕ) → same_text x y ≡ false → lookup y (changed x f rs) ≡ lookup y rs
  other y q = lookup_changed_other x f y (not_same x y q) rs w keeps_found

  pub order : in_order (changed x f rs) ≡ true
  order = changed_order x f rs w keeps_found

  -- changes of two numbers may come in either order
  pub swap : (y : List ℕ) (g : Option Record → Option Record) → KeepsNumber y g → same_text x y ≡ false → changed x f (changed y g rs) ≡ changed y g (changed x f rs)
  swap y g k q = changed_swap x y f g rs (not_same x y q) w keeps_found (k (lookup y rs) (found_keeps y rs))

-- each change that a service makes keeps the number
pub removed_keeps : (x : List ℕ) → KeepsNumber x removed
removed_keeps x none h = tt
removed_keeps x (some r) h = by_live r.live
  where
    by_live : (l : Option (List ℕ)) → Keeps x (removed_by r l)
    by_live none = tt
    by_live (some c) = h

pub put_keeps : (x c : List ℕ) → KeepsNumber x (put_over x c)
put_keeps x c none h = refl
put_keeps x c (some r) h = h

pub entry_keeps : (first : ℕ) (s rows : List ℕ) (v : Service) → KeepsNumber (number_in s v) (entry first s rows v)
unfolding entry
entry_keeps first s rows v = by_kind v.removal
  where
    by_kind : (b : Bool) → KeepsNumber (number_in s v) (pick b removed (put_over (number_in s v) (days_of true first s (periods_of rows v))))
    by_kind true = removed_keeps (number_in s v)
    by_kind false = put_keeps (number_in s v) (days_of true first s (periods_of rows v))
