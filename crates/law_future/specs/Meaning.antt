-- What it means that two states have the same needed data, fact by fact.
use Rattle.std.specs.Prelude.{◌≡◌, ◌↔◌, ℕ, Bool, true, List, Option, Some, None, length}
use Rattle.osek_base.specs.declared.ids.Owner.{Owner}
use Rattle.osek_base.specs.Instruction.{Context, value}
use Rattle.osek_base.specs.State.{Active, shared_window}
use Rattle.law_kept.specs.Kept.{Kept, Slot}
use Rattle.law_future.specs.Need.{Need}
use Rattle.law_future.specs.Same.{HaveSameNeeded}

-- at one place, with as many registers, and the same value in each that is needed
pub record AreSameContexts (need : ℕ → Bool) (x y : Context) : Type 0 where
  pub place : x.place ≡ y.place
  pub size : length x.registers ≡ length y.registers
  pub values : (r : ℕ) → need r ≡ true → value x r ≡ value y r

-- equal but for the context, and the same needed data in that
pub record AreSameSlots (need : ℕ → Bool) (a b : Slot) : Type 0 where
  pub rest : record a { context = b.context } ≡ b
  pub context : AreSameContexts need a.context b.context

-- the same routine, if any
pub record AreSameRoutines (need : Need) (a b : Active) : Type 0 where
  pub routine : a.routine ≡ b.routine
  pub context : AreSameContexts (need.registers (Owner.Routine a.routine)) a.context b.context

abbrev pub AreSameActive : Need → Option Active → Option Active → Type 0
AreSameActive need None None = Unit {0}
AreSameActive need (Some a) (Some b) = AreSameRoutines need a b
AreSameActive need _ _ = ⊥

-- a state with the data of another one
abbrev pub with_data_of : Kept → Kept → Kept
with_data_of p o = record o { slots = p.slots; active = p.active; words = p.words; shared = p.shared }

-- windows of resources are as many and as long, and those that are needed are equal
pub record AreSameShared (need : ℕ → Bool) (a b : List (List ℕ)) : Type 0 where
  pub count : length a ≡ length b
  pub sizes : (r : ℕ) → length (shared_window a r) ≡ length (shared_window b r)
  pub words : (r : ℕ) → need r ≡ true → shared_window a r ≡ shared_window b r

-- two states have the same needed data, and are equal in all that is no data
pub record HaveSameData (need : Need) (o p : Kept) : Type 0 where
  pub rest : with_data_of p o ≡ p
  pub slots : (t : ℕ) → AreSameSlots (need.registers (Owner.Task t)) (o.slots t) (p.slots t)
  pub active : AreSameActive need o.active p.active
  pub words : (who : Owner) (i : ℕ) → need.words who i ≡ true → o.words who i ≡ p.words who i
  pub shared : AreSameShared need.shared o.shared p.shared

abbrev pub SameMeans : Type 0
SameMeans = (need : Need) (o p : Kept) → HaveSameNeeded need o p ↔ HaveSameData need o p
