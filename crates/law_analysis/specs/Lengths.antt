-- OSEK/VDX OS: interrupt processing, category 2. How many instructions a routine executes at least.
use Rattle.std.specs.Prelude.{ℕ, zero, suc, ◌+◌, ◌≡◌, ◌≤◌, Bool, true, false, not, ◌&&◌, ◌||◌, nat_le, List, Option, Some, None, is_some}
use Rattle.std.specs.List.{list_all, list_any}
use Rattle.osek_base.specs.declared.ids.Owner.{Owner}
use Rattle.osek_base.specs.Lists.{is_empty}
use Rattle.osek_base.specs.Service.{RoutineCalls}
use Rattle.osek_base.specs.State.{Active, State}
use Rattle.osek_base.specs.System.{System, instruction_at}
use Rattle.law_windows.specs.Routines.{begun}
use Rattle.law_costs.specs.Known.{Executes, behind_by}
use Rattle.law_costs.specs.Left.{Switch, Weights, on, switch_of}
use Rattle.law_nodes.specs.Nodes.{Node, Standing, Table, covers, is_at, of_routine}
use Rattle.law_nodes.specs.Prices.{all_outcomes}

-- ---- of a routine

-- one is active, and that holds of it as it stands
abbrev pub IsActiveAs : Option Active → (Active → Type 0) → Type 0
IsActiveAs None P = ⊥
IsActiveAs (Some a) P = P a

-- a routine as it stands, with the switch that it finds, executes so many instructions or more:
-- behind each but the last it is still active, whatever good state it finds, unless the run is over
abbrev pub Lasts : System → ℕ → Switch → Active → Type 0
Lasts S zero w a = Unit {0}
Lasts S (suc count) w a =
    (s : State) → Executes S (RoutineCalls a) s → switch_of s ≡ w → 1 ≤ count
    → IsActiveAs (behind_by S (RoutineCalls a) s).active
    (Lasts S count (switch_of (behind_by S (RoutineCalls a) s)))

-- ---- of nodes

-- a node, and how many instructions a routine there executes at least
pub record Long : Type 0 where
  pub node : Node
  pub count : ℕ

-- whether a node of the list covers that one, and has one less at least
abbrev pub is_followed : List Long → ℕ → Node → Bool
is_followed longs count m = list_any (λ q. covers q.node m && nat_le count (q.count + 1)) longs

-- whether something becomes of a routine in any case, and all of it is followed so
abbrev pub are_followed : List Long → ℕ → Table → Bool
are_followed longs count next = not (is_empty next) && list_all (is_followed longs count) next

-- no costs of what is started and set
abbrev pub free : Weights
free =
    record {
      of_active = λ w a. 0;
      of_job = λ m w j. 0;
      of_task = λ t. 0;
      of_event = λ t m. 0;
      of_section = 0;
      of_alarm = λ a. 0;
      costs =
          record { of_arrival = λ i. 0; of_expiry = λ a. 0; at_boot = 0; at_begin = 0 };
    }

-- only routines are looked at
abbrev pub is_of_task : Owner → Bool
is_of_task (Owner.Task t) = true
is_of_task (Owner.Routine i) = false

-- whether a routine at a node executes so many: one it always does, and more by each outcome of its
-- instruction. Who waits executes none
abbrev pub is_long_at : System → List Long → ℕ → Node → Bool
is_long_at S longs count n =
    is_of_task n.owner || is_some n.waits_for || nat_le count 1
    || all_outcomes S free (λ next start set. are_followed longs count next)
    (instruction_at S n.owner n.place) n

-- .. at each
abbrev pub lengths_hold : System → List Long → Bool
lengths_hold S longs = list_all (λ q. is_long_at S longs q.count q.node) longs

-- whether who executes is at a node of the list with so many, or more
abbrev pub has_count : List Long → ℕ → Standing → Bool
has_count longs count x = list_any (λ q. is_at q.node x && nat_le count q.count) longs

-- .. a routine as it begins
abbrev pub least_length : List Long → ℕ → ℕ → Bool
least_length longs i count = has_count longs count (of_routine on (begun i))

-- ---- the law

-- so many it executes then
abbrev pub LengthsLast : Type 0
LengthsLast =
    (S : System) (longs : List Long) (i count : ℕ) → lengths_hold S longs ≡ true
    → least_length longs i count ≡ true → Lasts S count on (begun i)
