-- Nodes: what is told of a job or a routine as it stands.
use Rattle.std.specs.Prelude.{ℕ, Bool, true, false, not, ◌&&◌, ◌==◌, if◌then◌else◌, List, [], ◌∷◌, Option, Some, None, replicate, bit_and, bit_or}
use Rattle.std.specs.List.{list_any}
use Rattle.osek_base.specs.declared.limits.TheConstants.{REGISTERS}
use Rattle.osek_base.specs.declared.ids.Owner.{Owner}
use Rattle.osek_base.specs.declared.ids.ResId.{ResId}
use Rattle.osek_base.specs.Instruction.{Context}
use Rattle.osek_base.specs.Lists.{same_owner, same_resource}
use Rattle.osek_base.specs.State.{Active, Job}
use Rattle.law_costs.specs.Left.{Switch, on}
use Rattle.law_nodes.specs.Values.{know_no_more, may_have}

-- ---- who executes

-- a job or a routine as it stands, with the switch that it finds. Whether a job is begun, and
-- whether its internal resource is taken, isn't told
pub record Standing : Type 0 where
  pub owner : Owner
  pub switch : Switch
  pub held : List ResId
  pub waits_for : Option ℕ
  pub context : Context

abbrev pub of_job : Switch → Job → Standing
of_job w j =
    record {
      owner = Owner.Task j.id.task;
      switch = w;
      held = j.held;
      waits_for = j.waits_for;
      context = j.context;
    }

-- a routine holds nothing and doesn't wait
abbrev pub of_routine : Switch → Active → Standing
of_routine w a =
    record {
      owner = Owner.Routine a.routine;
      switch = w;
      held = [];
      waits_for = None;
      context = a.context;
    }

-- ---- nodes

-- the same, of whose registers some aren't known, with events that are *used*: they may be set, and
-- nothing is paid by them any more. Who stands at a node may have others set besides
pub record Node : Type 0 where
  pub owner : Owner
  pub switch : Switch
  pub held : List ResId
  pub waits_for : Option ℕ
  pub used : ℕ
  pub place : ℕ
  pub registers : List (Option ℕ)

abbrev pub same_switch : Switch → Switch → Bool
same_switch v w =
    (if v.disabled then w.disabled else not w.disabled)
    && v.suspended_all == w.suspended_all && v.suspended_os == w.suspended_os

abbrev pub same_held : List ResId → List ResId → Bool
same_held [] [] = true
same_held (r ∷ some) (q ∷ others) = same_resource r q && same_held some others
same_held _ _ = false

abbrev pub same_wait : Option ℕ → Option ℕ → Bool
same_wait None None = true
same_wait (Some m) (Some n) = m == n
same_wait _ _ = false

-- whether who executes stands at a node: all is the same, and each known register has its value
abbrev pub is_at : Node → Standing → Bool
is_at n x =
    same_owner n.owner x.owner && same_switch n.switch x.switch && same_held n.held x.held
    && same_wait n.waits_for x.waits_for && n.place == x.context.place
    && may_have n.registers x.context.registers

-- whether two nodes are the same but for registers and used events
abbrev pub is_beside : Node → Node → Bool
is_beside m n =
    same_owner m.owner n.owner && same_switch m.switch n.switch && same_held m.held n.held
    && same_wait m.waits_for n.waits_for && m.place == n.place

-- whether events are all among others
abbrev pub is_within : ℕ → ℕ → Bool
is_within m n = bit_and m n == m

-- whether the first covers the second: it is the same, knows no more of registers, and has no fewer
-- events used
abbrev pub covers : Node → Node → Bool
covers m n =
    is_beside m n && know_no_more m.registers n.registers && is_within n.used m.used

-- ---- tables

abbrev pub Table : Type 0
Table = List Node

-- whether who executes stands at a node of the table
abbrev pub is_told : Table → Standing → Bool
is_told table x = list_any (λ n. is_at n x) table

-- whether a node of the table covers that node
abbrev pub is_covered : Table → Node → Bool
is_covered table n = list_any (λ m. covers m n) table

-- ---- where nodes begin

-- as a job and a routine begin: interrupts are on, and all is 0. No event is set for a new job
abbrev pub fresh_node : Owner → Node
fresh_node owner =
    record {
      owner = owner;
      switch = on;
      held = [];
      waits_for = None;
      used = 0;
      place = 0;
      registers = replicate REGISTERS (Some 0);
    }

-- events, and those that are waited for
abbrev pub with_awaited : ℕ → Option ℕ → ℕ
with_awaited used None = used
with_awaited used (Some m) = bit_or used m

-- a node whose wait ends: what was waited for is used
abbrev pub woken_node : Node → Node
woken_node n = record n { waits_for = None; used = with_awaited n.used n.waits_for }
