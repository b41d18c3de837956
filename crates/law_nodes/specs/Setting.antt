-- How soon alarms are set by who is at the nodes of a table, and which are set once.
use Rattle.std.specs.Prelude.{ℕ, Bool, true, false, not, ◌&&◌, ◌||◌, ◌==◌, nat_le, Option, Some, None, length, List}
use Rattle.std.specs.List.{list_all}
use Rattle.osek_base.specs.declared.instr.Instr.{Instr}
use Rattle.osek_base.specs.declared.instr.Service.{Service}
use Rattle.osek_base.specs.Lists.{below}
use Rattle.osek_base.specs.System.{System, alarm_start_in, instruction_at}
use Rattle.law_alarms.specs.Setting.{is_never_set}
use Rattle.law_windows.specs.Coming.{Costs}
use Rattle.law_costs.specs.Left.{Weights}
use Rattle.law_nodes.specs.Nodes.{Node, Table}
use Rattle.law_nodes.specs.Values.{known, of_known}

-- ---- how soon

-- a cycle of at least so many counts, or none
abbrev pub is_slow : ℕ → ℕ → Bool
is_slow least cycle = cycle == 0 || nat_le least cycle

abbrev pub starts_slowly : ℕ → Option (ℕ × ℕ) → Bool
starts_slowly least None = true
starts_slowly least (Some start) = is_slow least start.1

-- whether a test is decided, and passes
abbrev pub is_sure : Option Bool → Bool
is_sure None = false
is_sure (Some b) = b

-- whether an instruction sets an alarm no sooner, with registers of which that is known. An
-- absolute start may be the next count
abbrev pub sets_slowly : ℕ → ℕ → List (Option ℕ) → Instr → Bool
sets_slowly a least x (Instr.Service (Service.SetRelAlarm (Some b) increment cycle)) =
    not (b == a)
    || is_sure
    (of_known (λ i c. nat_le least i && is_slow least c) (known x increment) (known x cycle))
sets_slowly a least x (Instr.Service (Service.SetAbsAlarm (Some b) start cycle)) = not (b == a)
sets_slowly a least x _ = true

abbrev pub node_sets_slowly : System → ℕ → ℕ → Node → Bool
node_sets_slowly S a least n =
    sets_slowly a least n.registers (instruction_at S n.owner n.place)

-- whether an alarm is set by no fewer counts: by one, which is always so, or by more where boot
-- does and each node
abbrev pub is_set_slowly : System → ℕ → Table → ℕ → ℕ → Bool
is_set_slowly S mode table a least =
    nat_le 1 least
    && (nat_le least 1
    || (starts_slowly least (alarm_start_in S mode a)
    && list_all (node_sets_slowly S a least) table))

-- .. each that programs set and whose expiry costs something
abbrev pub are_set_slowly : System → ℕ → Costs → Table → (ℕ → ℕ) → Bool
are_set_slowly S mode costs table least =
    list_all
    (λ a. not (nat_le 1 (costs.of_expiry a)) || is_never_set S a
    || is_set_slowly S mode table a (least a))
    (below (length S.alarms))

-- ---- alarms that are set once

-- whether a value is known, and 0
abbrev pub is_zero : Option ℕ → Bool
is_zero None = false
is_zero (Some v) = v == 0

-- whether boot starts an alarm without a cycle, if it starts it
abbrev pub starts_once : Option (ℕ × ℕ) → Bool
starts_once None = true
starts_once (Some start) = start.1 == 0

-- whether an instruction sets an alarm without a cycle, with registers of which that is known
abbrev pub sets_once : ℕ → List (Option ℕ) → Instr → Bool
sets_once a x (Instr.Service (Service.SetRelAlarm (Some b) increment cycle)) =
    not (b == a) || is_zero (known x cycle)
sets_once a x (Instr.Service (Service.SetAbsAlarm (Some b) start cycle)) =
    not (b == a) || is_zero (known x cycle)
sets_once a x _ = true

-- whether boot and each node set an alarm so
abbrev pub is_set_once : System → ℕ → Table → ℕ → Bool
is_set_once S mode table a =
    starts_once (alarm_start_in S mode a)
    && list_all (λ n. sets_once a n.registers (instruction_at S n.owner n.place)) table

-- .. each that pays for its expiry
abbrev pub are_set_once : System → ℕ → Weights → Table → Bool
are_set_once S mode c table =
    list_all (λ a. not (nat_le 1 (c.of_alarm a)) || is_set_once S mode table a)
    (below (length S.alarms))
