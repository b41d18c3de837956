-- Events that are set early hold what follows the wait that goes on by them.
use Rattle.std.specs.Prelude.{ℕ, ◌+◌, ◌^◌, Bool, true, false, not, ◌&&◌, ◌==◌, nat_le, nat_lt, min, if◌then◌else◌, List, [], ◌∷◌, Option, Some, None, unwrap_or, bit_and}
use Rattle.std.specs.Int.{bit_at}
use Rattle.std.specs.List.{filter, sum_by}
use Rattle.osek_base.specs.declared.instr.Instr.{Instr}
use Rattle.osek_base.specs.declared.instr.Service.{Service}
use Rattle.osek_base.specs.declared.limits.TheConstants.{MAX_EVENTS}
use Rattle.osek_base.specs.Lists.{below}
use Rattle.osek_base.specs.System.{System, is_extended, priority_of}
use Rattle.law_nodes.specs.Nodes.{Node, is_within}

-- ---- events

-- a mask has a bit for each
abbrev pub bits : List ℕ
bits = below MAX_EVENTS

abbrev pub is_set : ℕ → ℕ → Bool
is_set m b = bit_at m b == 1

abbrev pub is_mask : ℕ → Bool
is_mask m = nat_lt m (2 ^ MAX_EVENTS)

-- so much for each event of a mask, and for each that isn't in another besides
abbrev pub sum_of : (ℕ → ℕ) → ℕ → ℕ
sum_of cost m = sum_by cost (filter (is_set m) bits)

abbrev pub sum_but : (ℕ → ℕ) → ℕ → ℕ → ℕ
sum_but cost m used = sum_by cost (filter (λ b. is_set m b && not (is_set used b)) bits)

abbrev pub sum_besides : (ℕ → ℕ) → ℕ → ℕ
sum_besides cost used = sum_by cost (filter (λ b. not (is_set used b)) bits)

-- the lesser of a number and one that there may be
abbrev pub lesser : ℕ → Option ℕ → ℕ
lesser cost None = cost
lesser cost (Some other) = min cost other

abbrev pub least_of : (ℕ → ℕ) → List ℕ → Option ℕ
least_of cost [] = None
least_of cost (b ∷ bs) = Some (lesser (cost b) (least_of cost bs))

-- the least for an event of a mask
abbrev pub least_in : (ℕ → ℕ) → ℕ → ℕ
least_in cost m = unwrap_or (least_of cost (filter (is_set m) bits)) 0

-- ---- what events hold that are set, by task and event

-- only jobs of the level, of extended tasks
abbrev pub holds_events : System → ℕ → ℕ → Bool
holds_events S p t = nat_le p (priority_of S t) && is_extended S t

-- those that are set for a task and not used
abbrev pub held_early : System → ℕ → (ℕ → ℕ → ℕ) → ℕ → ℕ → ℕ → ℕ
held_early S p held t m used = if holds_events S p t then sum_but (held t) m used else 0

-- ---- a wait that goes on

abbrev pub awaited : Instr → Option ℕ
awaited (Instr.Service (Service.WaitEvent m)) = Some m
awaited what = None

-- by an event of which none was used: then that one isn't held any more
abbrev pub freed_by : (ℕ → ℕ) → Option ℕ → ℕ → ℕ → ℕ
freed_by cost None used next = 0
freed_by cost (Some m) used next =
    if is_mask m && bit_and m used == 0 && is_within m next then least_in cost m else 0

-- ---- events that are shown

-- whether an instruction gets the events of a task
abbrev pub shows : Instr → Bool
shows (Instr.Service (Service.GetEvent (Some t))) = true
shows what = false

-- what is set of its own task is used then: what wasn't isn't held any more
abbrev pub freed_shown : (ℕ → ℕ) → Bool → ℕ → ℕ → ℕ
freed_shown cost shown used next = if shown then sum_but cost next used else 0

-- ---- what a step may cost more

abbrev pub freed_early : System → ℕ → (ℕ → ℕ → ℕ) → ℕ → Instr → Node → Node → ℕ
freed_early S p held t what n next =
    if holds_events S p t
    then freed_by (held t) (awaited what) n.used next.used
    + freed_shown (held t) (shows what) n.used next.used
    else 0
