-- Parts of a key that code writes by a function of their own.
use Rattle.std.specs.Prelude.{ℕ, suc, ◌-◌, ◌==◌, Bool, if◌then◌else◌, List, [], ◌∷◌, ◌++◌, length, Option, Some, None}
use Rattle.osek_base.specs.declared.ids.ResId.{ResId}
use Rattle.osek_base.specs.System.{System}
use Rattle.osek_base.specs.State.{Expiry}
use Rattle.services.specs.declared.ready_entry.ReadyEntry.{ReadyEntry}
use Rattle.law_kept.specs.Kept.{Kept, Slot}
use Rattle.law_future.specs.Need.{Need}
use Rattle.search_keys.specs.Bytes.{each, flag, number}
use Rattle.search_keys.specs.Key.{alarm_key, counter_key, executing_key, interrupts_key, job_key, resources_key, task_key}

-- how many resources a job holds, and each
abbrev pub held_key : List ResId → List ℕ
held_key held = number (length held) ++ resources_key held

-- whether a job has begun and taken its internal resource, and which resources it holds
abbrev pub first_of_job : Slot → List ℕ
first_of_job a = flag a.begun ++ flag a.taken ++ held_key a.held

-- how many jobs a task has, and the oldest one
abbrev pub jobs_key : (ℕ → Bool) → Slot → List ℕ
jobs_key need a = number a.count ++ (if a.count == 0 then [] else job_key need a)

-- who executes, interrupts, and tasks
abbrev pub jobs_part : System → Need → Kept → List ℕ
jobs_part S need o =
    executing_key need o ++ interrupts_key S o ++ each (length S.tasks) (task_key need o)

-- a ready task with its level, if it stands at that one
abbrev pub entry_key : ℕ → ReadyEntry → List ℕ
entry_key l e = if e.level == l then number (suc l) ++ number e.task else []

-- what is kept, at another tick
abbrev pub at_tick : ℕ → Kept → Kept
at_tick tick o = record o { tick = tick }

abbrev pub count_of : Expiry → ℕ
count_of e = e.count

-- the counts that an alarm has left, if it has any, and its cycle
abbrev pub left_key : Option ℕ → Option ℕ → List ℕ
left_key None cycle = 0 ∷ []
left_key (Some left) None = 0 ∷ []
left_key (Some left) (Some cycle) = 1 ∷ number left ++ number cycle

-- what is left once some counts have passed
abbrev pub less_by : ℕ → Option ℕ → Option ℕ
less_by passed None = None
less_by passed (Some left) = Some (left - passed)

-- alarms and counters
abbrev pub times_key : System → Need → Kept → List ℕ
times_key S need o =
    each (length S.alarms) (alarm_key S o) ++ each (length S.counters) (counter_key S need o)
