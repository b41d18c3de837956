-- OSEK/VDX OS: task management, task state model. What is seen of a running system, beside what services answer.
use Rattle.std.specs.Prelude.{ℕ, ◌==◌, if◌then◌else◌, Option, Some, None, length}
use Rattle.std.specs.List.{find}
use Rattle.osek_base.specs.declared.ids.ResId.{ResId}
use Rattle.osek_base.specs.Lists.{below}
use Rattle.osek_base.specs.System.{System}
use Rattle.osek_base.specs.State.{Active, Expiry, State}
use Rattle.osek_base.specs.Alarm.{count, expiry}
use Rattle.osek_base.specs.Service.{remaining}
use Rattle.law_kept.specs.Kept.{Kept, Slot}
use Rattle.law_kept.specs.Moves.{dynamic_in}
use Rattle.law_kept.specs.KeptService.{holds_in}

-- the dynamic priority of a task's oldest job, where it has one
abbrev pub priority_in : System → ℕ → Slot → Option ℕ
priority_in S t a = if a.count == 0 then None else Some (dynamic_in S t a)

-- the first task whose oldest job holds a resource
abbrev pub holder_in : System → Kept → ResId → Option ℕ
holder_in S o r = find (λ t. holds_in r (o.slots t)) (below (length S.tasks))

-- the routine that is active
abbrev pub routine_of : Active → ℕ
routine_of a = a.routine

-- how many counts an alarm has before it expires, as GetAlarm answers it; none while it is off
abbrev pub counts_from : ℕ → Option Expiry → Option ℕ
counts_from n None = None
counts_from n (Some e) = Some (remaining n (Some e))

abbrev pub counts_left : System → State → ℕ → Option ℕ
counts_left S s a = counts_from (count S s a) (expiry s a)
