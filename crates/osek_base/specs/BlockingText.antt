-- The text of a trace with the number of blockers at the first instruction of a job since it became ready, no part of the
-- standards.
use Rattle.std.specs.Prelude.{ℕ, zero, suc, Bool, false, ◌&&◌, nat_le, if◌then◌else◌, List, [], ◌∷◌, ◌++◌, map, Option, Some, None, length, slice_get, codes, decimal}
use Rattle.std.specs.Option.{option_map}
use Rattle.std.specs.List.{find, flat_map}
use Rattle.osek_base.specs.Types.{TraceEvent}
use Rattle.osek_base.specs.Lists.{below}
use Rattle.osek_base.specs.System.{System}
use Rattle.osek_base.specs.State.{Job, JobId, State}
use Rattle.osek_base.specs.Tick.{Step}
use Rattle.osek_base.specs.Trace.{Arrival, boot, run}
use Rattle.osek_base.specs.Text.{line}
use Rattle.osek_base.specs.Blocker.{executing_job, executes, is_ready_from, blockers}

-- ---- the number of blockers of a tick

abbrev pub executes_in : JobId → Option Step → Bool
executes_in n None = false
executes_in n (Some step) = executes n step

-- the tick behind the job's last instruction before tick v, 0 where it has none
abbrev pub behind_last : JobId → List Step → ℕ → ℕ
behind_last n steps zero = 0
behind_last n steps (suc v) = if executes_in n (slice_get steps v) then suc v else behind_last n steps v

-- the first tick behind that instruction, and at most v, before whose instruction the job becomes ready
abbrev pub ready_since : System → State → List Step → JobId → ℕ → Option ℕ
ready_since S booted steps n v =
    find (λ u. nat_le (behind_last n steps v) u && is_ready_from S booted steps u n) (below (suc v))

-- how many blockers a job had since then, if it became ready
abbrev pub blockers_since : System → State → List Step → ℕ → Option Job → Option ℕ
blockers_since S booted steps v None = None
blockers_since S booted steps v (Some j) =
    option_map (λ u. length (blockers S steps u j.id)) (ready_since S booted steps j.id v)

abbrev pub executor_at : Option Step → Option Job
executor_at None = None
executor_at (Some step) = executing_job step

-- the number of blockers of the job that executes in tick v of a run, where this is its first instruction since it became
-- ready
abbrev pub blockers_at : System → ℕ → List Arrival → ℕ → Option ℕ
blockers_at S mode arrivals v =
    let steps = (run S mode arrivals (suc v)).steps in
    blockers_since S (boot S mode).state steps v (executor_at (slice_get steps v))

-- ---- the text

-- behind an instruction, ` ! ` and the number
abbrev pub blockers_text : Option ℕ → TraceEvent → List ℕ
blockers_text (Some n) (TraceEvent.Executed who place what outcome) = codes " ! " ++ decimal n
blockers_text _ _ = []

abbrev pub blocking_lines : System → ℕ → List Arrival → Step → List (List ℕ)
blocking_lines S mode arrivals step =
    map (λ event. line S.names step.number event ++ blockers_text (blockers_at S mode arrivals step.number) event) step.events

-- the text of the run of n ticks: each line with its LF
abbrev pub blocking_text : System → ℕ → List Arrival → ℕ → List ℕ
blocking_text S mode arrivals n =
    flat_map (λ l. l ++ 10 ∷ []) (flat_map (blocking_lines S mode arrivals) (run S mode arrivals n).steps)
