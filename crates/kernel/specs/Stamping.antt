-- What is seen of a task before and after something, and what is done by it to the stamps of jobs.
use Rattle.std.specs.Prelude.{ℕ, ◌+◌, ◌-◌, ◌<◌, ◌≤◌, ◌≡◌, ◌==◌, Bool, true, false, not, ◌&&◌, nat_lt, if◌then◌else◌, List, Option, Some, None, IfSome, length, replicate, slice_set, take}
use Rattle.osek_base.specs.declared.limits.TheConstants.{MAX_ACTIVATION, MAX_TASK_PRIORITY, MAX_TASKS}
use Rattle.std.specs.Option.{option_map}
use Rattle.std.specs.List.{list_any}
use Rattle.osek_base.specs.System.{System, alarm, priority_of}
use Rattle.law_runs.proofs.Counting.{one_if}
use Rattle.law_kept.specs.Kept.{Kept}
use Rattle.law_kept.specs.KeptService.{KeptCaller, ByTask, ByRoutine, ByNobody, caller_in}
use Rattle.law_kept.specs.KeptTick.{execute_phase_in}
use Rattle.kernel_stamps.specs.Stamps.{Stamped, stamp_of_oldest}
use Rattle.kernel.specs.declared.stamping.Look.{Look}
use Rattle.kernel.specs.declared.stamping.Stand.{Stand}
use Rattle.law_blockers.specs.Restamping.{StampLists, acting_task, changed_list, ended_if, ended_of, instr_in, is_task, restamped, restamped_if, named_in, spent_of, stamps_at, task_waits}

-- how a task stands
abbrev pub seen : Kept → ℕ → Look
seen o t = record { task = t; count = (o.slots t).count; waits = task_waits o t }

abbrev pub seen_if : Kept → Option ℕ → Option Look
seen_if o None = None
seen_if o (Some t) = Some (seen o t)

-- how it stands, where there is one, beside the running task
abbrev pub stand : Kept → Option ℕ → Stand
stand o named = record { named = seen_if o named; running = o.running; gone = o.gone }

-- a task that was looked at before something is looked at after it
abbrev pub restamped_between : ℕ → Look → Look → StampLists → StampLists
restamped_between u before after xs = changed_list before.task (restamped u after.count before.waits after.waits) xs

abbrev pub restamped_between_if : ℕ → Option Look → Option Look → StampLists → StampLists
restamped_between_if u None after xs = xs
restamped_between_if u (Some before) None xs = xs
restamped_between_if u (Some before) (Some after) xs = restamped_between u before after xs

-- without the job of the running task, where that has ended
abbrev pub ended_since : Look → Option ℕ → Bool → Look
ended_since before running has_ended =
    record before { count = if has_ended && is_task before.task running then before.count - 1 else before.count }

-- behind an instruction the job of the task that ran may have ended, and the task on which it acts is looked at again
abbrev pub stood_between : ℕ → Stand → Stand → StampLists → StampLists
stood_between u before after xs =
    restamped_between_if u before.named after.named (ended_of before.running (not before.gone && after.gone) xs)

-- the task on which an alarm acts
abbrev pub acts_on : System → ℕ → ℕ
acts_on S a = acting_task (alarm S a).action

-- and it is one of the tasks
pub record IsActedOn (S : System) (a t : ℕ) : Type 0 where
  pub value : t ≡ acts_on S a
  pub known : t < length S.tasks

-- a task is looked at before and after something: it has as many stamps as it had jobs
pub record MayLook (before after : Look) (xs : StampLists) : Type 0 where
  pub task : before.task < length xs
  pub counted : length (stamps_at xs before.task) ≡ before.count
  pub few : after.count ≤ MAX_ACTIVATION

-- and so is the task on which an instruction acts, where there is one, beside the running task
pub record MayFollow (before after : Stand) (xs : StampLists) : Type 0 where
  pub running : IfSome before.running (λ t. t < length xs)
  pub task : IfSome before.named (λ b. b.task < length xs)
  pub counted : IfSome before.named (λ b. length (stamps_at xs b.task) ≡ b.count)
  pub few : IfSome after.named (λ l. l.count ≤ MAX_ACTIVATION)

-- how a task stands, which has no more jobs than there may be
pub record IsLook (o : Kept) (t : ℕ) (look : Look) : Type 0 where
  pub value : look ≡ seen o t
  pub few : look.count ≤ MAX_ACTIVATION

-- and beside the running task, which is one of the tasks
pub record IsStand (n : ℕ) (o : Kept) (named : Option ℕ) (is : Stand) : Type 0 where
  pub value : is ≡ stand o named
  pub few : IfSome is.named (λ l. l.count ≤ MAX_ACTIVATION)
  pub known : IfSome is.running (λ t. t < n)

-- the task that is meant, where there is one, is one of the tasks
pub record IsTask (n : ℕ) (meant task : Option ℕ) : Type 0 where
  pub value : task ≡ meant
  pub known : IfSome task (λ t. t < n)

-- how many tasks there are, which are no more than there may be
pub record IsTaskCount (S : System) (n : ℕ) : Type 0 where
  pub value : n ≡ length S.tasks
  pub few : n ≤ MAX_TASKS

-- the static priority of a task, which is one of the levels
pub record IsLevel (S : System) (t level : ℕ) : Type 0 where
  pub value : level ≡ priority_of S t
  pub low : level ≤ MAX_TASK_PRIORITY

-- each task has as many stamps as jobs
abbrev pub AreCounted : StampLists → Kept → Type 0
AreCounted xs o = (t : ℕ) → length (stamps_at xs t) ≡ (o.slots t).count

-- each job of the tasks below a number is ready from tick 0 on, and the tasks have no others
pub record AreBegun (n : ℕ) (o : Kept) (xs : StampLists) : Type 0 where
  pub size : length xs ≡ n
  pub each : (t : ℕ) → t < n → stamps_at xs t ≡ replicate (o.slots t).count (Some 0)

-- and no stamp was taken
pub record IsBegun (n : ℕ) (o : Kept) (stamps : Stamped) : Type 0 where
  pub are : AreBegun n o stamps.lists
  pub none : stamps.spent ≡ None

-- jobs may be added to a task that has none
pub record MayAddJobs (t count : ℕ) (xs : StampLists) : Type 0 where
  pub task : t < length xs
  pub none : length (stamps_at xs t) ≡ 0
  pub few : count ≤ MAX_ACTIVATION

-- so many jobs of a task are ready from tick 0 on, and those of other tasks are as they were
pub record HasJobs (t count : ℕ) (old new : Stamped) : Type 0 where
  pub others : (other : ℕ) → (t == other) ≡ false → stamps_at new.lists other ≡ stamps_at old.lists other
  pub own : stamps_at new.lists t ≡ replicate count (Some 0)
  pub sized : length new.lists ≡ length old.lists
  pub none : old.spent ≡ None → new.spent ≡ None

-- an instruction is executed by a job that has no stamp any more
abbrev pub executed_restamped : System → ℕ → Kept → StampLists → StampLists
executed_restamped S u o xs =
    let new = (execute_phase_in S o).state in
    restamped_if u (named_in (instr_in S (caller_in o) o)) o new (ended_if o new xs)

-- ---- the number of blockers of who executes

-- of each level the tick after the last one in which a job of it executed; and the level and the stamp of the job that did
-- so last
pub record Told : Type 0 where
  pub last : List ℕ
  pub level : ℕ
  pub stamp : Option ℕ

abbrev pub count_below : ℕ → List ℕ → ℕ → ℕ
count_below level last u = one_if (list_any (λ b. nat_lt u b) (take level last))

-- how many blockers it had
abbrev pub number_told : Told → Option ℕ
number_told told = option_map (count_below told.level told.last) told.stamp

-- it is told where blockers are counted
pub record IsNumber (are_counted : Bool) (number told : Option ℕ) : Type 0 where
  pub counted : are_counted ≡ true → told ≡ number
  pub uncounted : are_counted ≡ false → told ≡ None

-- the level of the task that executes is noted
abbrev pub noted : System → ℕ → KeptCaller → List ℕ → List ℕ
noted S u (ByTask t) last = slice_set last (priority_of S t) (u + 1)
noted S u ByRoutine last = last
noted S u ByNobody last = last

abbrev pub number_for : System → KeptCaller → List ℕ → StampLists → Option ℕ
number_for S (ByTask t) last xs = option_map (count_below (priority_of S t) last) (stamp_of_oldest (stamps_at xs t))
number_for S ByRoutine last xs = None
number_for S ByNobody last xs = None

-- the stamp of the job that executes is spent, its level is noted, and what is told of both is its number of blockers
pub record IsSpent (S : System) (who : KeptCaller) (u : ℕ) (old new : StampLists) (levels : List ℕ) (told : Told) : Type 0 where
  pub stamps : new ≡ spent_of who old
  pub last : told.last ≡ noted S u who levels
  pub number : number_told told ≡ number_for S who levels old
