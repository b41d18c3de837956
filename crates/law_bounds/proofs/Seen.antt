-- What is seen from the state before a tick of a run, by the routines that arrive in it, is what
-- the tick shows, as far as labels go by it.
use Rattle.std.proofs.Common.{ℕ, ◌≡◌, ◌<◌, ◌+◌, Bool, true, false, cond, not, ◌&&◌, List, [], ◌∷◌, length, Option, None, refl, sym, ◌∙◌, ap}
use Rattle.std.specs.Prelude.{slice_index_or}
use Rattle.std.specs.Option.{option_map}
use Rattle.std.proofs.lemmas.List.{length-append}
use Rattle.osek_base.specs.declared.arrivals.Arrival.{Arrival}
use Rattle.osek_base.specs.declared.ids.Owner.{Owner}
use Rattle.osek_base.specs.declared.ids.ResId.{ResId}
use Rattle.osek_base.specs.System.{System}
use Rattle.law_kept.specs.Kept.{Kept}
use Rattle.law_kept.specs.KeptService.{task_state_in}
use Rattle.law_kept.specs.KeptTick.{before_execution_in}
use Rattle.law_kept.specs.Moves.{KeptRecorded}
use Rattle.law_kept.specs.Seen.{holder_in, routine_of}
use Rattle.seen_ticks.specs.Told.{refused_by, task_at_in}
use Rattle.seen_ticks.specs.Seen.{Seen, unseen_alarm, unseen_routine, unseen_task}
use Rattle.seen_ticks.specs.declared.routine_seen.RoutineSeen.{RoutineSeen}
use Rattle.seen_ticks.specs.declared.task_seen.TaskSeen.{TaskSeen}
use Rattle.seen_ticks.specs.Observed.{activations_by, ending, executed_in, is_by, is_number, is_waiting, lost_of, one_if, owner_of, refusing, state_seen}
use Rattle.law_future.specs.Alike.{kept_after}
use Rattle.law_future.specs.Spans.{is_pending_in}
use Rattle.law_future.proofs.Tables.{length-table, table_at}
use Rattle.law_seen.specs.Seen.{executor_in, seen_in}
use Rattle.law_seen.specs.Shown.{KeptTicked, alarm_seen_in, holders_seen_in, kept_tick_at, routine_seen_in, scheduler_seen_in, task_seen_in, ticked_in}
use Rattle.view_figures.specs.declared.task_tick.TaskTick.{TaskTick}
use Rattle.view_figures.specs.FigureSums.{held_count, levels_of, lower_executes}
use Rattle.law_figures.specs.Blocking.{blocked_in, blocked_next}
use Rattle.law_figures.specs.Holding.{Hold}
use Rattle.law_figures.specs.Seen.{AgesAgree, HoldsAgree, PendingAgrees}
use Rattle.law_figures.proofs.Seen.{labels_go_by_seen}
use Rattle.law_figures.specs.RunFigures.{alarm_ticks, executors, holder_ticks, routine_ticks, task_ticks}
use Rattle.search_labels.specs.Ticks.{alarm_in, blocked_tick, holder_tick, routine_in, routine_tick, task_in, task_tick}
use Rattle.law_bounds.proofs.Arrived.{StandFor}

-- ---- the lists

module _ (S : System) (chosen : List ℕ) (o : Kept) where
  pub seen_tasks : length (seen_in S chosen o).tasks ≡ length S.tasks
  unfolding seen_in
  seen_tasks = length-table (task_seen_in S (ticked_in S false chosen o)) (length S.tasks)

  pub seen_routines : length (seen_in S chosen o).routines ≡ length S.routines
  unfolding seen_in
  seen_routines = length-table (routine_seen_in (ticked_in S false chosen o)) (length S.routines)

  pub seen_alarms : length (seen_in S chosen o).alarms ≡ length S.alarms
  unfolding seen_in
  seen_alarms = length-table (alarm_seen_in (ticked_in S false chosen o)) (length S.alarms)

  scheduler_length : (at : Kept) → length (scheduler_seen_in S at) ≡ cond S.use_res_scheduler 1 0
  scheduler_length at = go S.use_res_scheduler
    where
      go : (b : Bool) → length (cond b (holder_in S at ResId.Scheduler ∷ []) []) ≡ cond b 1 0
      go true = refl
      go false = refl

  pub seen_holders : length (seen_in S chosen o).holders ≡ held_count S
  unfolding seen_in
  seen_holders =
      let at : Kept = (ticked_in S false chosen o).at in
      length-append _ (scheduler_seen_in S at)
      ∙ ap (λ k. k + length (scheduler_seen_in S at))
      (length-table (λ r. holder_in S at (ResId.Declared r)) (length S.resources))
      ∙ ap (λ k. length S.resources + k) (scheduler_length at)

  task_at : (k : ℕ) → k < length S.tasks
      → task_in (seen_in S chosen o) k ≡ task_seen_in S (ticked_in S false chosen o) k
  unfolding seen_in
  task_at k low =
      table_at (task_seen_in S (ticked_in S false chosen o)) (length S.tasks) k unseen_task low

  routine_at : (k : ℕ) → k < length S.routines
      → routine_in (seen_in S chosen o) k ≡ routine_seen_in (ticked_in S false chosen o) k
  unfolding seen_in
  routine_at k low =
      table_at (routine_seen_in (ticked_in S false chosen o)) (length S.routines) k unseen_routine
      low

  alarm_at : (k : ℕ) → k < length S.alarms
      → alarm_in (seen_in S chosen o) k ≡ alarm_seen_in (ticked_in S false chosen o) k
  unfolding seen_in
  alarm_at k low =
      table_at (alarm_seen_in (ticked_in S false chosen o)) (length S.alarms) k unseen_alarm low

  holder_at : (k : ℕ) → slice_index_or (seen_in S chosen o).holders k None
      ≡ slice_index_or (holders_seen_in S (before_execution_in S chosen o).state) k None
  unfolding seen_in
  holder_at k = refl

-- ---- a tick of a run

-- a task is blocked in both of two ticks, or in none, and they leave the same
pub record BlockedAgrees (t u : TaskTick) (n : ℕ) : Type 0 where
  pub next : blocked_next t n ≡ blocked_next u n
  pub blocked : blocked_in t n ≡ blocked_in u n

module _ (S : System) (mode : ℕ) (arrivals : List Arrival) (n : ℕ) (chosen : List ℕ)
    (stand : StandFor S mode arrivals n chosen) where
  abbrev here : Kept
  here = kept_after S mode arrivals n

  abbrev pub seen : Seen
  seen = seen_in S chosen here

  abbrev told : KeptTicked
  told = kept_tick_at S mode arrivals n

  -- but for the jobs made, by which no label goes
  task_same : (k : ℕ) → k < length S.tasks
      → task_seen_in S told k
      ≡ record (task_in seen k) { made = (task_seen_in S told k).made }
  task_same k low =
      (λ i. record {
        state =
            state_seen (is_by (Owner.Task k) (executed_in (stand.tick i).events))
            (task_at_in S (stand.before i).state k).state;
        priority = (task_at_in S (stand.before i).state k).priority;
        jobs = (task_at_in S (stand.before i).state k).jobs;
        made = (task_seen_in S told k).made;
        refused =
            one_if (is_number k (refusing S (executed_in (stand.tick i).events)))
            + activations_by S k (refused_by S here);
        ended = is_number k (ending S (executed_in (stand.tick i).events));
        waits =
            is_by (Owner.Task k) (executed_in (stand.tick i).events)
            && is_waiting (task_state_in (stand.tick i).after k);
      })
      ∙ ap (λ (t : TaskSeen). record t { made = (task_seen_in S told k).made })
      (sym (task_at S chosen here k low))

  routine_same : (k : ℕ) → k < length S.routines → routine_seen_in told k ≡ routine_in seen k
  routine_same k low =
      (λ i. record {
        executes = is_by (Owner.Routine k) (executed_in (stand.tick i).events);
        is_pending = is_pending_in (stand.before i).state k;
        is_started =
            is_by (Owner.Routine k) (executed_in (stand.tick i).events)
            && not (is_number k (option_map routine_of here.active));
        arrived = stand.times k low i;
        lost = lost_of (is_pending_in here k) (stand.times k low i);
      })
      ∙ sym (routine_at S chosen here k low)

  pub alarm_same : (k : ℕ) → k < length S.alarms
      → (alarm_ticks S mode arrivals k n).seen ≡ alarm_in seen k
  alarm_same k low = sym (alarm_at S chosen here k low)

  holder_same : (k : ℕ)
      → (holder_ticks S mode arrivals k n).holder ≡ (holder_tick seen k).holder
  holder_same k =
      ap (λ (r : KeptRecorded). slice_index_or (holders_seen_in S r.state) k None) stand.before
      ∙ sym (holder_at S chosen here k)

  executor_same : executors S mode arrivals n ≡ executor_in S chosen here
  unfolding executor_in
  executor_same = λ i. option_map owner_of (executed_in (stand.tick i).events)

  -- ---- labels

  pub ages_agree : (k : ℕ) → k < length S.tasks → (old : List ℕ)
      → AgesAgree (task_ticks S mode arrivals k n) (task_tick seen k) old
  ages_agree k low old =
      let made = (task_seen_in S told k).made in
      let tick = task_tick seen k in
      let same = labels_go_by_seen.ages (task_ticks S mode arrivals k n)
      (record tick { seen = record (task_in seen k) { made = made } }) old (task_same k low) in
      record { next = same.next; oldest = same.oldest; leaving = same.leaving }

  pub pending_agrees : (k : ℕ) → k < length S.routines → (age : Option ℕ)
      → PendingAgrees (routine_ticks S mode arrivals k n) (routine_tick seen k) age
  pending_agrees k low age =
      labels_go_by_seen.pending (routine_ticks S mode arrivals k n) (routine_tick seen k) age
      (routine_same k low)

  pub holds_agree : (k : ℕ) (hold : Hold)
      → HoldsAgree (holder_ticks S mode arrivals k n) (holder_tick seen k) hold
  holds_agree k hold =
      labels_go_by_seen.holds (holder_ticks S mode arrivals k n) (holder_tick seen k) hold
      (holder_same k)

  pub blocked_agrees : (k : ℕ) → k < length S.tasks → (old : ℕ)
      → BlockedAgrees (task_ticks S mode arrivals k n)
      (blocked_tick (lower_executes (levels_of S) (executor_in S chosen here)) seen k) old
  blocked_agrees k low old =
      let told_as = λ (t : TaskSeen) (who : Option Owner). record (task_tick seen k) {
        seen = t;
        lower_executes = lower_executes (levels_of S) who k;
      } in
      record {
        next = λ i. blocked_next (told_as (task_same k low i) (executor_same i)) old;
        blocked = λ i. blocked_in (told_as (task_same k low i) (executor_same i)) old;
      }

  -- ---- counts

  pub lost_same : (k : ℕ) → k < length S.routines
      → (routine_ticks S mode arrivals k n).seen.lost ≡ (routine_in seen k).lost
  lost_same k low = ap (λ (r : RoutineSeen). r.lost) (routine_same k low)

  pub jobs_same : (k : ℕ) → k < length S.tasks
      → (task_seen_in S told k).jobs ≡ (task_in seen k).jobs
  jobs_same k low = ap (λ (t : TaskSeen). t.jobs) (task_same k low)

  pub refused_same : (k : ℕ) → k < length S.tasks
      → (task_ticks S mode arrivals k n).seen.refused ≡ (task_in seen k).refused
  refused_same k low = ap (λ (t : TaskSeen). t.refused) (task_same k low)
