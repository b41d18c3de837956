-- Figures of the upper part in a run of one system are those in the run of another that agrees.
use Rattle.std.proofs.Common.{◌≡◌, ℕ, zero, suc, ◌<◌, ◌-◌, true, false, ◌&&◌, List, [], ◌∷◌, map, length, refl, sym, ◌∙◌, ap, ap₂, arith}
use Rattle.std.specs.Prelude.{Option, None, slice_index_or}
use Rattle.std.proofs.lemmas.List.{get_or_append_left, get_or-append_right}
use Rattle.std.proofs.lemmas.Simd.{map-map}
use Rattle.osek_base.specs.declared.arrivals.Arrival.{Arrival}
use Rattle.osek_base.specs.declared.ids.ResId.{ResId}
use Rattle.osek_base.specs.Lists.{below}
use Rattle.osek_base.specs.State.{State}
use Rattle.osek_base.specs.System.{System}
use Rattle.seen_ticks.specs.Shown.{holder}
use Rattle.seen_ticks.specs.declared.alarm_seen.AlarmSeen.{AlarmSeen}
use Rattle.seen_ticks.specs.declared.observation.Observation.{Observation}
use Rattle.seen_ticks.specs.declared.routine_seen.RoutineSeen.{RoutineSeen}
use Rattle.seen_ticks.specs.declared.task_seen.TaskSeen.{TaskSeen}
use Rattle.seen_ticks.specs.Observed.{Ticked, alarm_seen, holders_seen, routine_seen, scheduler_seen, task_seen, tick_at}
use Rattle.law_future.proofs.Tables.{length-table, table_at}
use Rattle.seen_ticks.specs.Seen.{unseen_alarm, unseen_routine, unseen_task}
use Rattle.view_figures.specs.FigureSums.{alarm_tick, holder_tick, is_error, is_routine, is_task, last_tick, levels_of, routine_tick, task_tick}
use Rattle.law_figures.specs.RunFigures.{AreTicksOf, IsTickOf}
use Rattle.law_upper.specs.Above.{IsTheSameAlarm, IsTheSameResource, IsUpperTask}
use Rattle.law_upper.specs.ShownAbove.{ShowTheSameAbove, TicksShowTheSame, routine_fails, task_fails}
use Rattle.law_upper.proofs.Bare.{bare_task}
use Rattle.law_upper.proofs.Observed.{observed_at, observed_before}

-- ---- holders by number

pub declared_seen : (S : System) (s : State) (r : ℕ) → r < length S.resources
    → slice_index_or (holders_seen S s) r None ≡ holder S s (ResId.Declared r)
declared_seen S s r inside =
    let table = map (λ r. holder S s (ResId.Declared r)) (below (length S.resources)) in
    let size : length table ≡ length S.resources =
    length-table (λ r. holder S s (ResId.Declared r)) (length S.resources) in
    get_or_append_left table (scheduler_seen S s) None r (omega (arith, inside, size))
    ∙ table_at (λ r. holder S s (ResId.Declared r)) (length S.resources) r None inside

pub scheduler_is : (S : System) (s : State) → S.use_res_scheduler ≡ true
    → slice_index_or (holders_seen S s) (length S.resources) None ≡ holder S s ResId.Scheduler
scheduler_is S s used =
    let table = map (λ r. holder S s (ResId.Declared r)) (below (length S.resources)) in
    let size : length table ≡ length S.resources =
    length-table (λ r. holder S s (ResId.Declared r)) (length S.resources) in
    get_or-append_right table (scheduler_seen S s) (length S.resources) (length S.resources) None
    size (omega arith)
    ∙ first (length S.resources - length S.resources) (omega arith)
  where
    first : (k : ℕ) → k ≡ 0
        → slice_index_or (scheduler_seen S s) k None ≡ holder S s ResId.Scheduler
    first k none = rw (used, none) refl

-- ---- two runs

module _ (S B : System) (p : ℕ) (mode : ℕ) (arrivals : List Arrival)
    (shown : TicksShowTheSame S B p) where
  abbrev mine : ℕ → Ticked
  mine n = tick_at S mode arrivals n

  abbrev theirs : ℕ → Ticked
  theirs n = tick_at B mode arrivals n

  at : (n : ℕ) (o : Observation) → IsTickOf S mode arrivals n o
      → ShowTheSameAbove S B p (mine n) (theirs n)
  at n o is = shown mode arrivals n is.going

  -- what each tick has of two things
  module _ {T : Type 0} (tick there : Observation → T)
      (same : (n : ℕ) (o : Observation) → IsTickOf S mode arrivals n o
      → tick o ≡ there (observed_at B mode arrivals n)) where
    listed : (n : ℕ) (seen : List Observation) → AreTicksOf S mode arrivals n seen
        → map tick seen ≡ map there (observed_before B mode arrivals n)
    listed zero [] are = refl
    listed zero (o ∷ before) are = absurd are
    listed (suc n) [] are = absurd are
    listed (suc n) (o ∷ before) are =
        ap₂ (λ (t : T) ts. t ∷ ts) (same n o are.0) (listed n before are.1)

  bare_listed : {T : Type 0} (bare : T → T) (tick there : Observation → T)
      → ((n : ℕ) (o : Observation) → IsTickOf S mode arrivals n o
      → bare (tick o) ≡ bare (there (observed_at B mode arrivals n)))
      → (n : ℕ) (seen : List Observation) → AreTicksOf S mode arrivals n seen
      → map bare (map tick seen) ≡ map bare (map there (observed_before B mode arrivals n))
  bare_listed bare tick there same n seen are =
      map-map bare tick seen
      ∙ listed (λ o. bare (tick o)) (λ o. bare (there o)) same n seen are
      ∙ sym (map-map bare there (observed_before B mode arrivals n))

  pub last_same : (n : ℕ) (seen : List Observation) → AreTicksOf S mode arrivals n seen
      → last_tick seen ≡ last_tick (observed_before B mode arrivals n)
  last_same zero [] are = refl
  last_same zero (o ∷ before) are = absurd are
  last_same (suc n) [] are = absurd are
  last_same (suc n) (o ∷ before) are = are.0.number

  -- ---- by kind

  pub tasks_same : (t : ℕ) → IsUpperTask S p t → IsUpperTask B p t
      → (n : ℕ) (seen : List Observation) → AreTicksOf S mode arrivals n seen
      → map bare_task (map (λ o. task_tick (levels_of S) o t) seen)
      ≡ map bare_task
      (map (λ o. task_tick (levels_of B) o t) (observed_before B mode arrivals n))
  tasks_same t upper there =
      bare_listed bare_task (λ o. task_tick (levels_of S) o t) (λ o. task_tick (levels_of B) o t)
      one
    where
      one : (n : ℕ) (o : Observation) → IsTickOf S mode arrivals n o
          → bare_task (task_tick (levels_of S) o t)
          ≡ bare_task (task_tick (levels_of B) (observed_at B mode arrivals n) t)
      one n o is =
          let seen : slice_index_or o.tasks.items t unseen_task
          ≡ slice_index_or (observed_at B mode arrivals n).tasks.items t unseen_task =
          ap (λ (xs : List TaskSeen). slice_index_or xs t unseen_task) is.seen.tasks
          ∙ table_at (task_seen S (mine n)) (length S.tasks) t unseen_task
          upper.known
          ∙ (at n o is).tasks t upper
          ∙ sym (table_at (task_seen B (theirs n)) (length B.tasks) t unseen_task there.known) in
          let fails : (is_task o.executor t && is_error o.answered) ≡ task_fails (theirs n) t =
          ap₂ (λ who answer. is_task who t && is_error answer) is.seen.executor is.seen.answered
          ∙ (at n o is).errors t upper in
          λ i. record {
            tick = is.number i;
            seen = seen i;
            lower_executes = false;
            has_failed = fails i;
            blockers = None;
          }

  pub routines_same : (r : ℕ) → r < length S.routines → r < length B.routines
      → (n : ℕ) (seen : List Observation) → AreTicksOf S mode arrivals n seen
      → map (λ o. routine_tick o r) seen
      ≡ map (λ o. routine_tick o r) (observed_before B mode arrivals n)
  routines_same r low there = listed (λ o. routine_tick o r) (λ o. routine_tick o r) one
    where
      one : (n : ℕ) (o : Observation) → IsTickOf S mode arrivals n o
          → routine_tick o r ≡ routine_tick (observed_at B mode arrivals n) r
      one n o is =
          let seen : slice_index_or o.routines.items r unseen_routine
          ≡ slice_index_or (observed_at B mode arrivals n).routines.items r unseen_routine =
          ap (λ (xs : List RoutineSeen). slice_index_or xs r unseen_routine) is.seen.routines
          ∙ table_at (routine_seen (mine n)) (length S.routines) r unseen_routine low
          ∙ (at n o is).routines r
          ∙ sym (table_at (routine_seen (theirs n)) (length B.routines) r unseen_routine there) in
          let fails : (is_routine o.executor r && is_error o.answered)
          ≡ routine_fails (theirs n) r =
          ap₂ (λ who answer. is_routine who r && is_error answer) is.seen.executor is.seen.answered
          ∙ (at n o is).routine_errors r in
          λ i. record { tick = is.number i; seen = seen i; has_failed = fails i }

  pub declared_same : (r q : ℕ) → IsTheSameResource S B p r q
      → (n : ℕ) (seen : List Observation) → AreTicksOf S mode arrivals n seen
      → map (λ o. holder_tick o r) seen
      ≡ map (λ o. holder_tick o q) (observed_before B mode arrivals n)
  declared_same r q same = listed (λ o. holder_tick o r) (λ o. holder_tick o q) one
    where
      one : (n : ℕ) (o : Observation) → IsTickOf S mode arrivals n o
          → holder_tick o r ≡ holder_tick (observed_at B mode arrivals n) q
      one n o is =
          let held : slice_index_or o.holders.items r None
          ≡ slice_index_or (observed_at B mode arrivals n).holders.items q None =
          ap (λ (xs : List (Option ℕ)). slice_index_or xs r None) is.seen.holders
          ∙ declared_seen S (mine n).at r same.known
          ∙ (at n o is).holders r q same
          ∙ sym (declared_seen B (theirs n).at q same.known_there) in
          λ i. record { tick = is.number i; holder = held i }

  pub scheduler_same : S.use_res_scheduler ≡ true → B.use_res_scheduler ≡ true
      → (n : ℕ) (seen : List Observation) → AreTicksOf S mode arrivals n seen
      → map (λ o. holder_tick o (length S.resources)) seen
      ≡ map (λ o. holder_tick o (length B.resources)) (observed_before B mode arrivals n)
  scheduler_same used used_there =
      listed (λ o. holder_tick o (length S.resources)) (λ o. holder_tick o (length B.resources)) one
    where
      one : (n : ℕ) (o : Observation) → IsTickOf S mode arrivals n o
          → holder_tick o (length S.resources)
          ≡ holder_tick (observed_at B mode arrivals n) (length B.resources)
      one n o is =
          let held : slice_index_or o.holders.items (length S.resources) None
          ≡ slice_index_or (observed_at B mode arrivals n).holders.items (length B.resources)
          None =
          ap (λ (xs : List (Option ℕ)). slice_index_or xs (length S.resources) None)
          is.seen.holders
          ∙ scheduler_is S (mine n).at used
          ∙ (at n o is).scheduler
          ∙ sym (scheduler_is B (theirs n).at used_there) in
          λ i. record { tick = is.number i; holder = held i }

  pub alarms_same : (a c : ℕ) → IsTheSameAlarm S B p a c
      → (n : ℕ) (seen : List Observation) → AreTicksOf S mode arrivals n seen
      → map (λ o. alarm_tick o a) seen
      ≡ map (λ o. alarm_tick o c) (observed_before B mode arrivals n)
  alarms_same a c same = listed (λ o. alarm_tick o a) (λ o. alarm_tick o c) one
    where
      one : (n : ℕ) (o : Observation) → IsTickOf S mode arrivals n o
          → alarm_tick o a ≡ alarm_tick (observed_at B mode arrivals n) c
      one n o is =
          let seen : slice_index_or o.alarms.items a unseen_alarm
          ≡ slice_index_or (observed_at B mode arrivals n).alarms.items c unseen_alarm =
          ap (λ (xs : List AlarmSeen). slice_index_or xs a unseen_alarm) is.seen.alarms
          ∙ table_at (alarm_seen (mine n)) (length S.alarms) a unseen_alarm same.known
          ∙ (at n o is).alarms a c same
          ∙ sym (table_at (alarm_seen (theirs n)) (length B.alarms) c unseen_alarm
          same.known_there) in
          λ i. record { tick = is.number i; seen = seen i }
