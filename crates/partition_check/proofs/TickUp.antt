-- One tick in the system and in its upper core.
use Rattle.std.proofs.Common.{◌≡◌, ℕ, ◌+◌, ◌<◌, Bool, true, false, cond, not, List, [], ◌∷◌, ◌++◌, map, length, refl, sym, ◌∙◌, ap, ap₂, subst, arith}
use Rattle.std.specs.List.{filter, AllByRecursion}
use Rattle.std.proofs.lemmas.List.{length-map, map-append}
use Rattle.osek_base.specs.declared.limits.TheConstants.{WINDOW_WORDS}
use Rattle.osek_base.specs.declared.ids.Owner.{Owner}
use Rattle.osek_base.specs.declared.trace_event.TraceEvent.{TraceEvent}
use Rattle.osek_base.specs.Lists.{below}
use Rattle.osek_base.specs.System.{System}
use Rattle.osek_base.specs.Ceiling.{is_internal}
use Rattle.osek_base.specs.State.{State, shared_window}
use Rattle.osek_base.specs.Reschedule.{Recorded, reschedule}
use Rattle.osek_base.specs.Tick.{Step, and_then, silent, alarm_phase, arrival_phase, start_phase, execute_phase, last_phase, before_execution, from_execution, tick}
use Rattle.osek_base.specs.Trace.{with_earlier}
use Rattle.osek_base.specs.View.{sight, window, upper_standard}
use Rattle.osek_base.specs.Upper.{is_upper_task, is_upper_owner, upper_owners}
use Rattle.osek_base.specs.Agree.{rank, is_upper_declared, upper_resources, upper_routine, upper_core}
use Rattle.osek_base.specs.Proper.{IsProper}
use Rattle.osek_base.specs.Separable.{Separable}
use Rattle.partition_check.proofs.UpperState.{up, upper_count}
use Rattle.partition_check.proofs.UpperPhases.{start_up}
use Rattle.partition_check.proofs.ListsUp.{map_same, all_filter, all_pass, all_both, all_weaken}
use Rattle.partition_check.proofs.Falling.{kept_short, kept_same, map_twice}
use Rattle.partition_check.proofs.CoreFacts.{lt_false}
use Rattle.partition_check.proofs.PriorityUp.{upper_tasks_first}
use Rattle.partition_check.proofs.Dispatch.{still_upper, lines_append, lines_none}
use Rattle.partition_check.proofs.DispatchUp.{reschedule_layered, dispatch_up, dispatch_lines}
use Rattle.partition_check.proofs.Quiet.{arrival_layered, start_layered, ticked_layered}
use Rattle.partition_check.proofs.AlarmActs.{AreAlike, all_below, alarms_alike}
use Rattle.partition_check.proofs.SharedUp.{window_up}
use Rattle.partition_check.proofs.ExecutedUp.{own_words}
use Rattle.partition_check.proofs.ExecuteUp.{execute_alike}
use Rattle.partition_check.proofs.Shared.{IsCounterpart, IsLow, IsLayered, SameLines}

-- one phase after another
then_alike : (S : System) (p : ℕ) (mine theirs : Recorded) (f g : State → Recorded) → AreAlike S p mine theirs
    → ((s : State) → IsLayered S p s → AreAlike S p (f s) (g (up S p s))) → AreAlike S p (and_then mine f) (and_then theirs g)
then_alike S p mine theirs f g first later =
    let second : AreAlike S p (f mine.state) (g theirs.state) =
    subst (λ t. AreAlike S p (f mine.state) (g t)) first.state (later mine.state first.layered) in
    record {
      state = second.state;
      lines = lines_append S p mine.events (f mine.state).events theirs.events (g theirs.state).events first.lines second.lines;
      layered = second.layered;
    }

module _ (S : System) (p : ℕ) (both : IsCounterpart S p) (low : IsLow S p) (proper : IsProper S) (separable : Separable S p) where
  reschedule_alike : (s : State) → IsLayered S p s → AreAlike S p (reschedule S s) (reschedule (upper_core S p) (up S p s))
  reschedule_alike s layered = record {
    state = dispatch_up S p both low s layered;
    lines = dispatch_lines S p both low s layered;
    layered = reschedule_layered S p both low s layered;
  }

  last_alike : (s : State) → IsLayered S p s → AreAlike S p (last_phase S s) (last_phase (upper_core S p) (up S p s))
  last_alike s layered = go s.over
    where
      go : (b : Bool) → AreAlike S p (cond b (silent s) (reschedule S s)) (cond b (silent (up S p s)) (reschedule (upper_core S p) (up S p s)))
      go true = record { state = refl; lines = lines_none S p; layered = layered }
      go false = reschedule_alike s layered

  -- phases 1 to 4
  pub before_alike : (arrived : List ℕ) (s : State) → IsLayered S p s
      → AreAlike S p (before_execution S arrived s) (before_execution (upper_core S p) arrived (up S p s))
  before_alike arrived s layered =
      let dispatched =
      then_alike S p (alarm_phase S s) (alarm_phase (upper_core S p) (up S p s)) (λ a. reschedule S (arrival_phase arrived a)) (λ a. reschedule (upper_core S p) (arrival_phase arrived a))
      (alarms_alike S p both low proper s layered)
      (λ a here. reschedule_alike (arrival_phase arrived a) (arrival_layered S p arrived a here)) in
      record {
        state = start_up S p _ ∙ ap (start_phase (upper_core S p)) dispatched.state;
        lines = dispatched.lines;
        layered = start_layered S p _ dispatched.layered;
      }

  -- phases 5 and 6
  from_alike : (s : State) → IsLayered S p s → AreAlike S p (from_execution S s) (from_execution (upper_core S p) (up S p s))
  from_alike s layered =
      then_alike S p (execute_phase S s) (execute_phase (upper_core S p) (up S p s)) (last_phase S) (last_phase (upper_core S p))
      (execute_alike S p both low proper separable s layered) last_alike

  -- what a tick leaves and records
  abbrev pub told : Step → Recorded
  told step = record { events = step.events; state = step.after }

  pub tick_alike : (arrived : List ℕ) (s : State) → IsLayered S p s
      → AreAlike S p (told (tick S arrived s)) (told (tick (upper_core S p) arrived (up S p s)))
  unfolding tick
  tick_alike arrived s layered =
      let ready = before_alike arrived s layered in
      let done : AreAlike S p (from_execution S (before_execution S arrived s).state) (from_execution (upper_core S p) (before_execution (upper_core S p) arrived (up S p s)).state) =
      subst (λ t. AreAlike S p (from_execution S (before_execution S arrived s).state) (from_execution (upper_core S p) t)) ready.state
      (from_alike (before_execution S arrived s).state ready.layered) in
      record {
        state = ap (λ (t : State). record t { tick = t.tick + 1 }) done.state;
        lines = lines_append S p (before_execution S arrived s).events (from_execution S (before_execution S arrived s).state).events (before_execution (upper_core S p) arrived (up S p s)).events (from_execution (upper_core S p) (before_execution (upper_core S p) arrived (up S p s)).state).events ready.lines done.lines;
        layered = ticked_layered S p _ (from_execution S (before_execution S arrived s).state).state done.layered;
      }

  -- ---- sights

  same_owners : upper_owners (upper_core S p) p ≡ upper_owners S p
  same_owners =
      let tasks : filter (is_upper_task (upper_core S p) p) (below (length (upper_core S p).tasks)) ≡ filter (is_upper_task S p) (below (length S.tasks)) =
      ap (λ n. filter (is_upper_task (upper_core S p) p) (below n)) both.task_count
      ∙ kept_same (is_upper_task (upper_core S p) p) (is_upper_task S p) (upper_count S p)
      (λ t first.
      let high = upper_tasks_first S p both t first in still_upper S p both t (omega (arith, first, both.within)) high ∙ sym high)
      ∙ sym (kept_short (is_upper_task S p) (upper_count S p) (length S.tasks) both.within (λ t past inside. both.split t inside ∙ lt_false t (upper_count S p) past)) in
      ap₂ (λ ts n. map Owner.Task ts ++ map Owner.Routine (below n)) tasks (length-map S.routines (upper_routine S p))

  same_window : (s : State) (owner : Owner) → is_upper_owner S p owner ≡ true → window (up S p s) owner ≡ window s owner
  same_window s owner high = ap (λ (words : ℕ → ℕ). map words (below WINDOW_WORDS)) (own_words S p s.words owner high)

  task_windows : (s : State) (ts : List ℕ) → AllByRecursion (λ t. is_upper_task S p t ≡ true) ts
      → map (window (up S p s)) (map Owner.Task ts) ≡ map (window s) (map Owner.Task ts)
  task_windows s [] all = refl
  task_windows s (t ∷ ts) all = ap₂ (λ w ws. w ∷ ws) (same_window s (Owner.Task t) all.0) (task_windows s ts all.1)

  routine_windows : (s : State) (ns : List ℕ)
      → map (window (up S p s)) (map Owner.Routine ns) ≡ map (window s) (map Owner.Routine ns)
  routine_windows s [] = refl
  routine_windows s (n ∷ ns) = ap₂ (λ w ws. w ∷ ws) (same_window s (Owner.Routine n) refl) (routine_windows s ns)

  windows_up : (s : State) → map (window s) (upper_owners S p) ≡ map (window (up S p s)) (upper_owners (upper_core S p) p)
  windows_up s =
      let ts : List ℕ = filter (is_upper_task S p) (below (length S.tasks)) in
      let ns : List ℕ = below (length S.routines) in
      map-append (window s) (map Owner.Task ts) (map Owner.Routine ns)
      ∙ sym (ap₂ (λ ws vs. ws ++ vs) (task_windows s ts (all_pass (is_upper_task S p) (below (length S.tasks)))) (routine_windows s ns))
      ∙ sym (map-append (window (up S p s)) (map Owner.Task ts) (map Owner.Routine ns))
      ∙ ap (map (window (up S p s))) (sym same_owners)

  -- a resource that is there, and upper
  abbrev is_there : ℕ → Type 0
  is_there r = (r < length S.resources) × (is_upper_declared S p r ≡ true)

  standard_there : AllByRecursion is_there (upper_standard S p)
  standard_there =
      all_filter is_there (λ r. not (is_internal S r)) (upper_resources S p)
      (all_both (λ r. r < length S.resources) (λ r. is_upper_declared S p r ≡ true) (upper_resources S p)
      (all_filter (λ r. r < length S.resources) (is_upper_declared S p) (below (length S.resources))
      (all_below (length S.resources)))
      (all_pass (is_upper_declared S p) (below (length S.resources))))

  shared_up : (s : State)
      → map (shared_window s.shared) (upper_standard S p)
      ≡ map (shared_window (up S p s).shared) (upper_standard (upper_core S p) p)
  shared_up s =
      let new : ℕ → ℕ = rank (is_upper_declared S p) in
      let theirs : ℕ → List ℕ = shared_window (up S p s).shared in
      sym (ap (map theirs) both.standard
      ∙ map_twice theirs new (upper_standard S p)
      ∙ map_same (λ r. theirs (new r)) (shared_window s.shared) (upper_standard S p)
      (all_weaken is_there (λ r. theirs (new r) ≡ shared_window s.shared r) (upper_standard S p)
      (λ r known. window_up S p both s r known.0 known.1) standard_there))

  pub tick_sight : (arrived : List ℕ) (s : State) → IsLayered S p s → (mine theirs : List TraceEvent) → SameLines S p mine theirs
      → sight S p (with_earlier mine (tick S arrived s)) ≡ sight (upper_core S p) p (with_earlier theirs (tick (upper_core S p) arrived (up S p s)))
  unfolding tick
  tick_sight arrived s layered mine theirs earlier =
      let alike = tick_alike arrived s layered in
      let lines = lines_append S p mine (tick S arrived s).events theirs (tick (upper_core S p) arrived (up S p s)).events earlier alike.lines s.tick in
      let windows =
      windows_up (tick S arrived s).after
      ∙ ap (λ t. map (window t) (upper_owners (upper_core S p) p)) alike.state in
      let shared =
      shared_up (tick S arrived s).after
      ∙ ap (λ (t : State). map (shared_window t.shared) (upper_standard (upper_core S p) p)) alike.state in
      λ i. record { lines = lines i; windows = windows i; shared = shared i }
