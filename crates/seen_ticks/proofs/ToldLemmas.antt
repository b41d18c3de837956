-- What is seen of a tick is what the definitions say: the tasks at its instruction, and the alarms that act.
use Rattle.std.proofs.Common.{◌≡◌, ℕ, ◌<◌, List, [], ◌∷◌, ◌++◌, map, length, refl, sym, ◌∙◌, ap, subst}
use Rattle.std.specs.List.{AllByRecursion}
use Rattle.std.proofs.Math.Path.{fun_ext}
use Rattle.osek_base.specs.declared.arrivals.Arrival.{Arrival}
use Rattle.osek_base.specs.Alarm.{alarms_advanced, due_alarms, is_due}
use Rattle.osek_base.specs.Lists.{below}
use Rattle.osek_base.specs.Proper.{IsProper}
use Rattle.osek_base.specs.Service.{NobodyCalls, unasked_service}
use Rattle.osek_base.specs.State.{State}
use Rattle.osek_base.specs.System.{System, alarm}
use Rattle.osek_base.specs.Tick.{action_call, before_execution}
use Rattle.osek_base.specs.Trace.{arriving, run}
use Rattle.law_runs.proofs.FormedPhases.{acts_form, advanced_form, before_form}
use Rattle.law_runs.proofs.FormedTick.{run_form}
use Rattle.law_runs.proofs.Formed.{HasForm}
use Rattle.law_runs.proofs.Known.{all_below}
use Rattle.law_runs.proofs.Lists.{all_kept}
use Rattle.law_runs.proofs.RankedTick.{IsExecuting, IsRunState, action_run, before_executing, run_ordered}
use Rattle.law_runs.proofs.SingleTick.{alarm_known}
use Rattle.law_kept.specs.Kept.{kept}
use Rattle.law_kept.specs.KeptService.{KeptReply}
use Rattle.law_kept.proofs.Served.{acts}
use Rattle.law_kept.proofs.Ticked.{known_of, settled_of}
use Rattle.law_blockers.specs.Steps.{step_at}
use Rattle.law_blockers.proofs.StampLemmas.{Going}
use Rattle.law_blockers.proofs.StepLemmas.{executing_is}
use Rattle.seen_ticks.specs.declared.task_at.TaskAt.{TaskAt}
use Rattle.seen_ticks.specs.Told.{if_refused, refused_by, refused_in, refused_of, refused_of_in, task_at, task_at_in}
use Rattle.seen_ticks.proofs.SeenLemmas.{task_is}

module _ (S : System) (proper : IsProper S) where
  refused_kept : (due : List ℕ) → AllByRecursion (λ a. a < length S.alarms) due → (s : State) → IsRunState S s → HasForm S s
      → refused_of_in S due (kept S s) ≡ refused_of S due s
  refused_kept [] all s good form = refl
  refused_kept (a ∷ due) all s good form =
      let call = action_call (alarm S a).action in
      let known = alarm_known S a proper all.0 in
      ap (λ (r : KeptReply). if_refused a r.status ++ refused_of_in S due r.state)
      (sym (acts S s (settled_of S s good.single good.ordered.ranked) (known_of S s form) good.ordered.ready call))
      ∙ ap (λ v. if_refused a (unasked_service S NobodyCalls s call).status ++ v)
      (refused_kept due all.1 (unasked_service S NobodyCalls s call).state (action_run S proper s (alarm S a).action known good)
      (acts_form S proper s call known form))

  module _ (mode : ℕ) (arrivals : List Arrival) (n : ℕ) where
    abbrev here : State
    here = (run S mode arrivals n).state

    -- the alarms that are due in a tick, and refused
    pub refused_told : refused_by S (kept S here) ≡ refused_in S mode arrivals n
    refused_told =
        let good : IsRunState S here = run_ordered S proper mode arrivals n in
        refused_kept (due_alarms S here)
        (all_kept (λ a. a < length S.alarms) (is_due S here) (below (length S.alarms)) (all_below (length S.alarms)))
        (record here { alarms = alarms_advanced S here }) (record { single = good.single; ordered = good.ordered })
        (advanced_form S proper here (run_form S proper mode arrivals n))

    -- the tasks at its instruction
    pub tasks_told : Going S mode arrivals n
        → map (task_at_in S (kept S (step_at S mode arrivals n).executing)) (below (length S.tasks))
        ≡ map (task_at S (step_at S mode arrivals n).executing) (below (length S.tasks))
    tasks_told going =
        let e : State = (before_execution S (arriving arrivals n) here).state in
        let executing : IsExecuting S proper e = before_executing S proper (arriving arrivals n) here (run_ordered S proper mode arrivals n) in
        let settled = settled_of S e executing.good.single executing.good.ordered.ranked in
        let known = known_of S e (before_form S proper (arriving arrivals n) here (run_form S proper mode arrivals n)) in
        subst (λ s. map (task_at_in S (kept S s)) (below (length S.tasks)) ≡ map (task_at S s) (below (length S.tasks)))
        (executing_is S mode arrivals n going)
        (ap (λ (f : ℕ → TaskAt). map f (below (length S.tasks))) (fun_ext (task_is S e settled known)))
