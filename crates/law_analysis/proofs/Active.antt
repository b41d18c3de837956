-- A routine that is active, with the switch that it finds, from tick to tick.
use Rattle.std.proofs.Common.{◌≡◌, ℕ, suc, ◌≤◌, Bool, true, false, cond, not, ◌&&◌, List, [], ◌∷◌, refl, sym, ◌∙◌, ap, subst}
use Rattle.std.specs.Prelude.{IfSome, Option, Some, None, is_some}
use Rattle.osek_base.specs.declared.arrivals.Arrival.{Arrival}
use Rattle.osek_base.specs.declared.ids.Owner.{Owner}
use Rattle.osek_base.specs.Alarm.{alarms_advanced, due_alarms}
use Rattle.osek_base.specs.Proper.{IsProper}
use Rattle.osek_base.specs.Reschedule.{reschedule}
use Rattle.osek_base.specs.Service.{RoutineCalls, unasked_service}
use Rattle.osek_base.specs.State.{Active, State, interrupts_off}
use Rattle.osek_base.specs.System.{System, instruction_at}
use Rattle.osek_base.specs.Tick.{alarm_acts, alarm_phase, alarms_act, arrival_phase, before_execution, caller_of, execute_phase, last_phase, routine_choice, routine_started, start_phase, tick}
use Rattle.osek_base.specs.Trace.{arriving, run}
use Rattle.law_runs.proofs.Lists.{clash}
use Rattle.law_runs.proofs.Good.{good as good_state, shaped}
use Rattle.law_runs.proofs.RunSteps.{going_before, state_more}
use Rattle.law_windows.proofs.Before.{active_alarms, active_reschedule}
use Rattle.law_costs.specs.Known.{Executes, at_instruction, behind_by}
use Rattle.law_costs.specs.Left.{Switch, switch_of}
use Rattle.law_costs.proofs.InTicks.{at_form, at_is, executed_is, executing, goes_on}
use Rattle.law_costs.proofs.Routines.{same_routine}
use Rattle.law_costs.proofs.SettableTick.{at_settable}
use Rattle.law_analysis.specs.Lengths.{IsActiveAs, Lasts}

-- a routine is active, as it stands and with that switch
pub record Runs (w : Switch) (a : Active) (s : State) : Type 0 where
  pub active : s.active ≡ Some a
  pub finds : switch_of s ≡ w

-- ---- phases

module _ (S : System) where
  switch_acts : (due : List ℕ) (s : State) → switch_of (alarms_act S due s).state ≡ switch_of s
  unfolding unasked_service
  switch_acts [] s = refl
  switch_acts (a ∷ due) s = switch_acts due (alarm_acts S a s).state

  switch_alarms : (s : State) → switch_of (alarm_phase S s).state ≡ switch_of s
  unfolding alarm_phase
  switch_alarms s = switch_acts (due_alarms S s) (record s { alarms = alarms_advanced S s })

  switch_reschedule : (s : State) → switch_of (reschedule S s).state ≡ switch_of s
  unfolding reschedule
  switch_reschedule s = refl

  switch_start : (s : State) → switch_of (start_phase S s) ≡ switch_of s
  unfolding start_phase
  switch_start s = refl

  -- phases 1 to 4 leave an active routine as it is
  start_keeps : (s : State) (a : Active) → s.active ≡ Some a → (start_phase S s).active ≡ Some a
  unfolding start_phase
  start_keeps s a is =
      ap
      (λ o. (cond (not (is_some o) && not (interrupts_off s))
      (routine_started (routine_choice S s) s) s).active)
      is
      ∙ is

  before_keeps : (arrived : List ℕ) (s : State) (a : Active) → s.active ≡ Some a
      → Runs (switch_of s) a (before_execution S arrived s).state
  before_keeps arrived s a is =
      let raised : State = arrival_phase arrived (alarm_phase S s).state in
      let there : State = (reschedule S raised).state in
      record {
        active = start_keeps there a (active_reschedule S raised ∙ active_alarms S s ∙ is);
        finds = switch_start there ∙ switch_reschedule raised ∙ switch_alarms s;
      }

  -- and the last one too
  last_keeps : (w : Switch) (a : Active) (e : State) → Runs w a e
      → Runs w a (last_phase S e).state
  last_keeps w a e runs = go e.over
    where
      go : (b : Bool)
          → Runs w a (cond b (record { events = []; state = e }) (reschedule S e)).state
      go true = runs
      go false = record {
        active = active_reschedule S e ∙ runs.active;
        finds = switch_reschedule e ∙ runs.finds;
      }

  after_keeps : (arrived : List ℕ) (s : State) (w : Switch) (a : Active)
      → Runs w a (execute_phase S (before_execution S arrived s).state).state
      → Runs w a (tick S arrived s).after
  unfolding tick
  after_keeps arrived s w a runs =
      let last = last_keeps w a (execute_phase S (before_execution S arrived s).state).state runs in
      record { active = last.active; finds = last.finds }

-- ---- a tick of a run

module _ (S : System) (mode : ℕ) (arrivals : List Arrival) (proper : IsProper S) where
  abbrev here : ℕ → State
  here n = (run S mode arrivals n).state

  abbrev at : ℕ → State
  at n = at_instruction S mode arrivals n

  routine_executes : (n : ℕ) (a : Active) → (here (suc n)).over ≡ false
      → (at n).active ≡ Some a → Executes S (RoutineCalls a) (at n)
  routine_executes n a later is =
      let going = going_before S mode arrivals n later in
      let there = executing S proper mode arrivals n going in
      let form = at_form S proper mode arrivals n going in
      let calls = ap (λ o. caller_of o (at n).running (at n).jobs) is in
      record {
        good = good_state S (at n) there.good form;
        shaped = shaped S (at n) there.good form;
        calls = calls;
        excludes = λ enabled r takes. clash (sym takes);
        entered = tt;
        within = at_settable S proper mode arrivals n going;
        goes_on =
            sym (ap (λ (e : State). e.over) (executed_is S (at n) (RoutineCalls a) calls))
            ∙ goes_on S proper mode arrivals n later;
      }

  -- a routine that is active behind a tick is so at the instruction of the next
  active_at : (n : ℕ) (a : Active) → (here n).over ≡ false → (here n).active ≡ Some a
      → Runs (switch_of (here n)) a (at n)
  active_at n a going is =
      subst (Runs (switch_of (here n)) a) (at_is S proper mode arrivals n going)
      (before_keeps S (arriving arrivals n) (here n) a is)

  -- and the one that its instruction leaves active is so behind the tick
  active_behind : (n : ℕ) (a b : Active) → (here n).over ≡ false → (at n).active ≡ Some a
      → (behind_by S (RoutineCalls a) (at n)).active ≡ Some b
      → Runs (switch_of (behind_by S (RoutineCalls a) (at n))) b (here (suc n))
  active_behind n a b going is left =
      subst (Runs w b) (sym (state_more S mode arrivals n going))
      (after_keeps S (arriving arrivals n) (here n) w b
      (subst (λ (s : State). Runs w b (execute_phase S s).state)
      (sym (at_is S proper mode arrivals n going))
      (subst (Runs w b)
      (sym
      (executed_is S (at n) (RoutineCalls a)
      (ap (λ o. caller_of o (at n).running (at n).jobs) is)))
      (record { active = left; finds = refl }))))
    where
      w : Switch
      w = switch_of (behind_by S (RoutineCalls a) (at n))

  -- ---- one that goes on

  -- it is active behind a tick, and at the instruction of the next, and lasts so long from there
  pub record GoesOn (n count : ℕ) (a : Active) : Type 0 where
    pub routine : Active
    pub same : routine.routine ≡ a.routine
    pub switch : Switch
    pub behind : (here n).active ≡ Some routine
    pub runs : Runs switch routine (at n)
    pub lasts : Lasts S count switch routine

  pub goes_further : (n count : ℕ) (w : Switch) (a : Active) → (here (suc n)).over ≡ false
      → Runs w a (at n) → Lasts S (suc count) w a → 1 ≤ count → GoesOn (suc n) count a
  goes_further n count w a later runs lasts some =
      go (behind_by S (RoutineCalls a) (at n)).active refl
      (lasts (at n) (routine_executes n a later runs.active) runs.finds some)
    where
      v : Switch
      v = switch_of (behind_by S (RoutineCalls a) (at n))

      go : (o : Option Active) → (behind_by S (RoutineCalls a) (at n)).active ≡ o
          → IsActiveAs o (Lasts S count v) → GoesOn (suc n) count a
      go None is still = absurd still
      go (Some b) is still =
          let behind : Runs v b (here (suc n)) =
          active_behind n a b (going_before S mode arrivals n later) runs.active is in
          record {
            routine = b;
            same =
                subst (λ o. IfSome o (λ d. d.routine ≡ a.routine)) is
                (same_routine S (at n) a runs.active (Owner.Routine a.routine) a.context
                (instruction_at S (Owner.Routine a.routine) a.context.place));
            switch = v;
            behind = behind.active;
            runs =
                subst (λ u. Runs u b (at (suc n))) behind.finds
                (active_at (suc n) b later behind.active);
            lasts = still;
          }
