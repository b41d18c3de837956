-- An instruction of a routine takes one, by what it leaves of the routine and what it starts.
use Rattle.std.proofs.Common.{ℕ, ◌≡◌, ◌≤◌, ◌+◌, false, cond, [], ◌∷◌, refl, sym, ◌∙◌, ap, arith}
use Rattle.std.specs.Prelude.{IfSome, Option, Some, None, is_some}
use Rattle.std.specs.List.{sum_by}
use Rattle.osek_base.specs.declared.ids.Owner.{Owner}
use Rattle.osek_base.specs.declared.instr.Control.{Control}
use Rattle.osek_base.specs.declared.instr.Instr.{Instr}
use Rattle.osek_base.specs.declared.instr.Service.{Service}
use Rattle.osek_base.specs.declared.status.Status.{Status}
use Rattle.osek_base.specs.Activation.{is_full}
use Rattle.osek_base.specs.Instruction.{Context, next, plain}
use Rattle.osek_base.specs.Service.{Reply, RoutineCalls, effect, first_refusal, refusals, reply_to, service}
use Rattle.std.specs.Option.{option_map}
use Rattle.osek_base.specs.State.{Active, State, interrupts_off}
use Rattle.osek_base.specs.System.{System, instruction_at}
use Rattle.osek_base.specs.Tick.{answered, at_values, caller_executes, caller_of, execute_phase, executed, moved}
use Rattle.osek_base.specs.Types.{ServiceCall}
use Rattle.law_alarms.specs.Setting.{call_in}
use Rattle.law_runs.proofs.Known.{all_passed, passed}
use Rattle.law_runs.proofs.Lists.{all_any, clash, some_inside}
use Rattle.law_runs.proofs.RankedTick.{IsRunState}
use Rattle.law_windows.specs.Work.{goes_at, some_pending}
use Rattle.law_costs.specs.Left.{Weights, counts, left, left_of_active, left_of_job, left_of_jobs, on, switch_for, switch_of}
use Rattle.law_costs.specs.Paying.{start_of}
use Rattle.law_costs.specs.Routines.{RoutinePaysIn, TakesIn, started_by, started_where}
use Rattle.law_costs.proofs.Alarms.{no_more}
use Rattle.law_costs.proofs.Events.{room}
use Rattle.law_costs.proofs.Levels.{uncounted}
use Rattle.law_costs.proofs.SetAlarms.{instruction_sets}
use Rattle.law_costs.proofs.Starts.{StartsPay, activated_adds, may_set, set_adds}
use Rattle.law_costs.proofs.Switches.{behind_routine, find_on}
use Rattle.law_costs.proofs.Totals.{none_any}
use Rattle.law_costs.proofs.Work.{left_same, none_left}

module _ (S : System) (p : ℕ) (c : Weights) (s : State) (starts : StartsPay S p c s)
    (good : IsRunState S s) (a : Active) (is : s.active ≡ Some a) where
  abbrev now : State → ℕ
  now e = left_of_jobs S p c e.masks (switch_for s) e.jobs

  effect_adds : (call : ServiceCall) → first_refusal (refusals S (RoutineCalls a) s call) ≡ None
      → now (effect S (RoutineCalls a) s call) ≤ now s + start_of c call
  effect_adds (Service.ActivateTask None) none = omega arith
  effect_adds (Service.ActivateTask (Some t)) none =
      activated_adds S p c s starts good.single t
      (room S t s starts.proper (passed (is_full S s t) Status.Limit [] none).0)
  effect_adds Service.TerminateTask none = omega arith
  effect_adds (Service.ChainTask None) none = omega arith
  effect_adds (Service.ChainTask (Some t)) none =
      clash (all_passed (refusals S (RoutineCalls a) s (Service.ChainTask (Some t))) none).0
  effect_adds Service.Schedule none = omega arith
  effect_adds Service.GetTaskId none = omega arith
  effect_adds (Service.GetTaskState o) none = omega arith
  effect_adds (Service.GetResource None) none = omega arith
  effect_adds (Service.GetResource (Some r)) none = omega arith
  effect_adds (Service.ReleaseResource None) none = omega arith
  effect_adds (Service.ReleaseResource (Some r)) none = omega arith
  effect_adds (Service.LoadShared o i) none = omega arith
  effect_adds (Service.StoreShared None i v) none = omega arith
  effect_adds (Service.StoreShared (Some r) i v) none = omega arith
  effect_adds (Service.SetEvent None m) none = omega arith
  effect_adds (Service.SetEvent (Some t) m) none =
      set_adds S p c s starts good.single good.ordered.ranked.still good.ordered.ready t m
      (may_set S s t m (RoutineCalls a) none)
  effect_adds (Service.ClearEvent m) none = omega arith
  effect_adds (Service.GetEvent o) none = omega arith
  effect_adds (Service.WaitEvent m) none = omega arith
  effect_adds (Service.SetRelAlarm None x y) none = omega arith
  effect_adds (Service.SetRelAlarm (Some b) x y) none = omega arith
  effect_adds (Service.SetAbsAlarm None x y) none = omega arith
  effect_adds (Service.SetAbsAlarm (Some b) x y) none = omega arith
  effect_adds (Service.CancelAlarm None) none = omega arith
  effect_adds (Service.CancelAlarm (Some b)) none = omega arith
  effect_adds (Service.GetAlarm o) none = omega arith
  effect_adds (Service.GetAlarmBase o) none = omega arith

  reply_adds : (call : ServiceCall) (o : Option Status)
      → (o ≡ None → first_refusal (refusals S (RoutineCalls a) s call) ≡ None)
      → now (reply_to S (RoutineCalls a) s call o).state
      ≤ now s + started_where c (reply_to S (RoutineCalls a) s call o).status call
  reply_adds call None none = effect_adds call (none refl)
  reply_adds call (Some refusal) none = omega arith

  service_adds : (call : ServiceCall)
      → now (service S (RoutineCalls a) s call).state
      ≤ now s + started_where c (service S (RoutineCalls a) s call).status call
  unfolding service
  service_adds call =
      reply_adds call
      (first_refusal ((interrupts_off s, Status.SysDisabled) ∷ refusals S (RoutineCalls a) s call))
      (λ none.
      (passed (interrupts_off s) Status.SysDisabled (refusals S (RoutineCalls a) s call) none).1)

  -- ---- an instruction

  module _ (who : Owner) (x : Context) where
    abbrev there : Instr → State
    there what = (executed S who (RoutineCalls a) x what s).state

    jobs_add : (what : Instr)
        → now (there what) ≤ now s + started_by S c (RoutineCalls a) s (call_in x what)
    jobs_add (Instr.Plain plain) = omega arith
    jobs_add (Instr.Service call) = service_adds (at_values x call)
    jobs_add (Instr.Control Control.DisableAllInterrupts) = omega arith
    jobs_add (Instr.Control control) = omega arith

    pub pending_stays : (what : Instr) → (there what).pending ≡ s.pending
    unfolding service
    pending_stays (Instr.Plain plain) = refl
    pending_stays (Instr.Service call) = refl
    pending_stays (Instr.Control Control.DisableAllInterrupts) = refl
    pending_stays (Instr.Control control) = refl

  abbrev behind : State
  behind = (caller_executes S (RoutineCalls a) s).state

  abbrev owner : Owner
  owner = Owner.Routine a.routine

  abbrev what : Instr
  what = instruction_at S owner a.context.place

  behind_is : (execute_phase S s).state ≡ behind
  unfolding execute_phase
  behind_is = ap (λ o. (caller_executes S (caller_of o s.running s.jobs) s).state) is

  pub routine_takes : TakesIn S c s a
      → left S p c (execute_phase S s).state + 1 ≤ left S p c s
  routine_takes take =
      let same = ap (left S p c) behind_is in
      let active : left_of_active c (switch_of s) s.active ≡ c.of_active (switch_of s) a =
      ap (left_of_active c (switch_of s)) is in
      let pending = left_same S p c s behind (pending_stays owner a.context what) in
      let find =
      ap (λ find. left_of_jobs S p c behind.masks find behind.jobs)
      (find_on S s a is owner a.context what ∙ sym (behind_routine s (ap is_some is))) in
      let jobs = jobs_add owner a.context what in
      let held = instruction_sets S c s owner (RoutineCalls a) a.context what in
      omega (arith, same, take, active, pending, find, jobs, held)

  -- ---- below the level

  -- of a lower routine, where none of the level is pending, no more than may be at a beginning
  pub routine_begins : RoutinePaysIn S p c s a → goes_at S p a.routine ≡ false
      → some_pending S p s ≡ false → left S p c (execute_phase S s).state ≤ c.costs.at_begin
  routine_begins pays lower quiet =
      let same = ap (left S p c) behind_is in
      let begin = pays.begins lower in
      let pending = left_same S p c s behind (pending_stays owner a.context what) in
      let none = none_left S p c s quiet in
      let find =
      ap (λ find. left_of_jobs S p c behind.masks find behind.jobs)
      (find_on S s a is owner a.context what) in
      let jobs : left_of_jobs S p c behind.masks (λ j. on) behind.jobs ≡ c.of_section =
      ap (λ b. cond b (sum_by (left_of_job S p c behind.masks (λ j. on)) behind.jobs) c.of_section)
      (none_any (λ k. counts S p on k) behind.jobs
      (all_any (λ k. counts S p on k ≡ false) behind.jobs (uncounted S p a.routine lower c))) in
      let held = no_more S c behind.alarms in
      omega (arith, same, begin, pending, none, find, jobs, held)

-- ---- who is active

moved_same : (x : Context) (a : Active) (o : Option Active) → o ≡ Some a
    → IfSome (option_map (moved x) o) (λ b. b.routine ≡ a.routine)
moved_same x a None is = tt
moved_same x a (Some b) is = ap (λ (d : Active). d.routine) (some_inside b a is)

-- behind an instruction of a routine no other one is active
module _ (S : System) (s : State) (a : Active) (is : s.active ≡ Some a) (who : Owner)
    (x : Context) where
  abbrev IsSame : State → Type 0
  IsSame e = IfSome e.active (λ b. b.routine ≡ a.routine)

  pub same_routine : (what : Instr) → IsSame (executed S who (RoutineCalls a) x what s).state
  unfolding service
  same_routine (Instr.Plain what) = moved_same (plain what x (s.words who)).context a s.active is
  same_routine (Instr.Service call) =
      let r : Reply = service S (RoutineCalls a) s (at_values x call) in
      moved_same (answered r.status r.results x) a s.active is
  same_routine (Instr.Control Control.ReturnFromInterrupt) = tt
  same_routine (Instr.Control Control.DisableAllInterrupts) = moved_same (next x) a s.active is
  same_routine (Instr.Control Control.EnableAllInterrupts) = moved_same (next x) a s.active is
  same_routine (Instr.Control Control.SuspendAllInterrupts) = moved_same (next x) a s.active is
  same_routine (Instr.Control Control.ResumeAllInterrupts) = moved_same (next x) a s.active is
  same_routine (Instr.Control Control.SuspendOsInterrupts) = moved_same (next x) a s.active is
  same_routine (Instr.Control Control.ResumeOsInterrupts) = moved_same (next x) a s.active is
  same_routine (Instr.Control (Control.ShutdownOs n)) = moved_same (next x) a s.active is
