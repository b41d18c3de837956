-- A kernel whose machine does such a tick, in which no interrupt arrives.
use Rattle.std.proofs.Common.{◌≡◌, ℕ, ◌-◌, ◌<◌, Bool, false, List, [], ◌∷◌, ◌++◌, length, map, refl, sym, ◌∙◌, ap, subst, arith}
use Rattle.std.specs.Prelude.{Some, IfSome}
use Rattle.std.proofs.lemmas.List.Elements.{All-from_recursion}
use Rattle.osek_base.specs.declared.arrivals.Arrival.{Arrival}
use Rattle.osek_base.specs.declared.executed.Executed.{Executed}
use Rattle.osek_base.specs.declared.ids.Owner.{Owner}
use Rattle.osek_base.specs.declared.instr.Instr.{Instr}
use Rattle.osek_base.specs.declared.trace_event.TraceEvent.{TraceEvent}
use Rattle.osek_base.specs.Executed.{StandsIn, idle_or_executed}
use Rattle.osek_base.specs.Alarm.{due_alarms}
use Rattle.osek_base.specs.Instruction.{Context}
use Rattle.osek_base.specs.System.{System, instruction_at}
use Rattle.osek_base.specs.Trace.{arriving}
use Rattle.law_kept.specs.Kept.{Kept}
use Rattle.law_kept.specs.KeptService.{KeptCaller, ByTask, bare, caller_in}
use Rattle.law_kept.specs.KeptTick.{and_then_in, before_execution_in, caller_executes_in, execute_phase_in, executed_in, last_phase_in, silent_in, tick_in}
use Rattle.law_kept.specs.Moves.{KeptRecorded}
use Rattle.kernel.specs.Keeping.{IsKernel}
use Rattle.kernel.specs.Machine.{HasCome, HasTicked, Machine, MayTick, next_tick, picture, system_of}
use Rattle.kernel.specs.Working.{HasTickedSteady}
use Rattle.kernel.specs.Progress.{AreLeft, HasRunSteadily, HaveArrived, Progress, is_over}
use Rattle.kernel.proofs.ArrivalLemmas.{none_between}
use Rattle.kernel.proofs.IdleRuns.{progress}
use Rattle.kernel.proofs.LawLemmas.{lawful}
use Rattle.kernel.proofs.RunLemmas.{IsGoing, going}
use Rattle.kernel.proofs.TickLemmas.{executing_told, record_told}

-- ---- who executed, and what came of it, as a record tells it

abbrev pub first_event : List TraceEvent → TraceEvent
first_event [] = TraceEvent.Idle
first_event (e ∷ events) = e

abbrev pub owner_in : TraceEvent → Owner
owner_in (TraceEvent.Executed who place what outcome) = who
owner_in _ = Owner.Task 0

-- the first record of an instruction names who executes it
named_first : (S : System) (who : Owner) (d : KeptCaller) (x : Context) (what : Instr) (o : Kept) (more : List TraceEvent)
    → owner_in (first_event ((executed_in S who d x what o).events ++ more)) ≡ who
named_first S who d x (Instr.Plain p) o more = refl
named_first S who d x (Instr.Service call) o more = refl
named_first S who d x (Instr.Control control) o more = refl

executes_so : (S : System) (o : Kept) (t : ℕ) → caller_in o ≡ ByTask t → execute_phase_in S o ≡ caller_executes_in S (ByTask t) o
unfolding execute_phase_in
executes_so S o t calls = ap (λ c. caller_executes_in S c o) calls

named_in_tick : (S : System) (o : Kept) (t : ℕ) → caller_in o ≡ ByTask t → before_execution_in S [] o ≡ silent_in o
    → owner_in (first_event (tick_in S [] o).events) ≡ Owner.Task t
unfolding tick_in
named_in_tick S o t calls before =
    ap (λ (r : KeptRecorded). owner_in (first_event (r.events ++ (and_then_in (execute_phase_in S r.state) (last_phase_in S)).events)))
    before
    ∙ ap (λ (r : KeptRecorded). owner_in (first_event (r.events ++ (last_phase_in S r.state).events))) (executes_so S o t calls)
    ∙ named_first S (Owner.Task t) (ByTask t) (o.slots t).context (instruction_at S (Owner.Task t) (o.slots t).context.place) o _

-- the task that calls executes, where nothing comes before its instruction
who_executes : (S : System) (o : Kept) (t : ℕ) (unwritten behind : List TraceEvent) (e : Executed) → caller_in o ≡ ByTask t
    → before_execution_in S [] o ≡ silent_in o → unwritten ≡ []
    → idle_or_executed S (Some e) ∷ behind ≡ unwritten ++ (tick_in S [] o).events → e.owner ≡ Owner.Task t
who_executes S o t unwritten behind e calls before none events =
    ap (λ u. owner_in (first_event u)) (events ∙ ap (λ (u : List TraceEvent). u ++ (tick_in S [] o).events) none)
    ∙ named_in_tick S o t calls before

module _ (counted : Bool) (S : System) (mode : ℕ) (arrivals : List Arrival) (lent : List ℕ) (earlier cursor coming : ℕ)
    (old : Progress) (m : Machine) (is : progress S mode arrivals m ≡ old)
    (v : IsKernel counted S mode arrivals lent earlier cursor coming m) (follows : is_over old ≡ false) where
  goes : IsGoing S mode arrivals (next_tick m)
  goes = going S mode arrivals (next_tick m) (ap is_over is ∙ follows)

  pub may_tick : MayTick [] m
  may_tick = record {
    on = ap (λ (o : Kept). o.over) v.come.at.same ∙ goes.on;
    limit = goes.limit;
    known = All-from_recursion (λ i. i < length (system_of m).routines) [] tt;
  }

  -- the kernel keeps the run behind the tick
  pub record KernelTicks (new : Machine) (executed : Executed) (behind : List TraceEvent) : Type 0 where
    pub keeps : IsKernel counted S mode arrivals lent cursor cursor coming new
    pub ran : HasRunSteadily old (progress S mode arrivals new) executed behind

  pub kernel_ticks : (coming ≡ next_tick m → ⊥) → (new : Machine) (e : Executed) (behind : List TraceEvent)
      → HasTickedSteady counted m new e behind → KernelTicks new e behind
  kernel_ticks not_now new e behind steady =
      let done : HasTicked counted [] m new [] (Some e) behind = steady.ticked in
      let next = done.ticks.next in
      let here : HaveArrived arrivals (next_tick m) cursor cursor = v.ahead steady.begun (next_tick m) not_now v.left in
      let none : arriving arrivals (next_tick m) ≡ [] =
      here.these ∙ none_between (map (λ (a : Arrival). a.routine) arrivals) cursor in
      let last_is : next_tick new - 1 ≡ next_tick m = omega (arith, next) in
      record {
        keeps = record {
          proper = v.proper;
          known = v.known;
          routines = v.routines;
          left = subst (AreLeft arrivals cursor) (sym next) here.left;
          first = λ none. absurd (omega (arith, next, none));
          ahead = λ later. v.ahead steady.begun;
          last = λ begun. ap (arriving arrivals) last_is ∙ none ∙ sym (none_between lent cursor);
          forward = omega arith;
          come =
              subst (λ (T : System). HasCome counted T mode arrivals (next_tick new) new) (done.ticks.system ∙ v.come.at.system)
              (done.goes_on mode arrivals none
              (subst (λ (T : System). HasCome counted T mode arrivals (next_tick m) m) (sym v.come.at.system) v.come));
        };
        ran = subst (λ (x : Progress). HasRunSteadily x (progress S mode arrivals new) e behind) is
            (record {
              ran = record {
                records =
                    ap (λ (T : System). idle_or_executed T (Some e) ∷ behind) (sym v.come.at.system)
                    ∙ done.ticks.events
                    ∙ record_told counted S mode arrivals m [] v.proper v.come goes.on none;
                next = ap (λ n. record (progress S mode arrivals m) { ticks = n }) next;
                lawful = lawful (progress S mode arrivals new) v.proper;
                there = subst (λ (T : System). IfSome (Some e) (StandsIn T)) v.come.at.system done.there;
                few = done.few;
                proper = v.proper;
              };
              not_first = steady.begun;
              task = steady.task;
              who =
                  who_executes (system_of m) (picture m) steady.task m.unwritten behind e steady.calls steady.before
                  steady.unwritten done.ticks.events;
              none_arrive = none;
              none_due =
                  ap (λ (x : Kept). due_alarms S (bare x)) (sym v.come.at.same)
                  ∙ subst (λ (T : System). due_alarms T (bare (picture m)) ≡ []) v.come.at.system steady.none_due;
              at =
                  sym (executing_told counted S mode arrivals m [] v.proper v.come goes.on none)
                  ∙ ap (λ (r : KeptRecorded). r.state) steady.before ∙ v.come.at.same;
            });
      }
