-- A kernel that does ticks in which the running task works, and what of its run they leave.
use Rattle.std.proofs.Common.{◌≡◌, ℕ, ◌+◌, ◌-◌, ◌≤◌, Bool, true, false, List, [], ◌∷◌, ◌++◌, refl, sym, ◌∙◌, ap, subst, arith, map, zero, suc, ◌<◌}
use Rattle.std.specs.Option.{option_map}
use Rattle.std.specs.Prelude.{Option, Some, None, is_none, is_some, ◌==◌}
use Rattle.std.proofs.lemmas.Bool.{eqb-true, true≢false}
use Rattle.osek_base.specs.declared.arrivals.Arrival.{Arrival}
use Rattle.osek_base.specs.declared.executed.Executed.{Executed}
use Rattle.osek_base.specs.declared.ids.Owner.{Owner}
use Rattle.osek_base.specs.declared.instr.Instr.{Instr}
use Rattle.osek_base.specs.declared.trace_event.Outcome.{Outcome}
use Rattle.osek_base.specs.declared.trace_event.TraceEvent.{TraceEvent}
use Rattle.osek_base.specs.Executed.{StandsIn, idle_or_executed}
use Rattle.osek_base.specs.Alarm.{due_alarms}
use Rattle.osek_base.specs.BlockingText.{blockers_at}
use Rattle.osek_base.specs.Proper.{IsProper}
use Rattle.osek_base.specs.System.{System, instruction_at, priority_of}
use Rattle.osek_base.specs.Trace.{Run, arriving, run}
use Rattle.kernel_stamps.specs.Stamps.{stamp_of_oldest}
use Rattle.law_blockers.specs.Steps.{record_at}
use Rattle.law_blockers.specs.Restamping.{stamps_at}
use Rattle.law_blockers.proofs.StepLemmas.{run_more}
use Rattle.law_kept.specs.Kept.{Kept, kept}
use Rattle.law_kept.specs.KeptService.{KeptCaller, ByTask, bare, caller_by, caller_in}
use Rattle.machine.specs.Packed.{instr_of, is_plain, plain_of}
use Rattle.services.specs.Calls.{IsExecuting, context_in}
use Rattle.law_kept.specs.KeptTick.{KeptStep, tick_in}
use Rattle.law_kept.specs.Moves.{KeptRecorded}
use Rattle.law_kept.specs.Quiet.{later}
use Rattle.kernel.specs.Keeping.{IsKernel}
use Rattle.kernel.specs.declared.next.Next.{Next}
use Rattle.kernel.specs.Machine.{HasCome, Machine, next_tick, picture, system_of}
use Rattle.kernel.specs.Processor.{IsNext, picture as picture_of, system_of as system_in}
use Rattle.kernel.specs.Watches.{Watched}
use Rattle.kernel.specs.Progress.{HaveArrived, Progress, is_over, run_of}
use Rattle.kernel.specs.Stamping.{count_below, number_for}
use Rattle.kernel.specs.Working.{HasTickedSteady, HasWorked, IsWorking, LeavesRest, WorksNext, WorksOnce, at_rest}
use Rattle.kernel.proofs.ArrivalLemmas.{none_between}
use Rattle.kernel.proofs.IdleRuns.{progress}
use Rattle.kernel.proofs.RunLemmas.{going}
use Rattle.kernel.proofs.SteadyLemmas.{before_silent, calls}
use Rattle.kernel.proofs.SteadyRuns.{first_event, kernel_ticks, owner_in}
use Rattle.kernel.proofs.TickLemmas.{executing_told, record_told}
use Rattle.kernel.proofs.WorkLemmas.{done_by, work_event, work_rests, work_step, worked}

-- what came of an instruction, as a record tells it
abbrev outcome_in : TraceEvent → Outcome
outcome_in (TraceEvent.Executed who place what outcome) = outcome
outcome_in _ = Outcome.Control

-- there is none
no_stamp : (p : Option ℕ) → is_none p ≡ true → p ≡ None
no_stamp None h = refl
no_stamp (Some u) h = absurd (true≢false (sym h))

-- seen from another state at whose rest all is the same
rebased : (counted : Bool) (S : System) (mode : ℕ) (arrivals : List Arrival) (t : ℕ) (a b : Kept) → at_rest a ≡ at_rest b
    → LeavesRest counted S mode arrivals t a → LeavesRest counted S mode arrivals t b
rebased counted S mode arrivals t a b same leaves =
    let w = leaves.work in
    record {
      none_arrive = leaves.none_arrive;
      none_due = leaves.none_due;
      no_blockers = leaves.no_blockers;
      executed = leaves.executed;
      work = record {
        who = w.who ∙ ap (λ (x : Kept). option_map Owner.Task x.running) same;
        effect = w.effect;
        plain = w.plain;
        recorded = w.recorded;
      };
      before = leaves.before ∙ same;
      at = leaves.at ∙ same;
      behind = leaves.behind ∙ same;
    }

module _ (counted : Bool) (S : System) (proper : IsProper S) (mode : ℕ) (arrivals : List Arrival) (m new : Machine)
    (e : Executed) (behind : List TraceEvent) (come : HasCome counted S mode arrivals (next_tick m) m)
    (on : (run S mode arrivals (next_tick m)).state.over ≡ false) (free : arriving arrivals (next_tick m) ≡ [])
    (works : IsWorking counted m) (did : HasTickedSteady counted m new e behind)
    (came : HasCome counted S mode arrivals (next_tick new) new) where
  abbrev n : ℕ
  n = next_tick m

  abbrev o : Kept
  o = picture m

  step_is : tick_in (system_of m) [] o
      ≡ record { events = work_event works.task works.instruction o ∷ []; after = later 1 (worked works.task works.instruction o) }
  step_is = work_step (system_of m) o works.task works.steady works.instruction works.plain did.size did.none_due

  rests_new : at_rest (picture new) ≡ at_rest o
  rests_new =
      ap at_rest (did.ticked.ticks.after ∙ ap (λ (x : KeptStep). x.after) step_is)
      ∙ work_rests o works.task works.instruction

  next_is : next_tick new ≡ n + 1
  next_is = did.ticked.ticks.next

  last_is : next_tick new - 1 ≡ n
  last_is = omega (arith, next_is)

  some : 1 ≤ next_tick new
  some = omega (arith, next_is)

  new_is : picture new ≡ kept S (run S mode arrivals (n + 1)).state
  new_is = came.at.same ∙ ap (λ k. kept S (run S mode arrivals k).state) next_is

  none_told : counted ≡ true → blockers_at S mode arrivals n ≡ None
  none_told counting =
      sym (ap (blockers_at S mode arrivals) last_is) ∙ sym (came.numbered counting some) ∙ did.number counting
      ∙ ap (λ d. number_for (system_of m) d m.blocking.told.last m.blocking.stamps) (calls (system_of m) o works.task works.steady)
      ∙ ap (option_map (count_below (priority_of (system_of m) works.task) m.blocking.told.last)) (no_stamp (stamp_of_oldest (stamps_at m.blocking.stamps works.task)) (works.spent counting))

  -- what was executed is that instruction
  event_is : idle_or_executed (system_of m) (Some e) ≡ work_event works.task works.instruction o
  event_is =
      ap first_event
      (did.ticked.ticks.events ∙ ap (λ (u : List TraceEvent). u ++ (tick_in (system_of m) [] o).events) did.unwritten
      ∙ ap (λ (x : KeptStep). x.events) step_is)

  pub recorded_so : record_at S mode arrivals n ≡ idle_or_executed S (Some e) ∷ []
  recorded_so =
      sym (record_told counted S mode arrivals m [] proper come on free)
      ∙ ap (λ (u : List TraceEvent). u ++ (tick_in (system_of m) [] o).events) did.unwritten
      ∙ ap (λ (x : KeptStep). x.events) step_is
      ∙ ap (λ (x : TraceEvent). x ∷ []) (sym event_is)
      ∙ ap (λ (T : System). idle_or_executed T (Some e) ∷ []) come.at.system

  pub leaves_rest : LeavesRest counted S mode arrivals n (kept S (run S mode arrivals n).state)
  leaves_rest = record {
    none_arrive = free;
    none_due =
        ap (λ (x : Kept). due_alarms S (bare x)) (sym come.at.same)
        ∙ subst (λ (T : System). due_alarms T (bare o) ≡ []) come.at.system did.none_due;
    no_blockers = none_told;
    executed = e;
    work = record {
      who =
          ap (λ x. Some (owner_in x)) event_is ∙ sym (ap (option_map Owner.Task) works.steady.runs)
          ∙ ap (λ (x : Kept). option_map Owner.Task x.running) come.at.same;
      effect = (done_by works.task works.instruction o).effect;
      plain = ap outcome_in event_is;
      recorded = recorded_so;
    };
    before = refl;
    at =
        ap at_rest
        (sym (executing_told counted S mode arrivals m [] proper come on free)
        ∙ ap (λ (r : KeptRecorded). r.state) (before_silent (system_of m) o works.task works.steady did.size did.none_due)
        ∙ come.at.same);
    behind =
        ap at_rest (sym (ap (λ (r : Run). kept S r.state) (run_more S mode arrivals n on)) ∙ sym new_is)
        ∙ rests_new ∙ ap at_rest come.at.same;
  }

  pub still_rests : at_rest (kept S (run S mode arrivals (next_tick new)).state) ≡ at_rest (kept S (run S mode arrivals n).state)
  still_rests = sym (ap at_rest came.at.same) ∙ rests_new ∙ ap at_rest come.at.same

-- ---- who executes

-- is the task that calls
pub is_caller : (o : Kept) (t : ℕ) (who : Owner) → caller_in o ≡ ByTask t → IsExecuting o who → who ≡ Owner.Task t
is_caller o t (Owner.Task u) calls executes = ap Owner.Task (sym (task_is (sym calls ∙ executes.0)))
  where
    caller_task : KeptCaller → ℕ
    caller_task (ByTask t) = t
    caller_task _ = 0

    task_is : ByTask t ≡ ByTask u → t ≡ u
    task_is same = ap caller_task same
is_caller o t (Owner.Routine i) calls executes = absurd (true≢false (ap is_task (sym calls ∙ ap (λ a. caller_by (is_some a) o.running o.gone) executes)))
  where
    is_task : KeptCaller → Bool
    is_task (ByTask t) = true
    is_task _ = false

-- a plain instruction is what it is
pub plain_is : (i : Instr) → is_plain i ≡ true → i ≡ Instr.Plain (plain_of i)
plain_is (Instr.Plain p) h = refl
plain_is (Instr.Service s) h = absurd (true≢false (sym h))
plain_is (Instr.Control c) h = absurd (true≢false (sym h))

-- and it executes a plain instruction next
pub works_so : (counted : Bool) (w now : Watched) (t : ℕ) (next : Next) → w ≡ now
    → IsExecuting (picture_of now.processor) (Owner.Task t) → IsNext w.processor next
    → is_plain (instr_of next.packed) ≡ true
    → (counted ≡ true → is_none (stamp_of_oldest (stamps_at now.blocking.stamps t)) ≡ true) → WorksNext counted now t
works_so counted w now t next same executes is plain spent =
    let here = subst (λ (x : Watched). IsNext x.processor next) same is in
    let p = now.processor in
    let instr = instr_of next.packed in
    record {
      instruction = plain_of instr;
      plain =
          subst (λ (o : Owner). instruction_at (system_in p) o (context_in (picture_of p) o).place ≡ instr)
          (is_caller (picture_of p) t next.owner executes.0 here.who) here.instruction
          ∙ plain_is instr plain;
      spent = spent;
    }

-- ---- a kernel

-- the kernel keeps the run behind the tick, and has worked
pub record KernelWorks (counted : Bool) (S : System) (mode : ℕ) (arrivals : List Arrival) (lent : List ℕ) (cursor coming : ℕ)
    (old : Progress) (new : Machine) (e : Executed) : Type 0 where
  pub keeps : IsKernel counted S mode arrivals lent cursor cursor coming new
  pub works : WorksOnce counted old (progress S mode arrivals new) e

pub kernel_works : (counted : Bool) (S : System) (mode : ℕ) (arrivals : List Arrival) (lent : List ℕ) (earlier cursor coming : ℕ)
    (old : Progress) (m new : Machine) (e : Executed) (behind : List TraceEvent) → progress S mode arrivals m ≡ old
    → IsKernel counted S mode arrivals lent earlier cursor coming m → is_over old ≡ false → (coming ≡ next_tick m → ⊥)
    → IsWorking counted m → HasTickedSteady counted m new e behind
    → KernelWorks counted S mode arrivals lent cursor coming old new e
kernel_works counted S mode arrivals lent earlier cursor coming old m new e behind is v follows not_now works did =
    let ticked = kernel_ticks counted S mode arrivals lent earlier cursor coming old m is v follows not_now new e behind did in
    let on : (run S mode arrivals (next_tick m)).state.over ≡ false = (going S mode arrivals (next_tick m) (ap is_over is ∙ follows)).on in
    let here : HaveArrived arrivals (next_tick m) cursor cursor = v.ahead did.begun (next_tick m) not_now v.left in
    let free : arriving arrivals (next_tick m) ≡ [] =
    here.these ∙ none_between (map (λ (a : Arrival). a.routine) arrivals) cursor in
    record {
      keeps = ticked.keeps;
      works = subst (λ (x : Progress). WorksOnce counted x (progress S mode arrivals new) e) is
          (record {
            not_first = did.begun;
            going = on;
            leaves = leaves_rest counted S v.proper mode arrivals m new e behind v.come on free works did ticked.keeps.come;
            rests = still_rests counted S v.proper mode arrivals m new e behind v.come on free works did ticked.keeps.come;
            recorded = recorded_so counted S v.proper mode arrivals m new e behind v.come on free works did ticked.keeps.come;
            there = subst (λ (T : System). StandsIn T e) v.come.at.system did.ticked.there;
            next = ap (λ t. record (progress S mode arrivals m) { ticks = t }) did.ticked.ticks.next;
          });
    }

-- ---- such ticks one after another

-- so many are done, and at rest what is kept stays
pub record GoesOnWorking (counted : Bool) (most : ℕ) (old now : Progress) (n : ℕ) (last : Option Executed) : Type 0 where
  pub worked : HasWorked counted most old now n last
  pub rests : at_rest (kept old.system (run_of now).state) ≡ at_rest (kept old.system (run_of old).state)

pub none_worked : (counted : Bool) (most : ℕ) (r : Progress) (last : Option Executed) → GoesOnWorking counted most r r 0 last
none_worked counted most r last =
    let more : r.ticks ≡ r.ticks + 0 = omega arith in
    record {
      worked = record {
        few = omega arith;
        not_first = λ some. absurd (omega (arith, some));
        going = λ k low. absurd (omega (arith, low));
        stays = λ k low. absurd (omega (arith, low));
        next = ap (λ t. record r { ticks = t }) more;
        recorded = λ some. absurd (omega (arith, some));
        there = λ some. absurd (omega (arith, some));
      };
      rests = refl;
    }

pub works_more : (counted : Bool) (most n : ℕ) (old now new : Progress) (last : Option Executed) (e : Executed) → n < most
    → GoesOnWorking counted most old now n last → WorksOnce counted now new e
    → GoesOnWorking counted most old new (n + 1) (Some e)
works_more counted most n old now new last e low so once =
    let w = so.worked in
    let S : System = old.system in
    let at : Progress = record old { ticks = old.ticks + n } in
    let on : WorksOnce counted at new e = subst (λ (x : Progress). WorksOnce counted x new e) w.next once in
    let begun : 1 ≤ old.ticks + n = on.not_first in
    let last_is : n + 1 - 1 ≡ n = omega arith in
    let ticks_are : old.ticks + n + 1 ≡ old.ticks + (n + 1) = omega arith in
    let rests_at : at_rest (kept S (run_of at).state) ≡ at_rest (kept S (run_of old).state) =
    subst (λ (x : Progress). at_rest (kept S (run_of x).state) ≡ at_rest (kept S (run_of old).state)) w.next so.rests in
    record {
      worked = record {
        few = omega (arith, low);
        not_first = λ some. first n w.not_first begun;
        going = λ k less. either k less
            (λ i. (run S old.mode old.arrivals (old.ticks + i)).state.over ≡ false) w.going on.going;
        stays = λ k less. either k less
            (λ i. LeavesRest counted S old.mode old.arrivals (old.ticks + i) (kept S (run_of old).state)) w.stays
            (rebased counted S old.mode old.arrivals (old.ticks + n) (kept S (run_of at).state) (kept S (run_of old).state)
            rests_at on.leaves);
        next = on.next ∙ ap (λ t. record old { ticks = t }) ticks_are;
        recorded = λ some.
            ap (λ i. record_at S old.mode old.arrivals (old.ticks + i)) last_is ∙ on.recorded;
        there = λ some. on.there;
      };
      rests = on.rests ∙ rests_at;
    }
  where
    first : (n : ℕ) → (0 < n → 1 ≤ old.ticks) → 1 ≤ old.ticks + n → 1 ≤ old.ticks
    first zero earlier begun = omega (arith, begun)
    first (suc n) earlier begun = earlier (omega arith)

    either : (k : ℕ) → k < n + 1 → (P : ℕ → Type 0) → ((i : ℕ) → i < n → P i) → P n → P k
    either k less P each here = go (k == n) refl
      where
        go : (b : Bool) → (k == n) ≡ b → P k
        go true e = subst P (sym (eqb-true k n e)) here
        go false e = each k (grind (arith, less, e))
