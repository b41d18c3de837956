-- What an instruction takes, shows, answers and leaves has 32 bits.
use Rattle.std.proofs.Common.{ℕ, ◌≡◌, ◌≤◌, ◌+◌, ◌-◌, ◌*◌, ◌%◌, ◌^◌, inl, inr, Bool, true, false, ◌&&◌, List, ◌∷◌, length, refl, subst, arith}
use Rattle.std.specs.Prelude.{Option, Some, None, IfSome, ◌==◌}
use Rattle.std.specs.List.{AllByRecursion}
use Rattle.std.specs.Int.Bits.{and_lt}
use Rattle.std.specs.Option.{option_map}
use Rattle.std.proofs.Math.Nat.{mod-lt}
use Rattle.std.proofs.lemmas.Bool.{and_parts, cases_lt, ltb-true, leb-true}
use Rattle.std.proofs.lemmas.List.{get_or_past}
use Rattle.std.proofs.lemmas.Nat.{or_lt, xor_lt}
use Rattle.osek_base.specs.declared.ids.Owner.{Owner}
use Rattle.osek_base.specs.declared.ids.ResId.{ResId}
use Rattle.osek_base.specs.declared.instr.Control.{Control}
use Rattle.osek_base.specs.declared.instr.Instr.{Instr}
use Rattle.osek_base.specs.declared.instr.Operation.{Operation}
use Rattle.osek_base.specs.declared.instr.Plain.{Plain}
use Rattle.osek_base.specs.declared.instr.Service.{Service}
use Rattle.osek_base.specs.declared.limits.TheConstants.{MAX_INSTRUCTIONS, MAX_TASKS, SHARED_WORDS, WINDOW_WORDS}
use Rattle.osek_base.specs.declared.status.Status.{Status}
use Rattle.osek_base.specs.declared.status.TaskState.{TaskState}
use Rattle.osek_base.specs.declared.trace_event.Effect.{Effect}
use Rattle.osek_base.specs.declared.trace_event.Results.{Results}
use Rattle.osek_base.specs.declared.trace_event.Source.{Source}
use Rattle.osek_base.specs.declared.trace_event.TraceEvent.{TraceEvent}
use Rattle.osek_base.specs.Instruction.{Context, next, operate, plain, value, with_value}
use Rattle.osek_base.specs.Lists.{same_owner}
use Rattle.osek_base.specs.Proper.{IsProper, is_proper_control, is_proper_mask, is_proper_plain, is_proper_service, is_register, is_word}
use Rattle.osek_base.specs.Reschedule.{Recorded, hooked}
use Rattle.osek_base.specs.Service.{Caller, JobCalls, RoutineCalls, NobodyCalls, controlled, first_refusal, reply_to, refusals, remaining, results, running_task, service, state_number, task_state, word_of}
use Rattle.osek_base.specs.Alarm.{count, expiry}
use Rattle.osek_base.specs.State.{Job, Active, Expiry, JobId, State, interrupts_off, same_id, shared_window, with_job, words_after}
use Rattle.osek_base.specs.System.{System, alarm, instruction_at}
use Rattle.osek_base.specs.Tick.{answered, at_values, caller_executes, error_record, execute_phase, executed, executor, job_moved, moved, shutdown_record, status_number, with_context}
use Rattle.osek_base.specs.Types.{PlainInstr, ServiceCall}
use Rattle.osek_base.proofs.PlaceLemmas.{known_place}
use Rattle.law_runs.proofs.Formed.{HasActive, HasForm, IsPlacedJob, IsPlacedRoutine}
use Rattle.law_runs.proofs.Known.{IsCaller, executor_calls}
use Rattle.law_runs.proofs.Lists.{cond_both, found}
use Rattle.law_runs.proofs.Single.{HasRunner, IsSingle}
use Rattle.law_lines.proofs.Events.{AreAnswered, IsInRange, IsShown, small_status}
use Rattle.law_lines.proofs.Instructions.{IsAllowed, allowed_at, proper_mask}
use Rattle.law_lines.specs.HeldWords.{IsWord, AreWords, IsNear}
use Rattle.law_lines.proofs.Words.{HasWords, AreOperands, IsWordJob, any_counter, each_at, each_set, jobs_changed, of_jobs, of_service, word_at}

-- ---- operands

operands_at : (S : System) (x : Context) (call : ServiceCall) → AreWords x.registers
    → is_proper_service S call ≡ true
    → AreOperands (at_values x call)
operands_at S x (Service.StoreShared r i v) all proper = word_at x.registers v all
operands_at S x (Service.SetEvent t m) all proper =
    proper_mask m (and_parts _ (is_proper_mask m) proper).1
operands_at S x (Service.ClearEvent m) all proper = proper_mask m proper
operands_at S x (Service.SetRelAlarm a increment cycle) all proper =
    (word_at x.registers increment all, word_at x.registers cycle all)
operands_at S x (Service.SetAbsAlarm a start cycle) all proper = word_at x.registers cycle all
operands_at S x _ all proper = tt

-- ---- plain instructions

operated : (operation : Operation) (a b : ℕ) → IsWord a → IsWord b → IsWord (operate operation a b)
operated Operation.Add a b one other = mod-lt (a + b) {m = 2 ^ 32} (omega arith)
operated Operation.Sub a b one other = mod-lt (a + (2 ^ 32 - b)) {m = 2 ^ 32} (omega arith)
operated Operation.Mul a b one other = mod-lt (a * b) {m = 2 ^ 32} (omega arith)
operated Operation.And a b one other = and_lt 32 a b one other
operated Operation.Or a b one other = or_lt 32 a b one other
operated Operation.Xor a b one other = xor_lt 32 a b one other

module _ (size : ℕ) (x : Context) (words : ℕ → ℕ) (all : AreWords x.registers)
    (each : (i : ℕ) → IsWord (words i)) where
  abbrev IsDone : PlainInstr → Type 0
  IsDone p = AreWords (plain p x words).context.registers × IsShown (plain p x words).effect

  set_done : (d v : ℕ) → IsWord v → AreWords (with_value x d v).registers × IsWord v
  set_done d v word = (each_set IsWord x.registers d v word all, word)

  pub plain_done : (p : PlainInstr) → is_proper_plain size p ≡ true → IsDone p
  plain_done Plain.Nop proper = (all, tt)
  plain_done (Plain.Li d n) proper =
      set_done d n (ltb-true n (2 ^ 32) (and_parts (is_register d) (is_word n) proper).1)
  plain_done (Plain.Mov d a) proper = set_done d (value x a) (word_at x.registers a all)
  plain_done (Plain.Compute operation d a b) proper =
      set_done d (operate operation (value x a) (value x b))
      (operated operation (value x a) (value x b) (word_at x.registers a all)
      (word_at x.registers b all))
  plain_done (Plain.Ld d a) proper =
      set_done d (words (value x a % WINDOW_WORDS)) (each (value x a % WINDOW_WORDS))
  plain_done (Plain.St a b) proper =
      let index = mod-lt (value x a) {m = WINDOW_WORDS} (omega arith) in
      (all, (omega (arith, index), word_at x.registers b all))
  plain_done (Plain.Jmp to) proper = (all, tt)
  plain_done (Plain.JumpIf test a b to) proper = (all, tt)

words_stored : (words : Owner → ℕ → ℕ) (who : Owner) (effect : Effect)
    → ((o : Owner) (i : ℕ) → IsWord (words o i)) → IsShown effect
    → (o : Owner) (i : ℕ) → IsWord (words_after words who effect o i)
words_stored words who Effect.Nothing each shown o i = each o i
words_stored words who (Effect.Value v) each shown o i = each o i
words_stored words who (Effect.Stored index v) each shown o i =
    cond_both IsWord (same_owner o who && i == index) v (words o i) shown.1 (each o i)

-- ---- answers

small_state : (now : TaskState) → IsWord (state_number now)
small_state TaskState.Running = omega arith
small_state TaskState.Waiting = omega arith
small_state TaskState.Ready = omega arith
small_state TaskState.Suspended = omega arith

little_left : (n : ℕ) (e : Option Expiry) → IsNear n e → IsWord (remaining n e)
little_left n None near = omega arith
little_left n (Some e) near = let low = near.0 in omega (arith, low)

word_shared : (shared : List (List ℕ)) (r : ResId) (i : ℕ) → AllByRecursion AreWords shared
    → IsWord (word_of shared r i)
word_shared shared (ResId.Declared r) i all =
    word_at (shared_window shared r) (i % SHARED_WORDS) (each_at AreWords shared r _ tt all)
word_shared shared ResId.Scheduler i all = omega arith

eight : (a b c d e f g h : Bool) → (a && b && c && d && e && f && g && h) ≡ true → a ≡ true
eight true b c d e f g h all = refl
eight false b c d e f g h all = all

module _ (S : System) (proper : IsProper S) (s : State) where
  few_tasks : length S.tasks ≤ MAX_TASKS
  few_tasks = leb-true (length S.tasks) MAX_TASKS (eight _ _ _ _ _ _ _ _ proper.limits)

  pub runner_known : (r : Option JobId) → IsSingle S s → HasRunner s.made s.jobs r
      → IsWord (running_task r)
  runner_known None single h = omega arith
  runner_known (Some r) single h =
      let few = few_tasks in
      let made = single.known in
      let given = h.given in
      elim (cases_lt r.task (length s.made)) [
        | inl inside ↦ omega (arith, inside, made, few)
        | inr past ↦
            let none = get_or_past s.made r.task 0 past in
            absurd (omega (arith, none, given))
      ]

  module _ (h : HasWords S s) (runner : IsWord (running_task s.running)) (x : Context) where
    results_small : (call : ServiceCall)
        → AreAnswered call Status.Ok (results S s (at_values x call))
    results_small Service.GetTaskId = runner
    results_small (Service.GetTaskState (Some t)) = small_state (task_state s t)
    results_small (Service.LoadShared (Some r) i) =
        word_shared s.shared r (value x i) h.objects.shared
    results_small (Service.GetEvent (Some t)) = word_at s.masks t h.objects.masks
    results_small (Service.GetAlarm (Some a)) =
        little_left (count S s a) (expiry s a) (h.objects.alarms a)
    results_small (Service.GetAlarmBase (Some a)) =
        let small = any_counter S (alarm S a).counter proper in
        let most = small.most in
        let least = small.least in (
          record { alarm = Some a; asks = refl; done = refl },
          (omega (arith, most), (small.base, omega (arith, least))),
        )
    results_small _ = tt

    reply_small : (c : Caller) (call : ServiceCall) (o : Option Status)
        → AreAnswered call (reply_to S c s (at_values x call) o).status
        (reply_to S c s (at_values x call) o).results
    reply_small c call None = results_small call
    reply_small c call (Some refusal) = tt

    pub service_small : (c : Caller) (call : ServiceCall)
        → AreAnswered call (service S c s (at_values x call)).status
        (service S c s (at_values x call)).results
    unfolding service
    service_small c call =
        reply_small c call
        (first_refusal
        ((interrupts_off s, Status.SysDisabled) ∷ refusals S c s (at_values x call)))

-- ---- what an instruction leaves

answered_words : (x : Context) (call : ServiceCall) (answer : Status) (found : Results)
    → AreWords x.registers
    → AreAnswered call answer found → AreWords (answered answer found x).registers
answered_words x call answer found all small = go found small
  where
    first : AreWords (with_value x 0 (status_number answer)).registers
    first =
        let low = small_status answer in
        each_set IsWord x.registers 0 (status_number answer) (omega (arith, low)) all

    go : (found : Results) → AreAnswered call answer found
        → AreWords (answered answer found x).registers
    go Results.Nothing h = first
    go (Results.One a) h =
        each_set IsWord (with_value x 0 (status_number answer)).registers 1 a h first
    go (Results.Three a b c) h =
        let one = with_value x 0 (status_number answer) in
        let second = each_set IsWord one.registers 1 a h.1.0 first in
        let third = each_set IsWord (with_value one 1 a).registers 2 b h.1.1.0 second in
        each_set IsWord (with_value (with_value one 1 a) 2 b).registers 3 c h.1.1.1 third

-- records in range, and a state with words
pub record IsRecorded (S : System) (r : Recorded) : Type 0 where
  pub events : AllByRecursion (IsInRange S) r.events
  pub state : HasWords S r.state

module _ (S : System) where
  moved_words : (x : Context) (active : Option Active) → AreWords x.registers
      → IfSome active (λ a. AreWords a.context.registers)
      → IfSome (option_map (moved x) active) (λ a. AreWords a.context.registers)
  moved_words x None all h = tt
  moved_words x (Some a) all h = all

  of_context : (c : Caller) (x : Context) (s : State) → AreWords x.registers → HasWords S s
      → HasWords S (with_context c x s)
  of_context (JobCalls j) x s all h = record {
    objects = of_jobs S s.tick s h.objects (with_job j.id (job_moved x) s.jobs)
        (jobs_changed j.id (job_moved x) s.jobs (λ k own. all) h.objects.jobs);
    active = h.active;
    words = h.words;
  }
  of_context (RoutineCalls a) x s all h =
      record { objects = h.objects; active = moved_words x s.active all h.active; words = h.words }
  of_context NobodyCalls x s all h = h

  of_control : (control : Control ℕ) (s : State) → HasWords S s → HasWords S (controlled control s)
  of_control Control.ReturnFromInterrupt s h =
      record { objects = h.objects; active = tt; words = h.words }
  of_control _ s h = h

  -- ---- an instruction of whoever executes

  pub hooked_range : (on : Bool) (e : TraceEvent) → IsInRange S e
      → AllByRecursion (IsInRange S) (hooked on e)
  hooked_range true e h = (h, tt)
  hooked_range false e h = tt

  pub error_range : (who : Source) (what : Instr) (answer : Status) → IsAllowed S what
      → AllByRecursion (IsInRange S) (error_record S who what answer)
  error_range who what Status.Ok h = tt
  error_range who what Status.Access h =
      hooked_range S.hooks.error (TraceEvent.Error who what Status.Access) h
  error_range who what Status.CallLevel h =
      hooked_range S.hooks.error (TraceEvent.Error who what Status.CallLevel) h
  error_range who what Status.Id h =
      hooked_range S.hooks.error (TraceEvent.Error who what Status.Id) h
  error_range who what Status.Limit h =
      hooked_range S.hooks.error (TraceEvent.Error who what Status.Limit) h
  error_range who what Status.NoFunc h =
      hooked_range S.hooks.error (TraceEvent.Error who what Status.NoFunc) h
  error_range who what Status.Resource h =
      hooked_range S.hooks.error (TraceEvent.Error who what Status.Resource) h
  error_range who what Status.State h =
      hooked_range S.hooks.error (TraceEvent.Error who what Status.State) h
  error_range who what Status.Value h =
      hooked_range S.hooks.error (TraceEvent.Error who what Status.Value) h
  error_range who what Status.SysDisabled h =
      hooked_range S.hooks.error (TraceEvent.Error who what Status.SysDisabled) h

  shutdown_range : (in_routine : Bool) (control : Control ℕ)
      → is_proper_control in_routine control ≡ true
      → AllByRecursion (IsInRange S) (shutdown_record S control)
  shutdown_range in_routine (Control.ShutdownOs n) proper =
      hooked_range S.hooks.shutdown (TraceEvent.Shutdown n) (ltb-true n (2 ^ 32) proper)
  shutdown_range in_routine _ proper = tt

  module _ (proper : IsProper S) (s : State) (h : HasWords S s)
      (runner : IsWord (running_task s.running)) where
    executed_recorded : (who : Owner) (c : Caller) (x : Context) (what : Instr)
        → AreWords x.registers → x.place ≤ MAX_INSTRUCTIONS
        → IsAllowed S what → IsRecorded S (executed S who c x what s)
    executed_recorded who c x (Instr.Plain p) all inside allowed =
        let done = plain p x (s.words who) in
        let both = plain_done allowed.size x (s.words who) all (h.words who) p allowed.operands in
        let words = words_stored s.words who done.effect h.words both.1 in
        record {
          events = ((inside, (allowed, both.1)), tt);
          state = of_context c done.context
              (record s { words = words_after s.words who done.effect })
              both.0 (record { objects = h.objects; active = h.active; words = words });
        }
    executed_recorded who c x (Instr.Service call) all inside allowed =
        let r = service S c s (at_values x call) in
        let small = service_small S proper s h runner x c call in
        let errors = error_range (Source.Owner who) (Instr.Service call) r.status allowed in
        record {
          events = ((inside, (allowed, small)), errors);
          state = of_context c (answered r.status r.results x) r.state
              (answered_words x call r.status r.results all small)
              (of_service S proper s h c (at_values x call)
              (operands_at S x call all allowed.operands));
        }
    executed_recorded who c x (Instr.Control control) all inside allowed =
        let shutdown = shutdown_range allowed.in_routine control allowed.operands in
        record {
          events = ((inside, (allowed, tt)), shutdown);
          state = of_context c (next x) (controlled control s) all (of_control control s h);
        }

    caller_recorded : (c : Caller) → HasForm S s → IsCaller s c
        → IsRecorded S (caller_executes S c s)
    caller_recorded (JobCalls j) form calls =
        let who = Owner.Task j.id.task in
        let is_it : Job → Bool = λ k. same_id k.id j.id in
        let here = (found (IsPlacedJob S) is_it s.jobs j form.formed.jobs calls.found).0 in
        let all = (found IsWordJob is_it s.jobs j h.objects.jobs calls.found).0 in
        let few = known_place S who j.context.place proper here.task here.context.place in
        let inside = here.context.place in
        let short = few.short in
        executed_recorded who (JobCalls j) j.context (instruction_at S who j.context.place) all
        (omega (arith, inside, short)) (allowed_at S who j.context.place proper)
    caller_recorded (RoutineCalls a) form calls =
        let who = Owner.Routine a.routine in
        let here : IsPlacedRoutine S a = subst (HasActive S) calls form.active in
        let all = subst (λ o. IfSome o (λ b. AreWords b.context.registers)) calls h.active in
        let few = known_place S who a.context.place proper here.routine here.context.place in
        let inside = here.context.place in
        let short = few.short in
        executed_recorded who (RoutineCalls a) a.context (instruction_at S who a.context.place) all
        (omega (arith, inside, short)) (allowed_at S who a.context.place proper)
    caller_recorded NobodyCalls form calls = record { events = (tt, tt); state = h }

  pub execute_recorded : (proper : IsProper S) (s : State) → IsSingle S s → HasForm S s
      → HasWords S s
      → IsRecorded S (execute_phase S s)
  unfolding execute_phase
  execute_recorded proper s single form h =
      caller_recorded proper s h (runner_known S proper s s.running single single.runs)
      (executor s) form (executor_calls s)
