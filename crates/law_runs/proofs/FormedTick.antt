-- Boot, each tick and so each run keep the form of a state.
use Rattle.std.proofs.Common.{◌≡◌, ℕ, ◌+◌, ◌<◌, ◌≤◌, ◌⊎◌, inl, inr, Bool, true, false, cond, ◌&&◌, nat_le, List, [], ◌∷◌, set, length, refl, sym, ◌∙◌, ap, subst, arith, length-set}
use Rattle.std.specs.Prelude.{Option, Some, None, ◌==◌}
use Rattle.std.specs.Option.{option_map}
use Rattle.std.specs.List.{AllByRecursion}
use Rattle.std.proofs.lemmas.List.{length-replicate, length-map}
use Rattle.osek_base.specs.declared.ids.Owner.{Owner}
use Rattle.osek_base.specs.declared.trace_event.Results.{Results}
use Rattle.osek_base.specs.declared.status.Status.{Status}
use Rattle.osek_base.specs.Types.{ServiceCall, PlainInstr}
use Rattle.osek_base.specs.declared.instr.Control.{Control}
use Rattle.osek_base.specs.declared.instr.Plain.{Plain}
use Rattle.osek_base.specs.declared.instr.Instr.{Instr}
use Rattle.osek_base.specs.declared.arrivals.Arrival.{Arrival}
use Rattle.osek_base.specs.System.{System, program, instruction_at, activation_of}
use Rattle.osek_base.specs.Instruction.{Context, plain, next, with_value, holds, value}
use Rattle.osek_base.specs.State.{Job, JobId, State, Active, same_id, jobs_of, words_after}
use Rattle.osek_base.specs.Activation.{activated}
use Rattle.osek_base.specs.Reschedule.{reschedule}
use Rattle.osek_base.specs.Service.{Caller, JobCalls, RoutineCalls, NobodyCalls, service, controlled}
use Rattle.osek_base.specs.Tick.{at_values, moved, job_moved, with_context, with_results, answered, executed, caller_executes, executor, execute_phase, before_execution, last_phase, tick}
use Rattle.osek_base.specs.Trace.{boot, all_activated, starting_tasks, run}
use Rattle.osek_base.specs.Proper.{IsProper, is_proper_instruction, is_end_instruction, is_register}
use Rattle.osek_base.proofs.PlaceLemmas.{is_routine, known_place, KnownPlace}
use Rattle.law_runs.proofs.Lists.{cond_both, some_inside, clash, found}
use Rattle.law_runs.proofs.Foremost.{same_ids}
use Rattle.law_runs.proofs.Known.{IsCaller, ActivatesKnown, executor_calls, proper_at}
use Rattle.law_runs.proofs.SingleTick.{true_lt, IsKnownInstr, any_instr_known, at_known, begun, started_keep, every_run}
use Rattle.law_runs.proofs.Formed.{IsPlaced, IsPlacedJob, IsPlacedRoutine, HasActive, IsLimited, HasForm}
use Rattle.law_runs.proofs.FormedService.{change_formed, activated_formed, service_formed}
use Rattle.law_runs.proofs.FormedPhases.{reschedule_form, before_form}
use Rattle.std.proofs.lemmas.Bool.{and_parts}

-- ---- what stays

pub pending_service : (S : System) (s : State) (c : Caller) (call : ServiceCall) → (service S c s call).state.pending ≡ s.pending
unfolding service
pending_service S s c call = refl

pub active_service : (S : System) (s : State) (c : Caller) (call : ServiceCall) → (service S c s call).state.active ≡ s.active
unfolding service
active_service S s c call = refl

-- ---- registers and places

results_registers : (found : Results) (x : Context) → length (with_results found x).registers ≡ length x.registers
results_registers Results.Nothing x = refl
results_registers (Results.One a) x = length-set x.registers 1 a
results_registers (Results.Three a b c) x =
    length-set (set (set x.registers 1 a) 2 b) 3 c ∙ length-set (set x.registers 1 a) 2 b ∙ length-set x.registers 1 a

results_place : (found : Results) (x : Context) → (with_results found x).place ≡ x.place
results_place Results.Nothing x = refl
results_place (Results.One a) x = refl
results_place (Results.Three a b c) x = refl

module _ (S : System) (proper : IsProper S) where
  -- the instruction behind one that doesn't end a program
  pub next_placed : (owner : Owner) (x y : Context) → IsPlaced S owner x → x.place + 1 < length (program S owner) → length y.registers ≡ length x.registers
      → y.place ≡ x.place + 1 → IsPlaced S owner y
  next_placed owner x y placed inside registers place =
      record { registers = registers ∙ placed.registers; place = subst (λ n. n < length (program S owner)) (sym place) inside }

  sets_placed : (owner : Owner) (x : Context) (d v : ℕ) → IsPlaced S owner x → x.place + 1 < length (program S owner) → IsPlaced S owner (next (with_value x d v))
  sets_placed owner x d v placed inside = next_placed owner x (next (with_value x d v)) placed inside (length-set x.registers d v) refl

  pub plain_placed : (owner : Owner) (in_routine : Bool) (x : Context) (p : PlainInstr) (words : ℕ → ℕ) → IsPlaced S owner x
      → is_proper_instruction S in_routine (length (program S owner)) (Instr.Plain p) ≡ true
      → (is_end_instruction (Instr.Plain p) ≡ false → x.place + 1 < length (program S owner)) → IsPlaced S owner (plain p x words).context
  plain_placed owner in_routine x Plain.Nop words placed operands inside = next_placed owner x (next x) placed (inside refl) refl refl
  plain_placed owner in_routine x (Plain.Li d n) words placed operands inside = sets_placed owner x d _ placed (inside refl)
  plain_placed owner in_routine x (Plain.Mov d a) words placed operands inside = sets_placed owner x d _ placed (inside refl)
  plain_placed owner in_routine x (Plain.Compute operation d a b) words placed operands inside = sets_placed owner x d _ placed (inside refl)
  plain_placed owner in_routine x (Plain.Ld d a) words placed operands inside = sets_placed owner x d _ placed (inside refl)
  plain_placed owner in_routine x (Plain.St a b) words placed operands inside = next_placed owner x (next x) placed (inside refl) refl refl
  plain_placed owner in_routine x (Plain.Jmp to) words placed operands inside =
      record { registers = placed.registers; place = true_lt to (length (program S owner)) operands }
  plain_placed owner in_routine x (Plain.JumpIf test a b to) words placed operands inside = record {
    registers = placed.registers;
    place = cond_both (λ (n : ℕ). n < length (program S owner)) (holds test (value x a) (value x b)) to (x.place + 1)
        (true_lt to (length (program S owner)) (and_parts (is_register a && is_register b) _ operands).1) (inside refl);
  }

  pub answered_placed : (owner : Owner) (status : Status) (found : Results) (x : Context) → IsPlaced S owner x → x.place + 1 < length (program S owner)
      → IsPlaced S owner (answered status found x)
  answered_placed owner status found x placed inside =
      next_placed owner x (answered status found x) placed inside
      (results_registers found (with_value x 0 _) ∙ length-set x.registers 0 _) (ap (λ n. n + 1) (results_place found (with_value x 0 _)))

  -- ---- phase 5

  -- a caller's place in its program
  abbrev pub IsPlacedCaller : Caller → Context → Type 0
  IsPlacedCaller (JobCalls j) x = IsPlaced S (Owner.Task j.id.task) x
  IsPlacedCaller (RoutineCalls a) x = IsPlaced S (Owner.Routine a.routine) x
  IsPlacedCaller NobodyCalls x = Unit {0}

  moved_active : (a : Active) (x : Context) (o : Option Active) → (o ≡ None) ⊎ (o ≡ Some a) → HasActive S o → IsPlaced S (Owner.Routine a.routine) x → HasActive S (option_map (moved x) o)
  moved_active a x None e active placed = tt
  moved_active a x (Some b) (inl e) active placed = absurd (grind arith)
  moved_active a x (Some b) (inr e) active placed =
      let same : b ≡ a = some_inside b a e in
      record { routine = active.routine; context = subst (λ (z : Active). IsPlaced S (Owner.Routine z.routine) x) (sym same) placed }

  -- the caller's routine is active, unless it has returned
  abbrev pub IsActiveCaller : Caller → State → Type 0
  IsActiveCaller (RoutineCalls a) s = (s.active ≡ None) ⊎ (s.active ≡ Some a)
  IsActiveCaller (JobCalls j) s = Unit {0}
  IsActiveCaller NobodyCalls s = Unit {0}

  with_context_form : (c : Caller) (x : Context) (s : State) → IsActiveCaller c s → IsPlacedCaller c x → HasForm S s → HasForm S (with_context c x s)
  with_context_form (JobCalls j) x s calls placed form =
      let both = change_formed S proper j.id (job_moved x) s.jobs (λ k. refl)
      (λ k e h. record { task = h.task; context = subst (λ (n : JobId). IsPlaced S (Owner.Task n.task) x) (sym (same_ids k.id j.id e)) placed }) form.formed.jobs form.formed.limited in
      record {
        formed = record { masks = form.formed.masks; alarms = form.formed.alarms; jobs = both.0; limited = both.1 };
        pending = form.pending;
        active = form.active;
      }
  with_context_form (RoutineCalls a) x s calls placed form = record {
    formed = record { masks = form.formed.masks; alarms = form.formed.alarms; jobs = form.formed.jobs; limited = form.formed.limited };
    pending = form.pending;
    active = moved_active a x s.active calls form.active placed;
  }
  with_context_form NobodyCalls x s calls placed form = record {
    formed = record { masks = form.formed.masks; alarms = form.formed.alarms; jobs = form.formed.jobs; limited = form.formed.limited };
    pending = form.pending;
    active = form.active;
  }

  -- what a state has of its form, where only other fields change
  pub record IsSameForm (s e : State) : Type 0 where
    pub masks : e.masks ≡ s.masks
    pub alarms : e.alarms ≡ s.alarms
    pub jobs : e.jobs ≡ s.jobs
    pub pending : e.pending ≡ s.pending

  same_form : (s e : State) → IsSameForm s e → HasActive S e.active → HasForm S s → HasForm S e
  same_form s e same active form = record {
    formed = record {
      masks = ap length same.masks ∙ form.formed.masks;
      alarms = ap length same.alarms ∙ form.formed.alarms;
      jobs = subst (AllByRecursion (IsPlacedJob S)) (sym same.jobs) form.formed.jobs;
      limited = subst (IsLimited S) (sym same.jobs) form.formed.limited;
    };
    pending = ap length same.pending ∙ form.pending;
    active = active;
  }

  abbrev pub is_return : Control ℕ → Bool
  is_return Control.ReturnFromInterrupt = true
  is_return _ = false

  controlled_same : (control : Control ℕ) (s : State) → IsSameForm s (controlled control s)
  controlled_same Control.DisableAllInterrupts s = record { masks = refl; alarms = refl; jobs = refl; pending = refl }
  controlled_same _ s = record { masks = refl; alarms = refl; jobs = refl; pending = refl }

  controlled_active : (control : Control ℕ) (s : State) → is_return control ≡ false → (controlled control s).active ≡ s.active
  controlled_active Control.ReturnFromInterrupt s h = clash h
  controlled_active _ s h = refl

  still_active : (c : Caller) (s e : State) → IsCaller s c → e.active ≡ s.active → IsActiveCaller c e
  still_active (JobCalls j) s e calls same = tt
  still_active (RoutineCalls a) s e calls same = inr (same ∙ calls)
  still_active NobodyCalls s e calls same = tt

  -- what is known of an instruction that is executed
  module _ (owner : Owner) (c : Caller) (x : Context) (s : State) (form : HasForm S s) (calls : IsCaller s c)
      (give : (y : Context) → IsPlaced S owner y → IsPlacedCaller c y) (placed : IsPlaced S owner x) where
    plain_form : (p : PlainInstr) → is_proper_instruction S (is_routine owner) (length (program S owner)) (Instr.Plain p) ≡ true
        → (is_end_instruction (Instr.Plain p) ≡ false → x.place + 1 < length (program S owner)) → HasForm S (executed S owner c x (Instr.Plain p) s).state
    plain_form p operands inside =
        let done = plain p x (s.words owner) in
        with_context_form c done.context (record s { words = words_after s.words owner done.effect }) (still_active c s (record s { words = words_after s.words owner done.effect }) calls refl)
        (give done.context (plain_placed owner (is_routine owner) x p (s.words owner) placed operands inside))
        (same_form s (record s { words = words_after s.words owner done.effect }) (record { masks = refl; alarms = refl; jobs = refl; pending = refl }) form.active form)

    service_form : (call : ServiceCall) → ActivatesKnown S (at_values x call) → x.place + 1 < length (program S owner) → HasForm S (executed S owner c x (Instr.Service call) s).state
    service_form call known inside =
        let r = service S c s (at_values x call) in
        with_context_form c (answered r.status r.results x) r.state (still_active c s r.state calls (active_service S s c (at_values x call)))
        (give (answered r.status r.results x) (answered_placed owner r.status r.results x placed inside))
        (record {
          formed = service_formed S proper s c (at_values x call) calls known form.formed;
          pending = ap length (pending_service S s c (at_values x call)) ∙ form.pending;
          active = subst (HasActive S) (sym (active_service S s c (at_values x call))) form.active;
        })

    control_form : (control : Control ℕ) → is_return control ≡ false → x.place + 1 < length (program S owner) → HasForm S (executed S owner c x (Instr.Control control) s).state
    control_form control other inside =
        with_context_form c (next x) (controlled control s) (still_active c s (controlled control s) calls (controlled_active control s other))
        (give (next x) (next_placed owner x (next x) placed inside refl refl))
        (same_form s (controlled control s) (controlled_same control s) (subst (HasActive S) (sym (controlled_active control s other)) form.active) form)

  -- a routine returns
  return_form : (a : Active) (x : Context) (s : State) → HasForm S s → HasForm S (executed S (Owner.Routine a.routine) (RoutineCalls a) x (Instr.Control Control.ReturnFromInterrupt) s).state
  return_form a x s form =
      same_form s (with_context (RoutineCalls a) (next x) (controlled Control.ReturnFromInterrupt s)) (record { masks = refl; alarms = refl; jobs = refl; pending = refl }) tt form

  control_ends : (control : Control ℕ) → is_return control ≡ false → is_end_instruction (Instr.Control control) ≡ false
  control_ends Control.ReturnFromInterrupt h = clash h
  control_ends Control.DisableAllInterrupts h = refl
  control_ends _ h = refl

  is_return_at : (control : Control ℕ) → is_return control ≡ true → control ≡ Control.ReturnFromInterrupt
  is_return_at Control.ReturnFromInterrupt h = refl
  is_return_at _ h = clash (sym h)

  -- a job's instruction, and a routine's
  job_form : (j : Job) (what : Instr) (s : State) → HasForm S s → IsCaller s (JobCalls j) → IsPlaced S (Owner.Task j.id.task) j.context
      → is_proper_instruction S false (length (program S (Owner.Task j.id.task))) what ≡ true → IsKnownInstr S what
      → (is_end_instruction what ≡ false → j.context.place + 1 < length (program S (Owner.Task j.id.task)))
      → HasForm S (executed S (Owner.Task j.id.task) (JobCalls j) j.context what s).state
  job_form j (Instr.Plain p) s form calls placed operands known inside =
      plain_form (Owner.Task j.id.task) (JobCalls j) j.context s form calls (λ y h. h) placed p operands inside
  job_form j (Instr.Service call) s form calls placed operands known inside =
      service_form (Owner.Task j.id.task) (JobCalls j) j.context s form calls (λ y h. h) placed call (at_known S j.context call known) (inside refl)
  job_form j (Instr.Control control) s form calls placed operands known inside = go (is_return control) refl
    where
      go : (b : Bool) → is_return control ≡ b → HasForm S (executed S (Owner.Task j.id.task) (JobCalls j) j.context (Instr.Control control) s).state
      go false other = control_form (Owner.Task j.id.task) (JobCalls j) j.context s form calls (λ y h. h) placed control other (inside (control_ends control other))
      go true same =
          clash (sym (subst (λ k. is_proper_instruction S false (length (program S (Owner.Task j.id.task))) (Instr.Control k) ≡ true) (is_return_at control same) operands))

  routine_form : (a : Active) (what : Instr) (s : State) → HasForm S s → IsCaller s (RoutineCalls a) → IsPlaced S (Owner.Routine a.routine) a.context
      → is_proper_instruction S true (length (program S (Owner.Routine a.routine))) what ≡ true → IsKnownInstr S what
      → (is_end_instruction what ≡ false → a.context.place + 1 < length (program S (Owner.Routine a.routine)))
      → HasForm S (executed S (Owner.Routine a.routine) (RoutineCalls a) a.context what s).state
  routine_form a (Instr.Plain p) s form calls placed operands known inside =
      plain_form (Owner.Routine a.routine) (RoutineCalls a) a.context s form calls (λ y h. h) placed p operands inside
  routine_form a (Instr.Service call) s form calls placed operands known inside =
      service_form (Owner.Routine a.routine) (RoutineCalls a) a.context s form calls (λ y h. h) placed call (at_known S a.context call known) (inside refl)
  routine_form a (Instr.Control control) s form calls placed operands known inside = go (is_return control) refl
    where
      go : (b : Bool) → is_return control ≡ b → HasForm S (executed S (Owner.Routine a.routine) (RoutineCalls a) a.context (Instr.Control control) s).state
      go false other = control_form (Owner.Routine a.routine) (RoutineCalls a) a.context s form calls (λ y h. h) placed control other (inside (control_ends control other))
      go true same =
          subst (λ k. HasForm S (executed S (Owner.Routine a.routine) (RoutineCalls a) a.context (Instr.Control k) s).state) (sym (is_return_at control same)) (return_form a a.context s form)

  caller_form : (c : Caller) (s : State) → HasForm S s → IsCaller s c → HasForm S (caller_executes S c s).state
  caller_form (JobCalls j) s form calls =
      let here : IsPlacedJob S j = (found (IsPlacedJob S) (λ k. same_id k.id j.id) s.jobs j form.formed.jobs calls.found).0 in
      let known : KnownPlace S (Owner.Task j.id.task) j.context.place = known_place S (Owner.Task j.id.task) j.context.place proper here.task here.context.place in
      job_form j (instruction_at S (Owner.Task j.id.task) j.context.place) s form calls here.context known.operands
      (any_instr_known S (Owner.Task j.id.task) j.context.place proper) known.next
  caller_form (RoutineCalls a) s form calls =
      let here : IsPlacedRoutine S a = subst (HasActive S) calls form.active in
      let known : KnownPlace S (Owner.Routine a.routine) a.context.place = known_place S (Owner.Routine a.routine) a.context.place proper here.routine here.context.place in
      routine_form a (instruction_at S (Owner.Routine a.routine) a.context.place) s form calls here.context known.operands
      (any_instr_known S (Owner.Routine a.routine) a.context.place proper) known.next
  caller_form NobodyCalls s form calls = form

  execute_form : (s : State) → HasForm S s → HasForm S (execute_phase S s).state
  unfolding execute_phase
  execute_form s form = caller_form (executor s) s form (executor_calls s)

  -- ---- phase 6, a tick, boot and a run

  last_form : (s : State) → HasForm S s → HasForm S (last_phase S s).state
  last_form s form = go s.over
    where
      go : (b : Bool) → HasForm S (cond b (record { events = []; state = s }) (reschedule S s)).state
      go true = form
      go false = reschedule_form S proper s form

  pub tick_form : (arrived : List ℕ) (s : State) → HasForm S s → HasForm S (tick S arrived s).after
  unfolding tick
  tick_form arrived s form =
      let last : State = (last_phase S (execute_phase S (before_execution S arrived s).state).state).state in
      let good : HasForm S last = last_form (execute_phase S (before_execution S arrived s).state).state (execute_form (before_execution S arrived s).state (before_form S proper arrived s form)) in
      same_form last (record last { tick = last.tick + 1 }) (record { masks = refl; alarms = refl; jobs = refl; pending = refl }) good.active good

  none_of : (t : ℕ) (jobs : List Job) → AllByRecursion (λ (j : Job). j.id.task < t) jobs → length (jobs_of t jobs) < 1
  none_of t [] all = omega arith
  none_of t (j ∷ jobs) all = go (j.id.task == t) refl (none_of t jobs all.1)
    where
      go : (b : Bool) → (j.id.task == t) ≡ b → length (jobs_of t jobs) < 1 → length (cond b (j ∷ jobs_of t jobs) (jobs_of t jobs)) < 1
      go true e rest = absurd (differ j.id.task t e all.0)
        where
          differ : (m n : ℕ) → (m == n) ≡ true → m < n → ⊥
          differ m n h less = grind (arith, h, less)
      go false e rest = rest

  at_least_one : (t : ℕ) → t < length S.tasks → 1 ≤ activation_of S t
  at_least_one t inside =
      let here = and_parts _ _ (and_parts _ _ (and_parts _ _ (and_parts _ _ (proper_at S t proper inside)).0).0).0 in
      positive (activation_of S t) (and_parts (nat_le 1 (activation_of S t)) _ (and_parts _ _ here.0).0).0
    where
      positive : (n : ℕ) → nat_le 1 n ≡ true → 1 ≤ n
      positive n h = grind (arith, h)

  pending_activated : (t : ℕ) (s : State) → (activated S t s).pending ≡ s.pending
  unfolding activated
  pending_activated t s = refl

  active_activated : (t : ℕ) (s : State) → (activated S t s).active ≡ s.active
  unfolding activated
  active_activated t s = refl

  first_form : (t : ℕ) (s : State) → t < length S.tasks → AllByRecursion (λ (j : Job). j.id.task < t) s.jobs → HasForm S s → HasForm S (activated S t s)
  first_form t s inside older form = record {
    formed = activated_formed S proper t s inside (let none = none_of t s.jobs older in let one = at_least_one t inside in omega arith) form.formed;
    pending = ap length (pending_activated t s) ∙ form.pending;
    active = subst (HasActive S) (sym (active_activated t s)) form.active;
  }

  begun_form : (mode : ℕ) → HasForm S (begun S proper mode)
  begun_form mode = record {
    formed = record {
      masks = length-replicate (length S.tasks) 0;
      alarms = length-map S.alarms _;
      jobs = tt;
      limited = λ t. omega arith;
    };
    pending = length-replicate (length S.routines) false;
    active = tt;
  }

  pub boot_form : (mode : ℕ) → HasForm S (boot S mode).state
  unfolding boot
  boot_form mode =
      reschedule_form S proper (all_activated S (starting_tasks S mode) (begun S proper mode)) (started_keep S proper (HasForm S) first_form mode (begun_form mode))

  pub run_form : (mode : ℕ) (arrivals : List Arrival) (n : ℕ) → HasForm S (run S mode arrivals n).state
  run_form mode arrivals n = every_run S mode (HasForm S) (boot_form mode) (λ arrived s going form. tick_form arrived s form) arrivals n
