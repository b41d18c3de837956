-- The execute phase in the system and in its upper core.
use Rattle.std.proofs.Common.{◌≡◌, ℕ, ◌<◌, Bool, true, false, cond, List, [], ◌∷◌, refl, sym, ◌∙◌, ap, subst, arith}
use Rattle.std.proofs.Math.ListN.{get_or-map}
use Rattle.std.specs.Prelude.{Option, Some, None, ◌==◌}
use Rattle.std.specs.List.{find, AllByRecursion}
use Rattle.std.specs.Option.{option_map}
use Rattle.osek_base.specs.declared.ids.Owner.{Owner}
use Rattle.osek_base.specs.Types.{ServiceCall, PlainInstr}
use Rattle.osek_base.specs.declared.instr.Plain.{Plain}
use Rattle.osek_base.specs.declared.instr.Instr.{Instr}
use Rattle.osek_base.specs.declared.trace_event.Effect.{Effect}
use Rattle.osek_base.specs.declared.trace_event.Outcome.{Outcome}
use Rattle.osek_base.specs.declared.trace_event.Source.{Source}
use Rattle.osek_base.specs.declared.trace_event.TraceEvent.{TraceEvent}
use Rattle.osek_base.specs.System.{System, Task, instruction_in, instruction_at, program}
use Rattle.osek_base.specs.Instruction.{Context, Done, plain}
use Rattle.osek_base.specs.State.{Job, JobId, Active, State, Words, same_id, job_of, words_after}
use Rattle.osek_base.specs.Service.{JobCalls, RoutineCalls, NobodyCalls, Reply, service}
use Rattle.osek_base.specs.Tick.{at_values, answered, with_context, job_moved, executed, error_record, caller_executes, caller_of, running_caller, job_caller, execute_phase}
use Rattle.osek_base.specs.Upper.{is_upper_owner}
use Rattle.osek_base.specs.Agree.{renumbered, upper_core}
use Rattle.osek_base.specs.Proper.{IsProper}
use Rattle.osek_base.specs.Separable.{Separable}
use Rattle.osek_base.proofs.ForemostLemmas.{keep}
use Rattle.partition_check.proofs.UpperState.{up, up_job, up_jobs, is_upper_id, is_upper_job, upper_count}
use Rattle.partition_check.proofs.UpperWords.{up_words, lower_write}
use Rattle.partition_check.proofs.Ranks.{clash}
use Rattle.partition_check.proofs.PriorityUp.{first_tasks}
use Rattle.partition_check.proofs.JobsUp.{same_id_upper, job_of_up, with_job_unseen}
use Rattle.partition_check.proofs.LayersKept.{lower_service_layered}
use Rattle.partition_check.proofs.ServiceLow.{service_unseen}
use Rattle.partition_check.proofs.Dispatch.{lines_append}
use Rattle.partition_check.proofs.AlarmActs.{AreAlike}
use Rattle.partition_check.proofs.TextUp.{error_unseen, other_lines, idle_lines}
use Rattle.partition_check.proofs.ProgramFacts.{IsLowerInstr, upper_task_instr, routine_instr, routine_asks_not, lower_instr}
use Rattle.partition_check.proofs.ExecutedUp.{executed_alike, with_context_layered, words_layered, at_known, at_upper, at_scheduler}
use Rattle.partition_check.proofs.Shared.{IsCounterpart, IsLow, IsLayered, IsLayeredJob, IsLowerCall}
use Rattle.std.proofs.lemmas.Bool.{and_parts}

-- ---- a lower job executes

words_after_unseen : (S : System) (p : ℕ) (words : Words) (who : Owner) (e : Effect) → is_upper_owner S p who ≡ false
    → up_words S p (words_after words who e) ≡ up_words S p words
words_after_unseen S p words who (Effect.Stored index v) low = lower_write S p words who index v low
words_after_unseen S p words who (Effect.Value v) low = refl
words_after_unseen S p words who Effect.Nothing low = refl

context_unseen : (S : System) (p : ℕ) (j : Job) (x : Context) (s : State) → is_upper_job S p j ≡ false
    → up S p (with_context (JobCalls j) x s) ≡ up S p s
context_unseen S p j x s low =
    let same = with_job_unseen S p j.id (job_moved x) s.jobs low (λ k. refl) in
    λ i. record (up S p s) { jobs = same i }

module _ (S : System) (p : ℕ) (both : IsCounterpart S p) (j : Job) (x : Context) (s : State)
    (layered : IsLayered S p s) (laid : IsLayeredJob S p j) (low : is_upper_job S p j ≡ false) where
  lower_plain : (act : PlainInstr) → AreAlike S p (executed S (Owner.Task j.id.task) (JobCalls j) x (Instr.Plain act) s)
      (record { events = TraceEvent.Idle ∷ []; state = up S p s })
  lower_plain act =
      let done : Done = plain act x (s.words (Owner.Task j.id.task)) in
      let words = words_after_unseen S p s.words (Owner.Task j.id.task) done.effect low in
      record {
        state =
            context_unseen S p j done.context (record s { words = words_after s.words (Owner.Task j.id.task) done.effect }) low
            ∙ λ i. record (up S p s) { words = words i };
        lines = other_lines S p both (Owner.Task j.id.task) x.place (Instr.Plain act) (Outcome.Plain done.effect) low;
        layered = with_context_layered S p (JobCalls j) done.context (record s { words = words_after s.words (Owner.Task j.id.task) done.effect }) (words_layered S p (words_after s.words (Owner.Task j.id.task) done.effect) s layered);
      }

  lower_service : (call : ServiceCall) → IsLowerInstr S p (Instr.Service call)
      → AreAlike S p (executed S (Owner.Task j.id.task) (JobCalls j) x (Instr.Service call) s)
      (record { events = TraceEvent.Idle ∷ []; state = up S p s })
  lower_service call named =
      let may : IsLowerCall S p (at_values x call) =
      record {
        known = at_known S x call named.known;
        names = at_upper S p x call ∙ named.names;
        no_scheduler = at_scheduler x call ∙ named.no_scheduler;
      } in
      let mine : Reply = service S (JobCalls j) s (at_values x call) in
      record {
        state =
            context_unseen S p j (answered mine.status mine.results x) mine.state low
            ∙ service_unseen S p both s (JobCalls j) (at_values x call) (laid, low) may;
        lines =
            lines_append S p (TraceEvent.Executed (Owner.Task j.id.task) x.place (Instr.Service call) (Outcome.Answer mine.status mine.results) ∷ []) (error_record S (Source.Owner (Owner.Task j.id.task)) (Instr.Service call) mine.status)
            (TraceEvent.Idle ∷ []) []
            (other_lines S p both (Owner.Task j.id.task) x.place (Instr.Service call) (Outcome.Answer mine.status mine.results) low)
            (error_unseen S p both (Owner.Task j.id.task) (Instr.Service call) mine.status low);
        layered = with_context_layered S p (JobCalls j) (answered mine.status mine.results x) mine.state (lower_service_layered S p s (JobCalls j) (at_values x call) layered (laid, low) may);
      }

  pub executed_lower : (what : Instr) → IsLowerInstr S p what
      → AreAlike S p (executed S (Owner.Task j.id.task) (JobCalls j) x what s) (record { events = TraceEvent.Idle ∷ []; state = up S p s })
  executed_lower (Instr.Plain act) named = lower_plain act
  executed_lower (Instr.Service call) named = lower_service call named
  executed_lower (Instr.Control control) named = absurd (named.no_control control refl)

-- ---- the same instruction stands there

module _ (S : System) (p : ℕ) (both : IsCounterpart S p) where
  pub task_instruction : (t place : ℕ) → t < upper_count S p
      → instruction_at (upper_core S p) (Owner.Task t) place ≡ renumbered S p (instruction_at S (Owner.Task t) place)
  task_instruction t place first =
      ap (λ (a : Task). instruction_in a.program place) (both.tasks t first)
      ∙ get_or-map (renumbered S p) (program S (Owner.Task t)) place (Instr.Plain Plain.Nop)

  pub routine_instruction : (i place : ℕ)
      → instruction_at (upper_core S p) (Owner.Routine i) place ≡ renumbered S p (instruction_at S (Owner.Routine i) place)
  routine_instruction i place =
      ap (λ all. instruction_in all place) (both.routine_programs i)
      ∙ get_or-map (renumbered S p) (program S (Owner.Routine i)) place (Instr.Plain Plain.Nop)

-- ---- who executes

pub found : {X : Type 0} (P : X → Type 0) (test : X → Bool) (xs : List X) (x : X) → AllByRecursion P xs → find test xs ≡ Some x
    → P x × (test x ≡ true)
found P test [] x all h = absurd (grind arith)
found {X} P test (y ∷ xs) x all h = go (test y) refl h (found P test xs x all.1)
  where
    go : (b : Bool) → test y ≡ b → cond b (Some y) (find test xs) ≡ Some x → (find test xs ≡ Some x → P x × (test x ≡ true)) → P x × (test x ≡ true)
    go true e k rest =
        let same : y ≡ x = grind arith in
        (subst P same all.0, subst (λ z. test z ≡ true) same e)
    go false e k rest = rest k

pub same_ids : (a b : JobId) → same_id a b ≡ true → a ≡ b
same_ids a b h =
    let both = and_parts (a.task == b.task) (a.serial == b.serial) h in
    let task : a.task ≡ b.task = equal a.task b.task both.0 in
    let serial : a.serial ≡ b.serial = equal a.serial b.serial both.1 in
    λ i. record { task = task i; serial = serial i }
  where
    equal : (m n : ℕ) → (m == n) ≡ true → m ≡ n
    equal m n g = grind (arith, g)

some_inside : {X : Type 0} (a b : X) → Some a ≡ Some b → a ≡ b
some_inside a b h = grind arith

module _ (S : System) (p : ℕ) (both : IsCounterpart S p) (below : IsLow S p) (proper : IsProper S) (separable : Separable S p)
    (s : State) (layered : IsLayered S p s) where
  routine_alike : (a : Active) → s.active ≡ Some a
      → AreAlike S p (caller_executes S (RoutineCalls a) s) (caller_executes (upper_core S p) (RoutineCalls a) (up S p s))
  routine_alike a active =
      subst (λ what. AreAlike S p (caller_executes S (RoutineCalls a) s) (executed (upper_core S p) (Owner.Routine a.routine) (RoutineCalls a) a.context what (up S p s)))
      (sym (routine_instruction S p both a.routine a.context.place))
      (executed_alike S p both below (Owner.Routine a.routine) (RoutineCalls a) a.context s layered tt refl tt (λ call. tt)
      (λ id e low idle. none_some a (sym idle ∙ active))
      (instruction_at S (Owner.Routine a.routine) a.context.place)
      (routine_instr S p proper separable a.routine a.context.place)
      (λ b e. routine_asks_not S p proper separable a.routine a.context.place))
    where
      none_some : {X : Type 0} (x : X) → None ≡ Some x → ⊥
      none_some x h = grind arith

  idle_alike : AreAlike S p (caller_executes S NobodyCalls s) (caller_executes (upper_core S p) NobodyCalls (up S p s))
  idle_alike = record { state = refl; lines = idle_lines S p both; layered = layered }

  upper_alike : (j : Job) → IsLayeredJob S p j → is_upper_job S p j ≡ true → s.running ≡ Some j.id
      → AreAlike S p (caller_executes S (JobCalls j) s) (caller_executes (upper_core S p) (JobCalls (up_job S p j)) (up S p s))
  upper_alike j laid high runs =
      subst (λ what. AreAlike S p (caller_executes S (JobCalls j) s) (executed (upper_core S p) (Owner.Task j.id.task) (JobCalls (up_job S p j)) j.context what (up S p s)))
      (sym (task_instruction S p both j.id.task j.context.place (first_tasks S p both j.id.task laid.task high)))
      (executed_alike S p both below (Owner.Task j.id.task) (JobCalls j) j.context s layered laid.task high (laid, high, runs) (λ call. tt)
      (λ id e low idle. clash (sym high ∙ ap (is_upper_id S p) (some_inside j.id id (sym runs ∙ e)) ∙ low))
      (instruction_at S (Owner.Task j.id.task) j.context.place)
      (upper_task_instr S p proper separable j.id.task j.context.place laid.task high)
      (λ b e. absurd (grind arith)))

  lower_alike : (j : Job) → IsLayeredJob S p j → is_upper_job S p j ≡ false
      → AreAlike S p (caller_executes S (JobCalls j) s) (caller_executes (upper_core S p) NobodyCalls (up S p s))
  lower_alike j laid low =
      executed_lower S p both j j.context s layered laid low (instruction_at S (Owner.Task j.id.task) j.context.place)
      (lower_instr S p proper separable j.id.task j.context.place laid.task low)

  -- by who runs
  job_upper : (r : JobId) → s.running ≡ Some r → is_upper_id S p r ≡ true → (o : Option Job) → job_of r s.jobs ≡ o
      → AreAlike S p (caller_executes S (job_caller o) s) (caller_executes (upper_core S p) (job_caller (option_map (up_job S p) o)) (up S p s))
  job_upper r runs high None e = idle_alike
  job_upper r runs high (Some j) e =
      let here = found (IsLayeredJob S p) (λ k. same_id k.id r) s.jobs j layered.jobs e in
      upper_alike j here.0 (same_id_upper S p j.id r here.1 ∙ high) (runs ∙ ap Some (sym (same_ids j.id r here.1)))

  job_lower : (r : JobId) → is_upper_id S p r ≡ false → (o : Option Job) → job_of r s.jobs ≡ o
      → AreAlike S p (caller_executes S (job_caller o) s) (caller_executes (upper_core S p) NobodyCalls (up S p s))
  job_lower r low None e = idle_alike
  job_lower r low (Some j) e =
      let here = found (IsLayeredJob S p) (λ k. same_id k.id r) s.jobs j layered.jobs e in
      lower_alike j here.0 (same_id_upper S p j.id r here.1 ∙ low)

  runner_alike : (running : Option JobId) → s.running ≡ running
      → AreAlike S p (caller_executes S (running_caller running s.jobs) s)
      (caller_executes (upper_core S p) (running_caller (keep (is_upper_id S p) running) (up_jobs S p s.jobs)) (up S p s))
  runner_alike None runs = idle_alike
  runner_alike (Some r) runs = go (is_upper_id S p r) refl
    where
      go : (b : Bool) → is_upper_id S p r ≡ b
          → AreAlike S p (caller_executes S (running_caller (Some r) s.jobs) s)
          (caller_executes (upper_core S p) (running_caller (cond b (Some r) None) (up_jobs S p s.jobs)) (up S p s))
      go true high =
          subst (λ o. AreAlike S p (caller_executes S (running_caller (Some r) s.jobs) s) (caller_executes (upper_core S p) (job_caller o) (up S p s)))
          (sym (job_of_up S p r s.jobs high)) (job_upper r runs high (job_of r s.jobs) refl)
      go false low = job_lower r low (job_of r s.jobs) refl

  executor_alike : (active : Option Active) → s.active ≡ active
      → AreAlike S p (caller_executes S (caller_of active s.running s.jobs) s)
      (caller_executes (upper_core S p) (caller_of active (keep (is_upper_id S p) s.running) (up_jobs S p s.jobs)) (up S p s))
  executor_alike None e = runner_alike s.running refl
  executor_alike (Some a) e = routine_alike a e

  -- the execute phase does the same above
  pub execute_alike : AreAlike S p (execute_phase S s) (execute_phase (upper_core S p) (up S p s))
  unfolding execute_phase
  execute_alike = executor_alike s.active refl
