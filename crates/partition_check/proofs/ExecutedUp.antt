-- One instruction of an upper owner, in the system and in its upper core.
use Rattle.std.proofs.Common.{◌≡◌, ℕ, Bool, true, false, cond, List, [], ◌∷◌, refl, sym, ◌∙◌, ap, subst, arith}
use Rattle.std.proofs.Math.Path.{fun_ext}
use Rattle.std.specs.Prelude.{Option, Some, None}
use Rattle.std.specs.List.{AllByRecursion}
use Rattle.std.specs.Option.{option_map}
use Rattle.osek_base.specs.declared.ids.Owner.{Owner}
use Rattle.osek_base.specs.declared.instr.Service.{Service}
use Rattle.osek_base.specs.Types.{ServiceCall, PlainInstr}
use Rattle.osek_base.specs.declared.instr.Control.{Control}
use Rattle.osek_base.specs.declared.instr.Instr.{Instr}
use Rattle.osek_base.specs.declared.trace_event.Effect.{Effect}
use Rattle.osek_base.specs.declared.trace_event.Outcome.{Outcome}
use Rattle.osek_base.specs.declared.trace_event.Source.{Source}
use Rattle.osek_base.specs.declared.trace_event.TraceEvent.{TraceEvent}
use Rattle.osek_base.specs.System.{System}
use Rattle.osek_base.specs.Instruction.{Context, Done, plain, next}
use Rattle.osek_base.specs.State.{Job, JobId, Active, State, Words, same_id, with_job, words_after}
use Rattle.osek_base.specs.Service.{Caller, JobCalls, RoutineCalls, NobodyCalls, Reply, service, controlled}
use Rattle.osek_base.specs.Tick.{at_values, answered, with_context, job_moved, moved, executed, plain_done, service_done, error_record, shutdown_record}
use Rattle.osek_base.specs.Upper.{is_upper_owner, service_names}
use Rattle.osek_base.specs.Separable.{names_lower, names_upper, names_scheduler, asks_task_id}
use Rattle.osek_base.specs.Agree.{renumbered, renumbered_service, upper_core}
use Rattle.partition_check.proofs.UpperState.{up, up_word, is_upper_id}
use Rattle.partition_check.proofs.UpperWords.{up_words, upper_write}
use Rattle.partition_check.proofs.JobsUp.{with_job_up}
use Rattle.partition_check.proofs.ResultsUp.{IsTold}
use Rattle.partition_check.proofs.ServiceUp.{service_up}
use Rattle.partition_check.proofs.LayersKept.{service_layered}
use Rattle.partition_check.proofs.Dispatch.{lines_append, lines_none, lines_one, hooked_one}
use Rattle.partition_check.proofs.AlarmActs.{AreAlike}
use Rattle.partition_check.proofs.TextUp.{IsSeen, IsUpperInstr, executed_lines, error_lines}
use Rattle.partition_check.proofs.Shared.{IsCounterpart, IsLow, IsLayered, IsLayeredJob, as_layered, IsKnownObject, IsUpperCaller, IsUpperCall, SameLines, up_caller}

-- ---- registers and place

pub with_context_up : (S : System) (p : ℕ) (c : Caller) (x : Context) (s : State)
    → up S p (with_context c x s) ≡ with_context (up_caller S p c) x (up S p s)
with_context_up S p (JobCalls j) x s =
    let same = with_job_up S p j.id (job_moved x) (job_moved x) s.jobs (λ k. refl) (λ k. refl) in
    λ i. record (up S p s) { jobs = same i }
with_context_up S p (RoutineCalls a) x s = refl
with_context_up S p NobodyCalls x s = refl

moved_layered : (S : System) (p : ℕ) (n : JobId) (x : Context) (jobs : List Job) → AllByRecursion (IsLayeredJob S p) jobs
    → AllByRecursion (IsLayeredJob S p) (with_job n (job_moved x) jobs)
moved_layered S p n x [] all = tt
moved_layered S p n x (j ∷ jobs) all = (go (same_id j.id n), moved_layered S p n x jobs all.1)
  where
    go : (b : Bool) → IsLayeredJob S p (cond b (job_moved x j) j)
    go true = record { task = all.0.task; held = all.0.held }
    go false = all.0

was_none : (x : Context) (o : Option Active) → option_map (moved x) o ≡ None → o ≡ None
was_none x None h = refl
was_none x (Some a) h = absurd (grind arith)

pub with_context_layered : (S : System) (p : ℕ) (c : Caller) (x : Context) (s : State) → IsLayered S p s → IsLayered S p (with_context c x s)
with_context_layered S p (JobCalls j) x s layered =
    as_layered S p s (with_context (JobCalls j) x s) (refl, refl, refl, refl, refl) (moved_layered S p j.id x s.jobs layered.jobs) layered.quiet layered
with_context_layered S p (RoutineCalls a) x s layered =
    as_layered S p s (with_context (RoutineCalls a) x s) (refl, refl, refl, refl, refl) layered.jobs (λ id e low idle. layered.quiet id e low (was_none x s.active idle)) layered
with_context_layered S p NobodyCalls x s layered = layered

pub words_layered : (S : System) (p : ℕ) (words : Words) (s : State) → IsLayered S p s → IsLayered S p (record s { words = words })
words_layered S p words s layered =
    as_layered S p s (record s { words = words }) (refl, refl, refl, refl, refl) layered.jobs layered.quiet layered

-- ---- values of registers

pub at_names : (x : Context) (call : ServiceCall) → service_names call ≡ service_names (at_values x call)
at_names x (Service.SetRelAlarm a i c) = refl
at_names x (Service.SetAbsAlarm a i c) = refl
at_names x (Service.LoadShared r i) = refl
at_names x (Service.StoreShared r i v) = refl
at_names x call = refl

pub at_known : (S : System) (x : Context) (call : ServiceCall) → IsKnownObject S (service_names call) → IsKnownObject S (service_names (at_values x call))
at_known S x call h = subst (IsKnownObject S) (at_names x call) h

pub at_lower : (S : System) (p : ℕ) (x : Context) (call : ServiceCall)
    → names_lower S p (Instr.Service (at_values x call)) ≡ names_lower S p (Instr.Service call)
at_lower S p x (Service.SetRelAlarm a i c) = refl
at_lower S p x (Service.SetAbsAlarm a i c) = refl
at_lower S p x (Service.LoadShared r i) = refl
at_lower S p x (Service.StoreShared r i v) = refl
at_lower S p x call = refl

pub at_upper : (S : System) (p : ℕ) (x : Context) (call : ServiceCall)
    → names_upper S p (Instr.Service (at_values x call)) ≡ names_upper S p (Instr.Service call)
at_upper S p x (Service.SetRelAlarm a i c) = refl
at_upper S p x (Service.SetAbsAlarm a i c) = refl
at_upper S p x (Service.LoadShared r i) = refl
at_upper S p x (Service.StoreShared r i v) = refl
at_upper S p x call = refl

pub at_scheduler : (x : Context) (call : ServiceCall)
    → names_scheduler (Instr.Service (at_values x call)) ≡ names_scheduler (Instr.Service call)
at_scheduler x (Service.SetRelAlarm a i c) = refl
at_scheduler x (Service.SetAbsAlarm a i c) = refl
at_scheduler x (Service.LoadShared r i) = refl
at_scheduler x (Service.StoreShared r i v) = refl
at_scheduler x call = refl

pub at_asks : (x : Context) (call : ServiceCall)
    → asks_task_id (Instr.Service (at_values x call)) ≡ asks_task_id (Instr.Service call)
at_asks x (Service.SetRelAlarm a i c) = refl
at_asks x (Service.SetAbsAlarm a i c) = refl
at_asks x (Service.LoadShared r i) = refl
at_asks x (Service.StoreShared r i v) = refl
at_asks x call = refl

pub at_renumbered : (S : System) (p : ℕ) (x : Context) (call : ServiceCall)
    → at_values x (renumbered_service S p call) ≡ renumbered_service S p (at_values x call)
at_renumbered S p x (Service.SetRelAlarm a i c) = refl
at_renumbered S p x (Service.SetAbsAlarm a i c) = refl
at_renumbered S p x (Service.LoadShared r i) = refl
at_renumbered S p x (Service.StoreShared r i v) = refl
at_renumbered S p x call = refl

-- ---- control instructions

controlled_up : (S : System) (p : ℕ) (control : Control ℕ) (s : State) → up S p (controlled control s) ≡ controlled control (up S p s)
controlled_up S p Control.DisableAllInterrupts s = refl
controlled_up S p Control.EnableAllInterrupts s = refl
controlled_up S p Control.SuspendAllInterrupts s = refl
controlled_up S p Control.ResumeAllInterrupts s = refl
controlled_up S p Control.SuspendOsInterrupts s = refl
controlled_up S p Control.ResumeOsInterrupts s = refl
controlled_up S p (Control.ShutdownOs n) s = refl
controlled_up S p Control.ReturnFromInterrupt s = refl

-- no lower job runs by itself
abbrev pub IsBusy : System → ℕ → State → Type 0
IsBusy S p s = (id : JobId) → s.running ≡ Some id → is_upper_id S p id ≡ false → s.active ≡ None → ⊥

controlled_layered : (S : System) (p : ℕ) (control : Control ℕ) (s : State) → IsBusy S p s → IsLayered S p s → IsLayered S p (controlled control s)
controlled_layered S p Control.ReturnFromInterrupt s busy layered =
    as_layered S p s (controlled Control.ReturnFromInterrupt s) (refl, refl, refl, refl, refl) layered.jobs (λ id e low idle. refl) layered
controlled_layered S p control s busy layered =
    as_layered S p s (controlled control s) (refl, refl, refl, refl, refl) layered.jobs (λ id e low idle. absurd (busy id e low idle)) layered

shutdown_lines : (S : System) (p : ℕ) (control : Control ℕ) → SameLines S p (shutdown_record S control) (shutdown_record (upper_core S p) control)
shutdown_lines S p (Control.ShutdownOs n) =
    hooked_one S p S.hooks.shutdown (TraceEvent.Shutdown n) (TraceEvent.Shutdown n)
    (lines_one S p (TraceEvent.Shutdown n) (TraceEvent.Shutdown n) refl refl (λ t. refl))
shutdown_lines S p _ = lines_none S p

-- ---- words

words_after_up : (S : System) (p : ℕ) (words : Words) (who : Owner) (e : Effect) → is_upper_owner S p who ≡ true
    → up_words S p (words_after words who e) ≡ words_after (up_words S p words) who e
words_after_up S p words who (Effect.Stored index v) high = upper_write S p words who index v high
words_after_up S p words who (Effect.Value v) high = refl
words_after_up S p words who Effect.Nothing high = refl

pub own_words : (S : System) (p : ℕ) (words : Words) (who : Owner) → is_upper_owner S p who ≡ true → up_words S p words who ≡ words who
own_words S p words who high = fun_ext (λ i. ap (λ b. up_word b (words who i)) high)

-- ---- one instruction

module _ (S : System) (p : ℕ) (both : IsCounterpart S p) (below : IsLow S p) (who : Owner) (c : Caller) (x : Context) (s : State)
    (layered : IsLayered S p s) (seen : IsSeen S who) (high : is_upper_owner S p who ≡ true) (upper : IsUpperCaller S p s c)
    (told : (call : ServiceCall) → IsTold c call) (busy : IsBusy S p s) where
  plain_state : (act : PlainInstr) (done : Done)
      → up S p (with_context c done.context (record s { words = words_after s.words who done.effect }))
      ≡ with_context (up_caller S p c) done.context (record (up S p s) { words = words_after (up_words S p s.words) who done.effect })
  plain_state act done =
      let words = words_after_up S p s.words who done.effect high in
      with_context_up S p c done.context (record s { words = words_after s.words who done.effect })
      ∙ λ i. with_context (up_caller S p c) done.context (record (up S p s) { words = words i })

  plain_alike : (act : PlainInstr) → AreAlike S p (executed S who c x (Instr.Plain act) s)
      (executed (upper_core S p) who (up_caller S p c) x (Instr.Plain act) (up S p s))
  plain_alike act =
      let done : Done = plain act x (s.words who) in
      subst (λ e. AreAlike S p (executed S who c x (Instr.Plain act) s) (plain_done who (up_caller S p c) x act (up S p s) (plain act x e)))
      (sym (own_words S p s.words who high))
      (record {
        state = plain_state act done;
        lines = executed_lines S p both who x.place (Instr.Plain act) (Outcome.Plain done.effect) seen high (record { known = tt; names = refl });
        layered = with_context_layered S p c done.context (record s { words = words_after s.words who done.effect }) (words_layered S p (words_after s.words who done.effect) s layered);
      })

  call_upper : (call : ServiceCall) → IsUpperInstr S p (Instr.Service call)
      → ((a : Active) → c ≡ RoutineCalls a → asks_task_id (Instr.Service call) ≡ false) → IsUpperCall S p c (at_values x call)
  call_upper call named by_routine = record {
    known = at_known S x call named.known;
    names = at_lower S p x call ∙ named.names;
    by_routine = λ a e. at_asks x call ∙ by_routine a e;
  }

  service_alike : (call : ServiceCall) → IsUpperInstr S p (Instr.Service call)
      → ((a : Active) → c ≡ RoutineCalls a → asks_task_id (Instr.Service call) ≡ false)
      → AreAlike S p (executed S who c x (Instr.Service call) s)
      (executed (upper_core S p) who (up_caller S p c) x (Instr.Service (renumbered_service S p call)) (up S p s))
  service_alike call named by_routine =
      let mine : Reply = service S c s (at_values x call) in
      let may : IsUpperCall S p c (at_values x call) = call_upper call named by_routine in
      let same = service_up S p both below s c (at_values x call) layered upper may (told (at_values x call)) in
      let theirs : service (upper_core S p) (up_caller S p c) (up S p s) (at_values x (renumbered_service S p call))
      ≡ record { status = mine.status; results = mine.results; state = up S p mine.state } =
      ap (service (upper_core S p) (up_caller S p c) (up S p s)) (at_renumbered S p x call)
      ∙ λ i. record { status = same.status i; results = same.results i; state = same.state i } in
      subst (λ r. AreAlike S p (executed S who c x (Instr.Service call) s) (service_done (upper_core S p) who (up_caller S p c) x (renumbered_service S p call) r))
      (sym theirs)
      (record {
        state = with_context_up S p c (answered mine.status mine.results x) mine.state;
        lines =
            lines_append S p (TraceEvent.Executed who x.place (Instr.Service call) (Outcome.Answer mine.status mine.results) ∷ []) (error_record S (Source.Owner who) (Instr.Service call) mine.status)
            (TraceEvent.Executed who x.place (Instr.Service (renumbered_service S p call)) (Outcome.Answer mine.status mine.results) ∷ []) (error_record (upper_core S p) (Source.Owner who) (Instr.Service (renumbered_service S p call)) mine.status)
            (executed_lines S p both who x.place (Instr.Service call) (Outcome.Answer mine.status mine.results) seen high named)
            (error_lines S p both who (Instr.Service call) mine.status seen high named);
        layered = with_context_layered S p c (answered mine.status mine.results x) mine.state (service_layered S p s c (at_values x call) layered both upper may);
      })

  control_alike : (control : Control ℕ) → AreAlike S p (executed S who c x (Instr.Control control) s)
      (executed (upper_core S p) who (up_caller S p c) x (Instr.Control control) (up S p s))
  control_alike control = record {
    state = with_context_up S p c (next x) (controlled control s) ∙ ap (with_context (up_caller S p c) (next x)) (controlled_up S p control s);
    lines =
        lines_append S p (TraceEvent.Executed who x.place (Instr.Control control) Outcome.Control ∷ []) (shutdown_record S control)
        (TraceEvent.Executed who x.place (Instr.Control control) Outcome.Control ∷ []) (shutdown_record (upper_core S p) control)
        (executed_lines S p both who x.place (Instr.Control control) Outcome.Control seen high (record { known = tt; names = refl }))
        (shutdown_lines S p control);
    layered = with_context_layered S p c (next x) (controlled control s) (controlled_layered S p control s busy layered);
  }

  pub executed_alike : (what : Instr) → IsUpperInstr S p what → ((a : Active) → c ≡ RoutineCalls a → asks_task_id what ≡ false)
      → AreAlike S p (executed S who c x what s) (executed (upper_core S p) who (up_caller S p c) x (renumbered S p what) (up S p s))
  executed_alike (Instr.Plain act) named by_routine = plain_alike act
  executed_alike (Instr.Service call) named by_routine = service_alike call named by_routine
  executed_alike (Instr.Control control) named by_routine = control_alike control
