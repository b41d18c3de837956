-- One instruction of who executes, as what is kept and the words show it.
use Rattle.std.proofs.Math.Path.{fun_ext}
use Rattle.std.proofs.Common.{◌≡◌, ℕ, Bool, true, false, List, [], ◌∷◌, refl, sym, ◌∙◌, ap, ap₂, subst}
use Rattle.std.specs.Prelude.{Option, Some, None, is_some}
use Rattle.std.proofs.lemmas.Bool.{false≢true}
use Rattle.osek_base.specs.declared.ids.Owner.{Owner}
use Rattle.osek_base.specs.declared.instr.Instr.{Instr}
use Rattle.osek_base.specs.declared.instr.Control.{Control}
use Rattle.osek_base.specs.Types.{ServiceCall, PlainInstr}
use Rattle.osek_base.specs.declared.trace_event.Effect.{Effect}
use Rattle.osek_base.specs.declared.trace_event.Results.{Results}
use Rattle.osek_base.specs.declared.trace_event.TraceEvent.{TraceEvent}
use Rattle.osek_base.specs.declared.status.Status.{Status}
use Rattle.osek_base.specs.System.{System, instruction_at}
use Rattle.osek_base.specs.Instruction.{Context, plain, next}
use Rattle.osek_base.specs.State.{Active, Words, words_after}
use Rattle.osek_base.specs.declared.trace_event.Outcome.{Outcome}
use Rattle.osek_base.specs.declared.trace_event.Source.{Source}
use Rattle.osek_base.specs.Tick.{answered, at_values, error_record}
use Rattle.machine.specs.Windows.{word}
use Rattle.law_kept.specs.Kept.{Kept}
use Rattle.law_kept.specs.KeptService.{KeptCaller, ByTask, ByRoutine, ByNobody, KeptReply, caller_in, caller_by, service_in}
use Rattle.law_kept.specs.KeptTick.{executed_in, caller_executes_in, routine_executes, execute_phase_in, with_context_in, controlled_in}
use Rattle.law_kept.proofs.Words.{with_words, context_words, control_words, service_words, reply_with}
use Rattle.services.specs.Objects.{Objects, kept_of, kept_in}
use Rattle.services.specs.Calls.{Executes, MayGoOn, IsSameCaller, IsSameActive, IsRoutineOrNone, caller_as, served_in}
use Rattle.osek_base.proofs.PlaceLemmas.{KnownPlace, is_routine}
use Rattle.kernel.proofs.Execution.{Execution, next_of, executed_by}
use Rattle.kernel.specs.Controls.{control_context}

-- ---- who executes

-- who executes calls
pub caller_is : (o : Kept) (who : Owner) (x : Context) → Executes o who x → caller_in o ≡ caller_as who
caller_is o (Owner.Task t) x h = h.0
caller_is o (Owner.Routine i) x h = ap (λ (a : Option Active). caller_by (is_some a) o.running o.gone) h

-- who executes calls, by the next instruction
executes_next : (S : System) (o : Kept) (who : Owner) (x : Context) → Executes o who x
    → caller_executes_in S (caller_in o) o ≡ executed_in S who (caller_as who) x (instruction_at S who x.place) o
executes_next S o (Owner.Task t) x h =
    ap (λ d. caller_executes_in S d o) h.0
    ∙ ap (λ (y : Context). executed_in S (Owner.Task t) (ByTask t) y (instruction_at S (Owner.Task t) y.place) o) h.1
executes_next S o (Owner.Routine i) x h =
    ap (λ d. caller_executes_in S d o) (caller_is o (Owner.Routine i) x h) ∙ ap (λ a. routine_executes S a o) h

pub execute_is : (S : System) (o : Kept) (who : Owner) (x : Context) → Executes o who x
    → execute_phase_in S o ≡ executed_in S who (caller_as who) x (instruction_at S who x.place) o
unfolding execute_phase_in
execute_is S o who x h = executes_next S o who x h

-- who executes does so whatever the words are
pub executes_with : (w : Words) (o : Objects) (who : Owner) (x : Context) → Executes (kept_in o) who x → Executes (kept_of w o) who x
executes_with w o (Owner.Task t) x h = h
executes_with w o (Owner.Routine i) x h = h

pub execute_phase-some : (S : System) (w : Words) (o : Objects) (e : Execution) → Executes (kept_in o) e.owner e.cpu
    → execute_phase_in S (kept_of w o) ≡ executed_by S e (next_of S e) w o
unfolding execute_phase_in
execute_phase-some S w o e h = executes_next S (kept_of w o) e.owner e.cpu (executes_with w o e.owner e.cpu h)

pub execute_phase-none : (S : System) (w : Words) (o : Objects) → caller_in (kept_in o) ≡ ByNobody
    → execute_phase_in S (kept_of w o) ≡ record { events = TraceEvent.Idle ∷ []; state = kept_of w o }
unfolding execute_phase_in
execute_phase-none S w o h = ap (λ d. caller_executes_in S d (kept_of w o)) h

-- the task that calls runs
runs_by : (a : Bool) (running : Option ℕ) (gone : Bool) (t : ℕ) → caller_by a running gone ≡ ByTask t → running ≡ Some t
runs_by true running gone t h = absurd (let e : ByRoutine ≡ ByTask t = h in cc)
runs_by false None gone t h = absurd (let e : ByNobody ≡ ByTask t = h in cc)
runs_by false (Some u) true t h = absurd (let e : ByNobody ≡ ByTask t = h in cc)
runs_by false (Some u) false t h = let e : ByTask u ≡ ByTask t = h in cc

pub may_go_on : (o : Objects) (who : Owner) (x : Context) → Executes (kept_in o) who x → MayGoOn o who
may_go_on o (Owner.Task t) x h = runs_by (is_some o.active) o.running o.gone t h.0
may_go_on o (Owner.Routine i) x h = subst (λ a. IsRoutineOrNone a i) (sym h) refl

same_or_none : (old new : Option Active) (i : ℕ) → IsRoutineOrNone old i → IsSameActive old new → IsRoutineOrNone new i
same_or_none old None i same left = tt
same_or_none old (Some b) i same left = subst (λ v. IsRoutineOrNone v i) left same

pub may_still : (o n : Objects) (who : Owner) → MayGoOn o who → IsSameCaller o n → MayGoOn n who
may_still o n (Owner.Task t) may same = same.running ∙ may
may_still o n (Owner.Routine i) may same = same_or_none o.active n.active i may same.active

-- ---- what is kept, with the words

-- where who executes goes on
pub gone_is : (w : Words) (o n : Objects) (S : System) (who : Owner) (x : Context)
    → kept_in n ≡ with_context_in (caller_as who) x (kept_in o)
    → kept_of w n ≡ with_context_in (caller_as who) x (kept_of w o)
gone_is w o n S who x is = ap (with_words w) is ∙ sym (context_words S w (caller_as who) x (kept_in o))

-- words that are equal, one by one
pub words_equal : (v w : Words) → ((o : Owner) (i : ℕ) → v o i ≡ w o i) → v ≡ w
words_equal v w h = fun_ext (λ o. fun_ext (λ i. h o i))

-- ---- plain instructions

pub plain_goes : (S : System) (e : Execution) (p : PlainInstr) (old new : List ℕ) (o after : Objects) (x : Context) (effect : Effect)
    → effect ≡ (plain p e.cpu (word old e.owner)).effect
    → x ≡ (plain p e.cpu (word old e.owner)).context
    → ((other : Owner) (i : ℕ) → word new other i ≡ words_after (word old) e.owner effect other i)
    → kept_in after ≡ with_context_in (caller_as e.owner) x (kept_in o)
    → kept_of (word new) after ≡ (executed_by S e (Instr.Plain p) (word old) o).state
plain_goes S e p old new o after x effect effect_is x_is words after_is =
    let changed : word new ≡ words_after (word old) e.owner (plain p e.cpu (word old e.owner)).effect =
    words_equal (word new) (words_after (word old) e.owner effect) words ∙ ap (words_after (word old) e.owner) effect_is in
    gone_is (word new) o after S e.owner x after_is
    ∙ ap₂ (λ (v : Words) (y : Context). with_context_in (caller_as e.owner) y (kept_of v o)) changed x_is

-- ---- services

pub service_goes : (S : System) (e : Execution) (call : ServiceCall) (w : Words) (o served after : Objects) (x : Context)
    (status : Status) (results : Results) → Executes (kept_in o) e.owner e.cpu
    → status ≡ (served_in S (kept_in o) (at_values e.cpu call)).status
    → results ≡ (served_in S (kept_in o) (at_values e.cpu call)).results
    → kept_in served ≡ (served_in S (kept_in o) (at_values e.cpu call)).state
    → x ≡ answered status results e.cpu
    → kept_in after ≡ with_context_in (caller_as e.owner) x (kept_in served)
    → kept_of w after ≡ (executed_by S e (Instr.Service call) w o).state
service_goes S e call w o served after x status results who status_is results_is state_is x_is after_is =
    let d : KeptCaller = caller_as e.owner in
    let r : KeptReply = service_in S d (kept_of w o) (at_values e.cpu call) in
    let by : service_in S (caller_in (kept_in o)) (kept_in o) (at_values e.cpu call) ≡ service_in S d (kept_in o) (at_values e.cpu call) =
    ap (λ c. service_in S c (kept_in o) (at_values e.cpu call)) (caller_is (kept_in o) e.owner e.cpu who) in
    let all : r ≡ reply_with w (service_in S d (kept_in o) (at_values e.cpu call)) = service_words S w d (kept_in o) (at_values e.cpu call) in
    let same_status : status ≡ r.status = status_is ∙ ap (λ (v : KeptReply). v.status) by ∙ sym (ap (λ (v : KeptReply). v.status) all) in
    let same_results : results ≡ r.results = results_is ∙ ap (λ (v : KeptReply). v.results) by ∙ sym (ap (λ (v : KeptReply). v.results) all) in
    let same_state : kept_of w served ≡ r.state =
    ap (with_words w) (state_is ∙ ap (λ (v : KeptReply). v.state) by) ∙ sym (ap (λ (v : KeptReply). v.state) all) in
    let at : x ≡ answered r.status r.results e.cpu =
    x_is ∙ ap₂ (λ (a : Status) (b : Results). answered a b e.cpu) same_status same_results in
    gone_is w served after S e.owner x after_is
    ∙ ap₂ (λ (y : Context) (s : Kept). with_context_in d y s) at same_state

-- what it records: its answer, and an error where it was refused
pub service_told : (S : System) (e : Execution) (call : ServiceCall) (w : Words) (o : Objects) (status : Status) (results : Results)
    → Executes (kept_in o) e.owner e.cpu
    → status ≡ (served_in S (kept_in o) (at_values e.cpu call)).status
    → results ≡ (served_in S (kept_in o) (at_values e.cpu call)).results
    → (behind : List TraceEvent) → behind ≡ error_record S (Source.Owner e.owner) (Instr.Service call) status
    → TraceEvent.Executed e.owner e.cpu.place (Instr.Service call) (Outcome.Answer status results) ∷ behind
    ≡ (executed_by S e (Instr.Service call) w o).events
service_told S e call w o status results who status_is results_is behind more =
    let d : KeptCaller = caller_as e.owner in
    let r : KeptReply = service_in S d (kept_of w o) (at_values e.cpu call) in
    let by : service_in S (caller_in (kept_in o)) (kept_in o) (at_values e.cpu call) ≡ service_in S d (kept_in o) (at_values e.cpu call) =
    ap (λ c. service_in S c (kept_in o) (at_values e.cpu call)) (caller_is (kept_in o) e.owner e.cpu who) in
    let with : r ≡ reply_with w (service_in S d (kept_in o) (at_values e.cpu call)) = service_words S w d (kept_in o) (at_values e.cpu call) in
    let same_status : status ≡ r.status = status_is ∙ ap (λ (v : KeptReply). v.status) by ∙ sym (ap (λ (v : KeptReply). v.status) with) in
    let same_results : results ≡ r.results = results_is ∙ ap (λ (v : KeptReply). v.results) by ∙ sym (ap (λ (v : KeptReply). v.results) with) in
    ap (λ v. TraceEvent.Executed e.owner e.cpu.place (Instr.Service call) (Outcome.Answer status results) ∷ v) more
    ∙ ap₂ (λ (a : Status) (b : Results). TraceEvent.Executed e.owner e.cpu.place (Instr.Service call) (Outcome.Answer a b)
    ∷ error_record S (Source.Owner e.owner) (Instr.Service call) a) same_status same_results

-- ---- services without a status

-- behind the end of a routine nobody goes on
goes_on : (who : Owner) (control : Control ℕ) (x : Context) (o : Kept) → (control ≡ Control.ReturnFromInterrupt → is_routine who ≡ true)
    → with_context_in (caller_as who) (control_context control x) (controlled_in control o)
    ≡ with_context_in (caller_as who) (next x) (controlled_in control o)
goes_on (Owner.Task t) Control.ReturnFromInterrupt x o routine = absurd (false≢true (routine refl))
goes_on (Owner.Routine i) Control.ReturnFromInterrupt x o routine = refl
goes_on who Control.DisableAllInterrupts x o routine = refl
goes_on who Control.EnableAllInterrupts x o routine = refl
goes_on who Control.SuspendAllInterrupts x o routine = refl
goes_on who Control.ResumeAllInterrupts x o routine = refl
goes_on who Control.SuspendOsInterrupts x o routine = refl
goes_on who Control.ResumeOsInterrupts x o routine = refl
goes_on who (Control.ShutdownOs n) x o routine = refl

-- only a routine returns from an interrupt
pub returning_routine : (S : System) (owner : Owner) (place : ℕ) (control : Control ℕ) → KnownPlace S owner place
    → instruction_at S owner place ≡ Instr.Control control → control ≡ Control.ReturnFromInterrupt → is_routine owner ≡ true
returning_routine S owner place control k next_is returns =
    let e : instruction_at S owner place ≡ Instr.Control Control.ReturnFromInterrupt = next_is ∙ ap (λ c. Instr.Control c) returns in
    rw e at k.operands

pub control_goes : (S : System) (e : Execution) (control : Control ℕ) (w : Words) (o served after : Objects) (x : Context)
    → (control ≡ Control.ReturnFromInterrupt → is_routine e.owner ≡ true)
    → kept_in served ≡ controlled_in control (kept_in o)
    → x ≡ control_context control e.cpu
    → kept_in after ≡ with_context_in (caller_as e.owner) x (kept_in served)
    → kept_of w after ≡ (executed_by S e (Instr.Control control) w o).state
control_goes S e control w o served after x routine state_is x_is after_is =
    let same : kept_of w served ≡ controlled_in control (kept_of w o) = ap (with_words w) state_is ∙ sym (control_words S w (kept_in o) control) in
    gone_is w served after S e.owner x after_is
    ∙ ap₂ (λ (y : Context) (s : Kept). with_context_in (caller_as e.owner) y s) x_is same
    ∙ goes_on e.owner control e.cpu (kept_of w o) routine
