-- What passes of all outcomes passes by the laws: no refusal is E_OK, so what is refused starts and
-- sets nothing.
use Rattle.std.proofs.Common.{◌≡◌, ℕ, Bool, true, false, ◌&&◌, List, [], ◌∷◌, map, refl, ◌∙◌, ap}
use Rattle.std.specs.Prelude.{Option, Some, None}
use Rattle.std.specs.List.{list_all}
use Rattle.std.proofs.lemmas.Bool.{and_from, and_parts, false≢true}
use Rattle.osek_base.specs.declared.instr.Instr.{Instr}
use Rattle.osek_base.specs.declared.instr.Service.{Service}
use Rattle.osek_base.specs.declared.status.Status.{Status}
use Rattle.osek_base.specs.Service.{Caller, answer}
use Rattle.osek_base.specs.System.{System}
use Rattle.osek_base.specs.Types.{ServiceCall}
use Rattle.law_costs.specs.Left.{Weights, is_off}
use Rattle.law_costs.specs.Paying.{start_of}
use Rattle.law_costs.specs.Routines.{set_of, set_where, started_where}
use Rattle.law_nodes.specs.Nodes.{Node, Table}
use Rattle.law_nodes.specs.Prices.{all_outcomes}
use Rattle.law_nodes.specs.Services.{answers, caller_at, first_refusals, refusals_of, replied}
use Rattle.law_nodes.specs.Steps.{steps_by}
use Rattle.analysis_nodes.specs.Laws.{OutcomesAreAll}
use Rattle.analysis_nodes.specs.Outcomes.{Outcome, cost_of_alarm, cost_of_start, outcome_by, outcomes_by, start_by, start_where}

-- ---- refusals

abbrev is_error : Status → Bool
is_error Status.Ok = false
is_error Status.Access = true
is_error Status.CallLevel = true
is_error Status.Id = true
is_error Status.Limit = true
is_error Status.NoFunc = true
is_error Status.Resource = true
is_error Status.State = true
is_error Status.Value = true
is_error Status.SysDisabled = true

abbrev refuses : Option Status → Bool
refuses None = true
refuses (Some e) = is_error e

abbrev are_errors : List (Option Bool × Status) → Bool
are_errors tests = list_all (λ (t : Option Bool × Status). is_error t.1) tests

errors_of : (S : System) (c : Caller) (x : List (Option ℕ)) (call : ServiceCall)
    → are_errors (refusals_of S c x call) ≡ true
errors_of S c x (Service.ActivateTask None) = refl
errors_of S c x (Service.ActivateTask (Some t)) = refl
errors_of S c x Service.TerminateTask = refl
errors_of S c x (Service.ChainTask None) = refl
errors_of S c x (Service.ChainTask (Some t)) = refl
errors_of S c x Service.Schedule = refl
errors_of S c x Service.GetTaskId = refl
errors_of S c x (Service.GetTaskState None) = refl
errors_of S c x (Service.GetTaskState (Some t)) = refl
errors_of S c x (Service.GetResource None) = refl
errors_of S c x (Service.GetResource (Some r)) = refl
errors_of S c x (Service.ReleaseResource None) = refl
errors_of S c x (Service.ReleaseResource (Some r)) = refl
errors_of S c x (Service.LoadShared None i) = refl
errors_of S c x (Service.LoadShared (Some r) i) = refl
errors_of S c x (Service.StoreShared None i v) = refl
errors_of S c x (Service.StoreShared (Some r) i v) = refl
errors_of S c x (Service.SetEvent None m) = refl
errors_of S c x (Service.SetEvent (Some t) m) = refl
errors_of S c x (Service.ClearEvent m) = refl
errors_of S c x (Service.GetEvent None) = refl
errors_of S c x (Service.GetEvent (Some t)) = refl
errors_of S c x (Service.WaitEvent m) = refl
errors_of S c x (Service.SetRelAlarm None increment cycle) = refl
errors_of S c x (Service.SetRelAlarm (Some a) increment cycle) = refl
errors_of S c x (Service.SetAbsAlarm None start cycle) = refl
errors_of S c x (Service.SetAbsAlarm (Some a) start cycle) = refl
errors_of S c x (Service.CancelAlarm None) = refl
errors_of S c x (Service.CancelAlarm (Some a)) = refl
errors_of S c x (Service.GetAlarm None) = refl
errors_of S c x (Service.GetAlarm (Some a)) = refl
errors_of S c x (Service.GetAlarmBase None) = refl
errors_of S c x (Service.GetAlarmBase (Some a)) = refl

first_errors : (tests : List (Option Bool × Status)) → are_errors tests ≡ true
    → list_all refuses (first_refusals tests) ≡ true
first_errors [] are = refl
first_errors ((None, e) ∷ tests) are =
    let both = and_parts (is_error e) (are_errors tests) are in
    and_from (is_error e) (list_all refuses (first_refusals tests)) both.0
    (first_errors tests both.1)
first_errors ((Some true, e) ∷ tests) are =
    let both = and_parts (is_error e) (are_errors tests) are in
    and_from (is_error e) true both.0 refl
first_errors ((Some false, e) ∷ tests) are =
    let both = and_parts (is_error e) (are_errors tests) are in
    first_errors tests both.1

answers_refuse : (S : System) (n : Node) (call : ServiceCall)
    → list_all refuses (answers S n call) ≡ true
answers_refuse S n call =
    first_errors
    ((Some (is_off n.switch), Status.SysDisabled) ∷ refusals_of S (caller_at n) n.registers call)
    (errors_of S (caller_at n) n.registers call)

-- ---- what is started and set

module _ (c : Weights) where
  started : (call : ServiceCall) → start_of c call ≡ cost_of_start c (start_by call)
  started (Service.ActivateTask None) = refl
  started (Service.ActivateTask (Some t)) = refl
  started Service.TerminateTask = refl
  started (Service.ChainTask None) = refl
  started (Service.ChainTask (Some t)) = refl
  started Service.Schedule = refl
  started Service.GetTaskId = refl
  started (Service.GetTaskState o) = refl
  started (Service.GetResource o) = refl
  started (Service.ReleaseResource o) = refl
  started (Service.LoadShared o i) = refl
  started (Service.StoreShared o i v) = refl
  started (Service.SetEvent None m) = refl
  started (Service.SetEvent (Some t) m) = refl
  started (Service.ClearEvent m) = refl
  started (Service.GetEvent o) = refl
  started (Service.WaitEvent m) = refl
  started (Service.SetRelAlarm None increment cycle) = refl
  started (Service.SetRelAlarm (Some a) increment cycle) = refl
  started (Service.SetAbsAlarm None start cycle) = refl
  started (Service.SetAbsAlarm (Some a) start cycle) = refl
  started (Service.CancelAlarm o) = refl
  started (Service.GetAlarm o) = refl
  started (Service.GetAlarmBase o) = refl

  started_by_answer : (call : ServiceCall) (refusal : Option Status) → refuses refusal ≡ true
      → started_where c (answer refusal) call ≡ cost_of_start c (start_where refusal call)
  started_by_answer call None are = started call
  started_by_answer call (Some Status.Ok) are = absurd (false≢true are)
  started_by_answer call (Some Status.Access) are = refl
  started_by_answer call (Some Status.CallLevel) are = refl
  started_by_answer call (Some Status.Id) are = refl
  started_by_answer call (Some Status.Limit) are = refl
  started_by_answer call (Some Status.NoFunc) are = refl
  started_by_answer call (Some Status.Resource) are = refl
  started_by_answer call (Some Status.State) are = refl
  started_by_answer call (Some Status.Value) are = refl
  started_by_answer call (Some Status.SysDisabled) are = refl

  set : (call : ServiceCall) → set_of c call ≡ cost_of_alarm c.of_alarm (start_by call)
  set (Service.ActivateTask None) = refl
  set (Service.ActivateTask (Some t)) = refl
  set Service.TerminateTask = refl
  set (Service.ChainTask None) = refl
  set (Service.ChainTask (Some t)) = refl
  set Service.Schedule = refl
  set Service.GetTaskId = refl
  set (Service.GetTaskState o) = refl
  set (Service.GetResource o) = refl
  set (Service.ReleaseResource o) = refl
  set (Service.LoadShared o i) = refl
  set (Service.StoreShared o i v) = refl
  set (Service.SetEvent None m) = refl
  set (Service.SetEvent (Some t) m) = refl
  set (Service.ClearEvent m) = refl
  set (Service.GetEvent o) = refl
  set (Service.WaitEvent m) = refl
  set (Service.SetRelAlarm None increment cycle) = refl
  set (Service.SetRelAlarm (Some a) increment cycle) = refl
  set (Service.SetAbsAlarm None start cycle) = refl
  set (Service.SetAbsAlarm (Some a) start cycle) = refl
  set (Service.CancelAlarm o) = refl
  set (Service.GetAlarm o) = refl
  set (Service.GetAlarmBase o) = refl

  set_by_answer : (call : ServiceCall) (refusal : Option Status) → refuses refusal ≡ true
      → set_where c (answer refusal) call ≡ cost_of_alarm c.of_alarm (start_where refusal call)
  set_by_answer call None are = set call
  set_by_answer call (Some Status.Ok) are = absurd (false≢true are)
  set_by_answer call (Some Status.Access) are = refl
  set_by_answer call (Some Status.CallLevel) are = refl
  set_by_answer call (Some Status.Id) are = refl
  set_by_answer call (Some Status.Limit) are = refl
  set_by_answer call (Some Status.NoFunc) are = refl
  set_by_answer call (Some Status.Resource) are = refl
  set_by_answer call (Some Status.State) are = refl
  set_by_answer call (Some Status.Value) are = refl
  set_by_answer call (Some Status.SysDisabled) are = refl

-- ---- tests of all outcomes

module _ (S : System) (c : Weights) (pays : Table → ℕ → ℕ → Bool) (n : Node) where
  -- by an answer, and of an outcome
  abbrev passes : ServiceCall → Option Status → Bool
  passes call refusal =
      pays (replied S n call refusal) (started_where c (answer refusal) call)
      (set_where c (answer refusal) call)

  abbrev passes_told : Outcome → Bool
  passes_told o = pays o.next (cost_of_start c o.start) (cost_of_alarm c.of_alarm o.start)

  by_answer : (call : ServiceCall) (refusal : Option Status) → refuses refusal ≡ true
      → passes call refusal ≡ passes_told (outcome_by S n call refusal)
  by_answer call refusal are =
      ap (λ start. pays (replied S n call refusal) start (set_where c (answer refusal) call))
      (started_by_answer c call refusal are)
      ∙ ap
      (λ more. pays (replied S n call refusal) (cost_of_start c (start_where refusal call)) more)
      (set_by_answer c call refusal are)

  by_answers : (call : ServiceCall) (refusals : List (Option Status))
      → list_all refuses refusals ≡ true
      → list_all (passes call) refusals
      ≡ list_all passes_told (map (outcome_by S n call) refusals)
  by_answers call [] are = refl
  by_answers call (refusal ∷ refusals) are =
      let both = and_parts (refuses refusal) (list_all refuses refusals) are in
      ap (λ b. b && list_all (passes call) refusals) (by_answer call refusal both.0)
      ∙ ap (λ rest. passes_told (outcome_by S n call refusal) && rest)
      (by_answers call refusals both.1)

  alone : (b : Bool) → b ≡ (b && true)
  alone true = refl
  alone false = refl

  by_outcomes : (what : Instr)
      → all_outcomes S c pays what n ≡ list_all passes_told (outcomes_by S what n)
  by_outcomes (Instr.Plain plain) = alone (pays (steps_by S (Instr.Plain plain) n) 0 0)
  by_outcomes (Instr.Control control) = alone (pays (steps_by S (Instr.Control control) n) 0 0)
  by_outcomes (Instr.Service call) =
      by_answers call (answers S n call) (answers_refuse S n call)

pub outcomes_are_all : OutcomesAreAll
outcomes_are_all S c pays what n = by_outcomes S c pays n what
