-- How long the text of a record is, where its instruction and its numbers are in range.
use Rattle.std.proofs.Common.{ℕ, ◌≡◌, ◌<◌, ◌≤◌, ◌+◌, ◌^◌, ◌++◌, length, sym, subst, arith, length-append}
use Rattle.std.specs.Prelude.{codes, decimal, Option}
use Rattle.osek_base.specs.declared.ids.Owner.{Owner}
use Rattle.osek_base.specs.declared.instr.Instr.{Instr}
use Rattle.osek_base.specs.declared.instr.Service.{Service}
use Rattle.osek_base.specs.declared.limits.TheConstants.{MAX_INSTRUCTIONS, MAX_TICKS}
use Rattle.osek_base.specs.declared.status.Status.{Status}
use Rattle.osek_base.specs.declared.trace_event.Effect.{Effect}
use Rattle.osek_base.specs.declared.trace_event.Outcome.{Outcome}
use Rattle.osek_base.specs.declared.trace_event.Results.{Results}
use Rattle.osek_base.specs.declared.trace_event.Source.{Source}
use Rattle.osek_base.specs.declared.trace_event.TraceEvent.{TraceEvent}
use Rattle.osek_base.specs.Names.{owner_name}
use Rattle.osek_base.specs.System.{System}
use Rattle.osek_base.specs.Text.{event_text, instruction_text, line, outcome_text, results_text, source_name}
use Rattle.osek_base.specs.Tick.{status_number}
use Rattle.osek_base.specs.Types.{ServiceCall}
use Rattle.law_lines.proofs.Lengths.{four_digits, joined, one_digit, six_digits, ten_digits, two_digits}
use Rattle.law_lines.proofs.Named.{HasShortNames, owner_long, source_long}
use Rattle.law_lines.proofs.Instructions.{IsAllowed, base_long, control_long, instruction_long, plain_long, service_long}

-- ---- outcomes

pub small_status : (answer : Status) → status_number answer < 100
small_status Status.Ok = omega arith
small_status Status.Access = omega arith
small_status Status.CallLevel = omega arith
small_status Status.Id = omega arith
small_status Status.Limit = omega arith
small_status Status.NoFunc = omega arith
small_status Status.Resource = omega arith
small_status Status.State = omega arith
small_status Status.Value = omega arith
small_status Status.SysDisabled = omega arith

status_long : (answer : Status) → length (decimal (status_number answer)) ≤ 2
status_long answer = two_digits (status_number answer) (small_status answer)

-- what a plain instruction shows has 32 bits, and the index of a word two digits
abbrev pub IsShown : Effect → Type 0
IsShown Effect.Nothing = Unit {0}
IsShown (Effect.Value v) = v < 2 ^ 32
IsShown (Effect.Stored i v) = (i < 100) × (v < 2 ^ 32)

effect_long : (effect : Effect) → IsShown effect
    → length (outcome_text (Outcome.Plain effect)) ≤ 19
effect_long Effect.Nothing shown = omega arith
effect_long (Effect.Value v) shown = let long = ten_digits v shown in omega (arith, long)
effect_long (Effect.Stored i v) shown =
    joined (codes " -> [" ++ decimal i ++ codes "] ") (decimal v) 9 10
    (joined (codes " -> [" ++ decimal i) (codes "] ") 7 2
    (joined (codes " -> [") (decimal i) 5 2 (omega arith) (two_digits i shown.0))
    (omega arith))
    (ten_digits v shown.1)

-- the answer to a GetAlarmBase
pub record IsBase (call : ServiceCall) (answer : Status) : Type 0 where
  pub alarm : Option ℕ
  pub asks : call ≡ Service.GetAlarmBase alarm
  pub done : answer ≡ Status.Ok

-- results have 32 bits, and there are three of one alone
abbrev pub AreAnswered : ServiceCall → Status → Results → Type 0
AreAnswered call answer Results.Nothing = Unit {0}
AreAnswered call answer (Results.One a) = a < 2 ^ 32
AreAnswered call answer (Results.Three a b c) =
    IsBase call answer × ((a < 2 ^ 32) × ((b < 2 ^ 32) × (c < 2 ^ 32)))

answer_long : (answer : Status) (found : Results) (n m : ℕ)
    → length (decimal (status_number answer)) ≤ n → length (results_text found) ≤ m
    → length (outcome_text (Outcome.Answer answer found)) ≤ 3 + n + m
answer_long answer found n m short long =
    joined (codes " = " ++ decimal (status_number answer)) (results_text found) (3 + n) m
    (joined (codes " = ") (decimal (status_number answer)) 3 n (omega arith) short) long

three_long : (a b c : ℕ) → a < 2 ^ 32 → b < 2 ^ 32 → c < 2 ^ 32
    → length (results_text (Results.Three a b c)) ≤ 35
three_long a b c one two three =
    joined (codes " : " ++ decimal a ++ codes " " ++ decimal b ++ codes " ") (decimal c) 25 10
    (joined (codes " : " ++ decimal a ++ codes " " ++ decimal b) (codes " ") 24 1
    (joined (codes " : " ++ decimal a ++ codes " ") (decimal b) 14 10
    (joined (codes " : " ++ decimal a) (codes " ") 13 1
    (joined (codes " : ") (decimal a) 3 10 (omega arith) (ten_digits a one)) (omega arith))
    (ten_digits b two)) (omega arith)) (ten_digits c three)

-- ---- records

-- what an instruction came to
abbrev pub IsOutcome : Instr → Outcome → Type 0
IsOutcome (Instr.Plain p) (Outcome.Plain effect) = IsShown effect
IsOutcome (Instr.Service call) (Outcome.Answer answer found) = AreAnswered call answer found
IsOutcome (Instr.Control control) Outcome.Control = Unit {0}
IsOutcome _ _ = ⊥

-- what a record of the system may say
abbrev pub IsInRange : System → TraceEvent → Type 0
IsInRange S (TraceEvent.Executed who place what outcome) =
    (place ≤ MAX_INSTRUCTIONS) × (IsAllowed S what × IsOutcome what outcome)
IsInRange S (TraceEvent.Error who what answer) = IsAllowed S what
IsInRange S (TraceEvent.Shutdown n) = n < 2 ^ 32
IsInRange S _ = Unit {0}

module _ (S : System) (short : HasShortNames S.names) where
  -- an instruction with its outcome
  abbrev IsFew : Instr → Outcome → Type 0
  IsFew what outcome = length (instruction_text S.names what) + length (outcome_text outcome) ≤ 76

  single_long : (call : ServiceCall) (answer : Status) (found : Results)
      → IsAllowed S (Instr.Service call)
      → length (results_text found) ≤ 13 → IsFew (Instr.Service call) (Outcome.Answer answer found)
  single_long call answer found allowed few =
      let first = service_long S.names short S call allowed.operands in
      let second = answer_long answer found 2 13 (status_long answer) few in
      omega (arith, first, second)

  answered_long : (call : ServiceCall) (answer : Status) (found : Results)
      → IsAllowed S (Instr.Service call)
      → AreAnswered call answer found → IsFew (Instr.Service call) (Outcome.Answer answer found)
  answered_long call answer Results.Nothing allowed h =
      single_long call answer Results.Nothing allowed (omega arith)
  answered_long call answer (Results.One a) allowed h =
      single_long call answer (Results.One a) allowed
      (let long = ten_digits a h in omega (arith, long))
  answered_long call answer (Results.Three a b c) allowed h =
      let found : Results = Results.Three a b c in
      subst (λ (k : ServiceCall). IsFew (Instr.Service k) (Outcome.Answer answer found))
      (sym h.0.asks)
      (subst (λ (k : Status). IsFew (Instr.Service (Service.GetAlarmBase h.0.alarm))
      (Outcome.Answer k found)) (sym h.0.done)
      (let first = base_long S.names short h.0.alarm in
      let second = answer_long Status.Ok found 1 35 (one_digit 0 (omega arith))
      (three_long a b c h.1.0 h.1.1.0 h.1.1.1) in
      omega (arith, first, second)))

  both_long : (what : Instr) (outcome : Outcome) → IsAllowed S what → IsOutcome what outcome
      → IsFew what outcome
  both_long (Instr.Plain p) (Outcome.Plain effect) allowed is =
      let first = plain_long S.names allowed.size p allowed.few allowed.operands in
      let second = effect_long effect is in
      omega (arith, first, second)
  both_long (Instr.Service call) (Outcome.Answer answer found) allowed is =
      answered_long call answer found allowed is
  both_long (Instr.Control control) Outcome.Control allowed is =
      let first = control_long S.names allowed.in_routine control allowed.operands in
      omega (arith, first)
  both_long (Instr.Plain p) (Outcome.Answer answer found) allowed is = absurd is
  both_long (Instr.Plain p) Outcome.Control allowed is = absurd is
  both_long (Instr.Service call) (Outcome.Plain effect) allowed is = absurd is
  both_long (Instr.Service call) Outcome.Control allowed is = absurd is
  both_long (Instr.Control control) (Outcome.Plain effect) allowed is = absurd is
  both_long (Instr.Control control) (Outcome.Answer answer found) allowed is = absurd is

  executed_long : (who : Owner) (place : ℕ) (what : Instr) (outcome : Outcome)
      → place ≤ MAX_INSTRUCTIONS → IsFew what outcome
      → length (event_text S.names (TraceEvent.Executed who place what outcome)) ≤ 114
  executed_long who place what outcome inside few =
      let name = owner_name S.names who in
      let first = instruction_text S.names what in
      let front = joined (name ++ codes " " ++ decimal place) (codes " ") 37 1
      (joined (name ++ codes " ") (decimal place) 33 4
      (joined name (codes " ") 32 1 (owner_long S.names short who) (omega arith))
      (four_digits place inside)) (omega arith) in
      omega (
        arith,
        front,
        few,
        length-append (name ++ codes " " ++ decimal place ++ codes " " ++ first)
            (outcome_text outcome),
        length-append (name ++ codes " " ++ decimal place ++ codes " ") first,
      )

  error_long : (who : Source) (what : Instr) (answer : Status) → IsAllowed S what
      → length (event_text S.names (TraceEvent.Error who what answer)) ≤ 114
  error_long who what answer allowed =
      let source = source_name S.names who in
      let first = instruction_text S.names what in
      let all = joined (codes "error " ++ source ++ codes " " ++ first ++ codes " ")
      (decimal (status_number answer)) 90 2
      (joined (codes "error " ++ source ++ codes " " ++ first) (codes " ") 89 1
      (joined (codes "error " ++ source ++ codes " ") first 40 49
      (joined (codes "error " ++ source) (codes " ") 39 1
      (joined (codes "error ") source 6 33 (omega arith) (source_long S.names short who))
      (omega arith))
      (instruction_long S.names short S allowed.in_routine allowed.size what allowed.few
      allowed.operands)) (omega arith))
      (status_long answer) in
      omega (arith, all)

  pub event_long : (event : TraceEvent) → IsInRange S event
      → length (event_text S.names event) ≤ 114
  event_long TraceEvent.Startup h = omega arith
  event_long (TraceEvent.Pre t) h = let long = short.tasks t in omega (arith, long)
  event_long (TraceEvent.Post t) h = let long = short.tasks t in omega (arith, long)
  event_long (TraceEvent.Executed who place what outcome) h =
      executed_long who place what outcome h.0 (both_long what outcome h.1.0 h.1.1)
  event_long TraceEvent.Idle h = omega arith
  event_long TraceEvent.Other h = omega arith
  event_long (TraceEvent.Error who what answer) h = error_long who what answer h
  event_long (TraceEvent.Shutdown n) h = let long = ten_digits n h in omega (arith, long)

  pub line_long : (t : ℕ) (event : TraceEvent) → t < MAX_TICKS → IsInRange S event
      → length (line S.names t event) ≤ 121
  line_long t event low h =
      joined (decimal t ++ codes " ") (event_text S.names event) 7 114
      (joined (decimal t) (codes " ") 6 1 (six_digits t (omega (arith, low))) (omega arith))
      (event_long event h)
