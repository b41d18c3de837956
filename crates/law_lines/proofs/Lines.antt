-- No line of a run is longer than its bound.
use Rattle.std.proofs.Common.{ℕ, suc, ◌≡◌, ◌<◌, ◌≤◌, Bool, true, false, cond, ◌&&◌, List, [], ◌∷◌, ◌++◌, map, length, refl, arith, length-append}
use Rattle.std.specs.Prelude.{nat_le, Option, Some, None, IfSome, slice_get}
use Rattle.std.specs.List.{AllByRecursion, cons_option, flat_map}
use Rattle.std.specs.Option.{option_map}
use Rattle.std.proofs.lemmas.Bool.{and_parts}
use Rattle.osek_base.specs.declared.arrivals.Arrival.{Arrival}
use Rattle.osek_base.specs.declared.limits.TheConstants.{MAX_TICKS}
use Rattle.osek_base.specs.declared.trace_event.TraceEvent.{TraceEvent}
use Rattle.osek_base.specs.Blocker.{blockers, is_ready_from}
use Rattle.osek_base.specs.BlockingText.{behind_last, blockers_at, blockers_since, blockers_text, blocking_lines, executor_at, ready_since}
use Rattle.osek_base.specs.Lists.{below}
use Rattle.osek_base.specs.Proper.{IsProper}
use Rattle.osek_base.specs.State.{Job}
use Rattle.osek_base.specs.System.{System}
use Rattle.osek_base.specs.Text.{line, step_lines}
use Rattle.osek_base.specs.Tick.{Step}
use Rattle.osek_base.specs.Trace.{boot, run}
use Rattle.osek_base.specs.Upper.{is_upper_owner, is_upper_task}
use Rattle.osek_base.specs.View.{is_upper_source, shown, sight, view_records}
use Rattle.law_runs.proofs.Blocking.{blocks_once}
use Rattle.law_runs.proofs.Known.{all_below}
use Rattle.law_runs.proofs.Lists.{all_append, found}
use Rattle.law_lines.specs.LineLengths.{HaveAtMost, LinesAreShort, NumberedLinesAreShort, ViewLinesAreShort, longest_line, longest_numbered_line}
use Rattle.law_lines.proofs.Events.{IsInRange, line_long}
use Rattle.law_lines.proofs.Lengths.{one_digit}
use Rattle.law_lines.proofs.Named.{HasShortNames, short_names}
use Rattle.law_lines.proofs.Runs.{IsStepInRange, run_in_range}

-- what holds of each line of each step holds of all lines
all_lines : {X : Type 0} (n : ℕ) (P : X → Type 0) (of : X → List (List ℕ)) (xs : List X)
    → ((x : X) → P x → HaveAtMost n (of x))
    → AllByRecursion P xs → HaveAtMost n (flat_map of xs)
all_lines n P of [] each all = tt
all_lines n P of (x ∷ xs) each all =
    all_append (λ text. length text ≤ n) (of x) (flat_map of xs) (each x all.0)
    (all_lines n P of xs each all.1)

module _ (S : System) (proper : IsProper S) where
  names : HasShortNames S.names
  names = short_names S.names proper.names

  events_short : (t : ℕ) (events : List TraceEvent) → t < MAX_TICKS
      → AllByRecursion (IsInRange S) events
      → HaveAtMost longest_line (map (line S.names t) events)
  events_short t [] low all = tt
  events_short t (e ∷ events) low all =
      (line_long S names t e low all.0, events_short t events low all.1)

  -- ---- with a number of blockers

  number_short : (o : Option ℕ) → IfSome o (λ n. n ≤ 1) → (e : TraceEvent)
      → length (blockers_text o e) ≤ 4
  number_short (Some n) low (TraceEvent.Executed who place what outcome) =
      let long = one_digit n (omega (arith, low)) in omega (arith, long)
  number_short (Some n) low TraceEvent.Startup = omega arith
  number_short (Some n) low (TraceEvent.Pre t) = omega arith
  number_short (Some n) low (TraceEvent.Post t) = omega arith
  number_short (Some n) low TraceEvent.Idle = omega arith
  number_short (Some n) low TraceEvent.Other = omega arith
  number_short (Some n) low (TraceEvent.Error who what answer) = omega arith
  number_short (Some n) low (TraceEvent.Shutdown m) = omega arith
  number_short None low e = omega arith

  numbered_short : (number : Option ℕ) → IfSome number (λ n. n ≤ 1) → (t : ℕ)
      (events : List TraceEvent) → t < MAX_TICKS → AllByRecursion (IsInRange S) events
      → HaveAtMost longest_numbered_line
      (map (λ e. line S.names t e ++ blockers_text number e) events)
  numbered_short number one t [] low all = tt
  numbered_short number one t (e ∷ events) low all =
      let first = line_long S names t e low all.0 in
      let second = number_short number one e in
      let both = length-append (line S.names t e) (blockers_text number e) in
      (omega (arith, first, second, both), numbered_short number one t events low all.1)

  -- a job has one blocker at most
  few_blockers : (mode : ℕ) (arrivals : List Arrival) (v : ℕ)
      → IfSome (blockers_at S mode arrivals v) (λ n. n ≤ 1)
  few_blockers mode arrivals v = of_job (executor_at (slice_get steps v))
    where
      steps : List Step
      steps = (run S mode arrivals (suc v)).steps

      of_job : (o : Option Job)
          → IfSome (blockers_since S (boot S mode).state steps v o) (λ n. n ≤ 1)
      of_job None = tt
      of_job (Some j) = since (ready_since S (boot S mode).state steps j.id v) refl
        where
          since : (o : Option ℕ) → ready_since S (boot S mode).state steps j.id v ≡ o
              → IfSome (option_map (λ u. length (blockers S steps u j.id)) o) (λ n. n ≤ 1)
          since None is = tt
          since (Some u) is =
              let becomes : ℕ → Bool = λ k. is_ready_from S (boot S mode).state steps k j.id in
              let behind : ℕ → Bool = λ k. nat_le (behind_last j.id steps v) k in
              let ready = found (λ k. k < suc v) (λ k. behind k && becomes k) (below (suc v)) u
              (all_below (suc v)) is in
              blocks_once S mode arrivals (suc v) proper u j.id
              (and_parts (behind u) (becomes u) ready.1).1

  -- ---- in a view

  kept_range : (b : Bool) (e : TraceEvent) → IsInRange S e
      → IfSome (cond b (Some e) None) (IsInRange S)
  kept_range true e h = h
  kept_range false e h = tt

  shown_range : (p : ℕ) (e : TraceEvent) → IsInRange S e → IfSome (shown S p e) (IsInRange S)
  shown_range p TraceEvent.Startup h = tt
  shown_range p (TraceEvent.Shutdown n) h = h
  shown_range p (TraceEvent.Pre t) h = kept_range (is_upper_task S p t) (TraceEvent.Pre t) tt
  shown_range p (TraceEvent.Post t) h = kept_range (is_upper_task S p t) (TraceEvent.Post t) tt
  shown_range p (TraceEvent.Error who what answer) h =
      kept_range (is_upper_source S p who) (TraceEvent.Error who what answer) h
  shown_range p (TraceEvent.Executed who place what outcome) h = go (is_upper_owner S p who)
    where
      go : (b : Bool)
          → IfSome (cond b (Some (TraceEvent.Executed who place what outcome))
          (Some TraceEvent.Other)) (IsInRange S)
      go true = h
      go false = tt
  shown_range p TraceEvent.Idle h = tt
  shown_range p TraceEvent.Other h = tt

  view_range : (p : ℕ) (events : List TraceEvent) → AllByRecursion (IsInRange S) events
      → AllByRecursion (IsInRange S) (view_records S p events)
  view_range p [] all = tt
  view_range p (e ∷ events) all =
      go (shown S p e) (shown_range p e all.0) (view_range p events all.1)
    where
      go : (o : Option TraceEvent) → IfSome o (IsInRange S)
          → AllByRecursion (IsInRange S) (view_records S p events)
          → AllByRecursion (IsInRange S) (cons_option o (view_records S p events))
      go None h rest = rest
      go (Some f) h rest = (h, rest)

  -- ---- of steps

  module _ (n : ℕ) (few : n ≤ MAX_TICKS) where
    step_short : (step : Step) → IsStepInRange S n step
        → HaveAtMost longest_line (step_lines S.names step)
    step_short step h =
        let low = h.number in
        events_short step.number step.events (omega (arith, low, few)) h.events

    numbered_step_short : (mode : ℕ) (arrivals : List Arrival) (step : Step)
        → IsStepInRange S n step
        → HaveAtMost longest_numbered_line (blocking_lines S mode arrivals step)
    numbered_step_short mode arrivals step h =
        let low = h.number in
        numbered_short (blockers_at S mode arrivals step.number)
        (few_blockers mode arrivals step.number)
        step.number step.events (omega (arith, low, few)) h.events

    sights_short : (p : ℕ) (steps : List Step) → AllByRecursion (IsStepInRange S n) steps
        → HaveAtMost longest_line (flat_map (λ seen. seen.lines) (map (sight S p) steps))
    sights_short p [] all = tt
    sights_short p (step ∷ steps) all =
        let low = all.0.number in
        all_append (λ text. length text ≤ longest_line) (sight S p step).lines
        (flat_map (λ seen. seen.lines) (map (sight S p) steps))
        (events_short step.number (view_records S p step.events) (omega (arith, low, few))
        (view_range p step.events all.0.events))
        (sights_short p steps all.1)

-- ---- the laws

pub lines_are_short : LinesAreShort
lines_are_short S mode arrivals n proper few =
    all_lines longest_line (IsStepInRange S n) (step_lines S.names) (run S mode arrivals n).steps
    (step_short S proper n few) (run_in_range S proper mode arrivals n).steps

pub numbered_lines_are_short : NumberedLinesAreShort
numbered_lines_are_short S mode arrivals n proper few =
    all_lines longest_numbered_line (IsStepInRange S n) (blocking_lines S mode arrivals)
    (run S mode arrivals n).steps (numbered_step_short S proper n few mode arrivals)
    (run_in_range S proper mode arrivals n).steps

pub view_lines_are_short : ViewLinesAreShort
view_lines_are_short S p mode arrivals n proper few =
    sights_short S proper n few p (run S mode arrivals n).steps
    (run_in_range S proper mode arrivals n).steps
