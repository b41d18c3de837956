-- What is shown of a run, one tick further and up to its end.
use Rattle.std.proofs.Common.{◌≡◌, ℕ, zero, suc, ◌+◌, ◌-◌, ◌<◌, ◌≤◌, Bool, true, false, List, [], ◌∷◌, ◌++◌, Option, None, refl, sym, ap, ap₂, subst, ◌∙◌, append_assoc, append-nil, arith}
use Rattle.std.specs.Prelude.{◌||◌, nat_le, map}
use Rattle.std.specs.List.{flat_map}
use Rattle.std.proofs.lemmas.Bool.{true≢false}
use Rattle.std.proofs.lemmas.Grind.{flat_map-append}
use Rattle.std.proofs.lemmas.List.Folds.{flat_map-map}
use Rattle.osek_base.specs.declared.arrivals.Arrival.{Arrival}
use Rattle.osek_base.specs.declared.trace_event.TraceEvent.{TraceEvent}
use Rattle.osek_base.specs.Names.{Names}
use Rattle.osek_base.specs.System.{System}
use Rattle.osek_base.specs.Tick.{Step}
use Rattle.osek_base.specs.Trace.{Run, run}
use Rattle.osek_base.specs.Text.{line, text}
use Rattle.osek_base.specs.View.{Sight, sight}
use Rattle.kernel.specs.Progress.{is_over}
use Rattle.law_blockers.specs.Steps.{step_at, record_at}
use Rattle.kernel.proofs.RunLemmas.{going}
use Rattle.law_blockers.proofs.StepLemmas.{run_over, run_stays, steps_more, step_number}
use Rattle.tracer.specs.declared.shown.Shown.{Shown}
use Rattle.trace_lines.specs.Lines.{ended, numbered_line, tick_text}
use Rattle.tracer.specs.Shown.{records_shown, lines_shown, text_shown, view_text}
use Rattle.sinks.specs.Sinks.{AppendsSome, Passes}
use Rattle.sinks.proofs.SinkLemmas.{begins_longer, passes_more, stops_later}

-- ---- all, the view, and numbers

-- where there is no number, the line is the plain one
numberless : (names : Names) (t : ℕ) (events : List TraceEvent)
    → map (numbered_line names t None) events ≡ map (line names t) events
numberless names t [] = refl
numberless names t (event ∷ events) = ap₂ (λ l ls. l ∷ ls) (append-nil (line names t event)) (numberless names t events)

abbrev plain_lines : System → Shown → Step → List (List ℕ)
plain_lines S shown step = map (line S.names step.number) (records_shown S shown step.events)

steps_same : (S : System) (shown : Shown) (steps : List Step)
    → flat_map (lines_shown S shown (λ t. None)) steps ≡ flat_map (plain_lines S shown) steps
steps_same S shown [] = refl
steps_same S shown (step ∷ steps) =
    ap₂ (λ ls more. ls ++ more) (numberless S.names step.number (records_shown S shown step.events))
    (steps_same S shown steps)

-- where all is shown, the text is that of the run
pub all_shown : (S : System) (r : Run) → text_shown S Shown.All (λ t. None) r ≡ text S.names r
all_shown S r = ap (flat_map ended) (steps_same S Shown.All r.steps)

-- where the view at p is shown, the text is that of the view
pub view_shown : (S : System) (p : ℕ) (r : Run) → text_shown S (Shown.View p) (λ t. None) r ≡ view_text S p r
view_shown S p r =
    ap (flat_map ended) (steps_same S (Shown.View p) r.steps)
    ∙ ap (flat_map ended) (sym (flat_map-map (λ (seen : Sight). seen.lines) (sight S p) r.steps))

-- ---- the texts of two equal ticks

pub same_tick_text : (names others : Names) (t : ℕ) (m n : Option ℕ) (told events : List TraceEvent) → names ≡ others → m ≡ n → told ≡ events
    → tick_text names t m told ≡ tick_text others t n events
same_tick_text names others t m n told events same numbered as_told = rw (same, numbered, as_told) refl

over_of : (a b : Bool) → (a || b) ≡ true → a ≡ false → b ≡ true
over_of false b h e = h
over_of true b h e = absurd (true≢false e)

-- the longer text begins with the shorter
record GoesOn (short long : List ℕ) : Type 0 where
  rest : List ℕ
  whole : short ++ rest ≡ long

-- ---- what is shown by V of a run of S, where tick t has number `numbers t`

module _ (V : System) (shown : Shown) (numbers : ℕ → Option ℕ) where
  abbrev text_of : List Step → List ℕ
  text_of steps = flat_map ended (flat_map (lines_shown V shown numbers) steps)

  text_of_one : (step : Step)
      → text_of (step ∷ []) ≡ tick_text V.names step.number (numbers step.number) (records_shown V shown step.events)
  text_of_one step =
      ap (flat_map ended) (append-nil (lines_shown V shown numbers step))
      ∙ flat_map-map ended (numbered_line V.names step.number (numbers step.number)) (records_shown V shown step.events)

  text_of_more : (steps more : List Step) → text_of (steps ++ more) ≡ text_of steps ++ text_of more
  text_of_more steps more =
      ap (flat_map ended) (flat_map-append (lines_shown V shown numbers) steps more)
      ∙ flat_map-append ended (flat_map (lines_shown V shown numbers) steps) (flat_map (lines_shown V shown numbers) more)

-- nothing is written before the first tick
pub text_begun : (V : System) (shown : Shown) (numbers : ℕ → Option ℕ) (S : System) (mode : ℕ) (arrivals : List Arrival)
    → text_shown V shown numbers (run S mode arrivals 0) ≡ []
unfolding run
text_begun V shown numbers S mode arrivals = refl

module _ (V : System) (shown : Shown) (numbers : ℕ → Option ℕ) (S : System) (mode : ℕ) (arrivals : List Arrival) where
  -- the text of n ticks, and that of tick n
  abbrev pub so_far : ℕ → List ℕ
  so_far n = text_shown V shown numbers (run S mode arrivals n)

  abbrev pub text_in : ℕ → List ℕ
  text_in n = tick_text V.names n (numbers n) (records_shown V shown (record_at S mode arrivals n))

  -- ---- one tick further

  -- the text of a tick more ends with that tick's
  pub text_more : (n : ℕ) → (run S mode arrivals n).state.over ≡ false → so_far (n + 1) ≡ so_far n ++ text_in n
  text_more n on =
      let step : Step = step_at S mode arrivals n in
      ap (text_of V shown numbers) (steps_more S mode arrivals n on)
      ∙ text_of_more V shown numbers (run S mode arrivals n).steps (step ∷ [])
      ∙ ap (λ t. so_far n ++ t) (text_of_one V shown numbers step)
      ∙ ap (λ k. so_far n ++ tick_text V.names k (numbers k) (records_shown V shown step.events)) (step_number S mode arrivals n on)

  -- ---- beginnings

  goes_on_once : (n : ℕ) (over : Bool) → (run S mode arrivals n).state.over ≡ over → GoesOn (so_far n) (so_far (n + 1))
  goes_on_once n true is =
      record { rest = []; whole = append-nil _ ∙ ap (text_shown V shown numbers) (sym (run_over S mode arrivals n is)) }
  goes_on_once n false is = record { rest = text_in n; whole = sym (text_more n is) }

  goes_on : (n more : ℕ) → GoesOn (so_far n) (so_far (n + more))
  goes_on n zero =
      let e : n ≡ n + 0 = omega arith in
      record { rest = []; whole = append-nil _ ∙ ap so_far e }
  goes_on n (suc more) =
      let e : n + more + 1 ≡ n + suc more = omega arith in
      let first = goes_on n more in
      let then = goes_on_once (n + more) (run S mode arrivals (n + more)).state.over refl in
      record {
        rest = first.rest ++ then.rest;
        whole =
            sym (append_assoc (so_far n) first.rest then.rest)
            ∙ ap (λ t. t ++ then.rest) first.whole ∙ then.whole
            ∙ ap so_far e;
      }

  -- a beginning of the text up to a tick, behind what waited, is one of the whole text
  pub behind_run : (a b : Option (List ℕ)) (p : List ℕ) (n ticks : ℕ) → n ≤ ticks → AppendsSome a b (p ++ so_far n) → AppendsSome a b (p ++ so_far ticks)
  behind_run a b p n ticks h k =
      let e : n + (ticks - n) ≡ ticks = omega (arith, h) in
      let on = goes_on n (ticks - n) in
      subst (AppendsSome a b) (append_assoc p (so_far n) on.rest ∙ ap (λ t. p ++ t) (on.whole ∙ ap so_far e))
      (begins_longer a b (p ++ so_far n) on.rest k)

  -- ---- what a sink gains, where bytes wait

  -- one tick more
  pub passes_tick : (a b c : Option (List ℕ)) (p q r : List ℕ) (n : ℕ)
      → is_over (record { system = S; mode = mode; arrivals = arrivals; ticks = n }) ≡ false
      → Passes a b p q (so_far n) → Passes b c q r (text_in n) → Passes a c p r (so_far (n + 1))
  passes_tick a b c p q r n h k l =
      subst (Passes a c p r) (sym (text_more n (going S mode arrivals n h).on)) (passes_more a b c p q r (so_far n) (text_in n) k l)

  -- a part of one tick more
  pub passes_part : (a b c : Option (List ℕ)) (p q : List ℕ) (n ticks : ℕ) → n < ticks
      → is_over (record { system = S; mode = mode; arrivals = arrivals; ticks = n }) ≡ false
      → Passes a b p q (so_far n) → AppendsSome b c (q ++ text_in n) → AppendsSome a c (p ++ so_far ticks)
  passes_part a b c p q n ticks below h k l =
      let here : AppendsSome a c (p ++ so_far (n + 1)) =
      subst (λ t. AppendsSome a c (p ++ t)) (sym (text_more n (going S mode arrivals n h).on)) (stops_later a b c p q (so_far n) (text_in n) k l) in
      behind_run a c p (n + 1) ticks (omega (arith, below)) here

  -- a run that is over before its last tick has the whole text
  pub passed_whole : (a b : Option (List ℕ)) (p q : List ℕ) (n ticks : ℕ) → n < ticks
      → ticks ≤ 1000000 → is_over (record { system = S; mode = mode; arrivals = arrivals; ticks = n }) ≡ true
      → Passes a b p q (so_far n) → Passes a b p q (so_far ticks)
  passed_whole a b p q n ticks below limit h k =
      let few : nat_le 1000000 n ≡ false = grind (arith, below, limit) in
      let over = over_of (nat_le 1000000 n) (run S mode arrivals n).state.over h few in
      let e : n + (ticks - n) ≡ ticks = omega (arith, below) in
      subst (Passes a b p q)
      (ap (text_shown V shown numbers) (sym (run_stays S mode arrivals n (ticks - n) over) ∙ ap (run S mode arrivals) e)) k
