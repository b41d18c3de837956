-- What is shown of ticks in which nothing happens, and of a run with these ticks more.
use Rattle.std.proofs.Common.{◌≡◌, ℕ, zero, suc, ◌+◌, ◌<◌, ◌≤◌, false, List, [], ◌∷◌, ◌++◌, Option, None, Some, refl, sym, ap, subst, ◌∙◌, append_assoc, append-nil, arith}
use Rattle.osek_base.specs.declared.arrivals.Arrival.{Arrival}
use Rattle.osek_base.specs.declared.trace_event.TraceEvent.{TraceEvent}
use Rattle.osek_base.specs.BlockingText.{blockers_at}
use Rattle.osek_base.specs.Names.{Names}
use Rattle.osek_base.specs.System.{System}
use Rattle.osek_base.specs.Trace.{run}
use Rattle.osek_base.specs.View.{view_records}
use Rattle.kernel.specs.Progress.{Progress, is_over, run_of}
use Rattle.law_blockers.specs.Steps.{record_at}
use Rattle.trace_lines.specs.Lines.{event_of, same_ticks_text, tick_text}
use Rattle.sinks.specs.Sinks.{AppendsSome, Passes}
use Rattle.trace_lines.proofs.IdleLemmas.{same_texts}
use Rattle.sinks.proofs.SinkLemmas.{passes_more, stops_later}
use Rattle.tracer.specs.Shown.{numbers_shown, tick_text_shown}
use Rattle.tracer.specs.Ticks.{SameLines, idle_word, ticks_text_shown}
use Rattle.tracer.specs.declared.shown.Shown.{Shown}
use Rattle.tracer.proofs.RunTextLemmas.{behind_run, passes_tick, so_far, text_more}

-- behind idle stands no number
unnumbered : (names : Names) (t : ℕ) (number : Option ℕ)
    → tick_text names t number (TraceEvent.Idle ∷ []) ≡ tick_text names t None (TraceEvent.Idle ∷ [])
unnumbered names t None = refl
unnumbered names t (Some n) = refl

-- what holds by lines that go on as they were made holds by those
of_same_lines : (V W : System) (shown showing : Shown) (P : System → Shown → Type 0) → SameLines V W shown showing → P W showing
    → P V shown
of_same_lines V W shown showing P same p = subst (λ (U : System). P U shown) same.texts (subst (P W) same.shows p)

module _ (V S : System) (mode : ℕ) (arrivals : List Arrival) where
  -- the text of one such tick
  idle_tick : (shown : Shown) (t : ℕ) → record_at S mode arrivals t ≡ TraceEvent.Idle ∷ []
      → tick_text_shown V shown S mode arrivals t ≡ tick_text V.names t None (event_of (idle_word shown) ∷ [])
  idle_tick Shown.All t h = ap (tick_text V.names t None) h
  idle_tick Shown.Blocking t h =
      ap (tick_text V.names t (blockers_at S mode arrivals t)) h ∙ unnumbered V.names t (blockers_at S mode arrivals t)
  idle_tick (Shown.View p) t h = ap (λ (told : List TraceEvent). tick_text V.names t None (view_records V p told)) h

  -- the texts of such ticks
  pub idle_ticks : (shown : Shown) (t n : ℕ) → ((k : ℕ) → k < n → record_at S mode arrivals (t + k) ≡ TraceEvent.Idle ∷ [])
      → same_ticks_text V.names (event_of (idle_word shown)) t n ≡ ticks_text_shown V shown S mode arrivals t n
  idle_ticks shown t n idle =
      same_texts (λ k. tick_text V.names k None (event_of (idle_word shown) ∷ [])) (tick_text_shown V shown S mode arrivals) t n
      (λ k below. sym (idle_tick shown (t + k) (idle k below)))

module _ (V : System) (shown : Shown) (S : System) (mode : ℕ) (arrivals : List Arrival) where
  abbrev all_by : ℕ → List ℕ
  all_by = so_far V shown (numbers_shown shown S mode arrivals) S mode arrivals

  abbrev GoesOnIn : ℕ → ℕ → Type 0
  GoesOnIn t n = (k : ℕ) → k < n → (run S mode arrivals (t + k)).state.over ≡ false

  -- the text of n ticks more
  texts_more : (t n : ℕ) → GoesOnIn t n → all_by (t + n) ≡ all_by t ++ ticks_text_shown V shown S mode arrivals t n
  texts_more t zero going =
      let e : t + 0 ≡ t = omega arith in
      ap all_by e ∙ sym (append-nil _)
  texts_more t (suc n) going =
      let e : t + suc n ≡ t + n + 1 = omega arith in
      let first = texts_more t n (λ k below. going k (omega (arith, below))) in
      let last = tick_text_shown V shown S mode arrivals (t + n) in
      ap all_by e
      ∙ text_more V shown (numbers_shown shown S mode arrivals) S mode arrivals (t + n) (going n (omega arith))
      ∙ ap (λ text. text ++ last) first
      ∙ append_assoc (all_by t) (ticks_text_shown V shown S mode arrivals t n) last

  -- n ticks more
  pub passes_ticks : (a b c : Option (List ℕ)) (p q r : List ℕ) (t n : ℕ) → GoesOnIn t n → Passes a b p q (all_by t)
      → Passes b c q r (ticks_text_shown V shown S mode arrivals t n) → Passes a c p r (all_by (t + n))
  passes_ticks a b c p q r t n going h k =
      subst (Passes a c p r) (sym (texts_more t n going)) (passes_more a b c p q r (all_by t) (ticks_text_shown V shown S mode arrivals t n) h k)

  -- a part of n ticks more
  pub passes_some : (a b c : Option (List ℕ)) (p q : List ℕ) (t n ticks : ℕ) → t + n ≤ ticks → GoesOnIn t n → Passes a b p q (all_by t)
      → AppendsSome b c (q ++ ticks_text_shown V shown S mode arrivals t n) → AppendsSome a c (p ++ all_by ticks)
  passes_some a b c p q t n ticks within going h k =
      behind_run V shown (numbers_shown shown S mode arrivals) S mode arrivals a c p (t + n) ticks within
      (subst (λ text. AppendsSome a c (p ++ text)) (sym (texts_more t n going))
      (stops_later a b c p q (all_by t) (ticks_text_shown V shown S mode arrivals t n) h k))

  abbrev GoesOnFrom : Progress → ℕ → Type 0
  GoesOnFrom r n = (k : ℕ) → k < n → (run_of (record r { ticks = r.ticks + k })).state.over ≡ false

  abbrev at_tick : ℕ → Progress
  at_tick t = record { system = S; mode = mode; arrivals = arrivals; ticks = t }

  -- where a run has come that was at tick n, one tick later
  tick_behind : (r after : Progress) (n : ℕ) → r ≡ at_tick n → after ≡ record r { ticks = r.ticks + 1 } → after.ticks ≡ n + 1
  tick_behind r after n at next = ap (λ (x : Progress). x.ticks) next ∙ ap (λ (x : Progress). x.ticks + 1) at

  pub at_next : (r after : Progress) (n : ℕ) → r ≡ at_tick n → after ≡ record r { ticks = r.ticks + 1 } → after ≡ at_tick after.ticks
  at_next r after n at next =
      next ∙ ap (λ (x : Progress). record x { ticks = x.ticks + 1 }) at ∙ ap at_tick (sym (tick_behind r after n at next))

  -- and what has passed then, by texts of its system
  pub passes_next : (W : System) (showing : Shown) (r after : Progress) (a b c : Option (List ℕ)) (p q w : List ℕ) (n : ℕ) → SameLines V W shown showing → r ≡ at_tick n
      → after ≡ record r { ticks = r.ticks + 1 } → is_over r ≡ false → Passes a b p q (all_by n)
      → Passes b c q w (tick_text_shown W showing r.system r.mode r.arrivals r.ticks) → Passes a c p w (all_by after.ticks)
  passes_next W showing r after a b c p q w n same at next going h k =
      let first : Passes a c p w (all_by (n + 1)) =
      subst
      (λ (x : Progress). is_over x ≡ false → Passes b c q w (tick_text_shown W showing x.system x.mode x.arrivals x.ticks) → Passes a c p w (all_by (n + 1)))
      (sym at)
      (λ on told.
      passes_tick V shown (numbers_shown shown S mode arrivals) S mode arrivals a b c p q w n on h
      (of_same_lines V W shown showing (λ U how. Passes b c q w (tick_text_shown U how S mode arrivals n)) same told))
      going k in
      subst (λ m. Passes a c p w (all_by m)) (sym (tick_behind r after n at next)) first

  -- the same of ticks in which nothing happens
  pub passes_idle : (W : System) (showing : Shown) (r : Progress) (a b c : Option (List ℕ)) (p q w : List ℕ) (t n : ℕ) → SameLines V W shown showing → r ≡ at_tick t
      → Passes a b p q (all_by t) → GoesOnFrom r n
      → Passes b c q w (ticks_text_shown W showing r.system r.mode r.arrivals r.ticks n) → Passes a c p w (all_by (t + n))
  passes_idle W showing r a b c p q w t n same at h =
      subst
      (λ (x : Progress). GoesOnFrom x n → Passes b c q w (ticks_text_shown W showing x.system x.mode x.arrivals x.ticks n) → Passes a c p w (all_by (t + n)))
      (sym at)
      (λ going k.
      passes_ticks a b c p q w t n going h (of_same_lines V W shown showing (λ U how. Passes b c q w (ticks_text_shown U how S mode arrivals t n)) same k))

  pub some_idle : (W : System) (showing : Shown) (r : Progress) (a b c : Option (List ℕ)) (p q : List ℕ) (t n ticks : ℕ) → SameLines V W shown showing → r ≡ at_tick t
      → t + n ≤ ticks → Passes a b p q (all_by t) → GoesOnFrom r n
      → AppendsSome b c (q ++ ticks_text_shown W showing r.system r.mode r.arrivals r.ticks n) → AppendsSome a c (p ++ all_by ticks)
  some_idle W showing r a b c p q t n ticks same at within h =
      subst
      (λ (x : Progress). GoesOnFrom x n → AppendsSome b c (q ++ ticks_text_shown W showing x.system x.mode x.arrivals x.ticks n) → AppendsSome a c (p ++ all_by ticks))
      (sym at)
      (λ going k.
      passes_some a b c p q t n ticks within going h
      (of_same_lines V W shown showing (λ U how. AppendsSome b c (q ++ ticks_text_shown U how S mode arrivals t n)) same k))
