-- How many ticks of a run are done.
use Rattle.std.proofs.Common.{◌≡◌, ℕ, zero, suc, ◌+◌, ◌-◌, ◌<◌, ◌≤◌, inl, inr, min, Bool, true, false, List, [], ◌∷◌, length, length-append, refl, sym, ap, subst, ◌∙◌, arith}
use Rattle.std.specs.Prelude.{◌||◌, ◌⊎◌, nat_le}
use Rattle.std.proofs.lemmas.Bool.{true≢false}
use Rattle.osek_base.specs.declared.arrivals.Arrival.{Arrival}
use Rattle.osek_base.specs.declared.limits.TheConstants.{MAX_TICKS}
use Rattle.osek_base.specs.System.{System}
use Rattle.osek_base.specs.Trace.{Run, run}
use Rattle.seen_ticks.specs.declared.observation.Observation.{Observation}
use Rattle.kernel.specs.Progress.{Progress, is_over}
use Rattle.kernel.proofs.RunLemmas.{going}
use Rattle.law_blockers.specs.Steps.{step_at}
use Rattle.law_blockers.proofs.StepLemmas.{run_over, run_stays, steps_more}
use Rattle.view_runs.specs.Seen.{AreSeen, SeesTicks}

min_left : (a b : ℕ) → a ≤ b → min a b ≡ a
min_left a b h = omega (arith, h)

min_right : (a b : ℕ) → b ≤ a → min a b ≡ b
min_right a b h = omega (arith, h)

min_above : (a b c : ℕ) → a ≤ b → a ≤ c → a ≤ min b c
min_above a b c h k = omega (arith, h, k)

over_at : (a b : Bool) → (a || b) ≡ true → b ≡ false → a ≡ true
over_at true b h e = refl
over_at false b h e = absurd (true≢false (sym h ∙ e))

-- ---- how many ticks a run has

no_steps : (S : System) (mode : ℕ) (arrivals : List Arrival) → length (run S mode arrivals 0).steps ≡ 0
unfolding run
no_steps S mode arrivals = refl

module _ (S : System) (mode : ℕ) (arrivals : List Arrival) where
  abbrev at : ℕ → Progress
  at n = record { system = S; mode = mode; arrivals = arrivals; ticks = n }

  abbrev pub steps : ℕ → ℕ
  steps n = length (run S mode arrivals n).steps

  -- a run goes on before each of so many ticks
  abbrev pub GoesOn : ℕ → Type 0
  GoesOn n = (k : ℕ) → k < n → is_over (at k) ≡ false

  one_more : (n : ℕ) → (run S mode arrivals n).state.over ≡ false → steps (n + 1) ≡ steps n + 1
  one_more n on = ap length (steps_more S mode arrivals n on) ∙ length-append (run S mode arrivals n).steps (step_at S mode arrivals n ∷ [])

  as_many : (n : ℕ) → GoesOn n → steps n ≡ n
  as_many zero on = no_steps S mode arrivals
  as_many (suc n) on =
      let next : suc n ≡ n + 1 = omega arith in
      ap steps next ∙ one_more n (going S mode arrivals n (on n (omega arith))).on
      ∙ ap (λ m. m + 1) (as_many n (λ k low. on k (omega (arith, low)))) ∙ sym next

  few : (n : ℕ) → GoesOn n → n ≤ MAX_TICKS
  few zero on = omega arith
  few (suc n) on =
      let limit = (going S mode arrivals n (on n (omega arith))).limit in
      omega (arith, limit)

  longer_once : (n : ℕ) (over : Bool) → (run S mode arrivals n).state.over ≡ over → steps n ≤ steps (n + 1)
  longer_once n true is =
      let same = ap (λ (r : Run). length r.steps) (run_over S mode arrivals n is) in
      omega (arith, same)
  longer_once n false is =
      let more = one_more n is in
      omega (arith, more)

  longer : (n more : ℕ) → steps n ≤ steps (n + more)
  longer n zero =
      let same : n + 0 ≡ n = omega arith in
      let h = ap steps same in
      omega (arith, h)
  longer n (suc more) =
      let same : n + suc more ≡ n + more + 1 = omega arith in
      let h = ap steps same in
      let once = longer_once (n + more) (run S mode arrivals (n + more)).state.over refl in
      let then = longer n more in
      omega (arith, h, once, then)

  -- the ticks that were done are among those that are asked for
  pub among : (n ticks : ℕ) → GoesOn n → n ≤ ticks → n ≤ steps (min ticks MAX_TICKS)
  among n ticks on within =
      let limit = few n on in
      let low = min_above n ticks MAX_TICKS within limit in
      let end : n + (min ticks MAX_TICKS - n) ≡ min ticks MAX_TICKS = omega (arith, low) in
      let more = longer n (min ticks MAX_TICKS - n) in
      let count = as_many n on in
      let last = ap steps end in
      omega (arith, more, count, last)

  -- and all of them, where they are so many, or the run is over
  all_asked : (n ticks : ℕ) → GoesOn n → n ≡ ticks → n ≡ steps (min ticks MAX_TICKS)
  all_asked n ticks on is =
      sym (as_many n on) ∙ ap steps (sym (min_left n MAX_TICKS (few n on)) ∙ ap (λ m. min m MAX_TICKS) is)

  stopped : (n ticks : ℕ) (over : Bool) → (run S mode arrivals n).state.over ≡ over → GoesOn n → n ≤ ticks → is_over (at n) ≡ true
      → n ≡ steps (min ticks MAX_TICKS)
  stopped n ticks true is on within end =
      let limit = few n on in
      let low = min_above n ticks MAX_TICKS within limit in
      let last : n + (min ticks MAX_TICKS - n) ≡ min ticks MAX_TICKS = omega (arith, low) in
      sym (as_many n on)
      ∙ ap (λ (r : Run). length r.steps) (sym (run_stays S mode arrivals n (min ticks MAX_TICKS - n) is)) ∙ ap steps last
  stopped n ticks false is on within end =
      let limit = few n on in
      let full = over_at (nat_le MAX_TICKS n) (run S mode arrivals n).state.over end is in
      let same : n ≡ MAX_TICKS = grind (arith, limit, full) in
      sym (as_many n on)
      ∙ ap steps (same ∙ sym (min_right ticks MAX_TICKS (subst (λ m. m ≤ ticks) same within)))

  all_over : (n ticks : ℕ) → GoesOn n → n ≤ ticks → is_over (at n) ≡ true → n ≡ steps (min ticks MAX_TICKS)
  all_over n ticks = stopped n ticks (run S mode arrivals n).state.over refl

  -- a run has at most one step a tick
  pub few_steps : (n : ℕ) → steps n ≤ n
  few_steps zero =
      let none = no_steps S mode arrivals in
      omega (arith, none)
  few_steps (suc n) =
      let next : suc n ≡ n + 1 = omega arith in
      let same = ap steps next in
      let once = step_once n (run S mode arrivals n).state.over refl in
      let then = few_steps n in
      omega (arith, same, once, then)
    where
      step_once : (n : ℕ) (over : Bool) → (run S mode arrivals n).state.over ≡ over → steps (n + 1) ≤ steps n + 1
      step_once n true is =
          let same = ap (λ (r : Run). length r.steps) (run_over S mode arrivals n is) in
          omega (arith, same)
      step_once n false is =
          let more = one_more n is in
          omega (arith, more)

  -- where it has a step more than so many, it isn't over behind so many ticks
  pub not_over : (k n : ℕ) → k < steps n → (run S mode arrivals k).state.over ≡ false
  not_over k n more = test (run S mode arrivals k).state.over refl
    where
      test : (over : Bool) → (run S mode arrivals k).state.over ≡ over → over ≡ false
      test false is = refl
      test true is =
          let limit = few_steps n in
          let last : k + (n - k) ≡ n = omega (arith, more, limit) in
          let same = ap (λ (r : Run). length r.steps) (run_stays S mode arrivals k (n - k) is) in
          let there = ap steps last in
          let low = few_steps k in
          absurd (omega (arith, more, same, there, low))

-- ---- of a run that has just begun

module _ (counted : Bool) (r s : Progress) (begun : r.ticks ≡ 0) (seen : List Observation) (p : SeesTicks counted r s seen) where
  pub done : s.ticks ≡ length seen
  done =
      let sum : r.ticks + length seen ≡ length seen = omega (arith, begun) in
      ap (λ (x : Progress). x.ticks) p.next ∙ sum

  pub each : AreSeen counted r.system r.mode r.arrivals 0 seen
  each = subst (λ t. AreSeen counted r.system r.mode r.arrivals t seen) begun p.each

  pub on : GoesOn r.system r.mode r.arrivals (length seen)
  on k low =
      let here : k ≡ r.ticks + k = omega (arith, begun) in
      ap (λ t. is_over (record r { ticks = t })) here ∙ p.going k low

  -- all ticks that are asked for were done, or the run is over
  pub all_done : (ticks : ℕ) → s.ticks ≤ ticks → (ticks ≤ s.ticks) ⊎ (is_over s ≡ true)
      → length seen ≡ steps r.system r.mode r.arrivals (min ticks MAX_TICKS)
  all_done ticks within (inl last) =
      let count = done in
      all_asked r.system r.mode r.arrivals (length seen) ticks on (omega (arith, within, last, count))
  all_done ticks within (inr over) =
      let count = done in
      let low : length seen ≤ ticks = omega (arith, within, count) in
      let here : is_over s ≡ is_over (record r { ticks = length seen }) =
      ap is_over p.next ∙ ap (λ n. is_over (record r { ticks = n })) (sym (ap (λ (x : Progress). x.ticks) p.next) ∙ done) in
      all_over r.system r.mode r.arrivals (length seen) ticks on low (sym here ∙ over)
