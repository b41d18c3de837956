-- An interrupt waits no longer than the greatest latency of its routine, and none is lost.
use Rattle.std.proofs.Common.{◌≡◌, ℕ, zero, suc, ◌+◌, ◌-◌, ◌<◌, ◌≤◌, ◌⊎◌, inl, inr, Bool, true, false, cond, min, ◌||◌, List, [], ◌∷◌, length, refl, sym, ◌∙◌, ap, arith}
use Rattle.std.specs.Prelude.{Option, Some, None, ◌==◌}
use Rattle.std.specs.List.{filter, list_any}
use Rattle.std.proofs.lemmas.Bool.{cases_lt}
use Rattle.osek_base.specs.declared.arrivals.Arrival.{Arrival}
use Rattle.osek_base.specs.Proper.{IsProper}
use Rattle.osek_base.specs.System.{System}
use Rattle.osek_base.specs.Tick.{is_pending}
use Rattle.osek_base.specs.Trace.{arriving, run}
use Rattle.arrival_rules.specs.declared.rule.ArrivalRule.{ArrivalRule}
use Rattle.arrival_rules.specs.Rules.{KeepRules}
use Rattle.law_runs.proofs.Lists.{clash}
use Rattle.law_future.specs.Shown.{arrives}
use Rattle.seen_ticks.specs.Observed.{lost_of, routine_seen, tick_at}
use Rattle.law_figures.specs.Labels.{IsAtMost}
use Rattle.law_figures.specs.Pending.{pending}
use Rattle.law_figures.specs.RunFigures.{label_before, routine_ticks}
use Rattle.law_figures.specs.Times.{waited}
use Rattle.law_jobs.specs.PendingSince.{IsPendingSince, IsWait, starts_in, ticks_waited}
use Rattle.law_jobs.proofs.Flags.{is_raised}
use Rattle.law_jobs.proofs.Pending.{latencies_are_of_interrupts, next_flag, pends_on}
use Rattle.law_windows.specs.Losses.{NoneIsLost}
use Rattle.law_bounds.specs.RunTicks.{waited_at}
use Rattle.law_bounds.proofs.RunTicks.{waits_low}
use Rattle.law_analysis.specs.Told.{StartsBefore}

module _ (S : System) (mode : ℕ) (rules : List ArrivalRule) (arrivals : List Arrival)
    (proper : IsProper S) (keep : KeepRules S rules arrivals) (i : ℕ)
    (known : i < length S.routines) where
  abbrev IsOver : ℕ → Bool → Type 0
  IsOver n over = (run S mode arrivals n).state.over ≡ over

  abbrev Pends : ℕ → ℕ → Type 0
  Pends n since = IsPendingSince S mode arrivals n i since

  -- what pends in a tick pends behind each before it
  module _ (bound : ℕ) (starts : StartsBefore S mode rules bound i) where
    pends_before : (p since : ℕ) → IsOver (suc p) false → since ≤ p → Pends (suc p) since
        → suc p < since + bound
    pends_before p since going order is =
        starts arrivals p since keep going order
        (λ t low high. is.between (suc t) (omega (arith, low)) (omega (arith, high)))

    early_low : (n since : ℕ) → IsOver n false → since < n → Pends n since → n < since + bound
    early_low zero since going less is = absurd (omega (arith, less))
    early_low (suc p) since going less is =
        pends_before p since going (omega (arith, less)) is

    module _ (n since : ℕ) (going : IsOver n false) (is : Pends n since) where
      -- its routine starts in the tick
      started_low : n - since ≤ bound - 1
      started_low = go (cases_lt since n)
        where
          go : (since < n) ⊎ (n ≤ since) → n - since ≤ bound - 1
          go (inl less) = let soon = early_low n since going less is in omega (arith, soon)
          go (inr more) = omega (arith, more)

      -- it doesn't, and the run goes on
      unstarted_low : starts_in S mode arrivals n i ≡ false → IsOver (suc n) false
          → suc n - since ≤ bound - 1
      unstarted_low none later =
          let on : Pends (suc n) since =
          pends_on S mode arrivals i proper known n since
          (next_flag S mode arrivals i proper known n going
          ∙ ap (λ b. cond b false (is_raised S mode arrivals n i)) none) is in
          let soon = pends_before n since later is.past on in
          omega (arith, soon)

      -- or ends with it
      last_low : 1 ≤ bound → suc n - since ≤ bound
      last_low some = go (cases_lt since n)
        where
          go : (since < n) ⊎ (n ≤ since) → suc n - since ≤ bound
          go (inl less) = let soon = early_low n since going less is in omega (arith, soon)
          go (inr more) = omega (arith, more, some)

  abbrev shown : ℕ → Option ℕ
  shown n =
      waited (routine_ticks S mode arrivals i n)
      (label_before pending (routine_ticks S mode arrivals i) n)

  -- where each wait of a tick is low, so is what is shown
  waits_within : (n most : ℕ) → IsOver n false
      → ((since : ℕ) → Pends n since → ticks_waited S mode arrivals n i since ≤ most)
      → IsAtMost most (waited_at S mode arrivals i n)
  waits_within n most going low =
      waits_low S mode arrivals proper i n most going (go (shown n) refl)
    where
      go : (o : Option ℕ) → shown n ≡ o → IsAtMost most o
      go None is = tt
      go (Some wait) is =
          let it : IsWait S mode arrivals n i wait =
          (latencies_are_of_interrupts S mode arrivals n i proper going known).waits wait is in
          let few = low it.since it.pends in
          let same = it.ticks in
          omega (arith, few, same)

  -- by starts before so many ticks, where the last tick of a run has one
  pub waits_by_starts : (n most : ℕ) → IsOver n false → StartsBefore S mode rules most i
      → (IsOver (suc n) true → 1 ≤ most) → IsAtMost most (waited_at S mode arrivals i n)
  waits_by_starts n most going starts last =
      waits_within n most going (λ since is.
      go since is (starts_in S mode arrivals n i) refl (run S mode arrivals (suc n)).state.over refl)
    where
      go : (since : ℕ) → Pends n since → (b : Bool) → starts_in S mode arrivals n i ≡ b
          → (over : Bool) → IsOver (suc n) over → cond b n (suc n) - since ≤ most
      go since is true starting over later =
          let low = started_low most starts n since going is in omega (arith, low)
      go since is false none false later =
          let low = unstarted_low most starts n since going is none later in omega (arith, low)
      go since is false none true later = last_low most starts n since going is (last later)

  -- and where no run ends, by starts a tick later
  pub waits_by_later_starts : (n most : ℕ) → IsOver n false
      → StartsBefore S mode rules (suc most) i → IsOver (suc n) false
      → IsAtMost most (waited_at S mode arrivals i n)
  waits_by_later_starts n most going starts later =
      waits_within n most going (λ since is. go since is (starts_in S mode arrivals n i) refl)
    where
      go : (since : ℕ) → Pends n since → (b : Bool) → starts_in S mode arrivals n i ≡ b
          → cond b n (suc n) - since ≤ most
      go since is true starting =
          let low = started_low (suc most) starts n since going is in omega (arith, low)
      go since is false none =
          let low = unstarted_low (suc most) starts n since going is none later in
          omega (arith, low)

  -- ---- losses

  none_counted : (ns : List ℕ) → list_any (λ m. m == i) ns ≡ false
      → length (filter (λ m. m == i) ns) ≡ 0
  none_counted [] none = refl
  none_counted (m ∷ ns) none = go (m == i) none (none_counted ns)
    where
      go : (b : Bool) → (b || list_any (λ m. m == i) ns) ≡ false
          → (list_any (λ m. m == i) ns ≡ false → length (filter (λ m. m == i) ns) ≡ 0)
          → length (cond b (m ∷ filter (λ m. m == i) ns) (filter (λ m. m == i) ns)) ≡ 0
      go true none rest = clash none
      go false none rest = rest none

  none_lost : (n : ℕ) → IsOver n false → NoneIsLost S mode arrivals i
      → (routine_seen (tick_at S mode arrivals n) i).lost ≡ 0
  none_lost n going none =
      go (arrives arrivals n i) refl (is_pending (run S mode arrivals n).state i) refl
    where
      count : ℕ
      count = length (filter (λ m. m == i) (arriving arrivals n))

      few : count ≤ 1
      few = keep.once i n

      go : (b : Bool) → arrives arrivals n i ≡ b → (p : Bool)
          → is_pending (run S mode arrivals n).state i ≡ p → lost_of p count ≡ 0
      go true comes true on = clash (sym on ∙ none n going comes)
      go true comes false off = let low = few in omega (arith, low)
      go false comes true on = none_counted (arriving arrivals n) comes
      go false comes false off =
          let zero_of = none_counted (arriving arrivals n) comes in omega (arith, zero_of)

  pub losses_low : (n most : ℕ) → IsOver n false
      → NoneIsLost S mode arrivals i ⊎ (1 ≤ most)
      → min 1 (routine_seen (tick_at S mode arrivals n) i).lost ≤ most
  losses_low n most going (inl none) =
      let is = none_lost n going none in omega (arith, is)
  losses_low n most going (inr some) = omega (arith, some)
