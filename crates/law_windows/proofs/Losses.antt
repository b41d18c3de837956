-- Where a routine starts before its next interrupt may come, none is lost.
use Rattle.std.proofs.Common.{ℕ, zero, suc, ◌≡◌, ◌<◌, ◌≤◌, ◌+◌, ◌-◌, ◌⊎◌, inl, inr, Bool, true, false, cond, ◌||◌, List, [], ◌∷◌, set, replicate, length, refl, sym, ◌∙◌, ap, subst, arith}
use Rattle.std.specs.Prelude.{Option, Some, None, ◌==◌, slice_index_or}
use Rattle.std.proofs.Math.Nat.{mul-le-mul_right}
use Rattle.std.proofs.lemmas.Bool.{cases_eq, cases_lt, eq-eqb}
use Rattle.std.proofs.lemmas.List.{get_or-set_other}
use Rattle.osek_base.specs.declared.arrivals.Arrival.{Arrival}
use Rattle.osek_base.specs.Activation.{activated}
use Rattle.osek_base.specs.Lists.{is_in}
use Rattle.osek_base.specs.Reschedule.{reschedule}
use Rattle.osek_base.specs.State.{State, may_dispatch, still}
use Rattle.osek_base.specs.System.{System}
use Rattle.osek_base.specs.Tick.{alarm_phase, arrival_phase, flagged, is_pending, routine_choice, routine_started, start_phase, tick}
use Rattle.osek_base.specs.Trace.{all_activated, arriving, boot, run, starting_alarms, starting_tasks}
use Rattle.arrival_rules.specs.declared.rule.ArrivalRule.{ArrivalRule}
use Rattle.arrival_rules.specs.Rules.{KeepRules, KeepsRule, comes, rule_at}
use Rattle.law_runs.proofs.Lists.{clash}
use Rattle.law_runs.proofs.RunSteps.{going_before, run_tick}
use Rattle.law_future.specs.Shown.{arrives}
use Rattle.law_bounds.proofs.Comings.{first_counts}
use Rattle.law_windows.specs.Responses.{RespondWithin}
use Rattle.law_windows.specs.Losses.{KeepsApart, NoneIsLost, SoonStartedAreNotLost}
use Rattle.law_windows.proofs.Before.{or_true, pending_alarms, pending_reschedule}
use Rattle.law_windows.specs.Work.{goes_at}
use Rattle.law_windows.proofs.Responses.{same_flags}

-- ---- flags

abbrev pub flag : List Bool → ℕ → Bool
flag flags i = slice_index_or flags i false

pub not_taken : (flags : List Bool) (r i : ℕ) → flag (set flags r false) i ≡ true
    → flag flags i ≡ true
not_taken [] r i on = on
not_taken (b ∷ flags) zero zero on = clash (sym on)
not_taken (b ∷ flags) zero (suc i) on = on
not_taken (b ∷ flags) (suc r) zero on = on
not_taken (b ∷ flags) (suc r) (suc i) on = not_taken flags r i on

abbrev pub IsRaised : List ℕ → List Bool → ℕ → Type 0
IsRaised arrived flags i = (is_in i arrived ≡ true) ⊎ (flag flags i ≡ true)

pub raised : (arrived : List ℕ) (flags : List Bool) (i : ℕ) → flag (flagged arrived flags) i ≡ true
    → IsRaised arrived flags i
raised [] flags i on = inr on
raised (r ∷ arrived) flags i on = go (raised arrived (set flags r true) i on)
  where
    go : IsRaised arrived (set flags r true) i → IsRaised (r ∷ arrived) flags i
    go (inl later) = inl (ap (λ b. (r == i) || b) later ∙ or_true (r == i))
    go (inr set) = elim (cases_eq i r) [
      | inl here ↦ inl (ap (λ b. b || is_in i arrived) (eq-eqb r i (sym here)))
      | inr away ↦ inr (sym (get_or-set_other flags r i true false away) ∙ set)
    ]

pub none_on : (n i : ℕ) → flag (replicate n false) i ≡ false
none_on zero i = refl
none_on (suc n) zero = refl
none_on (suc n) (suc i) = none_on n i

-- ---- a tick

module _ (S : System) where
  started : (chosen : Option ℕ) (s : State) (i : ℕ)
      → flag (routine_started chosen s).pending i ≡ true → flag s.pending i ≡ true
  started None s i on = on
  started (Some r) s i on = not_taken s.pending r i on

  start_raised : (s : State) (i : ℕ) → flag (start_phase S s).pending i ≡ true
      → flag s.pending i ≡ true
  unfolding start_phase
  start_raised s i on = go (may_dispatch s) on
    where
      go : (b : Bool) → flag (cond b (routine_started (routine_choice S s) s) s).pending i ≡ true
          → flag s.pending i ≡ true
      go true on = started (routine_choice S s) s i on
      go false on = on

  tick_raised : (arrived : List ℕ) (s : State) (i : ℕ)
      → flag (tick S arrived s).executing.pending i ≡ true → IsRaised arrived s.pending i
  unfolding tick
  tick_raised arrived s i on =
      let acted : State = (alarm_phase S s).state in
      let ready : State = (reschedule S (arrival_phase arrived acted)).state in
      let before : flag (flagged arrived acted.pending) i ≡ true =
      sym (ap (λ flags. flag flags i) (pending_reschedule S (arrival_phase arrived acted)))
      ∙ start_raised ready i on in
      subst (λ flags. IsRaised arrived flags i) (pending_alarms S s)
      (raised arrived acted.pending i before)

  activated_pending : (t : ℕ) (s : State) → (activated S t s).pending ≡ s.pending
  unfolding activated
  activated_pending t s = refl

  pub all_pending : (ts : List ℕ) (s : State) → (all_activated S ts s).pending ≡ s.pending
  all_pending [] s = refl
  all_pending (t ∷ ts) s = all_pending ts (activated S t s) ∙ activated_pending t s

  boot_pending : (mode : ℕ) (arrivals : List Arrival)
      → (run S mode arrivals 0).state.pending ≡ replicate (length S.routines) false
  unfolding run boot
  boot_pending mode arrivals =
      let set : State = record (still S) { alarms = starting_alarms S mode } in
      pending_reschedule S (all_activated S (starting_tasks S mode) set)
      ∙ all_pending (starting_tasks S mode) set

-- ---- a run

-- an interrupt of the routine that arrived in an earlier tick is pending behind it, and stays so
-- up to a tick
record IsPendingSince (S : System) (mode : ℕ) (arrivals : List Arrival) (i n : ℕ) : Type 0 where
  since : ℕ
  early : since < n
  arrived : arrives arrivals since i ≡ true
  pends : (t : ℕ) → since ≤ t → t < n → is_pending (run S mode arrivals (suc t)).state i ≡ true

module _ (S : System) (mode : ℕ) (arrivals : List Arrival) (i : ℕ) where
  since_when : (n : ℕ) → (run S mode arrivals n).state.over ≡ false
      → is_pending (run S mode arrivals n).state i ≡ true → IsPendingSince S mode arrivals i n
  since_when zero going on =
      clash (sym on ∙ ap (λ flags. flag flags i) (boot_pending S mode arrivals)
      ∙ none_on (length S.routines) i)
  since_when (suc n) going on =
      go
      (subst (λ t. IsRaised (arriving arrivals t) before.pending i)
      (run_tick S mode arrivals n later)
      (tick_raised S (arriving arrivals before.tick) before i
      (sym (ap (λ flags. flag flags i) (same_flags S mode arrivals n later)) ∙ on)))
      (since_when n later)
    where
      later : (run S mode arrivals n).state.over ≡ false
      later = going_before S mode arrivals n going

      before : State
      before = (run S mode arrivals n).state

      go : IsRaised (arriving arrivals n) before.pending i
          → (is_pending before i ≡ true → IsPendingSince S mode arrivals i n)
          → IsPendingSince S mode arrivals i (suc n)
      go (inl now) rest = record {
        since = n;
        early = omega arith;
        arrived = now;
        pends = λ t low high.
            let same : n ≡ t = omega (arith, low, high) in
            subst (λ (k : ℕ). is_pending (run S mode arrivals (suc k)).state i ≡ true) same on;
      }
      go (inr already) rest =
          let found = rest already in
          let early = found.early in
          record {
            since = found.since;
            early = omega (arith, early);
            arrived = found.arrived;
            pends = λ t low high. elim (cases_lt t n) [
              | inl before_it ↦ found.pends t low before_it
              | inr last ↦
                  let same : n ≡ t = omega (arith, last, high) in
                  subst (λ (k : ℕ). is_pending (run S mode arrivals (suc k)).state i ≡ true) same
                  on
            ];
          }

-- by a rule two interrupts, of which the later comes so many ticks behind, are apart by the period
-- but for the slack
period_apart : (rule : ArrivalRule) (arrivals : List Arrival) (t apart : ℕ)
    → KeepsRule arrivals rule → comes arrivals rule.routine t ≡ true
    → comes arrivals rule.routine (t + suc apart) ≡ true → rule.period ≤ apart + rule.slack
period_apart rule arrivals t apart keeps one other =
    let far = keeps t (suc apart) one other in
    let some = first_counts arrivals rule.routine t one apart in
    let more = mul-le-mul_right rule.period some in
    omega (arith, far, more)

module _ (S : System) (mode : ℕ) (rules : List ArrivalRule) (arrivals : List Arrival)
    (p most r : ℕ) (keep : KeepRules S rules arrivals)
    (within : RespondWithin S mode arrivals p most)
    (known : (rule_at rules r).routine < length S.routines)
    (level : goes_at S p (rule_at rules r).routine ≡ true)
    (short : KeepsApart (rule_at rules r) most) where
  abbrev i : ℕ
  i = (rule_at rules r).routine

  no_room : (n : ℕ) → (run S mode arrivals n).state.over ≡ false → arrives arrivals n i ≡ true
      → IsPendingSince S mode arrivals i n → ⊥
  no_room zero going now found = let early = found.early in absurd (omega (arith, early))
  no_room (suc n) going now found =
      let early = found.early in
      let order : found.since ≤ n = omega (arith, early) in
      let soon : suc n < found.since + most =
      within.routines n found.since i going known level order
      (λ t low high. found.pends t low (omega (arith, high))) in
      let apart : ℕ = n - found.since in
      let is : suc n ≡ found.since + suc apart = omega (arith, order) in
      let far =
      period_apart (rule_at rules r) arrivals found.since apart (keep.each r) found.arrived
      (subst (λ t. comes arrivals i t ≡ true) is now) in
      absurd (omega (arith, soon, is, far, short))

  none_lost : NoneIsLost S mode arrivals i
  none_lost n going now = go (is_pending (run S mode arrivals n).state i) refl
    where
      go : (b : Bool) → is_pending (run S mode arrivals n).state i ≡ b → b ≡ false
      go false is = refl
      go true is = absurd (no_room n going now (since_when S mode arrivals i n going is))

pub soon_started_are_not_lost : SoonStartedAreNotLost
soon_started_are_not_lost S mode rules arrivals p most n keep within known level short =
    none_lost S mode rules arrivals p most n keep within known level short
