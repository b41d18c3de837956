-- A routine that is pending starts as many ticks earlier as it executes instructions.
use Rattle.std.proofs.Common.{◌≡◌, ◌⊎◌, inl, inr, ℕ, zero, suc, ◌+◌, ◌<◌, ◌≤◌, Bool, true, false, cond, ◌||◌, List, length, refl, sym, ◌∙◌, ap, subst, arith}
use Rattle.std.specs.Prelude.{Option, Some, None, slice_index_or}
use Rattle.std.specs.List.{list_any}
use Rattle.std.proofs.lemmas.Bool.{cases_eq, cases_lt}
use Rattle.std.proofs.lemmas.List.{get_or-set_other}
use Rattle.osek_base.specs.declared.arrivals.Arrival.{Arrival}
use Rattle.osek_base.specs.Proper.{IsProper}
use Rattle.osek_base.specs.Reschedule.{reschedule}
use Rattle.osek_base.specs.State.{Active, State, may_dispatch}
use Rattle.osek_base.specs.System.{System}
use Rattle.osek_base.specs.Tick.{alarm_phase, arrival_phase, is_pending, routine_choice, routine_started, start_phase, tick, with_start_of}
use Rattle.osek_base.specs.Trace.{arriving, run}
use Rattle.arrival_rules.specs.declared.rule.ArrivalRule.{ArrivalRule}
use Rattle.arrival_rules.specs.Rules.{KeepRules}
use Rattle.law_windows.specs.Analysis.{IsBoundOf}
use Rattle.law_windows.specs.Responses.{PendsBehind}
use Rattle.law_windows.specs.Routines.{begun}
use Rattle.law_windows.specs.Work.{goes_at, has_work, has_work_after, is_active_at, is_busy, is_work, some_pending}
use Rattle.law_windows.proofs.Before.{pending_alarms, pending_reschedule}
use Rattle.law_windows.proofs.Begins.{busy_ticks_lie_in_windows}
use Rattle.law_windows.proofs.Responses.{same_flags}
use Rattle.law_windows.proofs.Short.{going_early}
use Rattle.law_windows.proofs.Working.{Pends, pending_is_work, pending_works, stays_flagged}
use Rattle.law_costs.specs.Known.{at_instruction}
use Rattle.law_costs.specs.Left.{Switch, on, switch_of}
use Rattle.law_costs.proofs.Switches.{dispatching}
use Rattle.law_nodes.specs.Closed.{is_closed}
use Rattle.law_nodes.specs.Nodes.{Table}
use Rattle.law_analysis.specs.Late.{LongRoutinesStartEarly}
use Rattle.law_analysis.specs.Lengths.{Lasts}
use Rattle.law_analysis.specs.Told.{may_end}
use Rattle.law_analysis.proofs.Active.{Runs, goes_further}
use Rattle.law_analysis.proofs.Ending.{goes_on}

-- ---- flags

abbrev flag : List Bool → ℕ → Bool
flag flags i = slice_index_or flags i false

-- ---- a start

-- a routine starts, or its flag stays
abbrev StartsOrPends : ℕ → State → Type 0
StartsOrPends i e = Runs on (begun i) e ⊎ (is_pending e i ≡ true)

module _ (S : System) (i : ℕ) where
  chosen_starts : (s : State) → switch_of s ≡ on → (o : Option ℕ) → is_pending s i ≡ true
      → StartsOrPends i (with_start_of s (routine_started o s))
  chosen_starts s is None up = inr up
  chosen_starts s is (Some r) up = elim (cases_eq i r) [
    | inl same ↦
        inl (record {
          active = ap (λ (k : ℕ). Some (begun k)) (sym same);
          finds = is;
        })
    | inr away ↦ inr (get_or-set_other s.pending r i false false away ∙ up)
  ]

  phase_starts : (s : State) → is_pending s i ≡ true → StartsOrPends i (start_phase S s)
  unfolding start_phase
  phase_starts s up = go (may_dispatch s) refl
    where
      go : (b : Bool) → may_dispatch s ≡ b
          → StartsOrPends i
          (with_start_of s (cond b (routine_started (routine_choice S s) s) s))
      go true may = chosen_starts s (dispatching s may).1 (routine_choice S s) up
      go false may = inr up

  tick_starts : (arrived : List ℕ) (s : State) → is_pending s i ≡ true
      → StartsOrPends i (tick S arrived s).executing
  unfolding tick
  tick_starts arrived s up =
      let acted : State = (alarm_phase S s).state in
      let raised : State = arrival_phase arrived acted in
      phase_starts (reschedule S raised).state
      (ap (λ flags. flag flags i) (pending_reschedule S raised)
      ∙ stays_flagged arrived acted.pending i
      (ap (λ flags. flag flags i) (pending_alarms S s) ∙ up))

-- ---- rows of busy ticks

active_is_work : (S : System) (p : ℕ) (s : State) (a : Active) → s.active ≡ Some a
    → goes_at S p a.routine ≡ true → has_work S p s ≡ true
active_is_work S p s a is goes =
    ap (λ o. is_active_at S p o || (some_pending S p s || list_any (is_work S p) s.jobs)) is
    ∙ ap (λ b. b || (some_pending S p s || list_any (is_work S p) s.jobs)) goes

module _ (S : System) (mode : ℕ) (rules : List ArrivalRule) (table : Table) (p most i count : ℕ)
    (proper : IsProper S) (closed : is_closed S table ≡ true) (none : may_end S table ≡ false)
    (known : i < length S.routines) (level : goes_at S p i ≡ true)
    (bound : IsBoundOf S mode rules p most) (long : Lasts S count on (begun i))
    (arrivals : List Arrival) (keep : KeepRules S rules arrivals) (since : ℕ) where
  abbrev here : ℕ → State
  here n = (run S mode arrivals n).state

  abbrev at : ℕ → State
  at n = at_instruction S mode arrivals n

  abbrev Going : ℕ → Type 0
  Going n = (here n).over ≡ false

  further : (n : ℕ) → Going n → Going (suc n)
  further n going = goes_on S mode arrivals proper table closed n going none

  -- ticks from the first on are busy, up to one, and work stands between them
  record AreBusy (n : ℕ) : Type 0 where
    order : since ≤ n
    going : Going n
    busy : (t : ℕ) → since ≤ t → t ≤ n → is_busy S mode arrivals p t ≡ true
    joined : (t : ℕ) → since < t → t ≤ n → has_work_after S mode arrivals p t ≡ true

  within : (n : ℕ) → AreBusy n → n < since + most
  within n row =
      let found =
      busy_ticks_lie_in_windows S mode arrivals p since n row.order row.going row.busy row.joined in
      let early = found.early in
      let short = bound.windows arrivals keep found.first n found.window in
      omega (arith, early, short)

  one_more : (n : ℕ) → AreBusy n → is_busy S mode arrivals p (suc n) ≡ true
      → has_work_after S mode arrivals p (suc n) ≡ true → AreBusy (suc n)
  one_more n row busy stands =
      let order = row.order in
      record {
        order = omega (arith, order);
        going = further n row.going;
        busy = λ t low high. elim (cases_lt n t) [
          | inl last ↦
              let same : suc n ≡ t = omega (arith, high, last) in
              subst (λ (k : ℕ). is_busy S mode arrivals p k ≡ true) same busy
          | inr inside ↦ row.busy t low inside
        ];
        joined = λ t low high. elim (cases_lt n t) [
          | inl last ↦
              let same : suc n ≡ t = omega (arith, high, last) in
              subst (λ (k : ℕ). has_work_after S mode arrivals p k ≡ true) same stands
          | inr inside ↦ row.joined t low inside
        ];
      }

  -- ---- while the routine is active

  active_within : (left n : ℕ) (w : Switch) (a : Active) → a.routine ≡ i → AreBusy n
      → Runs w a (at n) → Lasts S left w a → n + left ≤ since + most
  active_within zero n w a own row runs lasts = let low = within n row in omega (arith, low)
  active_within (suc zero) n w a own row runs lasts = let low = within n row in omega (arith, low)
  active_within (suc (suc left)) n w a own row runs lasts =
      let next =
      goes_further S mode arrivals proper n (suc left) w a (further n row.going) runs lasts
      (omega arith) in
      let same : next.routine.routine ≡ i = next.same ∙ own in
      let goes : goes_at S p next.routine.routine ≡ true = ap (goes_at S p) same ∙ level in
      let rest =
      active_within (suc left) (suc n) next.switch next.routine same
      (one_more n row (active_is_work S p (at (suc n)) next.routine next.runs.active goes)
      (active_is_work S p (here (suc n)) next.routine next.behind goes))
      next.runs next.lasts in
      omega (arith, rest)

  -- ---- while it is pending

  abbrev PendsSince : ℕ → Type 0
  PendsSince n = PendsBehind S mode arrivals i since n

  pend : (s : State) → is_pending s i ≡ true → Pends S p s i
  pend s up = record { known = known; goes = level; pends = up }

  busy_at : (t : ℕ) → Going t → is_pending (here (suc t)) i ≡ true
      → is_busy S mode arrivals p t ≡ true
  busy_at t going up =
      pending_is_work S p (at t) i
      (pend (at t)
      (sym (ap (λ flags. flag flags i) (same_flags S mode arrivals t going)) ∙ up))

  busy_next : (t : ℕ) → is_pending (here t) i ≡ true → is_busy S mode arrivals p t ≡ true
  busy_next t up =
      pending_works S p (arriving arrivals (here t).tick) (here t) i (pend (here t) up)

  pending_busy : (n : ℕ) → Going (suc n) → since ≤ n → PendsSince n → AreBusy (suc n)
  pending_busy n going order pends = record {
    order = omega (arith, order);
    going = going;
    busy = λ t low high. elim (cases_lt n t) [
      | inl last ↦
          let same : suc n ≡ t = omega (arith, high, last) in
          subst (λ (k : ℕ). is_busy S mode arrivals p k ≡ true) same
          (busy_next (suc n) (pends n order (omega arith)))
      | inr inside ↦
          busy_at t (going_early S mode arrivals (suc n) t high going) (pends t low inside)
    ];
    joined = λ t low high. stands t low high;
  }
    where
      stands : (t : ℕ) → since < t → t ≤ suc n → has_work_after S mode arrivals p t ≡ true
      stands zero low high = absurd (omega (arith, low))
      stands (suc t) low high =
          pending_is_work S p (here (suc t)) i
          (pend (here (suc t)) (pends t (omega (arith, low)) (omega (arith, high))))

  -- its routine starts in the next tick, or it is pending behind that too
  next_tick : (n : ℕ) → Going (suc n) → since ≤ n → PendsSince n
      → Runs on (begun i) (at (suc n)) ⊎ PendsSince (suc n)
  next_tick n going order pends =
      go
      (tick_starts S i (arriving arrivals (here (suc n)).tick) (here (suc n))
      (pends n order (omega arith)))
    where
      go : StartsOrPends i (at (suc n)) → Runs on (begun i) (at (suc n)) ⊎ PendsSince (suc n)
      go (inl starts) = inl starts
      go (inr up) = inr (λ t low high. elim (cases_lt n t) [
        | inl last ↦
            let same : suc n ≡ t = omega (arith, high, last) in
            subst (λ (k : ℕ). is_pending (here (suc k)) i ≡ true) same
            (ap (λ flags. flag flags i) (same_flags S mode arrivals (suc n) going) ∙ up)
        | inr inside ↦ pends t low inside
      ])

  -- it can't be for long, so its routine starts, and all its instructions are in the window
  starts_within : (left n : ℕ) → Going (suc n) → since ≤ n → PendsSince n
      → since + most ≤ suc n + left → suc n + count ≤ since + most
  starts_within zero n going order pends none_left =
      let soon = within (suc n) (pending_busy n going order pends) in
      absurd (omega (arith, soon, none_left))
  starts_within (suc left) n going order pends some_left = elim (next_tick n going order pends) [
    | inl starts ↦
        active_within count (suc n) on (begun i) refl (pending_busy n going order pends) starts
        long
    | inr later ↦
        let rest =
        starts_within left (suc n) (further (suc n) going) (omega (arith, order)) later
        (omega (arith, some_left)) in
        omega (arith, rest)
  ]

pub long_routines_start_early : LongRoutinesStartEarly
long_routines_start_early S mode rules table p most i count proper closed none known level bound long
    arrivals n since keep going order pends =
    let soon =
    starts_within S mode rules table p most i count proper closed none known level bound long
    arrivals keep since most n going order pends (omega (arith, order)) in
    omega (arith, soon, order)
