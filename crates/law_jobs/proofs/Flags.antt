-- The flag of a routine in a tick: an arrival raises it, a start takes it back, and nothing else
-- changes it.
use Rattle.std.proofs.Common.{◌≡◌, ◌⊎◌, inl, inr, ℕ, zero, suc, ◌<◌, Bool, true, false, cond, not, ◌&&◌, ◌||◌, List, [], ◌∷◌, get_or, length, refl, sym, ◌∙◌, ap, subst, arith}
use Rattle.std.specs.Prelude.{Option, Some, None, is_some, ◌==◌}
use Rattle.std.specs.Option.{option_map}
use Rattle.std.proofs.lemmas.Bool.{and_parts, cases_eq, eq-eqb, ne_eqb}
use Rattle.std.proofs.lemmas.Grind.{get_or-set_at}
use Rattle.std.proofs.lemmas.List.{get_or-set_other}
use Rattle.osek_base.specs.declared.arrivals.Arrival.{Arrival}
use Rattle.osek_base.specs.Alarm.{alarms_advanced, due_alarms}
use Rattle.osek_base.specs.Lists.{below, is_foremost, is_in}
use Rattle.osek_base.specs.Proper.{IsProper}
use Rattle.osek_base.specs.Reschedule.{reschedule}
use Rattle.osek_base.specs.Service.{unasked_service}
use Rattle.osek_base.specs.State.{Active, State, interrupts_off, may_dispatch}
use Rattle.osek_base.specs.System.{System, routine}
use Rattle.osek_base.specs.Tick.{alarm_acts, alarm_phase, alarms_act, arrival_phase, before_execution, flagged, is_pending, routine_choice, routine_started, start_phase, with_start_of}
use Rattle.osek_base.specs.Trace.{arriving, run}
use Rattle.law_runs.proofs.Foremost.{foremost_greatest}
use Rattle.law_runs.proofs.FormedTick.{run_form}
use Rattle.law_runs.proofs.Lists.{all_any, clash, found}
use Rattle.law_kept.specs.Seen.{routine_of}
use Rattle.law_blockers.specs.Steps.{step_at}
use Rattle.law_blockers.proofs.StepLemmas.{executing_is}
use Rattle.law_future.specs.Shown.{arrives}
use Rattle.law_future.proofs.Arrivals.{flag_at}
use Rattle.seen_ticks.specs.Observed.{is_number}
use Rattle.law_jobs.specs.PendingSince.{is_active, starts_in}

-- ---- phases that neither raise flags nor start routines

record IsCalm (s x : State) : Type 0 where
  pending : x.pending ≡ s.pending
  active : x.active ≡ s.active

module _ (S : System) where
  act_calm : (a : ℕ) (s : State) → IsCalm s (alarm_acts S a s).state
  unfolding unasked_service
  act_calm a s = record { pending = refl; active = refl }

  alarms_calm : (due : List ℕ) (s : State) → IsCalm s (alarms_act S due s).state
  alarms_calm [] s = record { pending = refl; active = refl }
  alarms_calm (a ∷ due) s =
      let first = act_calm a s in
      let rest = alarms_calm due (alarm_acts S a s).state in
      record { pending = rest.pending ∙ first.pending; active = rest.active ∙ first.active }

  phase_calm : (s : State) → IsCalm s (alarm_phase S s).state
  unfolding alarm_phase
  phase_calm s =
      let acted =
      alarms_calm (due_alarms S s) (record s { alarms = alarms_advanced S s }) in
      record { pending = acted.pending; active = acted.active }

  reschedule_calm : (s : State) → IsCalm s (reschedule S s).state
  unfolding reschedule
  reschedule_calm s = record { pending = refl; active = refl }

-- ---- the start

-- what a start leaves of a flag, and that it was raised where its routine starts
record IsStart (k : ℕ) (up : Bool) (s e : State) : Type 0 where
  flag : is_pending e k ≡ cond (is_active e k && not (is_active s k)) false up
  raised : (is_active e k && not (is_active s k)) ≡ true → up ≡ true

not_both : (b : Bool) → (b && not b) ≡ false
not_both true = refl
not_both false = refl

not_off : (b : Bool) → not b ≡ true → b ≡ false
not_off false h = refl
not_off true h = clash (sym h)

inactive : (k : ℕ) (o : Option Active) → is_some o ≡ false
    → is_number k (option_map routine_of o) ≡ false
inactive k None h = refl
inactive k (Some a) h = clash h

in_range : (flags : List Bool) (i : ℕ) → get_or flags i false ≡ true → i < length flags
in_range [] i h = clash (sym h)
in_range (b ∷ flags) zero h = omega arith
in_range (b ∷ flags) (suc i) h = let low = in_range flags i h in omega (arith, low)

module _ (S : System) (k : ℕ) (s : State) where
  -- where the routine doesn't start
  no_start : (e : State) → (is_active e k && not (is_active s k)) ≡ false
      → is_pending e k ≡ is_pending s k → IsStart k (is_pending s k) s e
  no_start e not_it same = record {
    flag = same ∙ sym (ap (λ b. cond b false (is_pending s k)) not_it);
    raised = λ h. clash (sym h ∙ not_it);
  }

  some_start : (i : ℕ) → is_some s.active ≡ false → is_pending s i ≡ true
      → IsStart k (is_pending s k) s (with_start_of s (routine_started (Some i) s))
  some_start i idle up = go (cases_eq k i)
    where
      none : is_active s k ≡ false
      none = inactive k s.active idle

      go : (k ≡ i) ⊎ (k ≡ i → ⊥)
          → IsStart k (is_pending s k) s (with_start_of s (routine_started (Some i) s))
      go (inl same) =
          let it : (i == k) ≡ true = eq-eqb i k (sym same) in
          record {
            flag =
                get_or-set_at s.pending i k false false same (in_range s.pending i up)
                ∙ sym (ap (λ b. cond (b && not (is_active s k)) false (is_pending s k)) it
                ∙ ap (λ b. cond (not b) false (is_pending s k)) none);
            raised = λ h. ap (is_pending s) same ∙ up;
          }
      go (inr other) =
          no_start (with_start_of s (routine_started (Some i) s))
          (ap (λ b. b && not (is_active s k)) (ne_eqb i k (λ h. other (sym h))))
          (get_or-set_other s.pending i k false false other)

  phase_start : IsStart k (is_pending s k) s (start_phase S s)
  unfolding start_phase
  phase_start = go (may_dispatch s) refl
    where
      same : IsStart k (is_pending s k) s (with_start_of s s)
      same = no_start (with_start_of s s) (not_both (is_active s k)) refl

      chosen : may_dispatch s ≡ true → (o : Option ℕ) → routine_choice S s ≡ o
          → IsStart k (is_pending s k) s (with_start_of s (routine_started o s))
      chosen may None is = same
      chosen may (Some i) is =
          some_start i
          (not_off (is_some s.active)
          (and_parts (not (is_some s.active)) (not (interrupts_off s)) may).0)
          (foremost_greatest (is_pending s) (λ i. (routine S i).priority)
          (below (length S.routines)) i
          (found (λ n. Unit {0})
          (is_foremost (is_pending s) (λ i. (routine S i).priority) (below (length S.routines)))
          (below (length S.routines)) i
          (all_any (λ n. Unit {0}) (below (length S.routines)) (λ n. tt)) is).1).0

      go : (b : Bool) → may_dispatch s ≡ b
          → IsStart k (is_pending s k) s
          (with_start_of s (cond b (routine_started (routine_choice S s) s) s))
      go true may = chosen may (routine_choice S s) refl
      go false may = same

-- ---- up to the instruction

module _ (S : System) (k : ℕ) (arrived : List ℕ) (s : State) (low : k < length s.pending) where
  abbrev dispatched : State
  dispatched = (reschedule S (arrival_phase arrived (alarm_phase S s).state)).state

  before_start : IsStart k (is_in k arrived || is_pending s k) s
      (before_execution S arrived s).state
  before_start =
      let acted : IsCalm s (alarm_phase S s).state = phase_calm S s in
      let calm : IsCalm (arrival_phase arrived (alarm_phase S s).state) dispatched =
      reschedule_calm S (arrival_phase arrived (alarm_phase S s).state) in
      let pending : dispatched.pending ≡ flagged arrived s.pending =
      calm.pending ∙ ap (flagged arrived) acted.pending in
      let active : is_active dispatched k ≡ is_active s k =
      ap (λ (o : Option Active). is_number k (option_map routine_of o))
      (calm.active ∙ acted.active) in
      let flag : is_pending dispatched k ≡ (is_in k arrived || is_pending s k) =
      ap (λ (flags : List Bool). get_or flags k false) pending ∙ flag_at arrived s.pending k low in
      let e : State = (before_execution S arrived s).state in
      let begun : IsStart k (is_pending dispatched k) dispatched e =
      phase_start S k dispatched in
      record {
        flag =
            begun.flag
            ∙ ap (λ b. cond (is_active e k && not b) false (is_pending dispatched k)) active
            ∙ ap (λ b. cond (is_active e k && not (is_active s k)) false b) flag;
        raised = λ h.
            sym flag ∙ begun.raised (ap (λ b. is_active e k && not b) active ∙ h);
      }

-- ---- a tick of a run

-- whether the flag is on behind the arrivals
abbrev pub is_raised : System → ℕ → List Arrival → ℕ → ℕ → Bool
is_raised S mode arrivals n k =
    arrives arrivals n k || is_pending (run S mode arrivals n).state k

module _ (S : System) (mode : ℕ) (arrivals : List Arrival) (n k : ℕ) (proper : IsProper S)
    (going : (run S mode arrivals n).state.over ≡ false) (known : k < length S.routines) where
  run_start : IsStart k (is_raised S mode arrivals n k) (run S mode arrivals n).state
      (step_at S mode arrivals n).executing
  run_start =
      subst (IsStart k (is_raised S mode arrivals n k) (run S mode arrivals n).state)
      (executing_is S mode arrivals n going)
      (before_start S k (arriving arrivals n) (run S mode arrivals n).state
      (subst (λ m. k < m) (sym (run_form S proper mode arrivals n).pending) known))

  pub flag_left : is_pending (step_at S mode arrivals n).executing k
      ≡ cond (starts_in S mode arrivals n k) false (is_raised S mode arrivals n k)
  flag_left = run_start.flag

  pub starts_raised : starts_in S mode arrivals n k ≡ true → is_raised S mode arrivals n k ≡ true
  starts_raised = run_start.raised
