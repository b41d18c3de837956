-- Which routines arrive is all that a tick takes of a list of arrivals.
use Rattle.std.proofs.Common.{ℕ, zero, suc, ◌≡◌, ◌<◌, ◌+◌, inl, inr, Bool, true, false, cond, ◌||◌, ◌&&◌, List, [], ◌∷◌, ◌++◌, set, get_or, length, refl, sym, ◌∙◌, ap, arith, length-set}
use Rattle.std.specs.Prelude.{Option, Some, None, ◌==◌, slice_index, bit_or}
use Rattle.std.specs.List.{filter}
use Rattle.std.proofs.lemmas.Bool.{cases_lt, cases_eq, ne_eqb, eq-eqb, eqb-true, true≢false}
use Rattle.std.proofs.lemmas.List.{get_or-set_other, ext_get_or}
use Rattle.std.proofs.lemmas.Grind.{get_or-set_at}
use Rattle.osek_base.specs.declared.task.Action.{Action}
use Rattle.osek_base.specs.declared.status.Status.{Status}
use Rattle.osek_base.specs.Lists.{below, is_in}
use Rattle.osek_base.specs.System.{System, alarm}
use Rattle.osek_base.specs.Alarm.{due_alarms, alarms_advanced}
use Rattle.osek_base.specs.Service.{first_refusal, is_met}
use Rattle.osek_base.specs.Tick.{action_call, flagged}
use Rattle.law_kept.specs.Kept.{Kept}
use Rattle.law_kept.specs.Moves.{KeptRecorded, released_in, rescheduled}
use Rattle.law_kept.specs.KeptService.{ByNobody, bare, with_mask, refusals_in, reply_in, unasked_in}
use Rattle.law_kept.specs.KeptTick.{and_then_in, alarm_acts_in, alarms_act_in, alarm_phase_in, start_phase_in, execute_phase_in, before_execution_in, last_phase_in, tick_in, KeptStep}
use Rattle.law_future.specs.Shown.{chosen_of}

-- ---- members

or-assoc : (a b c : Bool) → ((a || b) || c) ≡ (a || (b || c))
or-assoc true b c = refl
or-assoc false b c = refl

in_append : (i : ℕ) (xs ys : List ℕ) → is_in i (xs ++ ys) ≡ (is_in i xs || is_in i ys)
in_append i [] ys = refl
in_append i (x ∷ xs) ys = ap (λ b. (x == i) || b) (in_append i xs ys) ∙ sym (or-assoc (x == i) (is_in i xs) (is_in i ys))

pub below_low : (n i : ℕ) → is_in i (below n) ≡ true → i < n
below_low zero i is = absurd (true≢false (sym is))
below_low (suc n) i is = elim (cases_lt i (suc n)) [
  | inl less ↦ less
  | inr most ↦
      let e : is_in i (below (suc n)) ≡ (is_in i (below n) || is_in i (n ∷ [])) = in_append i (below n) (n ∷ []) in
      let last : is_in i (n ∷ []) ≡ false = ap (λ b. b || false) (ne_eqb n i (λ h. omega (arith, h, most))) in
      let before : is_in i (below n) ≡ true = sym (or_false (is_in i (below n))) ∙ ap (λ b. is_in i (below n) || b) (sym last) ∙ sym e ∙ is in
      let low = below_low n i before in
      absurd (omega (arith, low, most))
]
  where
    or_false : (b : Bool) → (b || false) ≡ b
    or_false true = refl
    or_false false = refl

in_below : (n i : ℕ) → i < n → is_in i (below n) ≡ true
in_below zero i low = absurd (omega (arith, low))
in_below (suc n) i low = elim (cases_lt i n) [
  | inl less ↦ in_append i (below n) (n ∷ []) ∙ ap (λ b. b || is_in i (n ∷ [])) (in_below n i less)
  | inr most ↦ in_append i (below n) (n ∷ []) ∙ last (is_in i (below n)) (n == i) (eq-eqb n i (omega (arith, low, most)))
]
  where
    last : (b c : Bool) → c ≡ true → (b || (c || false)) ≡ true
    last true c e = refl
    last false c e = ap (λ x. x || false) e

-- where the first of two is passed over, or is the one that is asked for
absorbs : (d m c : Bool) → (d ≡ true → c ≡ true) → (d || (m && c)) ≡ ((d || m) && c)
absorbs true m c h = sym (h refl)
absorbs false m c h = refl

none_of_both : (m : Bool) → (m && false) ≡ false
none_of_both true = refl
none_of_both false = refl

skips : (d m c : Bool) → (d ≡ true → c ≡ false) → (m && c) ≡ ((d || m) && c)
skips true m c h = ap (λ b. m && b) (h refl) ∙ (none_of_both m ∙ sym (h refl))
skips false m c h = refl

pub in_filter : (test : ℕ → Bool) (i : ℕ) (xs : List ℕ) → is_in i (filter test xs) ≡ (is_in i xs && test i)
in_filter test i [] = refl
in_filter test i (x ∷ xs) = go (test x) refl (in_filter test i xs)
  where
    go : (a : Bool) → test x ≡ a → is_in i (filter test xs) ≡ (is_in i xs && test i)
        → is_in i (cond a (x ∷ filter test xs) (filter test xs)) ≡ (((x == i) || is_in i xs) && test i)
    go true e rest = ap (λ b. (x == i) || b) rest ∙ absorbs (x == i) (is_in i xs) (test i) (λ h. ap test (sym (eqb-true x i h)) ∙ e)
    go false e rest = rest ∙ skips (x == i) (is_in i xs) (test i) (λ h. ap test (sym (eqb-true x i h)) ∙ e)

pub in_chosen : (S : System) (chosen : ℕ → Bool) (i : ℕ) → i < length S.routines → is_in i (chosen_of S chosen) ≡ chosen i
in_chosen S chosen i low =
    in_filter chosen i (below (length S.routines)) ∙ ap (λ b. b && chosen i) (in_below (length S.routines) i low)

-- ---- flags

pub flagged_length : (arrived : List ℕ) (flags : List Bool) → length (flagged arrived flags) ≡ length flags
flagged_length [] flags = refl
flagged_length (i ∷ arrived) flags = flagged_length arrived (set flags i true) ∙ length-set flags i true

or_true : (b : Bool) → (b || true) ≡ true
or_true true = refl
or_true false = refl

pub flag_at : (arrived : List ℕ) (flags : List Bool) (i : ℕ) → i < length flags
    → get_or (flagged arrived flags) i false ≡ (is_in i arrived || get_or flags i false)
flag_at [] flags i low = refl
flag_at (x ∷ arrived) flags i low =
    let long = length-set flags x true in
    flag_at arrived (set flags x true) i (omega (arith, low, long))
    ∙ elim (cases_eq i x) [
      | inl here ↦
          ap (λ b. is_in i arrived || b) (get_or-set_at flags x i true false here (omega (arith, low, here)))
          ∙ or_true (is_in i arrived) ∙ sym (ap (λ b. (b || is_in i arrived) || get_or flags i false) (eq-eqb x i (sym here)))
      | inr away ↦
          ap (λ b. is_in i arrived || b) (get_or-set_other flags x i true false away)
          ∙ sym (ap (λ b. (b || is_in i arrived) || get_or flags i false) (ne_eqb x i (λ h. away (sym h))))
    ]

flags_same : (arrived others : List ℕ) (flags : List Bool) → ((i : ℕ) → i < length flags → is_in i arrived ≡ is_in i others)
    → flagged arrived flags ≡ flagged others flags
flags_same arrived others flags same =
    let long = flagged_length arrived flags in
    let wide = flagged_length others flags in
    ext_get_or false (flagged arrived flags) (flagged others flags) (long ∙ sym wide)
    (λ i low.
    let inside : i < length flags = omega (arith, low, long) in
    flag_at arrived flags i inside ∙ ap (λ b. b || get_or flags i false) (same i inside) ∙ sym (flag_at others flags i inside))

-- ---- alarms raise and take no flag

module _ (S : System) where
  set_pending : (t set : ℕ) (o : Kept) (b : Bool) → (cond b (released_in S t (with_mask t set o)) (with_mask t set o)).pending ≡ o.pending
  set_pending t set o true = refl
  set_pending t set o false = refl

  acted_pending : (action : Action) (o : Kept) (refusal : Option Status) → (reply_in S ByNobody o (action_call action) refusal).state.pending ≡ o.pending
  acted_pending (Action.ActivateTask t) o None = refl
  acted_pending (Action.ActivateTask t) o (Some refusal) = refl
  acted_pending (Action.SetEvent t m) o None =
      set_pending t (bit_or (slice_index o.masks t) m) o (is_met (bit_or (slice_index o.masks t) m) (o.slots t).waits_for)
  acted_pending (Action.SetEvent t m) o (Some refusal) = refl

  act_pending : (action : Action) (o : Kept) → (unasked_in S ByNobody o (action_call action)).state.pending ≡ o.pending
  unfolding unasked_in
  act_pending action o = acted_pending action o (first_refusal (refusals_in S ByNobody o (action_call action)))

  alarms_pending : (due : List ℕ) (o : Kept) → (alarms_act_in S due o).state.pending ≡ o.pending
  alarms_pending [] o = refl
  alarms_pending (a ∷ due) o = alarms_pending due (alarm_acts_in S a o).state ∙ act_pending (alarm S a).action o

  pub phase_pending : (o : Kept) → (alarm_phase_in S o).state.pending ≡ o.pending
  unfolding alarm_phase_in
  phase_pending o = alarms_pending (due_alarms S (bare o)) (record o { alarms = alarms_advanced S (bare o) })

  -- ---- the tick

  -- where the same flags are raised, the tick is the same
  module _ (arrived others : List ℕ) (o : Kept) (flags : flagged arrived (alarm_phase_in S o).state.pending ≡ flagged others (alarm_phase_in S o).state.pending) where
    before_by_flags : before_execution_in S arrived o ≡ before_execution_in S others o
    before_by_flags =
        ap
        (λ (flags : List Bool). let dispatched = rescheduled S (record (alarm_phase_in S o).state { pending = flags }) in record { events = (alarm_phase_in S o).events ++ dispatched.events; state = start_phase_in S dispatched.state })
        flags

    pub tick_by_flags : tick_in S arrived o ≡ tick_in S others o
    unfolding tick_in
    tick_by_flags = ap finish before_by_flags
      where
        finish : KeptRecorded → KeptStep
        finish ready =
            let done = and_then_in (execute_phase_in S ready.state) (last_phase_in S) in
            let last = done.state in
            record { events = ready.events ++ done.events; after = record last { tick = last.tick + 1 } }

  module _ (arrived : List ℕ) (o : Kept) (size : length o.pending ≡ length S.routines) where
    chosen_same : flagged arrived (alarm_phase_in S o).state.pending
        ≡ flagged (chosen_of S (λ i. is_in i arrived)) (alarm_phase_in S o).state.pending
    chosen_same =
        let long : length (alarm_phase_in S o).state.pending ≡ length S.routines = ap length (phase_pending o) ∙ size in
        flags_same arrived (chosen_of S (λ i. is_in i arrived)) (alarm_phase_in S o).state.pending
        (λ i low. sym (in_chosen S (λ k. is_in k arrived) i (omega (arith, low, long))))

    pub before_chosen : before_execution_in S arrived o ≡ before_execution_in S (chosen_of S (λ i. is_in i arrived)) o
    before_chosen = before_by_flags arrived (chosen_of S (λ i. is_in i arrived)) o chosen_same

    pub tick_chosen : tick_in S arrived o ≡ tick_in S (chosen_of S (λ i. is_in i arrived)) o
    tick_chosen = tick_by_flags arrived (chosen_of S (λ i. is_in i arrived)) o chosen_same
