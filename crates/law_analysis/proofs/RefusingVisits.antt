-- A routine whose program comes to a place once: when it is there it has started a short time
-- before, and wasn't there since.
use Rattle.std.proofs.Common.{ℕ, zero, suc, ◌≡◌, ◌<◌, ◌≤◌, ◌+◌, ◌⊎◌, inl, inr, Bool, true, false, cond, not, List, refl, sym, ◌∙◌, ap, subst, arith}
use Rattle.std.specs.Prelude.{Option, Some, None, IfSome, is_some, min}
use Rattle.std.specs.Option.{option_map}
use Rattle.std.proofs.lemmas.Bool.{and_parts, cases_lt, eq-eqb}
use Rattle.osek_base.specs.declared.arrivals.Arrival.{Arrival}
use Rattle.osek_base.specs.Instruction.{next}
use Rattle.osek_base.specs.Reschedule.{reschedule}
use Rattle.osek_base.specs.Service.{Caller, JobCalls, NobodyCalls, RoutineCalls}
use Rattle.osek_base.specs.State.{Active, State, fresh_context, interrupts_off, may_dispatch, still}
use Rattle.osek_base.specs.System.{System}
use Rattle.osek_base.specs.Tick.{alarm_phase, arrival_phase, before_execution, executor, routine_choice, routine_started, start_phase, tick}
use Rattle.osek_base.specs.Trace.{all_activated, arriving, boot, run, starting_alarms, starting_tasks}
use Rattle.law_runs.proofs.Known.{IsCaller, executor_calls}
use Rattle.law_runs.proofs.Lists.{clash, some_inside}
use Rattle.law_runs.proofs.RunSteps.{going_before, state_more}
use Rattle.law_kept.specs.Seen.{routine_of}
use Rattle.law_blockers.specs.Steps.{step_at}
use Rattle.law_blockers.proofs.StepLemmas.{executing_is}
use Rattle.seen_ticks.specs.Observed.{is_number}
use Rattle.law_jobs.specs.PendingSince.{is_active, starts_in}
use Rattle.law_analysis.specs.RefusingByRoutine.{is_activated_at}
use Rattle.law_costs.proofs.Boot.{all_active}
use Rattle.law_windows.proofs.Before.{active_alarms, active_reschedule}
use Rattle.law_analysis.proofs.RefusingPlace.{CameOn, IsAtPlace, IsOn, tick_on}

-- ---- up to the instruction

-- an active routine was so before, or starts
abbrev pub WasActive : Option Active → Active → Type 0
WasActive o a = (o ≡ Some a) ⊎ ((o ≡ None) × (a.context.place ≡ 0))

idle_of : (o : Option Active) → not (is_some o) ≡ true → o ≡ None
idle_of None h = refl
idle_of (Some a) h = clash (sym h)

module _ (S : System) where
  start_from : (s : State) (a : Active) → (start_phase S s).active ≡ Some a
      → WasActive s.active a
  unfolding start_phase
  start_from s a is = go (may_dispatch s) refl is
    where
      chosen : may_dispatch s ≡ true → (o : Option ℕ) → (routine_started o s).active ≡ Some a
          → WasActive s.active a
      chosen may None is = inl is
      chosen may (Some r) is =
          let same = some_inside (record { routine = r; context = fresh_context }) a is in
          inr (
            idle_of s.active (and_parts (not (is_some s.active)) (not (interrupts_off s)) may).0,
            ap (λ (x : Active). x.context.place) (sym same),
          )

      go : (b : Bool) → may_dispatch s ≡ b
          → (cond b (routine_started (routine_choice S s) s) s).active ≡ Some a
          → WasActive s.active a
      go true may is = chosen may (routine_choice S s) is
      go false may is = inl is

  before_from : (arrived : List ℕ) (s : State) (a : Active)
      → (before_execution S arrived s).state.active ≡ Some a → WasActive s.active a
  before_from arrived s a is =
      let raised : State = arrival_phase arrived (alarm_phase S s).state in
      subst (λ o. WasActive o a) (active_reschedule S raised ∙ active_alarms S s)
      (start_from (reschedule S raised).state a is)

-- ---- in a run

module _ (S : System) (mode : ℕ) (arrivals : List Arrival) (i : ℕ) where
  abbrev here : ℕ → State
  here n = (run S mode arrivals n).state

  abbrev at : ℕ → State
  at n = (step_at S mode arrivals n).executing

  abbrev Goes : ℕ → Type 0
  Goes n = (run S mode arrivals n).state.over ≡ false

  booted_idle : (here 0).active ≡ None
  unfolding run boot
  booted_idle =
      let set : State = record (still S) { alarms = starting_alarms S mode } in
      active_reschedule S (all_activated S (starting_tasks S mode) set)
      ∙ all_active S (starting_tasks S mode) set

  at_from : (n : ℕ) → Goes n → (a : Active) → (at n).active ≡ Some a
      → WasActive (here n).active a
  at_from n going a is =
      before_from S (arriving arrivals n) (here n) a
      (ap (λ (s : State). s.active) (executing_is S mode arrivals n going) ∙ is)

  starts_now : (n : ℕ) (a : Active) → (at n).active ≡ Some a → a.routine ≡ i
      → (here n).active ≡ None → starts_in S mode arrivals n i ≡ true
  starts_now n a is of idle =
      let now : is_active (at n) i ≡ true =
      ap (λ o. is_number i (option_map routine_of o)) is ∙ eq-eqb a.routine i of in
      let before : is_active (here n) i ≡ false =
      ap (λ o. is_number i (option_map routine_of o)) idle in
      rw (now, before) refl

  module _ (place k : ℕ) (once : is_activated_at S i place k ≡ true) where
    abbrev IsThere : ℕ → Type 0
    IsThere t = IsAtPlace i place (executor (at t))

    -- before tick n it is at some place q: it has started, so many ticks ago at most as it has gone
    -- on, where it hasn't come by the place yet, and has if it was there
    record HasGoneOn (n q : ℕ) : Type 0 where
      since : ℕ
      past : since < n
      starts : starts_in S mode arrivals since i ≡ true
      soon : q ≤ place → n ≤ since + q
      behind : (t : ℕ) → since ≤ t → t < n → IsThere t → place < q

    abbrev GoesOn : ℕ → Option Active → Type 0
    GoesOn n o = IfSome o (λ a. a.routine ≡ i → HasGoneOn n a.context.place)

    -- the place of who executes
    place_at : (n : ℕ) (a : Active) → (at n).active ≡ Some a → IsThere n
        → a.context.place ≡ place
    place_at n a is there = go (executor (at n)) (executor_calls (at n)) there
      where
        go : (c : Caller) → IsCaller (at n) c → IsAtPlace i place c → a.context.place ≡ place
        go (JobCalls j) calls there = absurd there
        go NobodyCalls calls there = absurd there
        go (RoutineCalls b) calls there =
            ap (λ (x : Active). x.context.place) (some_inside a b (sym is ∙ calls)) ∙ there.1

    one_on : (n next : ℕ) → (a : Active) → (at n).active ≡ Some a → a.routine ≡ i
        → min a.context.place place < next → WasActive (here n).active a
        → GoesOn n (here n).active → HasGoneOn (suc n) next
    one_on n next a is of on (inr idle) rest = record {
      since = n;
      past = omega arith;
      starts = starts_now n a is of idle.0;
      soon = λ low. omega (arith, on);
      behind = λ t low high there.
          let same : t ≡ n = omega (arith, low, high) in
          let at_place = place_at n a is (subst (λ m. IsThere m) same there) in
          omega (arith, on, at_place);
    }
    one_on n next a is of on (inl was) rest =
        let h : HasGoneOn n a.context.place = subst (λ o. GoesOn n o) was rest of in record {
          since = h.since;
          past = let past = h.past in omega (arith, past);
          starts = h.starts;
          soon = λ low.
              let before = h.soon (omega (arith, low, on)) in
              omega (arith, before, low, on);
          behind = λ t low high there. elim (cases_lt t n) [
            | inl less ↦
                let far = h.behind t low less there in
                omega (arith, far, on)
            | inr more ↦
                let same : t ≡ n = omega (arith, high, more) in
                let at_place = place_at n a is (subst (λ m. IsThere m) same there) in
                omega (arith, on, at_place)
          ];
        }

    goes_on : (n : ℕ) → Goes n → GoesOn n (here n).active
    goes_on zero going = subst (λ o. GoesOn 0 o) (sym booted_idle) tt
    goes_on (suc n) going =
        subst (λ (s : State). GoesOn (suc n) s.active) (sym (state_more S mode arrivals n before))
        (behind_it (tick S (arriving arrivals n) (here n)).after.active
        (tick_on S i place k once (arriving arrivals n) (here n)) (goes_on n before))
      where
        before : Goes n
        before = going_before S mode arrivals n going

        from : (a b : Active) → (at n).active ≡ Some a → b.routine ≡ i
            → CameOn S i place k once (Some a) b → GoesOn n (here n).active
            → HasGoneOn (suc n) b.context.place
        from a b is of came rest =
            let own = sym came.0 ∙ of in
            one_on n b.context.place a is own (came.1 own) (at_from n before a is) rest

        by : (o : Option Active) → (at n).active ≡ o → (b : Active) → b.routine ≡ i
            → CameOn S i place k once o b → GoesOn n (here n).active
            → HasGoneOn (suc n) b.context.place
        by None is b of came rest = absurd came
        by (Some a) is b of came rest = from a b is of came rest

        behind_it : (o : Option Active)
            → IsOn S i place k once
            (before_execution S (arriving arrivals n) (here n)).state.active o
            → GoesOn n (here n).active → GoesOn (suc n) o
        behind_it None on rest = tt
        behind_it (Some b) on rest = λ of.
            by (at n).active refl b of
            (subst (λ (s : State). CameOn S i place k once s.active b)
            (executing_is S mode arrivals n before) on) rest

    -- in tick n it is at the place: it has started so many ticks ago at most as instructions stand
    -- before that, and wasn't there since
    pub record HasStarted (n : ℕ) : Type 0 where
      pub since : ℕ
      pub past : since ≤ n
      pub starts : starts_in S mode arrivals since i ≡ true
      pub soon : n ≤ since + place
      pub first : (t : ℕ) → since ≤ t → t < n → IsThere t → ⊥

    pub has_started : (n : ℕ) → Goes n → IsThere n → HasStarted n
    has_started n going there = go (executor (at n)) (executor_calls (at n)) there
      where
        one : (a : Active) → (at n).active ≡ Some a → a.routine ≡ i → a.context.place ≡ place
            → WasActive (here n).active a → HasStarted n
        one a is of at_place (inr idle) = record {
          since = n;
          past = omega arith;
          starts = starts_now n a is of idle.0;
          soon = omega arith;
          first = λ t low high at_t. absurd (omega (arith, low, high));
        }
        one a is of at_place (inl was) =
            let h : HasGoneOn n a.context.place =
            subst (λ o. GoesOn n o) was (goes_on n going) of in record {
              since = h.since;
              past = let past = h.past in omega (arith, past);
              starts = h.starts;
              soon = let soon = h.soon (omega (arith, at_place)) in omega (arith, soon, at_place);
              first = λ t low high at_t.
                  let far = h.behind t low high at_t in absurd (omega (arith, far, at_place));
            }

        go : (c : Caller) → IsCaller (at n) c → IsAtPlace i place c → HasStarted n
        go (JobCalls j) calls there = absurd there
        go NobodyCalls calls there = absurd there
        go (RoutineCalls a) calls there =
            one a calls there.0 there.1 (at_from n going a calls)
