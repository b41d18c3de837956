-- A task that a routine alone activates, at a place that it comes to once, has no job as it is
-- there, where jobs of the task end in time.
use Rattle.std.proofs.Common.{ℕ, suc, ◌≡◌, ◌<◌, ◌≤◌, ◌+◌, ◌-◌, inl, inr, true, false, List, length, refl, sym, ◌∙◌, subst, arith}
use Rattle.std.proofs.Math.Nat.{mul-le-mul_right}
use Rattle.std.specs.Prelude.{Some}
use Rattle.std.specs.List.{AllByRecursion}
use Rattle.std.proofs.lemmas.Bool.{cases_lt}
use Rattle.osek_base.specs.declared.arrivals.Arrival.{Arrival}
use Rattle.osek_base.specs.Alarm.{due_alarms}
use Rattle.osek_base.specs.Proper.{IsProper}
use Rattle.osek_base.specs.State.{JobId, State}
use Rattle.osek_base.specs.System.{System, is_extended}
use Rattle.osek_base.specs.Tick.{executor}
use Rattle.osek_base.specs.Trace.{run}
use Rattle.arrival_rules.specs.declared.rule.ArrivalRule.{ArrivalRule}
use Rattle.arrival_rules.specs.Rules.{KeepRules, comes, rule_at}
use Rattle.law_runs.proofs.Lists.{all_weaker, clash}
use Rattle.law_blockers.specs.Steps.{step_at}
use Rattle.law_jobs.specs.PendingSince.{starts_in as starts_at_tick}
use Rattle.law_jobs.specs.ReadySince.{IsReadySince}
use Rattle.law_jobs.proofs.Lists.{is_there}
use Rattle.law_bounds.specs.Ending.{EndsWithin}
use Rattle.law_analysis.specs.Told.{StartsBefore}
use Rattle.law_analysis.specs.Refusing.{alarm_activates}
use Rattle.law_analysis.specs.RefusingByRoutine.{AreKeptApart, IsOfRoutine}
use Rattle.law_analysis.proofs.RefusingAlarms.{IsFree, quiet_due}
use Rattle.law_analysis.proofs.RefusingOrigins.{HasCome, IsMade, going_until, ready_at}
use Rattle.law_analysis.proofs.RefusingOrigins.{comes as has_come}
use Rattle.law_analysis.proofs.RefusingPrograms.{made_by}
use Rattle.law_analysis.proofs.RefusingPlace.{IsAtPlace, by_place}
use Rattle.law_analysis.proofs.RefusingVisits.{HasStarted, has_started}
use Rattle.law_analysis.proofs.RefusingStarts.{IsPended, later_comes, starts_pended}
use Rattle.law_bounds.proofs.Comings.{first_counts}

-- what is known of a task and of the routine that alone activates it
pub record IsSoleRoutine (S : System) (mode : ℕ) (rules : List ArrivalRule)
    (i place latency most k : ℕ) : Type 0 where
  pub known : k < length S.tasks
  pub basic : is_extended S k ≡ false
  pub there : i < length S.routines
  pub routine : IsOfRoutine S mode k i place
  pub some : 1 ≤ latency
  pub starts : StartsBefore S mode rules latency i
  pub apart : AreKeptApart rules i (latency + place + most)
  pub ends : EndsWithin S mode rules most k

module _ (S : System) (mode : ℕ) (rules : List ArrivalRule) (i place latency most : ℕ)
    (proper : IsProper S) (arrivals : List Arrival) (keep : KeepRules S rules arrivals) where
  abbrev here : ℕ → State
  here n = (run S mode arrivals n).state

  abbrev at : ℕ → State
  at n = (step_at S mode arrivals n).executing

  abbrev Goes : ℕ → Type 0
  Goes n = (run S mode arrivals n).state.over ≡ false

  abbrev Starts : ℕ → Type 0
  Starts n = starts_at_tick S mode arrivals n i ≡ true

  module _ (k : ℕ) (sole : IsSoleRoutine S mode rules i place latency most k) where
    -- who activates the task is the routine at the place
    abbrev IsThere : ℕ → Type 0
    IsThere n = IsAtPlace i place (executor (at n))

    pub there_at : (n : ℕ) → made_by S (executor (at n)) ≡ Some k → IsThere n
    there_at n made = by_place S i place k sole.routine.programs (executor (at n)) made

    -- it starts soon behind its interrupt
    soon : (m : ℕ) → Goes m → (p : IsPended S mode arrivals i proper sole.there m)
        → m < p.since + latency
    soon m going p = elim (cases_lt p.since m) [
      | inl less ↦
          let is : m ≡ suc (m - 1) = omega (arith, less) in
          let before = sole.starts arrivals (m - 1) p.since keep
          (subst (λ u. Goes u) is going) (omega (arith, less))
          (λ t low high. p.pends t low (omega (arith, less, high))) in
          omega (arith, before, is)
      | inr more ↦ let some = sole.some in omega (arith, some, more)
    ]

    -- interrupts of the routine come so many ticks apart, or more
    come_apart : (t apart : ℕ) → comes arrivals i t ≡ true → comes arrivals i (t + suc apart) ≡ true
        → latency + place + most ≤ apart + 1
    come_apart t apart one other =
        let rule = rule_at rules sole.apart.number in
        let first = subst (λ r. comes arrivals r t ≡ true) (sym sole.apart.of) one in
        let next = subst (λ r. comes arrivals r (t + suc apart) ≡ true) (sym sole.apart.of) other in
        let far = keep.each sole.apart.number t (suc apart) first next in
        let some = first_counts arrivals rule.routine t first apart in
        let more = mul-le-mul_right rule.period some in
        let kept = sole.apart.apart in
        omega (arith, far, more, kept)

    -- so its starts do
    starts_apart : (m n : ℕ) → m < n → Goes m → Goes n → Starts m → Starts n
        → m + place + 1 + most ≤ n
    starts_apart m n less going_m going_n first second =
        let p = starts_pended S mode arrivals i proper sole.there m going_m first in
        let q = starts_pended S mode arrivals i proper sole.there n going_n second in
        let behind = later_comes S mode arrivals i proper sole.there m n going_m less first q in
        let early = soon m going_m p in
        let past_p = p.past in
        let past_q = q.past in
        let is : q.since ≡ p.since + suc (q.since - p.since - 1) = omega (arith, behind, past_p) in
        let far = come_apart p.since (q.since - p.since - 1) p.comes
        (subst (λ t. comes arrivals i t ≡ true) is q.comes) in
        omega (arith, is, far, early, past_q)

    -- and when it is at the place again, jobs of the task have ended
    places_apart : (m n : ℕ) → m < n → Goes m → Goes n → IsThere m → IsThere n → m + 1 + most ≤ n
    places_apart m n less going_m going_n first second =
        let p = has_started S mode arrivals i place k sole.routine.programs m going_m first in
        let q = has_started S mode arrivals i place k sole.routine.programs n going_n second in
        let past_p = p.past in
        let soon_p = p.soon in
        let past_q = q.past in
        let later : m < q.since = behind q in
        let far = starts_apart p.since q.since (omega (arith, past_p, later))
        (going_until S mode arrivals p.since m past_p going_m)
        (going_until S mode arrivals q.since n past_q going_n) p.starts q.starts in
        omega (arith, far, soon_p, past_q)
      where
        behind : (q : HasStarted S mode arrivals i place k sole.routine.programs n)
            → m < q.since
        behind q = elim (cases_lt m q.since) [
          | inl later ↦ later
          | inr sooner ↦ absurd (q.first m sooner less first)
        ]

  module _ (id : JobId) (sole : IsSoleRoutine S mode rules i place latency most id.task) where
    none_acts : (n : ℕ)
        → AllByRecursion (λ b. alarm_activates S id.task b ≡ true → ⊥) (due_alarms S (here n))
    none_acts n =
        all_weaker (λ b. alarm_activates S id.task b ≡ false)
        (λ b. alarm_activates S id.task b ≡ true → ⊥) (due_alarms S (here n))
        (λ b h acts. clash (sym acts ∙ h)) (quiet_due S id.task sole.routine.alarms (here n))

    has_gone : (n : ℕ) → Goes n → IsAtPlace i place (executor (at n))
        → is_there id (at n).jobs ≡ true → ⊥
    has_gone n going now there =
        go
        (has_come S mode arrivals proper id sole.known sole.basic (λ m. ⊥) none_acts n since going
        ready)
      where
        found : (m : ℕ) × IsReadySince S mode arrivals n id m
        found = ready_at S mode arrivals proper id sole.known sole.basic n going there

        since : ℕ
        since = found.0

        ready : IsReadySince S mode arrivals n id since
        ready = found.1

        by_routine : (m : ℕ) → since ≡ suc m
            → IsMade S mode arrivals proper id sole.known sole.basic m → ⊥
        by_routine m is made =
            let past = ready.past in
            let less : m < n = omega (arith, is, past) in
            let goes = going_until S mode arrivals m n (omega (arith, less)) going in
            let far = places_apart id.task sole m n less goes going
            (there_at id.task sole m made) now in
            let early = sole.ends arrivals n since id keep going refl ready in
            omega (arith, is, far, early)

        go : HasCome S mode arrivals proper id sole.known sole.basic (λ m. ⊥) none_acts since → ⊥
        go (inl come) = clash (sym come.1 ∙ sole.routine.boot)
        go (inr (inl come)) = absurd come.0
        go (inr (inr come)) = by_routine come.0 come.1 come.2

  pub is_free_at : (k : ℕ) → IsSoleRoutine S mode rules i place latency most k → (n : ℕ) → Goes n
      → IsAtPlace i place (executor (at n)) → IsFree k (at n).jobs
  is_free_at k sole n going now id of there =
      has_gone id (subst (λ t. IsSoleRoutine S mode rules i place latency most t) (sym of) sole) n
      going now there
