-- A task that one alarm alone activates has no job as the alarm expires, where its jobs end in
-- time.
use Rattle.std.proofs.Common.{ℕ, ◌≡◌, ◌<◌, ◌≤◌, ◌+◌, ◌*◌, ◌⊎◌, inl, inr, true, false, List, length, refl, sym, ◌∙◌, ap, subst, arith}
use Rattle.std.proofs.Math.Nat.{mul-le-mul_right}
use Rattle.std.proofs.lemmas.Bool.{cases_lt}
use Rattle.osek_base.specs.declared.arrivals.Arrival.{Arrival}
use Rattle.osek_base.specs.Alarm.{due_alarms}
use Rattle.osek_base.specs.Lists.{is_in}
use Rattle.osek_base.specs.Proper.{IsProper}
use Rattle.osek_base.specs.State.{JobId, State}
use Rattle.osek_base.specs.System.{System, is_extended, starts_in}
use Rattle.osek_base.specs.Trace.{run}
use Rattle.arrival_rules.specs.declared.rule.ArrivalRule.{ArrivalRule}
use Rattle.arrival_rules.specs.Rules.{KeepRules}
use Rattle.law_runs.proofs.Lists.{clash}
use Rattle.law_jobs.specs.ReadySince.{IsReadySince}
use Rattle.law_jobs.proofs.Lists.{is_there}
use Rattle.law_alarms.specs.Apart.{IsOfBoot}
use Rattle.law_alarms.specs.Expiries.{base_of, expires}
use Rattle.law_alarms.proofs.Counts.{no_cycles}
use Rattle.law_alarms.proofs.OfBoot.{set_at_boot_only}
use Rattle.law_bounds.specs.Ending.{EndsWithin}
use Rattle.law_analysis.specs.Refusing.{AreSoFarApart, IsOfAlarm}
use Rattle.law_analysis.proofs.RefusingAlarms.{IsFree}
use Rattle.law_analysis.proofs.RefusingPrograms.{none_made}
use Rattle.law_analysis.proofs.RefusingOrigins.{HasCome, acts_due, comes, going_until, ready_at, stays_there}

-- what is known of a task and of the alarm that alone activates it
pub record IsSole (S : System) (mode : ℕ) (rules : List ArrivalRule) (a time cycle most k : ℕ)
    : Type 0 where
  pub known : k < length S.tasks
  pub basic : is_extended S k ≡ false
  pub alarm : IsOfAlarm S mode k a time cycle
  pub apart : AreSoFarApart S mode k a time cycle most
  pub ends : EndsWithin S mode rules most k

module _ (S : System) (mode : ℕ) (rules : List ArrivalRule) (a time cycle most : ℕ)
    (proper : IsProper S) (arrivals : List Arrival) (keep : KeepRules S rules arrivals) where
  abbrev here : ℕ → State
  here n = (run S mode arrivals n).state

  abbrev Goes : ℕ → Type 0
  Goes n = (run S mode arrivals n).state.over ≡ false

  pub expires_due : (n : ℕ) → Goes n → is_in a (due_alarms S (here n)) ≡ true
      → expires S mode arrivals a n ≡ true
  expires_due n going due = rw (going, due) refl

  module _ (id : JobId) (sole : IsSole S mode rules a time cycle most id.task) where
    -- ---- no job stands as the alarm expires

    of_boot : IsOfBoot S mode arrivals a time cycle
    of_boot =
        set_at_boot_only S mode arrivals a time cycle proper sole.alarm.unset sole.alarm.starts

    first_far : (n : ℕ) → expires S mode arrivals a n ≡ true → time * base_of S a ≤ n
    first_far n expired =
        let count = of_boot.known n expired in
        let is = count.1 in
        let far : time * base_of S a ≤ (time + count.0 * cycle) * base_of S a =
        mul-le-mul_right (base_of S a) (omega arith) in
        omega (arith, is, far)

    once : cycle ≡ 0 → (n : ℕ) → expires S mode arrivals a n ≡ true → n ≡ time * base_of S a
    once none n expired =
        let count = of_boot.known n expired in
        count.1 ∙ ap (λ c. c * base_of S a) (no_cycles time count.0 cycle none)

    next_far : (n since : ℕ) → since < n → expires S mode arrivals a since ≡ true
        → expires S mode arrivals a n ≡ true → since + most ≤ n
    next_far n since less earlier now = go sole.apart.expiries
      where
        go : (cycle ≡ 0) ⊎ (most ≤ cycle * base_of S a) → since + most ≤ n
        go (inl none) =
            let one = once none since earlier in
            let other = once none n now in
            absurd (omega (arith, one, other, less))
        go (inr far) =
            let spaced = (of_boot.apart n).spaced since n less (omega arith) earlier now in
            omega (arith, far, spaced)

    abbrev IsDue : ℕ → Type 0
    IsDue n = is_in a (due_alarms S (here n)) ≡ true

    has_gone : (n : ℕ) → Goes n → expires S mode arrivals a n ≡ true
        → is_there id (here n).jobs ≡ true → ⊥
    has_gone n going expired there =
        go
        (comes S mode arrivals proper id sole.known sole.basic IsDue
        (λ m. acts_due S (here m) id.task a sole.alarm.alone) n since going ready)
      where
        found : (m : ℕ) × IsReadySince S mode arrivals n id m
        found =
            ready_at S mode arrivals proper id sole.known sole.basic n going
            (stays_there S mode arrivals proper id sole.known sole.basic n going there)

        since : ℕ
        since = found.0

        ready : IsReadySince S mode arrivals n id since
        ready = found.1

        early : n < since + most
        early = sole.ends arrivals n since id keep going refl ready

        by_boot : since ≡ 0 → starts_in S mode id.task ≡ true
            → (starts_in S mode id.task ≡ false) ⊎ (most ≤ time * base_of S a) → ⊥
        by_boot is starts (inl off) = clash (sym starts ∙ off)
        by_boot is starts (inr far) =
            let least = first_far n expired in
            let soon = early in
            omega (arith, is, far, least, soon)

        by_alarm : IsDue since → is_there id (here since).jobs ≡ false → ⊥
        by_alarm due absent = elim (cases_lt since n) [
          | inl less ↦
              let goes = going_until S mode arrivals since n ready.past going in
              let far = next_far n since less (expires_due since goes due) expired in
              let soon = early in
              omega (arith, far, soon)
          | inr more ↦
              let past = ready.past in
              let same : since ≡ n = omega (arith, past, more) in
              clash
              (sym there ∙ subst (λ m. is_there id (here m).jobs ≡ false) same absent)
        ]

        go : HasCome S mode arrivals proper id sole.known sole.basic IsDue
            (λ m. acts_due S (here m) id.task a sole.alarm.alone) since
            → ⊥
        go (inl come) = by_boot come.0 come.1 sole.apart.boot
        go (inr (inl come)) = by_alarm come.0 come.1
        go (inr (inr come)) = none_made S id.task sole.alarm.programs _ come.2

  pub is_free : (k : ℕ) → IsSole S mode rules a time cycle most k → (n : ℕ) → Goes n
      → expires S mode arrivals a n ≡ true → IsFree k (here n).jobs
  is_free k sole n going expired id of there =
      has_gone id (subst (λ t. IsSole S mode rules a time cycle most t) (sym of) sole) n going
      expired there
