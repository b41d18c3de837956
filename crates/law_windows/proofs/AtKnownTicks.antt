-- Windows are short by the known ticks of alarms that lie in them.
use Rattle.std.proofs.Common.{ℕ, zero, suc, ◌≡◌, ◌<◌, ◌≤◌, ◌+◌, ◌-◌, ◌*◌, inl, inr, Bool, true, false, cond, List, length, refl, sym, ap, subst, arith}
use Rattle.std.specs.Prelude.{Option, Some, None}
use Rattle.std.proofs.lemmas.Bool.{cases_lt}
use Rattle.osek_base.specs.declared.arrivals.Arrival.{Arrival}
use Rattle.osek_base.specs.Proper.{IsProper}
use Rattle.osek_base.specs.System.{System, alarm_start_in, priority_of}
use Rattle.arrival_rules.specs.declared.rule.ArrivalRule.{ArrivalRule}
use Rattle.arrival_rules.specs.Rules.{KeepRules}
use Rattle.law_alarms.specs.Expiries.{base_of, expires, expiries}
use Rattle.law_alarms.specs.Setting.{is_never_set}
use Rattle.law_alarms.specs.Spaced.{most_in}
use Rattle.law_alarms.proofs.Due.{some_ticks}
use Rattle.law_alarms.proofs.OfBoot.{set_at_boot_only}
use Rattle.law_windows.specs.Analysis.{ArePeriodic, IsBoundOf, most_of}
use Rattle.law_windows.specs.Coming.{Costs, arrivals_in, first_cost}
use Rattle.law_windows.specs.Expiring.{AreSetNoSooner, IsCountedButForAlarms, most_expiries, most_of_boot}
use Rattle.law_windows.specs.KnownTicks.{AreEnoughFrom, IsRound, IsShortFrom, KnownTicksBoundResponses, expiries_from, known_in}
use Rattle.law_windows.specs.Potential.{AreEnough}
use Rattle.law_windows.specs.Responses.{RespondWithin}
use Rattle.law_windows.specs.Windows.{WindowsEndWithin}
use Rattle.law_windows.proofs.Arrivals.{arrivals_are_few}
use Rattle.law_windows.proofs.Expiring.{expiries_are_few}
use Rattle.law_windows.proofs.KnownTicks.{come_again_in, no_others}
use Rattle.law_windows.proofs.Losses.{soon_started_are_not_lost}
use Rattle.law_windows.proofs.Responses.{responses_lie_in_windows}
use Rattle.law_windows.proofs.Short.{windows_are_short}
use Rattle.law_windows.proofs.Sums.{came_is, cost_less}

-- ---- how often an alarm expires in a window

module _ (S : System) (mode : ℕ) (arrivals : List Arrival) (costs : Costs) (least : ℕ → ℕ)
    (proper : IsProper S) (sooner : AreSetNoSooner S mode arrivals costs least) (from count : ℕ)
    (a : ℕ) (inside : a < length S.alarms) (dear : 1 ≤ costs.of_expiry a) where
  few_by_gap : expiries S mode arrivals a from count ≤ most_expiries S mode least count a
  few_by_gap =
      expiries_are_few S mode arrivals costs least count proper sooner a from inside dear

  few_of_boot : is_never_set S a ≡ true
      → expiries S mode arrivals a from count
      ≤ known_in (alarm_start_in S mode a) (base_of S a) from count
  few_of_boot never = go (alarm_start_in S mode a) refl
    where
      by_gap : expiries S mode arrivals a from count
          ≤ most_of_boot (base_of S a) count (alarm_start_in S mode a)
      by_gap =
          subst
          (λ b. expiries S mode arrivals a from count
          ≤ cond b (most_of_boot (base_of S a) count (alarm_start_in S mode a))
          (most_in (least a * base_of S a) count))
          never few_by_gap

      go : (o : Option (ℕ × ℕ)) → alarm_start_in S mode a ≡ o
          → expiries S mode arrivals a from count ≤ known_in o (base_of S a) from count
      go None starts =
          subst
          (λ o. expiries S mode arrivals a from count ≤ most_of_boot (base_of S a) count o)
          starts by_gap
      go (Some start) starts =
          no_others (base_of S a) start (expires S mode arrivals a) (some_ticks S a proper inside)
          (set_at_boot_only S mode arrivals a start.0 start.1 proper never starts).known from count

  few_from : expiries S mode arrivals a from count ≤ expiries_from S mode least from count a
  few_from = go (is_never_set S a) refl few_by_gap
    where
      go : (b : Bool) → is_never_set S a ≡ b
          → expiries S mode arrivals a from count
          ≤ cond b (most_of_boot (base_of S a) count (alarm_start_in S mode a))
          (most_in (least a * base_of S a) count)
          → expiries S mode arrivals a from count
          ≤ cond b (known_in (alarm_start_in S mode a) (base_of S a) from count)
          (most_in (least a * base_of S a) count)
      go true never few = few_of_boot never
      go false set few = few

-- ---- a round later no more

module _ (S : System) (mode : ℕ) (rules : List ArrivalRule) (costs : Costs) (least : ℕ → ℕ)
    (most first round : ℕ) (proper : IsProper S) (rounds : IsRound S mode costs first round) where
  no_more : (from a : ℕ) → first ≤ from → a < length S.alarms → 1 ≤ costs.of_expiry a
      → expiries_from S mode least (from + round) most a ≤ expiries_from S mode least from most a
  no_more from a later inside dear = go (is_never_set S a) refl
    where
      go : (b : Bool) → is_never_set S a ≡ b
          → cond b (known_in (alarm_start_in S mode a) (base_of S a) (from + round) most)
          (most_in (least a * base_of S a) most)
          ≤ cond b (known_in (alarm_start_in S mode a) (base_of S a) from most)
          (most_in (least a * base_of S a) most)
      go true never =
          come_again_in (base_of S a) first round from most (alarm_start_in S mode a)
          (some_ticks S a proper inside) rounds.some (rounds.again a inside dear never) later
      go false set = omega arith

  no_dearer : (from : ℕ) → 1 ≤ from → first_cost costs (from + round) ≡ first_cost costs from
  no_dearer zero some = absurd (omega (arith, some))
  no_dearer (suc from) some =
      let next : suc from + round ≡ suc (from + round) = omega arith in
      ap (first_cost costs) next

  pub a_round_later : (from : ℕ) → first ≤ from
      → AreEnoughFrom S mode rules costs least most from
      → AreEnoughFrom S mode rules costs least most (from + round)
  a_round_later from later enough =
      let begins = rounds.later in
      let same = no_dearer from (omega (arith, begins, later)) in
      let less =
      cost_less S costs (λ i. most_of rules i most)
      (expiries_from S mode least (from + round) most) (λ i. most_of rules i most)
      (expiries_from S mode least from most) (λ i inside. omega arith)
      (λ a inside dear. no_more from a later inside dear) in
      omega (arith, same, less, enough)

-- ---- windows

module _ (S : System) (mode : ℕ) (rules : List ArrivalRule) (costs : Costs) (least : ℕ → ℕ)
    (most first round : ℕ) (proper : IsProper S) (rounds : IsRound S mode costs first round) where
  pub short_later : (from : ℕ) → first ≤ from → IsShortFrom S mode rules costs least most from
      → IsShortFrom S mode rules costs least most (from + round)
  short_later from later short = record {
    count = short.count;
    some = short.some;
    low = short.low;
    enough =
        a_round_later S mode rules costs least short.count first round proper rounds from later
        short.enough;
  }

  -- so all are short, where those are that begin before the end of the first round
  short_up_to : ((from : ℕ) → from < first + round
      → IsShortFrom S mode rules costs least most from)
      → (last from : ℕ) → from < last → IsShortFrom S mode rules costs least most from
  short_up_to early zero from under = absurd (omega (arith, under))
  short_up_to early (suc last) from under = elim (cases_lt from (first + round)) [
    | inl before ↦ early from before
    | inr late ↦
        let some = rounds.some in
        let back : from - round + round ≡ from = omega (arith, late) in
        subst (λ n. IsShortFrom S mode rules costs least most n) back
        (short_later (from - round) (omega (arith, late))
        (short_up_to early last (from - round) (omega (arith, late, under, some))))
  ]

module _ (S : System) (mode : ℕ) (rules : List ArrivalRule) (p : ℕ) (costs : Costs)
    (least : ℕ → ℕ) (most first round : ℕ) (proper : IsProper S)
    (rounds : IsRound S mode costs first round) (periodic : ArePeriodic rules)
    (early : (from : ℕ) → from < first + round
    → IsShortFrom S mode rules costs least most from) where
  are_enough : (arrivals : List Arrival) → KeepRules S rules arrivals
      → AreSetNoSooner S mode arrivals costs least → (from count : ℕ)
      → AreEnoughFrom S mode rules costs least count from
      → AreEnough S mode arrivals costs from count
  are_enough arrivals keep sooner from count enough =
      let is = came_is S mode arrivals costs from count in
      let less =
      cost_less S costs (λ i. arrivals_in arrivals i from count)
      (λ a. expiries S mode arrivals a from count) (λ i. most_of rules i count)
      (expiries_from S mode least from count)
      (λ i known. arrivals_are_few S rules arrivals i from count keep periodic)
      (λ a inside dear.
      few_from S mode arrivals costs least proper sooner from count a inside dear) in
      omega (arith, is, less, enough)

  windows_within : (arrivals : List Arrival) → KeepRules S rules arrivals
      → IsCountedButForAlarms S mode arrivals p costs least
      → WindowsEndWithin S mode arrivals p most
  windows_within arrivals keep counted from n window =
      let short =
      short_up_to S mode rules costs least most first round proper rounds early (suc from) from
      (omega arith) in
      let end =
      windows_are_short S mode arrivals p costs counted.left from n short.count counted.potential
      window short.some
      (are_enough arrivals keep counted.sooner from short.count short.enough) in
      let low = short.low in
      omega (arith, end, low)

-- what windows bound, where none has more ticks
pub bound_by_windows : (S : System) (mode : ℕ) (rules : List ArrivalRule) (p most : ℕ)
    → ((arrivals : List Arrival) → KeepRules S rules arrivals
    → WindowsEndWithin S mode arrivals p most)
    → IsBoundOf S mode rules p most
bound_by_windows S mode rules p most windows = record {
  windows = windows;
  responses = responses;
  tasks = λ k high arrivals n since job keep going of ready.
      (responses arrivals keep).jobs n since job going
      (subst (λ t. p ≤ priority_of S t) (sym of) high) ready;
  losses = λ arrivals n keep known apart.
      soon_started_are_not_lost S mode rules arrivals p most n keep (responses arrivals keep)
      known apart;
}
  where
    responses : (arrivals : List Arrival) → KeepRules S rules arrivals
        → RespondWithin S mode arrivals p most
    responses arrivals keep =
        responses_lie_in_windows S mode arrivals p most (windows arrivals keep)

pub short_windows_bound : (S : System) (mode : ℕ) (rules : List ArrivalRule) (p : ℕ)
    (costs : Costs) (least : ℕ → ℕ) (most first round : ℕ) → IsProper S
    → IsRound S mode costs first round → ArePeriodic rules
    → ((from : ℕ) → from < first + round → IsShortFrom S mode rules costs least most from)
    → ((arrivals : List Arrival) → KeepRules S rules arrivals
    → IsCountedButForAlarms S mode arrivals p costs least)
    → IsBoundOf S mode rules p most
short_windows_bound S mode rules p costs least most first round proper rounds periodic early
    counted =
    bound_by_windows S mode rules p most
    (λ arrivals keep.
    windows_within S mode rules p costs least most first round proper rounds periodic early
    arrivals keep (counted arrivals keep))

pub known_ticks_bound_responses : KnownTicksBoundResponses
known_ticks_bound_responses S mode rules p costs least most first round proper rounds at counted =
    short_windows_bound S mode rules p costs least most first round proper rounds at.periodic
    (λ from early. record {
      count = most;
      some = at.some;
      low = omega arith;
      enough = at.enough from early;
    })
    counted
