-- How many interrupts rules let come in a row of ticks.
use Rattle.std.proofs.Common.{ℕ, zero, suc, ◌≡◌, ◌<◌, ◌≤◌, ◌+◌, ◌-◌, ◌⊎◌, inl, inr, Bool, true, false, cond, min, List, [], ◌∷◌, refl, ap, ap₂, subst, arith}
use Rattle.std.specs.Prelude.{◌==◌}
use Rattle.std.proofs.lemmas.Bool.{eqb-true}
use Rattle.std.proofs.lemmas.Nat.{le-div}
use Rattle.osek_base.specs.declared.arrivals.Arrival.{Arrival}
use Rattle.arrival_rules.specs.declared.rule.ArrivalRule.{ArrivalRule}
use Rattle.arrival_rules.specs.Rules.{KeepsRule, comes, comings, rule_at}
use Rattle.law_runs.specs.Jobs.{one_if}
use Rattle.law_alarms.specs.Spaced.{most_in}
use Rattle.law_bounds.proofs.Comings.{one_a_tick, split}
use Rattle.law_windows.specs.Analysis.{ArePeriodic, ArrivalsAreFew, most_by, most_of}
use Rattle.law_windows.specs.Coming.{arrivals_in}

-- in as many ticks a routine's interrupt arrives as one comes
arrivals_come : (arrivals : List Arrival) (i from count : ℕ)
    → arrivals_in arrivals i from count ≡ comings arrivals i from count
arrivals_come arrivals i from zero = refl
arrivals_come arrivals i from (suc count) =
    ap₂ (λ (m n : ℕ). m + n) (arrivals_come arrivals i from count)
    (as_one (comes arrivals i (from + count)))
  where
    as_one : (b : Bool) → one_if b ≡ cond b 1 0
    as_one true = refl
    as_one false = refl

-- ---- a rule

module _ (arrivals : List Arrival) (i from : ℕ) where
  abbrev many : ℕ → ℕ
  many = comings arrivals i from

  abbrev here : ℕ → ℕ
  here count = cond (comes arrivals i (from + count)) 1 0

  -- of those in so many ticks a first comes and a last, the same or another
  record AreBetween (count : ℕ) : Type 0 where
    first : ℕ
    last : ℕ
    order : first ≤ last
    inside : last < count
    starts : comes arrivals i (from + first) ≡ true
    ends : comes arrivals i (from + last) ≡ true
    none : many first ≡ 0
    all : many count ≡ many last + 1

  one_more : (count : ℕ) → (many count ≡ 0) ⊎ AreBetween count → (b : Bool)
      → comes arrivals i (from + count) ≡ b
      → (many (suc count) ≡ 0) ⊎ AreBetween (suc count)
  one_more count before false is =
      let no : here count ≡ 0 = ap (λ b. cond b 1 0) is in
      elim before [
        | inl none ↦ inl (omega (arith, no, none))
        | inr l ↦
            let inside = l.inside in
            let all = l.all in
            inr (record {
              first = l.first;
              last = l.last;
              order = l.order;
              inside = omega (arith, inside);
              starts = l.starts;
              ends = l.ends;
              none = l.none;
              all = omega (arith, no, all);
            })
      ]
  one_more count before true is =
      let one : here count ≡ 1 = ap (λ b. cond b 1 0) is in
      elim before [
        | inl none ↦
            inr (record {
              first = count;
              last = count;
              order = omega arith;
              inside = omega arith;
              starts = is;
              ends = is;
              none = none;
              all = omega (arith, one);
            })
        | inr l ↦
            let order = l.order in
            let inside = l.inside in
            inr (record {
              first = l.first;
              last = count;
              order = omega (arith, order, inside);
              inside = omega arith;
              starts = l.starts;
              ends = is;
              none = l.none;
              all = omega (arith, one);
            })
      ]

  between : (count : ℕ) → (many count ≡ 0) ⊎ AreBetween count
  between zero = inl refl
  between (suc count) =
      one_more count (between count) (comes arrivals i (from + count)) refl

module _ (arrivals : List Arrival) (rule : ArrivalRule) (keeps : KeepsRule arrivals rule)
    (some : 1 ≤ rule.period) (from : ℕ) where
  abbrev i : ℕ
  i = rule.routine

  -- where one comes, the slack isn't 0
  some_slack : (t : ℕ) → comes arrivals i t ≡ true → 0 < rule.slack
  some_slack t here =
      let same : t ≡ t + 0 = omega arith in
      let far = keeps t 0 here (subst (λ u. comes arrivals i u ≡ true) same here) in
      omega (arith, far)

  fit_between : (count : ℕ) → AreBetween arrivals i from count
      → comings arrivals i from count ≤ most_in rule.period (count + rule.slack - 1)
  fit_between count l =
      let order = l.order in
      let inside = l.inside in
      let none = l.none in
      let all = l.all in
      let apart : ℕ = l.last - l.first in
      let place : from + l.last ≡ from + l.first + apart = omega (arith, order) in
      let far =
      keeps (from + l.first) apart l.starts
      (subst (λ u. comes arrivals i u ≡ true) place l.ends) in
      let behind : l.first + apart ≡ l.last = omega (arith, order) in
      let two =
      subst
      (λ m. comings arrivals i from m
      ≡ comings arrivals i from l.first + comings arrivals i (from + l.first) apart)
      behind (split arrivals i from l.first apart) in
      let most =
      le-div (comings arrivals i (from + l.first) apart) (count + rule.slack - 1 - 1) rule.period
      some (omega (arith, far, inside, order)) in
      omega (arith, none, all, two, most)

  few_by : (count : ℕ) → comings arrivals i from count ≤ most_by rule count
  few_by count = go (between arrivals i from count) (rule.slack == 0) refl
    where
      go : (comings arrivals i from count ≡ 0) ⊎ AreBetween arrivals i from count → (b : Bool)
          → (rule.slack == 0) ≡ b
          → comings arrivals i from count
          ≤ cond b 0 (most_in rule.period (count + rule.slack - 1))
      go (inl none) b is = omega (arith, none)
      go (inr l) true is =
          let low = eqb-true rule.slack 0 is in
          let more = some_slack (from + l.first) l.starts in
          absurd (omega (arith, low, more))
      go (inr l) false is = fit_between count l

-- ---- rules

few_of : (rules : List ArrivalRule) (arrivals : List Arrival) (i from count : ℕ)
    → ((n : ℕ) → KeepsRule arrivals (rule_at rules n)) → ArePeriodic rules
    → comings arrivals i from count ≤ most_of rules i count
few_of [] arrivals i from count each periodic = one_a_tick arrivals i from count
few_of (rule ∷ rules) arrivals i from count each periodic =
    go (rule.routine == i) refl
    (few_of rules arrivals i from count (λ n. each (suc n))
    (λ n low. periodic (suc n) (omega (arith, low))))
  where
    go : (b : Bool) → (rule.routine == i) ≡ b
        → comings arrivals i from count ≤ most_of rules i count
        → comings arrivals i from count
        ≤ cond b (min (most_by rule count) (most_of rules i count)) (most_of rules i count)
    go true is rest =
        let few =
        subst (λ k. comings arrivals k from count ≤ most_by rule count)
        (eqb-true rule.routine i is)
        (few_by arrivals rule (each 0) (periodic 0 (omega arith)) from count) in
        omega (arith, few, rest)
    go false is rest = rest

pub arrivals_are_few : ArrivalsAreFew
arrivals_are_few S rules arrivals i from count keep periodic =
    let same = arrivals_come arrivals i from count in
    let few = few_of rules arrivals i from count keep.each periodic in
    omega (arith, same, few)
