-- A window that begins in no known tick has no more of them than one that begins a tick later.
use Rattle.std.proofs.Common.{ℕ, zero, suc, ◌≡◌, ◌<◌, ◌≤◌, ◌+◌, ◌-◌, ◌*◌, ◌⊎◌, inl, inr, Bool, true, false, cond, List, length, refl, sym, ◌∙◌, subst, arith}
use Rattle.std.specs.Prelude.{Option, Some, None, IfSome}
use Rattle.std.proofs.lemmas.Bool.{cases_lt}
use Rattle.osek_base.specs.Proper.{IsProper}
use Rattle.osek_base.specs.System.{System, alarm_start_in}
use Rattle.arrival_rules.specs.declared.rule.ArrivalRule.{ArrivalRule}
use Rattle.law_alarms.specs.Expiries.{base_of}
use Rattle.law_alarms.specs.Setting.{is_never_set}
use Rattle.law_alarms.specs.Spaced.{most_in}
use Rattle.law_alarms.proofs.Due.{some_ticks}
use Rattle.law_runs.proofs.Lists.{clash}
use Rattle.law_windows.specs.Analysis.{most_of}
use Rattle.law_windows.specs.Coming.{Costs, first_cost}
use Rattle.law_windows.specs.KnownTicks.{AreEnoughFrom, AreShortAtExpiries, ExpiriesBoundResponses, IsRound, IsShortFrom, expiries_from, known_before, known_in}
use Rattle.law_windows.proofs.AtKnownTicks.{short_later, short_windows_bound}
use Rattle.law_windows.proofs.KnownTicks.{is_known, no_fewer_later}
use Rattle.law_windows.proofs.Sums.{cost_less}

module _ (S : System) (mode : ℕ) (costs : Costs) (proper : IsProper S) (t : ℕ) where
  -- none of the known ticks of an alarm is this one
  abbrev IsNone : ℕ → Option (ℕ × ℕ) → Type 0
  IsNone a o =
      IfSome o
      (λ start. known_before start (base_of S a) (suc t) ≤ known_before start (base_of S a) t)

  abbrev IsSkipped : ℕ → Type 0
  IsSkipped a =
      1 ≤ costs.of_expiry a → is_never_set S a ≡ true → IsNone a (alarm_start_in S mode a)

  -- .. or one is
  record IsFound : Type 0 where
    pub a : ℕ
    pub k : ℕ
    pub start : ℕ × ℕ
    pub inside : a < length S.alarms
    pub dear : 1 ≤ costs.of_expiry a
    pub never : is_never_set S a ≡ true
    pub starts : alarm_start_in S mode a ≡ Some start
    pub is : t ≡ (start.0 + k * start.1) * base_of S a

  look_at : (a : ℕ) → a < length S.alarms → IsSkipped a ⊎ IsFound
  look_at a inside =
      go (cases_lt 0 (costs.of_expiry a)) (is_never_set S a) refl (alarm_start_in S mode a) refl
    where
      go : (0 < costs.of_expiry a) ⊎ (costs.of_expiry a ≤ 0) → (b : Bool)
          → is_never_set S a ≡ b → (o : Option (ℕ × ℕ)) → alarm_start_in S mode a ≡ o
          → IsSkipped a ⊎ IsFound
      go (inr cheap) b is o starts = inl (λ dear never. absurd (omega (arith, cheap, dear)))
      go (inl dear) false is o starts = inl (λ dear never. clash (sym never ∙ is))
      go (inl dear) true is None starts = inl (λ dear never. subst (IsNone a) (sym starts) tt)
      go (inl dear) true is (Some start) starts =
          elim
          (cases_lt (known_before start (base_of S a) t)
          (known_before start (base_of S a) (suc t))) [
            | inr none ↦ inl (λ dear never. subst (IsNone a) (sym starts) none)
            | inl more ↦
                let at =
                is_known (base_of S a) start.0 (some_ticks S a proper inside) start.1 t more in
                inr (record {
                  a = a;
                  k = at.0;
                  start = start;
                  inside = inside;
                  dear = dear;
                  never = is;
                  starts = starts;
                  is = at.1;
                })
          ]

  look : (n : ℕ) → n ≤ length S.alarms → ((a : ℕ) → a < n → IsSkipped a) ⊎ IsFound
  look zero low = inl (λ a none. absurd (omega (arith, none)))
  look (suc n) low = go (look n (omega (arith, low))) (look_at n (omega (arith, low)))
    where
      go : ((a : ℕ) → a < n → IsSkipped a) ⊎ IsFound → IsSkipped n ⊎ IsFound
          → ((a : ℕ) → a < suc n → IsSkipped a) ⊎ IsFound
      go (inr found) here = inr found
      go (inl before) (inr found) = inr found
      go (inl before) (inl here) =
          inl (λ a less. elim (cases_lt a n) [
            | inl under ↦ before a under
            | inr over ↦
                let same : n ≡ a = omega (arith, less, over) in
                subst IsSkipped same here
          ])

module _ (S : System) (mode : ℕ) (rules : List ArrivalRule) (costs : Costs) (least : ℕ → ℕ)
    (most : ℕ) (proper : IsProper S) where
  -- of an alarm
  no_fewer_of : (t a : ℕ) → a < length S.alarms → IsSkipped S mode costs proper t a
      → 1 ≤ costs.of_expiry a
      → expiries_from S mode least t most a ≤ expiries_from S mode least (suc t) most a
  no_fewer_of t a inside skipped dear =
      go (is_never_set S a) refl
    where
      of_boot : (o : Option (ℕ × ℕ)) → IsNone S mode costs proper t a o
          → known_in o (base_of S a) t most ≤ known_in o (base_of S a) (suc t) most
      of_boot None none = omega arith
      of_boot (Some start) none =
          no_fewer_later (base_of S a) start.0 (some_ticks S a proper inside) start.1 t most none

      go : (b : Bool) → is_never_set S a ≡ b
          → cond b (known_in (alarm_start_in S mode a) (base_of S a) t most)
          (most_in (least a * base_of S a) most)
          ≤ cond b (known_in (alarm_start_in S mode a) (base_of S a) (suc t) most)
          (most_in (least a * base_of S a) most)
      go true never = of_boot (alarm_start_in S mode a) (skipped dear never)
      go false set = omega arith

  begins_alike : (t : ℕ) → 1 ≤ t → first_cost costs t ≡ first_cost costs (suc t)
  begins_alike zero some = absurd (omega (arith, some))
  begins_alike (suc t) some = refl

  a_tick_earlier : (t : ℕ) → 1 ≤ t
      → ((a : ℕ) → a < length S.alarms → IsSkipped S mode costs proper t a)
      → AreEnoughFrom S mode rules costs least most (suc t)
      → AreEnoughFrom S mode rules costs least most t
  a_tick_earlier t some skipped enough =
      let same = begins_alike t some in
      let less =
      cost_less S costs (λ i. most_of rules i most) (expiries_from S mode least t most)
      (λ i. most_of rules i most) (expiries_from S mode least (suc t) most)
      (λ i inside. omega arith)
      (λ a inside dear. no_fewer_of t a inside (skipped a inside) dear) in
      omega (arith, same, less, enough)

module _ (S : System) (mode : ℕ) (rules : List ArrivalRule) (costs : Costs) (least : ℕ → ℕ)
    (most first round : ℕ) (proper : IsProper S) (rounds : IsRound S mode costs first round)
    (at : AreShortAtExpiries S mode rules costs least most first (first + round)) where
  short_earlier : (t : ℕ) → 1 ≤ t
      → ((a : ℕ) → a < length S.alarms → IsSkipped S mode costs proper t a)
      → IsShortFrom S mode rules costs least most (suc t)
      → IsShortFrom S mode rules costs least most t
  short_earlier t some skipped short = record {
    count = short.count;
    some = short.some;
    low = short.low;
    enough =
        a_tick_earlier S mode rules costs least short.count proper t some skipped short.enough;
  }

  -- so many ticks before the end of the first round
  before_end : (d t : ℕ) → 1 ≤ t → t + d ≡ first + round
      → IsShortFrom S mode rules costs least most t
  before_end zero t some is =
      let end : first + round ≡ t = omega (arith, is) in
      subst (λ n. IsShortFrom S mode rules costs least most n) end
      (short_later S mode rules costs least most first round proper rounds first (omega arith)
      at.at_first)
  before_end (suc d) t some is =
      go (look S mode costs proper t (length S.alarms) (omega arith))
      (before_end d (suc t) (omega arith) (omega (arith, is)))
    where
      go : ((a : ℕ) → a < length S.alarms → IsSkipped S mode costs proper t a)
          ⊎ IsFound S mode costs proper t
          → IsShortFrom S mode rules costs least most (suc t)
          → IsShortFrom S mode rules costs least most t
      go (inl skipped) short = short_earlier t some skipped short
      go (inr f) short =
          let here = f.is in
          subst (λ n. IsShortFrom S mode rules costs least most n) (sym here)
          (at.at_known f.a f.k f.start f.inside f.dear f.never f.starts (omega (arith, here, is)))

  short_from : (t : ℕ) → t < first + round → IsShortFrom S mode rules costs least most t
  short_from zero early = at.at_boot
  short_from (suc t) early =
      before_end (first + round - suc t) (suc t) (omega arith) (omega (arith, early))

pub expiries_bound_responses : ExpiriesBoundResponses
expiries_bound_responses S mode rules p costs least most first round proper rounds at counted =
    short_windows_bound S mode rules p costs least most first round proper rounds at.periodic
    (short_from S mode rules costs least most first round proper rounds at) counted
