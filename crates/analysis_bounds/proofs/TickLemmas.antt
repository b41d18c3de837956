-- Windows that are short by when alarms expire, as code keeps it, are so in the words of the law.
use Rattle.std.proofs.Common.{ℕ, zero, suc, ◌+◌, ◌-◌, ◌*◌, ◌≡◌, ◌<◌, ◌≤◌, ◌⊎◌, inl, inr, Bool, true, false, cond, ◌&&◌, ◌||◌, nat_le, List, [], ◌∷◌, ◌++◌, length, refl, sym, ◌∙◌, ap, subst, arith, not-suc-le-zero, le_of_suc-le-suc}
use Rattle.std.specs.Prelude.{Option, Some, None, ◌==◌, ◌%◌, slice_index_or}
use Rattle.std.specs.List.{AllByRecursion, sum_by}
use Rattle.std.proofs.Math.Nat.{add-mul, mul_assoc, mul-le-mul_right}
use Rattle.std.proofs.lemmas.Bool.{and_from, cases_lt, eqb-true}
use Rattle.std.proofs.lemmas.List.{length-append}
use Rattle.osek_base.specs.Lists.{below}
use Rattle.osek_base.specs.System.{System, alarm_start_in}
use Rattle.arrival_rules.specs.declared.rule.ArrivalRule.{ArrivalRule}
use Rattle.arrival_rules.specs.Rules.{rule_at}
use Rattle.law_alarms.specs.Expiries.{base_of}
use Rattle.law_alarms.specs.Setting.{is_never_set}
use Rattle.law_alarms.specs.Spaced.{most_in}
use Rattle.law_windows.specs.Analysis.{ArePeriodic, most_of}
use Rattle.law_windows.specs.Coming.{cost_of, first_cost}
use Rattle.law_windows.specs.KnownTicks.{AreShortAtExpiries, IsRound, IsShortFrom, come_again, expiries_from, known_in}
use Rattle.analysis_bounds.specs.declared.level.Level.{Level}
use Rattle.analysis_bounds.specs.declared.timing.Timing.{Timing}
use Rattle.analysis_bounds.specs.Coming.{AreAllPeriodic, arrivals_cost}
use Rattle.analysis_bounds.specs.KnownTicks.{AreAllShortAt, AreShort, AreShortAt, AreShortByRounds, AreTried, IsShort, IsSomeRound, is_again, known_cost, needed_from}
use Rattle.analysis_bounds.specs.Levels.{costs_of, numbered}
use Rattle.analysis_bounds.specs.Timing.{AreTimed, often_from, timing_by, timing_in, timing_of}
use Rattle.analysis_bounds.proofs.SumLemmas.{sum_below_more}

-- ---- lists and sums

-- a list that is known by number, with one more element
pub one_longer : {X : Type 0} (xs : List X) (x d : X) (f : ℕ → X)
    → ((a : ℕ) → a < length xs → slice_index_or xs a d ≡ f a) → x ≡ f (length xs) → (a : ℕ)
    → a < length xs + 1 → slice_index_or (xs ++ x ∷ []) a d ≡ f a
one_longer [] x d f each last zero low = last
one_longer [] x d f each last (suc a) low = absurd (not-suc-le-zero (le_of_suc-le-suc low))
one_longer (y ∷ xs) x d f each last zero low = each 0 (omega arith)
one_longer (y ∷ xs) x d f each last (suc a) low =
    one_longer xs x d (λ k. f (suc k)) (λ k less. each (suc k) (omega (arith, less))) last a
    (omega (arith, low))

pub timed_longer : (timings more : List Timing) (t : Timing) (n : ℕ) (f : ℕ → Timing)
    → length timings ≡ n → ((a : ℕ) → a < n → timing_in timings a ≡ f a) → t ≡ f n
    → more ≡ timings ++ t ∷ []
    → (length more ≡ n + 1) × ((a : ℕ) → a < n + 1 → timing_in more a ≡ f a)
timed_longer timings more t n f count each last is = (
  ap length is ∙ length-append timings (t ∷ []) ∙ ap (λ k. k + 1) count,
  λ a low.
      ap (λ list. timing_in list a) is
      ∙ one_longer timings t Timing.Never f (λ k less. each k (subst (λ m. k < m) count less))
      (last ∙ ap f (sym count)) a (subst (λ m. a < m + 1) (sym count) low),
)

sums_same : (f h : ℕ → ℕ) (n : ℕ) → ((a : ℕ) → a < n → f a ≡ h a)
    → sum_by f (below n) ≡ sum_by h (below n)
sums_same f h zero each = refl
sums_same f h (suc n) each =
    let rest = sums_same f h n (λ a low. each a (omega (arith, low))) in
    let last = each n (omega arith) in
    let one = sum_below_more f n in
    let other = sum_below_more h n in
    omega (arith, rest, last, one, other)

periodic : (rules : List ArrivalRule) → AreAllPeriodic rules → ArePeriodic rules
periodic [] all n low = absurd (not-suc-le-zero low)
periodic (rule ∷ rules) all zero low = all.0
periodic (rule ∷ rules) all (suc n) low = periodic rules all.1 n (le_of_suc-le-suc low)

-- ---- how often

known_often : (o : Option (ℕ × ℕ)) (base from count : ℕ)
    → often_from (timing_by o base) from count ≡ known_in o base from count
known_often None base from count = refl
known_often (Some start) base from count = go (start.1 == 0)
  where
    before : Bool → ℕ → ℕ
    before b t =
        cond (nat_le t (start.0 * base)) 0
        (cond b 1 (most_in (start.1 * base) (t - start.0 * base)))

    go : (b : Bool)
        → often_from
        (cond b (Timing.Once (start.0 * base)) (Timing.Each (start.0 * base) (start.1 * base)))
        from count
        ≡ before b (from + count) - before b from
    go true = refl
    go false = refl

often : (S : System) (mode : ℕ) (least : ℕ → ℕ) (a from count : ℕ)
    → often_from (timing_of S mode least a) from count ≡ expiries_from S mode least from count a
often S mode least a from count = go (is_never_set S a)
  where
    go : (b : Bool)
        → often_from
        (cond b (timing_by (alarm_start_in S mode a) (base_of S a))
        (Timing.Apart (least a * base_of S a)))
        from count
        ≡ cond b (known_in (alarm_start_in S mode a) (base_of S a) from count)
        (most_in (least a * base_of S a) count)
    go true = known_often (alarm_start_in S mode a) (base_of S a) from count
    go false = refl

-- ---- rounds

again_by : (o : Option (ℕ × ℕ)) (base first round : ℕ)
    → is_again (timing_by o base) first round ≡ true → come_again o base first round ≡ true
again_by None base first round is = refl
again_by (Some start) base first round is = go (start.1 == 0) is
  where
    go : (b : Bool)
        → is_again
        (cond b (Timing.Once (start.0 * base)) (Timing.Each (start.0 * base) (start.1 * base)))
        first round
        ≡ true
        → (nat_le (start.0 * base) first && (b || round % (start.1 * base) == 0)) ≡ true
    go true is = and_from (nat_le (start.0 * base) first) true is refl
    go false is = is

-- ---- one tick more

pub short_longer : (S : System) (rules : List ArrivalRule) (level : Level) (timings : List Timing)
    (few many from : ℕ) → few ≤ many → IsShort S rules level timings few from
    → IsShort S rules level timings many from
short_longer S rules level timings few many from less s = record {
  count = s.count;
  some = s.some;
  low =
      (let low = s.low in
      omega (arith, low, less));
  enough = s.enough;
}

pub short_longer_at : (S : System) (rules : List ArrivalRule) (level : Level)
    (timings : List Timing) (few many horizon : ℕ) → few ≤ many → (t : Timing)
    → AreShortAt t S rules level timings few horizon
    → AreShortAt t S rules level timings many horizon
short_longer_at S rules level timings few many horizon less Timing.Never s = tt
short_longer_at S rules level timings few many horizon less (Timing.Once tick) s =
    λ before. short_longer S rules level timings few many tick less (s before)
short_longer_at S rules level timings few many horizon less (Timing.Each first gap) s =
    λ k before. short_longer S rules level timings few many (first + k * gap) less (s k before)
short_longer_at S rules level timings few many horizon less (Timing.Apart gap) s = tt

pub one_alarm_more : (S : System) (rules : List ArrivalRule) (level : Level)
    (timings : List Timing) (few many horizon n : ℕ) → few ≤ many
    → AreAllShortAt S rules level timings few horizon n
    → (1 ≤ numbered level.expiries.items n
    → AreShortAt (timing_in timings n) S rules level timings many horizon)
    → AreAllShortAt S rules level timings many horizon (n + 1)
one_alarm_more S rules level timings few many horizon n less each last a low costs =
    go (cases_lt a n)
  where
    go : (a < n) ⊎ (n ≤ a) → AreShortAt (timing_in timings a) S rules level timings many horizon
    go (inl below) =
        short_longer_at S rules level timings few many horizon less (timing_in timings a)
        (each a below costs)
    go (inr past) =
        let same : n ≡ a = omega (arith, low, past) in
        subst (λ k. AreShortAt (timing_in timings k) S rules level timings many horizon) same
        (last (subst (λ k. 1 ≤ numbered level.expiries.items k) (sym same) costs))

module _ (S : System) (rules : List ArrivalRule) (level : Level) (timings : List Timing)
    (first gap horizon : ℕ) where
  pub none_tried : (most : ℕ) → AreTried S rules level timings most first gap horizon first
  none_tried most = record {
    tried = 0;
    is = omega arith;
    each = λ k low. absurd (not-suc-le-zero low);
  }

  pub one_tried : (few many tick : ℕ) → few ≤ many
      → AreTried S rules level timings few first gap horizon tick
      → (tick < horizon → IsShort S rules level timings many tick)
      → AreTried S rules level timings many first gap horizon (tick + gap)
  one_tried few many tick less t last = record {
    tried = t.tried + 1;
    is =
        (let is = t.is in
        let one = add-mul t.tried 1 gap in
        omega (arith, is, one));
    each = λ k low. go k low (cases_lt k t.tried);
  }
    where
      go : (k : ℕ) → k < t.tried + 1 → (k < t.tried) ⊎ (t.tried ≤ k) → first + k * gap < horizon
          → IsShort S rules level timings many (first + k * gap)
      go k low (inl below) before =
          short_longer S rules level timings few many (first + k * gap) less
          (t.each k below before)
      go k low (inr past) before =
          let at : t.tried ≡ k = omega (arith, low, past) in
          let same : tick ≡ first + k * gap = t.is ∙ ap (λ n. first + n * gap) at in
          subst (IsShort S rules level timings many) same
          (last (subst (λ n. n < horizon) (sym same) before))

  pub all_tried : (most tick : ℕ) → AreTried S rules level timings most first gap horizon tick
      → horizon ≤ tick → (k : ℕ) → first + k * gap < horizon
      → IsShort S rules level timings most (first + k * gap)
  all_tried most tick t far k before = go (cases_lt k t.tried)
    where
      go : (k < t.tried) ⊎ (t.tried ≤ k) → IsShort S rules level timings most (first + k * gap)
      go (inl below) = t.each k below before
      go (inr past) =
          let less : t.tried * gap ≤ k * gap = mul-le-mul_right gap past in
          let is = t.is in
          absurd (omega (arith, less, is, far, before))

-- ---- in the words of the law

module _ (S : System) (mode : ℕ) (rules : List ArrivalRule) (level : Level) (least : List ℕ)
    (timings : List Timing) (timed : AreTimed S mode least timings) where
  needed_is : (from count : ℕ)
      → needed_from S rules level timings from count
      ≡ first_cost (costs_of level) from
      + cost_of S (costs_of level) (λ i. most_of rules i count)
      (expiries_from S mode (numbered least) from count)
  needed_is from count =
      ap
      (λ n. first_cost (costs_of level) from
      + (arrivals_cost rules level count (length S.routines) + n))
      (sums_same
      (λ a. often_from (timing_in timings a) from count * numbered level.expiries.items a)
      (λ a. expiries_from S mode (numbered least) from count a
      * numbered level.expiries.items a)
      (length S.alarms)
      (λ a low.
      ap (λ n. n * numbered level.expiries.items a)
      (ap (λ t. often_from t from count) (timed a low)
      ∙ often S mode (numbered least) a from count)))

  short_from : (most from : ℕ) → IsShort S rules level timings most from
      → IsShortFrom S mode rules (costs_of level) (numbered least) most from
  short_from most from s = record {
    count = s.count;
    some = s.some;
    low = s.low;
    enough = subst (λ n. n ≤ s.count) (needed_is from s.count) s.enough;
  }

  timed_by : (a : ℕ) → a < length S.alarms → is_never_set S a ≡ true
      → timing_in timings a ≡ timing_by (alarm_start_in S mode a) (base_of S a)
  timed_by a low never =
      timed a low
      ∙ ap
      (λ b. cond b (timing_by (alarm_start_in S mode a) (base_of S a))
      (Timing.Apart (numbered least a * base_of S a)))
      never

  known_short : (most horizon base k : ℕ) (start : ℕ × ℕ)
      → AreShortAt (timing_by (Some start) base) S rules level timings most horizon
      → (start.0 + k * start.1) * base < horizon
      → IsShort S rules level timings most ((start.0 + k * start.1) * base)
  known_short most horizon base k start short before = go (start.1 == 0) refl short
    where
      same : (start.0 + k * start.1) * base ≡ start.0 * base + k * (start.1 * base)
      same =
          add-mul start.0 (k * start.1) base
          ∙ ap (λ n. start.0 * base + n) (mul_assoc k start.1 base)

      go : (b : Bool) → (start.1 == 0) ≡ b
          → AreShortAt
          (cond b (Timing.Once (start.0 * base)) (Timing.Each (start.0 * base) (start.1 * base)))
          S rules level timings most horizon
          → IsShort S rules level timings most ((start.0 + k * start.1) * base)
      go true none is =
          let one : start.0 * base ≡ (start.0 + k * start.1) * base =
          ap (λ n. n * base)
          (let zero_is = mul_none k start.1 (eqb-true start.1 0 none) in omega (arith, zero_is)) in
          subst (IsShort S rules level timings most) one
          (is (subst (λ n. n < horizon) (sym one) before))
        where
          mul_none : (m n : ℕ) → n ≡ 0 → m * n ≡ 0
          mul_none m n is =
              let z : m * n ≡ m * 0 = ap (λ x. m * x) is in
              omega (arith, z)
      go false some is =
          subst (IsShort S rules level timings most) (sym same)
          (is k (subst (λ n. n < horizon) same before))

  round_of : (first round : ℕ) → IsSomeRound S level timings first round
      → IsRound S mode (costs_of level) first round
  round_of first round r = record {
    later = r.later;
    some = r.some;
    again =
        λ a low costs never.
        again_by (alarm_start_in S mode a) (base_of S a) first round
        (subst (λ t. is_again t first round ≡ true) (timed_by a low never) (r.again a low costs));
  }

  short_at_expiries : (most first horizon : ℕ) → AreAllPeriodic rules
      → AreShort S rules level timings most first horizon
      → AreShortAtExpiries S mode rules (costs_of level) (numbered least) most first horizon
  short_at_expiries most first horizon all s = record {
    periodic = periodic rules all;
    at_boot = short_from most 0 s.at_boot;
    at_first = short_from most first s.at_first;
    at_known =
        λ a k start low costs never starts before.
        short_from most ((start.0 + k * start.1) * base_of S a)
        (known_short most horizon (base_of S a) k start
        (subst (λ t. AreShortAt t S rules level timings most horizon)
        (timed_by a low never ∙ ap (λ o. timing_by o (base_of S a)) starts)
        (s.at_known a low costs))
        before);
  }

pub short_by_rounds : (S : System) (rules : List ArrivalRule) (level : Level)
    (timings : List Timing) (most first round horizon : ℕ) → AreAllPeriodic rules
    → IsSomeRound S level timings first round → horizon ≡ first + round
    → AreShort S rules level timings most first horizon → (mode : ℕ) (least : List ℕ)
    → AreTimed S mode least timings → AreShortByRounds S mode rules level least most
short_by_rounds S rules level timings most first round horizon all r end s mode least timed =
    record {
      first = first;
      round = round;
      is_round = round_of S mode rules level least timings timed first round r;
      short =
          subst
          (AreShortAtExpiries S mode rules (costs_of level) (numbered least) most first)
          end
          (short_at_expiries S mode rules level least timings timed most first horizon all s);
    }
