-- Where arrivals once more keep rules, they do twice more.
use Rattle.std.proofs.Common.{ℕ, ◌≡◌, ◌<◌, ◌≤◌, ◌+◌, ◌*◌, ◌-◌, inl, inr, true, List, length, sym, ◌∙◌, ap, subst, arith, true≢false}
use Rattle.std.specs.Prelude.{nat_le}
use Rattle.std.specs.List.{AllByRecursion, filter}
use Rattle.std.proofs.lemmas.Bool.{cases_lt}
use Rattle.osek_base.specs.declared.arrivals.Arrival.{Arrival}
use Rattle.osek_base.specs.Lists.{is_in}
use Rattle.osek_base.specs.System.{System}
use Rattle.osek_base.specs.Trace.{arriving}
use Rattle.arrival_rules.specs.declared.rule.ArrivalRule.{ArrivalRule}
use Rattle.arrival_rules.specs.Rules.{KeepRules, KeepsRule, comes, comings, rule_at}
use Rattle.seen_ticks.specs.Observed.{times}
use Rattle.law_runs.proofs.Lists.{all_append, all_kept, all_map, all_weaker}
use Rattle.law_bounds.specs.Lassos.{again, later, repeated}
use Rattle.law_bounds.proofs.Arriving.{first_round, none_behind, second_round}
use Rattle.law_bounds.proofs.Comings.{same_comings, split}

-- what is repeated is of the same routines
repeated_known : (count from ticks : ℕ) (xs : List Arrival)
    → AllByRecursion (λ (a : Arrival). a.routine < count) xs
    → AllByRecursion (λ (a : Arrival). a.routine < count) (repeated from ticks xs)
repeated_known count from ticks xs known =
    all_map (λ (a : Arrival). a.routine < count) (λ (a : Arrival). a.routine < count) (later ticks)
    (filter (λ (a : Arrival). nat_le from a.tick) xs) (λ a low. low)
    (all_kept (λ (a : Arrival). a.routine < count) (λ (a : Arrival). nat_le from a.tick) xs known)

-- and comes as many ticks later than its end
repeated_before : (from ticks until : ℕ) (xs : List Arrival)
    → AllByRecursion (λ (a : Arrival). a.tick < until) xs
    → AllByRecursion (λ (a : Arrival). a.tick < until + ticks) (repeated from ticks xs)
repeated_before from ticks until xs before =
    all_map (λ (a : Arrival). a.tick < until) (λ (a : Arrival). a.tick < until + ticks)
    (later ticks) (filter (λ (a : Arrival). nat_le from a.tick) xs)
    (λ a low. omega (arith, low))
    (all_kept (λ (a : Arrival). a.tick < until) (λ (a : Arrival). nat_le from a.tick) xs before)

pub again_before : (from until : ℕ) (xs : List Arrival)
    → AllByRecursion (λ (a : Arrival). a.tick < until) xs
    → AllByRecursion (λ (a : Arrival). a.tick < until + (until - from)) (again from until xs)
again_before from until xs before =
    all_append (λ (a : Arrival). a.tick < until + (until - from)) xs
    (repeated from (until - from) xs)
    (all_weaker (λ (a : Arrival). a.tick < until)
    (λ (a : Arrival). a.tick < until + (until - from)) xs (λ a low. omega (arith, low)) before)
    (repeated_before from (until - from) until xs before)

module _ (from until : ℕ) (xs : List Arrival) (less : from < until)
    (before : AllByRecursion (λ (a : Arrival). a.tick < until) xs) where
  abbrev ticks : ℕ
  ticks = until - from

  abbrev once_more : List Arrival
  once_more = again from until xs

  abbrev twice_more : List Arrival
  twice_more = again until (until + ticks) once_more

  later_less : until < until + ticks
  later_less = omega (arith, less)

  before_too : AllByRecursion (λ (a : Arrival). a.tick < until + ticks) once_more
  before_too = again_before from until xs before

  -- what arrives twice more arrived once more, before its end or a round earlier
  early : (t : ℕ) → t < until + ticks → arriving twice_more t ≡ arriving once_more t
  early t low = first_round until (until + ticks) once_more later_less before_too t low

  late : (t u : ℕ) → until ≤ t → u ≡ t + ticks → arriving twice_more u ≡ arriving once_more t
  late t u high is =
      second_round until (until + ticks) once_more later_less before_too t u high
      (omega (arith, is, less))

  -- and that of the second round arrived in the first
  second : (t u : ℕ) → from ≤ t → u ≡ t + ticks → arriving once_more u ≡ arriving xs t
  second t u high is = second_round from until xs less before t u high is

  -- before the end of the second round, what arrives a round later
  moved : (t u : ℕ) → from ≤ t → t < until + ticks → u ≡ t + ticks
      → arriving twice_more u ≡ arriving once_more t
  moved t u high low is = elim (cases_lt t until) [
    | inl soon ↦
        early u (omega (arith, is, soon)) ∙ second t u high is
        ∙ sym (first_round from until xs less before t soon)
    | inr far ↦ late t u far is
  ]

  -- ---- how many interrupts of a routine come

  module _ (i : ℕ) where
    abbrev round : ℕ
    round = comings xs i from ticks

    early_many : (t count : ℕ) → t + count ≤ until + ticks
        → comings twice_more i t count ≡ comings once_more i t count
    early_many t count low =
        same_comings twice_more once_more i t t count
        (λ k inside. ap (is_in i) (early (t + k) (omega (arith, low, inside))))

    moved_many : (t u count : ℕ) → from ≤ t → u ≡ t + ticks → t + count ≤ until + ticks
        → comings twice_more i u count ≡ comings once_more i t count
    moved_many t u count high is low =
        same_comings twice_more once_more i u t count
        (λ k inside.
        ap (is_in i)
        (moved (t + k) (u + k) (omega (arith, high)) (omega (arith, low, inside))
        (omega (arith, is))))

    -- in the second round as many as in the first
    pub second_many : comings once_more i until ticks ≡ round
    second_many =
        same_comings once_more xs i until from ticks
        (λ k inside.
        ap (is_in i) (second (from + k) (until + k) (omega arith) (omega (arith, less))))

    -- and so in as many ticks from any one of it on
    whole_round : (u d rest : ℕ) → u ≡ until + d → d + rest ≡ ticks
        → comings twice_more i u ticks ≡ round
    whole_round u d rest is parts =
        let long : ticks ≡ rest + d = omega (arith, parts) in
        let two = split twice_more i u rest d in
        let front : comings twice_more i u rest ≡ comings xs i (from + d) rest =
        same_comings twice_more xs i u (from + d) rest
        (λ k inside.
        ap (is_in i)
        (early (u + k) (omega (arith, is, parts, inside))
        ∙ second (from + d + k) (u + k) (omega arith) (omega (arith, is, less)))) in
        let back : comings twice_more i (u + rest) d ≡ comings xs i from d =
        same_comings twice_more xs i (u + rest) from d
        (λ k inside.
        ap (is_in i)
        (late (until + k) (u + rest + k) (omega arith) (omega (arith, is, parts))
        ∙ second (from + k) (until + k) (omega arith) (omega (arith, less)))) in
        let other = split xs i from d rest in
        let same : comings twice_more i u (rest + d) ≡ comings xs i from (d + rest) =
        omega (arith, two, front, back, other) in
        ap (comings twice_more i u) long ∙ same ∙ ap (comings xs i from) parts

    -- none comes behind its end
    before_end : (t : ℕ) → comes once_more i t ≡ true → t < until + ticks
    before_end t there = elim (cases_lt t (until + ticks)) [
      | inl low ↦ low
      | inr high ↦
          let none = ap (is_in i) (none_behind (until + ticks) t once_more before_too high) in
          absurd (true≢false (sym there ∙ none))
    ]

  -- ---- a rule

  module _ (rule : ArrivalRule) (keeps : KeepsRule once_more rule)
      (pays : comings xs rule.routine from ticks * rule.period ≤ ticks) where
    abbrev i : ℕ
    i = rule.routine

    abbrev IsFar : ℕ → ℕ → Type 0
    IsFar many count = many * rule.period < count + rule.slack

    -- a round more adds no more than its ticks take off
    far_more : (m count : ℕ) → IsFar m count
        → IsFar (m + comings xs rule.routine from ticks) (count + ticks)
    far_more m count far =
        let sum : (m + comings xs i from ticks) * rule.period
        ≡ m * rule.period + comings xs i from ticks * rule.period = grind arith in
        omega (arith, sum, far, pays)

    keeps_early : (t count : ℕ) → t + count < until + ticks → comes twice_more i t ≡ true
        → comes twice_more i (t + count) ≡ true → IsFar (comings twice_more i t count) count
    keeps_early t count low one other =
        let kept =
        keeps t count (sym (ap (is_in i) (early t (omega (arith, low)))) ∙ one)
        (sym (ap (is_in i) (early (t + count) low)) ∙ other) in
        subst (λ m. IsFar m count) (sym (early_many i t count (omega (arith, low)))) kept

    -- where the later one comes in the third round, and once more a round earlier
    module _ (t back : ℕ) (high : until ≤ back) (low : back < until + ticks)
        (there : comes once_more i back ≡ true) where
      from_before : (rest : ℕ) → back ≡ t + rest → t < until → comes twice_more i t ≡ true
          → IsFar (comings twice_more i t (rest + ticks)) (rest + ticks)
      from_before rest is soon one =
          let kept =
          keeps t rest (sym (ap (is_in i) (early t (omega (arith, soon)))) ∙ one)
          (subst (λ u. comes once_more i u ≡ true) is there) in
          let same = early_many i t rest (omega (arith, is, low)) in
          let whole =
          whole_round i (t + rest) (back - until) (until + ticks - back)
          (omega (arith, is, high)) (omega (arith, high, low)) in
          let sum = split twice_more i t rest ticks in
          let all : comings twice_more i t (rest + ticks)
          ≡ comings once_more i t rest + comings xs i from ticks =
          omega (arith, sum, same, whole) in
          subst (λ m. IsFar m (rest + ticks)) (sym all)
          (far_more (comings once_more i t rest) rest kept)

      from_behind : (start count : ℕ) → t ≡ start + ticks → from ≤ start → back ≡ start + count
          → comes twice_more i t ≡ true → IsFar (comings twice_more i t count) count
      from_behind start count is late_enough ends one =
          let inside : start < until + ticks = omega (arith, ends, low) in
          let kept =
          keeps start count (sym (ap (is_in i) (moved start t late_enough inside is)) ∙ one)
          (subst (λ u. comes once_more i u ≡ true) ends there) in
          subst (λ m. IsFar m count)
          (sym (moved_many i start t count late_enough is (omega (arith, ends, low)))) kept

    keeps_late : (t count : ℕ) → until + ticks ≤ t + count → comes twice_more i t ≡ true
        → comes twice_more i (t + count) ≡ true → IsFar (comings twice_more i t count) count
    keeps_late t count far one other =
        let back : ℕ = t + count - ticks in
        let is : t + count ≡ back + ticks = omega (arith, far) in
        let high : until ≤ back = omega (arith, far) in
        let there : comes once_more i back ≡ true =
        sym (ap (is_in i) (late back (t + count) high is)) ∙ other in
        let low = before_end i back there in
        elim (cases_lt t until) [
          | inl soon ↦
              let rest : ℕ = count - ticks in
              let parts : rest + ticks ≡ count = omega (arith, far, soon) in
              subst (λ c. IsFar (comings twice_more i t c) c) parts
              (from_before t back high low there rest (omega (arith, is, parts)) soon one)
          | inr behind ↦
              let start : ℕ = t - ticks in
              let starts : t ≡ start + ticks = omega (arith, behind, less) in
              from_behind t back high low there start count starts
              (omega (arith, starts, behind, less)) (omega (arith, is, starts)) one
        ]

    pub keeps_twice : KeepsRule twice_more rule
    keeps_twice t count one other = elim (cases_lt (t + count) (until + ticks)) [
      | inl soon ↦ keeps_early t count soon one other
      | inr far ↦ keeps_late t count far one other
    ]

-- ---- the rules

module _ (S : System) (rules : List ArrivalRule) (from until : ℕ) (xs : List Arrival)
    (less : from < until) (before : AllByRecursion (λ (a : Arrival). a.tick < until) xs)
    (keep : KeepRules S rules (again from until xs)) where
  abbrev end : ℕ
  end = until + (until - from)

  abbrev once : List Arrival
  once = again from until xs

  abbrev twice : List Arrival
  twice = again until end once

  once_twice : (i t : ℕ) → times i (arriving twice t) ≤ 1
  once_twice i t = elim (cases_lt t end) [
    | inl soon ↦
        subst (λ (v : List ℕ). times i v ≤ 1) (sym (early from until xs less before t soon))
        (keep.once i t)
    | inr far ↦
        let back : ℕ = t - (until - from) in
        let is : t ≡ back + (until - from) = omega (arith, far, less) in
        let high : until ≤ back = omega (arith, far, less) in
        subst (λ (v : List ℕ). times i v ≤ 1) (sym (late from until xs less before back t high is))
        (keep.once i back)
  ]

  pub keep_twice : ((n : ℕ) → comings xs (rule_at rules n).routine from (until - from)
      * (rule_at rules n).period ≤ until - from) → KeepRules S rules twice
  keep_twice pays = record {
    known =
        all_append (λ (a : Arrival). a.routine < length S.routines) once
        (repeated until (end - until) once) keep.known
        (repeated_known (length S.routines) until (end - until) once keep.known);
    each = λ n.
        keeps_twice from until xs less before (rule_at rules n) (keep.each n) (pays n);
    once = once_twice;
  }
