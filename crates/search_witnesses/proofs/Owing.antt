-- Arrivals in order keep a rule where each comes with a debt below the slack.
use Rattle.std.proofs.Common.{ℕ, ◌≡◌, ◌<◌, ◌≤◌, ◌+◌, ◌-◌, ◌*◌, inl, inr, Bool, true, false, cond, List, [], ◌∷◌, refl, sym, ◌∙◌, ap, subst, arith, true≢false}
use Rattle.std.specs.Prelude.{◌==◌, ◌&&◌, ◌⊎◌, nat_lt}
use Rattle.std.proofs.lemmas.Bool.{eqb-true, ltb-true, ltb-false, ne_eqb}
use Rattle.std.proofs.lemmas.Nat.{mul-le}
use Rattle.osek_base.specs.declared.arrivals.Arrival.{Arrival}
use Rattle.osek_base.specs.ArrivalList.{are_in_order}
use Rattle.osek_base.proofs.PlaceLemmas.{and_split}
use Rattle.arrival_rules.specs.declared.rule.ArrivalRule.{ArrivalRule}
use Rattle.arrival_rules.specs.Rules.{KeepsRule, comes, comings}
use Rattle.kernel.proofs.ArrivalLemmas.{IsInOrder, order_split}
use Rattle.search_witnesses.specs.Listing.{debt_left, keeps_from}
use Rattle.search_witnesses.proofs.Comings.{next, none_come, one_more, other_routine, other_tick, parted, same_for_others, same_outside}
use Rattle.search_witnesses.proofs.Ordered.{lower}

-- ---- arrivals in order

-- none comes before the first
none_before : (least : ℕ) (xs : List Arrival) → are_in_order least xs ≡ true → (i t : ℕ) → t < least
    → comes xs i t ≡ false
none_before least [] ordered i t early = refl
none_before least (a ∷ rest) ordered i t early =
    let o : IsInOrder least a rest = order_split least a rest ordered in
    let first = o.first in
    let soon : t < a.tick = omega (arith, first, early) in
    other_tick a rest i t (ne_eqb a.tick t (λ same. absurd (omega (arith, soon, same))))
    ∙ none_before a.tick rest o.others i t soon

-- nor before the one that is the first
none_sooner : (least : ℕ) (a : Arrival) (rest : List Arrival) → are_in_order least (a ∷ rest) ≡ true
    → (i t : ℕ) → t < a.tick → comes (a ∷ rest) i t ≡ false
none_sooner least a rest ordered i t soon =
    other_tick a rest i t (ne_eqb a.tick t (λ same. absurd (omega (arith, soon, same))))
    ∙ none_before a.tick rest (order_split least a rest ordered).others i t soon

not_before : (least : ℕ) (xs : List Arrival) → are_in_order least xs ≡ true → (i t : ℕ)
    → comes xs i t ≡ true → least ≤ t
not_before least xs ordered i t is = go (nat_lt t least) refl
  where
    go : (b : Bool) → nat_lt t least ≡ b → least ≤ t
    go true early =
        absurd (true≢false (sym is ∙ none_before least xs ordered i t (ltb-true t least early)))
    go false late = ltb-false t least late

-- up to the tick of the first or a later one: it, and those behind it
from_first : (least : ℕ) (a : Arrival) (rest : List Arrival) (i ahead count : ℕ)
    → are_in_order least (a ∷ rest) ≡ true → least + ahead ≡ a.tick
    → comings (a ∷ rest) i least (ahead + count) ≤ comings rest i a.tick count + 1
from_first least a rest i ahead count ordered is =
    let before : comings (a ∷ rest) i least ahead ≡ 0 =
    none_come (a ∷ rest) i least ahead (λ t low high.
    none_sooner least a rest ordered i t (omega (arith, is, high))) in
    let both = parted (a ∷ rest) i least ahead count in
    let here : comings (a ∷ rest) i (least + ahead) count ≡ comings (a ∷ rest) i a.tick count =
    ap (λ t. comings (a ∷ rest) i t count) is in
    let most = one_more a rest i a.tick count in
    omega (arith, before, both, here, most)

-- ---- sums

-- what is owed before the first is less than the slack behind it
owed_before : (debt ahead count period slack all : ℕ) → ahead ≡ count → debt - ahead < slack
    → all ≡ 0 → debt + all * period < count + slack
owed_before debt ahead count period slack all is below none =
    let nothing : all * period ≡ 0 = ap (λ n. n * period) none ∙ omega arith in
    omega (arith, is, below, nothing)

-- the first adds a period to what is owed before the others
owed_behind : (debt ahead more count period slack all rests : ℕ) → ahead + more ≡ count
    → all ≤ rests + 1 → debt - ahead + period + rests * period < more + slack
    → debt + all * period < count + slack
owed_behind debt ahead more count period slack all rests is most below =
    let high = mul-le all period (rests + 1) period most (omega arith) in
    let sum : (rests + 1) * period ≡ rests * period + period = grind arith in
    omega (arith, is, below, high, sum)

module _ (rule : ArrivalRule) where
  -- what is known of a list whose first is of the routine
  record IsBelow (debt since : ℕ) (a : Arrival) (rest : List Arrival) : Type 0 where
    pub less : debt_left debt since a.tick < rule.slack
    pub others : keeps_from rule (debt_left debt since a.tick + rule.period) a.tick rest ≡ true

  first_below : (debt since : ℕ) (a : Arrival) (rest : List Arrival)
      → (a.routine == rule.routine) ≡ true → keeps_from rule debt since (a ∷ rest) ≡ true
      → IsBelow debt since a rest
  first_below debt since a rest same keeps =
      let both = and_split _ _
      (sym (ap (λ b. cond b (nat_lt (debt_left debt since a.tick) rule.slack
      && keeps_from rule (debt_left debt since a.tick + rule.period) a.tick rest)
      (keeps_from rule debt since rest)) same) ∙ keeps) in
      record {
        less = ltb-true (debt_left debt since a.tick) rule.slack both.0;
        others = both.1;
      }

  others_keep : (debt since : ℕ) (a : Arrival) (rest : List Arrival)
      → (a.routine == rule.routine) ≡ false → keeps_from rule debt since (a ∷ rest) ≡ true
      → keeps_from rule debt since rest ≡ true
  others_keep debt since a rest other keeps =
      sym (ap (λ b. cond b (nat_lt (debt_left debt since a.tick) rule.slack
      && keeps_from rule (debt_left debt since a.tick + rule.period) a.tick rest)
      (keeps_from rule debt since rest)) other) ∙ keeps

  -- what was owed at a tick and what came from there on is paid, but for the slack, where one comes
  abbrev IsPaid : List Arrival → ℕ → ℕ → ℕ → Type 0
  IsPaid xs debt since count =
      debt + comings xs rule.routine since count * rule.period < count + rule.slack

  paid_behind : (a : Arrival) (rest : List Arrival) (debt since count : ℕ)
      → are_in_order since (a ∷ rest) ≡ true → a.tick ≤ since + count
      → IsPaid rest (debt_left debt since a.tick + rule.period) a.tick (since + count - a.tick)
      → IsPaid (a ∷ rest) debt since count
  paid_behind a rest debt since count ordered late rests =
      let first = (order_split since a rest ordered).first in
      let ahead = a.tick - since in
      let more = since + count - a.tick in
      let is : since + ahead ≡ a.tick = omega (arith, first) in
      let all : ahead + more ≡ count = omega (arith, first, late) in
      let most = from_first since a rest rule.routine ahead more ordered is in
      let same = ap (comings (a ∷ rest) rule.routine since) all in
      owed_behind debt ahead more count rule.period rule.slack
      (comings (a ∷ rest) rule.routine since count)
      (comings rest rule.routine a.tick more) all (omega (arith, most, same)) rests

  abbrev ArePaid : List Arrival → Type 0
  ArePaid xs =
      (debt since count : ℕ) → keeps_from rule debt since xs ≡ true
      → are_in_order since xs ≡ true → comes xs rule.routine (since + count) ≡ true
      → IsPaid xs debt since count

  paid : (xs : List Arrival) → ArePaid xs
  paid [] debt since count keeps ordered come = absurd (true≢false (sym come))
  paid (a ∷ rest) debt since count keeps ordered come =
      go (paid rest) (a.routine == rule.routine) refl
    where
      o : IsInOrder since a rest
      o = order_split since a rest ordered

      here : IsBelow debt since a rest → a.tick ≡ since + count → IsPaid (a ∷ rest) debt since count
      here below now =
          owed_before debt (a.tick - since) count rule.period rule.slack
          (comings (a ∷ rest) rule.routine since count) (omega (arith, now)) below.less
          (none_come (a ∷ rest) rule.routine since count (λ t low high.
          none_sooner since a rest ordered rule.routine t (omega (arith, now, high))))

      there : ArePaid rest → IsBelow debt since a rest
          → comes rest rule.routine (since + count) ≡ true → IsPaid (a ∷ rest) debt since count
      there rests below come =
          let late = not_before a.tick rest o.others rule.routine (since + count) come in
          let more = since + count - a.tick in
          let up : since + count ≡ a.tick + more = omega (arith, late) in
          paid_behind a rest debt since count ordered late
          (rests (debt_left debt since a.tick + rule.period) a.tick more below.others
          o.others (subst (λ t. comes rest rule.routine t ≡ true) up come))

      of_it : ArePaid rest → IsBelow debt since a rest
          → ((a.tick ≡ since + count) × (a.routine ≡ rule.routine))
          ⊎ (comes rest rule.routine (since + count) ≡ true)
          → IsPaid (a ∷ rest) debt since count
      of_it rests below (inl now) = here below now.0
      of_it rests below (inr later) = there rests below later

      go : ArePaid rest → (b : Bool) → (a.routine == rule.routine) ≡ b
          → IsPaid (a ∷ rest) debt since count
      go rests true same =
          of_it rests (first_below debt since a rest same keeps)
          (next a rest rule.routine (since + count) come)
      go rests false other =
          let alone = rests debt since count (others_keep debt since a rest other keeps)
          (lower since a.tick rest o.first o.others)
          (sym (other_routine a rest rule.routine other (since + count)) ∙ come) in
          let number = ap (λ n. n * rule.period)
          (same_for_others a rest rule.routine since count other) in
          omega (arith, alone, number)

  -- ---- from any tick on

  abbrev AreKept : List Arrival → Type 0
  AreKept xs =
      (debt since : ℕ) → keeps_from rule debt since xs ≡ true → are_in_order since xs ≡ true
      → KeepsRule xs rule

  pub kept : (xs : List Arrival) → AreKept xs
  kept [] debt since keeps ordered t count one other = absurd (true≢false (sym one))
  kept (a ∷ rest) debt since keeps ordered t count one other =
      go (kept rest) (a.routine == rule.routine) refl (a.tick == t) refl
    where
      o : IsInOrder since a rest
      o = order_split since a rest ordered

      at_first : IsBelow debt since a rest → a.tick ≡ t
          → ((a.tick ≡ t + count) × (a.routine ≡ rule.routine))
          ⊎ (comes rest rule.routine (t + count) ≡ true)
          → comings (a ∷ rest) rule.routine t count * rule.period < count + rule.slack
      at_first below now (inl same) =
          let none : count ≡ 0 = (let again = same.0 in omega (arith, now, again)) in
          let less = below.less in
          let sum = owed_before 0 0 count rule.period rule.slack
          (comings (a ∷ rest) rule.routine t count) (sym none) (omega (arith, less))
          (ap (comings (a ∷ rest) rule.routine t) none) in
          omega (arith, sum)
      at_first below now (inr later) =
          let rests = paid rest (debt_left debt since a.tick + rule.period) a.tick count
          below.others o.others
          (subst (λ n. comes rest rule.routine (n + count) ≡ true) (sym now) later) in
          let most = one_more a rest rule.routine t count in
          let same : comings rest rule.routine t count ≡ comings rest rule.routine a.tick count =
          ap (λ n. comings rest rule.routine n count) (sym now) in
          let sum = owed_behind 0 0 count count rule.period rule.slack
          (comings (a ∷ rest) rule.routine t count) (comings rest rule.routine a.tick count)
          (omega arith) (omega (arith, most, same)) (omega (arith, rests)) in
          omega (arith, sum)

      behind : AreKept rest → IsBelow debt since a rest → (a.tick == t) ≡ false
          → comings (a ∷ rest) rule.routine t count * rule.period < count + rule.slack
      behind rests below another =
          let come = sym (other_tick a rest rule.routine t another) ∙ one in
          let low = not_before a.tick rest o.others rule.routine t come in
          let late : a.tick < t = grind (arith, low, another) in
          let last = sym (other_tick a rest rule.routine (t + count)
          (ne_eqb a.tick (t + count) (λ same. absurd (omega (arith, late, same))))) ∙ other in
          let alone = rests (debt_left debt since a.tick + rule.period) a.tick below.others
          o.others t count come last in
          let number = ap (λ n. n * rule.period)
          (same_outside a rest rule.routine t count (inl late)) in
          omega (arith, alone, number)

      go : AreKept rest → (b : Bool) → (a.routine == rule.routine) ≡ b
          → (c : Bool) → (a.tick == t) ≡ c
          → comings (a ∷ rest) rule.routine t count * rule.period < count + rule.slack
      go rests true same true now =
          at_first (first_below debt since a rest same keeps) (eqb-true a.tick t now)
          (next a rest rule.routine (t + count) other)
      go rests true same false another =
          behind rests (first_below debt since a rest same keeps) another
      go rests false alien c is_c =
          let alone = rests debt since (others_keep debt since a rest alien keeps)
          (lower since a.tick rest o.first o.others) t count
          (sym (other_routine a rest rule.routine alien t) ∙ one)
          (sym (other_routine a rest rule.routine alien (t + count)) ∙ other) in
          let number = ap (λ n. n * rule.period)
          (same_for_others a rest rule.routine t count alien) in
          omega (arith, alone, number)
