-- What is owed by a rule is owed since some interrupt.
use Rattle.std.proofs.Common.{ℕ, zero, suc, ◌≡◌, ◌<◌, ◌≤◌, ◌+◌, ◌*◌, ◌⊎◌, inl, inr, Bool, true, false, cond, List, refl, sym, ◌∙◌, ap, subst, arith}
use Rattle.std.proofs.lemmas.Bool.{cases_lt}
use Rattle.osek_base.specs.declared.arrivals.Arrival.{Arrival}
use Rattle.arrival_rules.specs.declared.rule.ArrivalRule.{ArrivalRule}
use Rattle.arrival_rules.specs.Rules.{comes, comings}
use Rattle.arrival_rules.specs.Debts.{debt_after, next_debt}
use Rattle.arrival_rules.specs.Laws.{DebtsAreBelow}

and_none : (n : ℕ) → n + 0 ≡ n
and_none n = omega arith

module _ (rule : ArrivalRule) (arrivals : List Arrival) where
  abbrev debt : ℕ → ℕ
  debt = debt_after rule arrivals

  abbrev many : ℕ → ℕ → ℕ
  many = comings arrivals rule.routine

  -- one that came so many ticks ago, with those behind it, has added so much
  pub record IsOwedSince (n : ℕ) : Type 0 where
    pub t : ℕ
    pub count : ℕ
    pub is : t + count ≡ n
    pub there : comes arrivals rule.routine t ≡ true
    pub owed : debt n + count ≤ many t count * rule.period

  -- ---- a tick more

  more_owed : (b : Bool) (d c k : ℕ) → d + k ≤ c * rule.period → 0 < next_debt rule b d
      → next_debt rule b d + suc k ≤ (c + cond b 1 0) * rule.period
  more_owed true d c k owed some =
      let more : (c + 1) * rule.period ≡ c * rule.period + rule.period = grind arith in
      omega (arith, owed, some, more)
  more_owed false d c k owed some =
      let same : (c + 0) * rule.period ≡ c * rule.period = grind arith in
      omega (arith, owed, some, same)

  goes_on : (n : ℕ) → IsOwedSince n → 0 < debt (suc n) → IsOwedSince (suc n)
  goes_on n since some = record {
    t = since.t;
    count = suc since.count;
    is = (let is = since.is in omega (arith, is));
    there = since.there;
    owed =
        subst
        (λ u. debt (suc n) + suc since.count
        ≤ (many since.t since.count + cond (comes arrivals rule.routine u) 1 0) * rule.period)
        (sym since.is)
        (more_owed (comes arrivals rule.routine n) (debt n) (many since.t since.count) since.count
        since.owed some);
  }

  begins : (n : ℕ) → debt n ≡ 0 → 0 < debt (suc n) → IsOwedSince (suc n)
  begins n none some = go (comes arrivals rule.routine n) refl
    where
      go : (b : Bool) → comes arrivals rule.routine n ≡ b → IsOwedSince (suc n)
      go true here =
          let owed : debt n + 0 ≤ 0 * rule.period = omega (arith, none) in
          record {
            t = n;
            count = 1;
            is = omega arith;
            there = here;
            owed =
                subst
                (λ u. debt (suc n) + 1 ≤ (0 + cond (comes arrivals rule.routine u) 1 0) * rule.period)
                (sym (and_none n))
                (more_owed (comes arrivals rule.routine n) (debt n) 0 0 owed some);
          }
      go false away =
          let less : next_debt rule false (debt n) ≡ 0 = omega (arith, none) in
          let is = ap (λ b. next_debt rule b (debt n)) away ∙ less in
          absurd (omega (arith, some, is))

  pub since : (n : ℕ) → (debt n ≡ 0) ⊎ IsOwedSince n
  since zero = inl refl
  since (suc n) = elim (cases_lt 0 (debt (suc n))) [
    | inl some ↦ inr (go some (since n))
    | inr none ↦ inl (omega (arith, none))
  ]
    where
      go : 0 < debt (suc n) → (debt n ≡ 0) ⊎ IsOwedSince n → IsOwedSince (suc n)
      go some (inl none) = begins n none some
      go some (inr before) = goes_on n before some

pub debts_are_below : DebtsAreBelow
debts_are_below rule arrivals n keeps come = go (since rule arrivals n)
  where
    go : (debt_after rule arrivals n ≡ 0) ⊎ IsOwedSince rule arrivals n
        → debt_after rule arrivals n < rule.slack
    go (inl none) =
        let alone =
        keeps n 0 come (subst (λ u. comes arrivals rule.routine u ≡ true) (sym (and_none n)) come) in
        omega (arith, none, alone)
    go (inr before) =
        let far =
        keeps before.t before.count before.there
        (subst (λ u. comes arrivals rule.routine u ≡ true) (sym before.is) come) in
        let owed = before.owed in
        omega (arith, far, owed)
