-- Labels up to a cap: a step of capped labels is a capped step, and what they show below the cap is
-- what is shown without it.
use Rattle.std.proofs.Common.{ℕ, suc, ◌≡◌, ◌<◌, ◌≤◌, ◌+◌, ◌-◌, Bool, true, false, cond, min, List, [], ◌∷◌, ◌++◌, map, replicate, length, Option, Some, None, option_map, refl, sym, ◌∙◌, ap, ap₂, subst, arith}
use Rattle.std.specs.Prelude.{is_some, ◌||◌}
use Rattle.std.proofs.lemmas.List.{length-map}
use Rattle.view_figures.specs.declared.task_tick.TaskTick.{TaskTick}
use Rattle.view_figures.specs.declared.routine_figures.RoutineTick.{RoutineTick}
use Rattle.view_figures.specs.declared.resource_figures.HolderTick.{HolderTick}
use Rattle.view_figures.specs.ResourceSums.{is_same}
use Rattle.view_figures.specs.ResponseSums.{later}
use Rattle.view_figures.specs.StateSums.{leaves}
use Rattle.law_figures.specs.Labels.{IsAtMost}
use Rattle.law_figures.specs.Ages.{AreOlder, ages_in, ages_next, followed, oldest_age}
use Rattle.law_figures.specs.Blocking.{blocked_in, blocked_next, is_blocked_in}
use Rattle.law_figures.specs.Pending.{IsOlder, pending_in, pending_next}
use Rattle.law_figures.specs.Holding.{Hold, IsLonger, held_in, held_ticks, hold_next}
use Rattle.law_figures.specs.Times.{waited}
use Rattle.law_figures.proofs.AgeOrder.{ages_keep_order}
use Rattle.law_figures.proofs.Pending.{pending_keeps_order}
use Rattle.law_figures.proofs.Holding.{holding_keeps_order}
use Rattle.search_labels.specs.Labels.{capped_hold}

abbrev waited_where : Bool → Option ℕ → Option ℕ
waited_where b age = cond b (option_map (λ n. n - 1) age) age

module _ (cap : ℕ) where
  abbrev pub capped_ages : List ℕ → List ℕ
  capped_ages old = map (min cap) old

  abbrev pub capped_age : Option ℕ → Option ℕ
  capped_age age = option_map (min cap) age

  -- ---- a step of capped labels

  later_twice : (n : ℕ) → min cap (suc (min cap n)) ≡ min cap (suc n)
  later_twice n = omega arith

  grown_twice : (n : ℕ) (old new : List ℕ)
      → capped_ages (map suc (capped_ages old) ++ new) ≡ capped_ages (map suc old ++ new)
  grown_twice n [] new = refl
  grown_twice n (a ∷ old) new =
      ap₂ (λ (x : ℕ) (xs : List ℕ). x ∷ xs) (later_twice a) (grown_twice n old new)

  in_twice : (t : TaskTick) (old : List ℕ)
      → capped_ages (ages_in t (capped_ages old)) ≡ capped_ages (ages_in t old)
  in_twice t old =
      ap (λ k. capped_ages (map suc (capped_ages old) ++ replicate (followed t - k) 1))
      (length-map old (min cap))
      ∙ grown_twice 0 old (replicate (followed t - length old) 1)

  capped_later : (old : List ℕ) → capped_ages (later old) ≡ later (capped_ages old)
  capped_later [] = refl
  capped_later (n ∷ old) = refl

  ages_twice : (t : TaskTick) (old : List ℕ)
      → capped_ages (ages_next t (capped_ages old)) ≡ capped_ages (ages_next t old)
  ages_twice t old = go (leaves t)
    where
      go : (b : Bool)
          → capped_ages (cond b (later (ages_in t (capped_ages old))) (ages_in t (capped_ages old)))
          ≡ capped_ages (cond b (later (ages_in t old)) (ages_in t old))
      go true =
          capped_later (ages_in t (capped_ages old)) ∙ ap later (in_twice t old)
          ∙ sym (capped_later (ages_in t old))
      go false = in_twice t old

  pending_twice : (r : RoutineTick) (age : Option ℕ)
      → capped_age (pending_next r (capped_age age)) ≡ capped_age (pending_next r age)
  pending_twice r None = refl
  pending_twice r (Some n) = go r.seen.is_started
    where
      go : (b : Bool) → capped_age (cond b None (Some (suc (min cap n))))
          ≡ capped_age (cond b None (Some (suc n)))
      go true = refl
      go false = ap Some (later_twice n)

  held_twice : (holder : Option ℕ) (hold : Hold)
      → min cap (held_in holder (capped_hold cap hold)) ≡ min cap (held_in holder hold)
  held_twice None hold = refl
  held_twice (Some t) hold = go (is_same (Some t) hold.holder)
    where
      go : (b : Bool) → min cap (suc (cond b (min cap hold.held) 0))
          ≡ min cap (suc (cond b hold.held 0))
      go true = later_twice hold.held
      go false = refl

  holds_twice : (h : HolderTick) (hold : Hold)
      → capped_hold cap (hold_next h (capped_hold cap hold)) ≡ capped_hold cap (hold_next h hold)
  holds_twice h hold =
      ap (λ n. record { holder = h.holder; held = n }) (held_twice h.holder hold)

  -- ---- capping keeps the orders

  older_capped : (xs ys : List ℕ) → AreOlder xs ys → AreOlder (capped_ages xs) (capped_ages ys)
  older_capped xs [] older = tt
  older_capped [] (y ∷ ys) older = absurd older
  older_capped (x ∷ xs) (y ∷ ys) older =
      (let here = older.0 in omega (arith, here), older_capped xs ys older.1)

  age_capped : (x y : Option ℕ) → IsOlder x y → IsOlder (capped_age x) (capped_age y)
  age_capped x None older = tt
  age_capped None (Some n) older = absurd older
  age_capped (Some m) (Some n) older = omega (arith, older)

  by_capped : (b : Bool) (n : ℕ) → cond b (min cap n) 0 ≡ min cap (cond b n 0)
  by_capped true n = refl
  by_capped false n = omega arith

  longer_capped : (x y : Hold) → IsLonger x y → IsLonger (capped_hold cap x) (capped_hold cap y)
  longer_capped x y longer t =
      let one = by_capped (is_same (Some t) x.holder) x.held in
      let other = by_capped (is_same (Some t) y.holder) y.held in
      let less = longer t in
      omega (arith, one, other, less)

  -- ---- so a step keeps a label at least what a run's is up to the cap

  pub ages_step : (t : TaskTick) (l old : List ℕ) → AreOlder l (capped_ages old)
      → AreOlder (capped_ages (ages_next t l)) (capped_ages (ages_next t old))
  ages_step t l old older =
      subst (AreOlder (capped_ages (ages_next t l))) (ages_twice t old)
      (older_capped (ages_next t l) (ages_next t (capped_ages old))
      (ages_keep_order.order.next t l (capped_ages old) older))

  pub pending_step : (r : RoutineTick) (l age : Option ℕ) → IsOlder l (capped_age age)
      → IsOlder (capped_age (pending_next r l)) (capped_age (pending_next r age))
  pending_step r l age older =
      subst (IsOlder (capped_age (pending_next r l))) (pending_twice r age)
      (age_capped (pending_next r l) (pending_next r (capped_age age))
      (pending_keeps_order.order.next r l (capped_age age) older))

  pub holds_step : (h : HolderTick) (l hold : Hold) → IsLonger l (capped_hold cap hold)
      → IsLonger (capped_hold cap (hold_next h l)) (capped_hold cap (hold_next h hold))
  holds_step h l hold longer =
      subst (IsLonger (capped_hold cap (hold_next h l))) (holds_twice h hold)
      (longer_capped (hold_next h l) (hold_next h (capped_hold cap hold))
      (holding_keeps_order.order.next h l (capped_hold cap hold) longer))

  more_blocked : (here l n : ℕ) → min cap n ≤ l → min cap (n + here) ≤ min cap (l + here)
  more_blocked here l n more = omega (arith, more)

  pub blocked_step : (t : TaskTick) (l n : ℕ) → min cap n ≤ l
      → min cap (blocked_next t n) ≤ min cap (blocked_next t l)
  blocked_step t l n more = go (leaves t)
    where
      go : (b : Bool) → min cap (cond b 0 (blocked_in t n)) ≤ min cap (cond b 0 (blocked_in t l))
      go true = omega arith
      go false = more_blocked (cond (is_blocked_in t) 1 0) l n more

  -- ---- what is shown below the cap

  module _ (m : ℕ) (below_cap : m < cap) where
    uncapped : (shown : Option ℕ) → IsAtMost m (capped_age shown) → IsAtMost m shown
    uncapped None low = tt
    uncapped (Some n) low = omega (arith, low, below_cap)

    oldest_uncapped : (t : TaskTick) (old : List ℕ) → IsAtMost m (oldest_age t (capped_ages old))
        → IsAtMost m (oldest_age t old)
    oldest_uncapped t [] low = low
    oldest_uncapped t (n ∷ old) low = omega (arith, low, below_cap)

    pub oldest_within : (t : TaskTick) (l old : List ℕ) → AreOlder l (capped_ages old)
        → IsAtMost m (capped_age (oldest_age t l)) → IsAtMost m (oldest_age t old)
    oldest_within t l old older low =
        oldest_uncapped t old
        (ages_keep_order.oldest t l (capped_ages old) m older (uncapped (oldest_age t l) low))

    -- ---- of interrupts

    no_less : (x y : Option ℕ) → IsOlder x y → IsAtMost m x → IsAtMost m y
    no_less x None older low = tt
    no_less None (Some n) older low = absurd older
    no_less (Some k) (Some n) older low = omega (arith, older, low)

    one_less : (x y : Option ℕ) → IsOlder x y → IsAtMost m (option_map (λ n. n - 1) x)
        → IsAtMost m (option_map (λ n. n - 1) y)
    one_less x None older low = tt
    one_less None (Some n) older low = absurd older
    one_less (Some k) (Some n) older low = omega (arith, older, low)

    older_in : (r : RoutineTick) (x y : Option ℕ) → IsOlder x y
        → IsOlder (pending_in r x) (pending_in r y)
    older_in r None None older = pending_keeps_order.order.itself (pending_in r None)
    older_in r (Some n) None older = go (r.seen.is_pending || r.seen.is_started)
      where
        go : (b : Bool) → IsOlder (Some (suc n)) (cond b (Some 1) None)
        go true = omega arith
        go false = tt
    older_in r None (Some n) older = absurd older
    older_in r (Some k) (Some n) older = omega (arith, older)

    waited_shown : (r : RoutineTick) (x y : Option ℕ) → IsOlder x y → IsAtMost m (waited r x)
        → IsAtMost m (waited r y)
    waited_shown r x y older = go r.seen.is_started
      where
        go : (b : Bool) → IsAtMost m (waited_where b (pending_in r x))
            → IsAtMost m (waited_where b (pending_in r y))
        go true low = one_less (pending_in r x) (pending_in r y) (older_in r x y older) low
        go false low = no_less (pending_in r x) (pending_in r y) (older_in r x y older) low

    waited_uncapped : (r : RoutineTick) (age : Option ℕ) → IsAtMost m (waited r (capped_age age))
        → IsAtMost m (waited r age)
    waited_uncapped r None low = low
    waited_uncapped r (Some n) low = go r.seen.is_started low
      where
        go : (b : Bool) → IsAtMost m (waited_where b (Some (suc (min cap n))))
            → IsAtMost m (waited_where b (Some (suc n)))
        go true less = omega (arith, less, below_cap)
        go false less = omega (arith, less, below_cap)

    pub waited_within : (r : RoutineTick) (l age : Option ℕ) → IsOlder l (capped_age age)
        → IsAtMost m (capped_age (waited r l)) → IsAtMost m (waited r age)
    waited_within r l age older low =
        waited_uncapped r age
        (waited_shown r l (capped_age age) older (uncapped (waited r l) low))

    -- ---- of holds

    held_uncapped : (h : HolderTick) (hold : Hold)
        → IsAtMost m (held_ticks h (capped_hold cap hold)) → IsAtMost m (held_ticks h hold)
    held_uncapped h hold = go h.holder
      where
        shown : (b : Bool) → suc (cond b (min cap hold.held) 0) ≤ m → suc (cond b hold.held 0) ≤ m
        shown true low = omega (arith, low, below_cap)
        shown false low = low

        go : (holder : Option ℕ)
            → IsAtMost m (cond (is_some holder) (Some (held_in holder (capped_hold cap hold))) None)
            → IsAtMost m (cond (is_some holder) (Some (held_in holder hold)) None)
        go None low = tt
        go (Some t) low = shown (is_same (Some t) hold.holder) low

    pub held_within : (h : HolderTick) (l hold : Hold) → IsLonger l (capped_hold cap hold)
        → IsAtMost m (capped_age (held_ticks h l)) → IsAtMost m (held_ticks h hold)
    held_within h l hold longer low =
        held_uncapped h hold
        (holding_keeps_order.held h l (capped_hold cap hold) m longer
        (uncapped (held_ticks h l) low))

    -- ---- of blocked tasks

    few_blocked : (here l n : ℕ) → min cap n ≤ l → min cap (l + here) ≤ m → n + here ≤ m
    few_blocked here l n more low = omega (arith, more, low, below_cap)

    pub blocked_within : (t : TaskTick) (l n : ℕ) → min cap n ≤ l → min cap (blocked_in t l) ≤ m
        → blocked_in t n ≤ m
    blocked_within t l n more low = few_blocked (cond (is_blocked_in t) 1 0) l n more low
