-- A dispatch adds nothing.
use Rattle.std.proofs.Common.{ℕ, ◌≡◌, ◌<◌, ◌≤◌, inl, inr, max, Bool, true, false, cond, not, ◌&&◌, nat_le, List, [], ◌∷◌, map, refl, sym, ◌∙◌, ap, subst, arith}
use Rattle.std.specs.Prelude.{Option, Some, None, is_some, unwrap_or, slice_index}
use Rattle.std.specs.List.{AllByRecursion, sum_by}
use Rattle.std.proofs.lemmas.Bool.{and_parts, cases_lt, le-leb, leb-true, not-true}
use Rattle.osek_base.specs.Ceiling.{ceiling, internal_ceiling}
use Rattle.osek_base.specs.Choice.{choice}
use Rattle.osek_base.specs.Lists.{greatest}
use Rattle.osek_base.specs.Priority.{dynamic_priority, static_priority}
use Rattle.osek_base.specs.Reschedule.{entered, jobs_entered, reschedule, switched, with_dispatch_of}
use Rattle.osek_base.specs.State.{Job, State, may_dispatch, same_id, waits}
use Rattle.osek_base.specs.System.{System}
use Rattle.law_runs.proofs.Foremost.{AreApart, foremost_greatest, only, same_ids, same_self}
use Rattle.law_runs.proofs.Lists.{EitherWay, Pairs, all_both, all_weaker, either_way, found, pairs_weaker}
use Rattle.law_runs.proofs.Single.{IsSingle, IsSoundPair}
use Rattle.law_runs.proofs.SingleMoves.{is_best, is_ready}
use Rattle.law_costs.specs.Left.{Weights, counts, left, left_of_job, left_of_jobs, on}
use Rattle.law_costs.specs.Paying.{PayForDispatch}
use Rattle.law_costs.proofs.Switches.{all_on, dispatching}
use Rattle.law_costs.proofs.Totals.{found_counts, found_mapped, none_any, sum_alone, sum_mapped, total_begun, total_mapped}

-- a job that is dispatched isn't lower than it was
pub entered_higher : (S : System) (j : Job)
    → dynamic_priority S j ≤ dynamic_priority S (entered S j)
entered_higher S j = go j.taken (internal_ceiling S j.id.task)
  where
    go : (b : Bool) (o : Option ℕ)
        → max (static_priority S j)
        (max (greatest (map (ceiling S) j.held)) (cond b (unwrap_or o 0) 0))
        ≤ max (static_priority S j)
        (max (greatest (map (ceiling S) j.held)) (cond (is_some o) (unwrap_or o 0) 0))
    go true None = omega arith
    go true (Some n) = omega arith
    go false None = omega arith
    go false (Some n) = omega arith

module _ (S : System) (p : ℕ) (c : Weights) where
  -- a job counts with interrupts on
  abbrev pub is_high : Job → Bool
  is_high j = counts S p on j

  pub high : (j : Job) → waits j ≡ false → p ≤ dynamic_priority S j → is_high j ≡ true
  high j ready up =
      ap (λ b. not b && nat_le p (dynamic_priority S j)) ready
      ∙ le-leb p (dynamic_priority S j) up

  pub high_parts : (j : Job) → is_high j ≡ true
      → (waits j ≡ false) × (p ≤ dynamic_priority S j)
  high_parts j is =
      let both = and_parts (not (waits j)) (nat_le p (dynamic_priority S j)) is in
      (not-true (waits j) both.0, leb-true p (dynamic_priority S j) both.1)

  pub not_high : (j : Job) → (waits j ≡ false → dynamic_priority S j < p) → is_high j ≡ false
  not_high j low = go (is_high j) refl
    where
      go : (b : Bool) → is_high j ≡ b → b ≡ false
      go false is = refl
      go true is =
          let parts = high_parts j is in
          let up = parts.1 in
          let down = low parts.0 in
          absurd (omega (arith, up, down))

  module _ (pays : PayForDispatch S p c) (masks : List ℕ) (jobs : List Job)
      (apart : Pairs AreApart jobs) (k : Job) (chosen : choice S jobs ≡ Some k) where
    abbrev left_on : List Job → ℕ
    left_on ks = left_of_jobs S p c masks (λ j. on) ks

    -- what a job costs by its events
    abbrev cost_on : Job → ℕ
    cost_on j = c.of_job (slice_index masks j.id.task) on j

    abbrev enters : Job → Job
    enters j = cond (same_id j.id k.id) (entered S j) j

    itself : AllByRecursion (λ j. same_id j.id k.id ≡ true → j ≡ k) jobs
    itself =
        only k jobs
        (found (λ j. AllByRecursion (EitherWay AreApart j) jobs) (is_best S jobs) jobs k
        (either_way AreApart jobs apart) chosen).0

    top : (waits k ≡ false)
        × AllByRecursion
        (λ j. waits j ≡ false → dynamic_priority S j ≤ dynamic_priority S k) jobs
    top =
        let best = (found (λ j. Unit {0}) (is_best S jobs) jobs k (any jobs) chosen).1 in
        let greatest = foremost_greatest (is_ready S) (dynamic_priority S) jobs k best in (
          not-true (waits k) greatest.0,
          all_weaker (λ j. not (waits j) ≡ true → dynamic_priority S j ≤ dynamic_priority S k)
              (λ j. waits j ≡ false → dynamic_priority S j ≤ dynamic_priority S k) jobs
              (λ j h ready. h (ap not ready)) greatest.1,
        )
      where
        any : (xs : List Job) → AllByRecursion (λ j. Unit {0}) xs
        any [] = tt
        any (j ∷ xs) = (tt, any xs)

    abbrev left_entering : Job → ℕ
    left_entering j = left_of_job S p c masks (λ l. on) j

    entered_high : p ≤ dynamic_priority S (entered S k) → is_high (entered S k) ≡ true
    entered_high up = high (entered S k) top.0 up

    -- one that counts goes on
    goes_on : p ≤ dynamic_priority S k → left_on (map enters jobs) ≤ left_on jobs
    goes_on up =
        total_mapped is_high cost_on c.of_section enters jobs
        (found_counts is_high (is_best S jobs) jobs k chosen (high k top.0 up))
        (found_mapped is_high (is_best S jobs) enters jobs k chosen
        (ap (λ b. is_high (cond b (entered S k) k)) (same_self k.id) ∙ entered_high higher))
        (all_weaker (λ j. same_id j.id k.id ≡ true → j ≡ k)
        (λ j. left_entering (enters j) ≤ left_entering j) jobs
        (λ j same. less j (same_id j.id k.id) refl same) itself)
      where
        higher : p ≤ dynamic_priority S (entered S k)
        higher = let more = entered_higher S k in omega (arith, more, up)

        itself_less : left_entering (entered S k) ≤ left_entering k
        itself_less =
            let one : left_entering (entered S k) ≡ cost_on (entered S k) =
            ap (λ b. cond b (cost_on (entered S k)) 0) (entered_high higher) in
            let other : left_entering k ≡ cost_on k =
            ap (λ b. cond b (cost_on k) 0) (high k top.0 up) in
            let pay = pays.entering (slice_index masks k.id.task) k top.0 up in
            omega (arith, one, other, pay)

        less : (j : Job) (b : Bool) → same_id j.id k.id ≡ b
            → (same_id j.id k.id ≡ true → j ≡ k)
            → left_entering (cond b (entered S j) j) ≤ left_entering j
        less j false is same = omega arith
        less j true is same =
            subst (λ z. left_entering (entered S z) ≤ left_entering z) (sym (same is)) itself_less

    -- where none counts, a section may begin
    begins : dynamic_priority S k < p → left_on (map enters jobs) ≤ left_on jobs
    begins low =
        total_begun is_high cost_on c.of_section jobs (map enters jobs)
        (none_any is_high jobs none) few
      where
        none : AllByRecursion (λ j. is_high j ≡ false) jobs
        none =
            all_weaker (λ j. waits j ≡ false → dynamic_priority S j ≤ dynamic_priority S k)
            (λ j. is_high j ≡ false) jobs
            (λ j h. not_high j (λ ready. let under = h ready in omega (arith, under, low))) top.1

        section : (b : Bool) → is_high (entered S k) ≡ b
            → cond b (cost_on (entered S k)) 0 ≤ c.of_section
        section true is =
            pays.beginning (slice_index masks k.id.task) k top.0 low
            (high_parts (entered S k) is).1
        section false is = omega arith

        each : (j : Job) → (same_id j.id k.id ≡ true → j ≡ k) → is_high j ≡ false
            → (same_id j.id k.id ≡ true → left_entering (enters j) ≤ c.of_section)
            × (same_id j.id k.id ≡ false → left_entering (enters j) ≡ 0)
        each j same unhigh = (
          λ is. subst (λ b. left_entering (cond b (entered S j) j) ≤ c.of_section) (sym is)
              (subst (λ z. left_entering (entered S z) ≤ c.of_section) (sym (same is))
              (section (is_high (entered S k)) refl)),
          λ is. ap (λ b. left_entering (cond b (entered S j) j)) is
              ∙ ap (λ b. cond b (cost_on j) 0) unhigh,
        )

        one_only : Pairs (λ x y. same_id x.id k.id ≡ true → same_id y.id k.id ≡ false) jobs
        one_only =
            pairs_weaker AreApart (λ x y. same_id x.id k.id ≡ true → same_id y.id k.id ≡ false)
            jobs
            (λ x y other is.
            subst (λ n. same_id y.id n ≡ false) (same_ids x.id k.id is) other)
            apart

        few : sum_by left_entering (map enters jobs) ≤ c.of_section
        few =
            let is = sum_mapped left_entering enters jobs in
            let low =
            sum_alone (λ j. left_entering (enters j)) (λ j. same_id j.id k.id) c.of_section jobs
            one_only
            (all_weaker
            (λ j. (same_id j.id k.id ≡ true → j ≡ k) × (is_high j ≡ false))
            (λ j. (same_id j.id k.id ≡ true → left_entering (enters j) ≤ c.of_section)
            × (same_id j.id k.id ≡ false → left_entering (enters j) ≡ 0)) jobs
            (λ j h. each j h.0 h.1)
            (all_both (λ j. same_id j.id k.id ≡ true → j ≡ k) (λ j. is_high j ≡ false) jobs itself
            none)) in
            omega (arith, is, low)

    chosen_less : left_on (map enters jobs) ≤ left_on jobs
    chosen_less = elim (cases_lt (dynamic_priority S k) p) [
      | inl low ↦ begins low
      | inr up ↦ goes_on up
    ]

  dispatched_less : PayForDispatch S p c → (masks : List ℕ) (jobs : List Job)
      → Pairs AreApart jobs → (o : Option Job) → choice S jobs ≡ o
      → left_of_jobs S p c masks (λ j. on) (jobs_entered S o jobs)
      ≤ left_of_jobs S p c masks (λ j. on) jobs
  dispatched_less pays masks jobs apart None chosen = omega arith
  dispatched_less pays masks jobs apart (Some k) chosen =
      chosen_less pays masks jobs apart k chosen

  pub reschedule_less : PayForDispatch S p c → (s : State) → IsSingle S s
      → left S p c (reschedule S s).state ≤ left S p c s
  unfolding reschedule
  reschedule_less pays s single = go (may_dispatch s) refl
    where
      go : (b : Bool) → may_dispatch s ≡ b
          → left S p c
          (with_dispatch_of s
          (cond b (switched S (choice S s.jobs) s) (record { events = []; state = s }))).state
          ≤ left S p c s
      go false may = omega arith
      go true may =
          let there : State = (with_dispatch_of s (switched S (choice S s.jobs) s)).state in
          let is = (dispatching s may).1 in
          let before = ap (λ find. left_of_jobs S p c s.masks find s.jobs) (all_on s is) in
          let behind = ap (λ find. left_of_jobs S p c s.masks find there.jobs) (all_on there is) in
          let less =
          dispatched_less pays s.masks s.jobs
          (pairs_weaker (IsSoundPair S) AreApart s.jobs (λ x y h. h.apart) single.pairs)
          (choice S s.jobs) refl in
          omega (arith, before, behind, less)
