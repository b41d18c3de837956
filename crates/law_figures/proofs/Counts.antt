-- A count is 0 exactly where nothing is counted in any tick.
use Rattle.std.proofs.Common.{ℕ, ◌≡◌, ◌≤◌, Bool, true, false, nat_lt, List, [], ◌∷◌, Option, Some, None, refl, sym, ◌∙◌, ap, arith}
use Rattle.std.specs.Prelude.{IfSome}
use Rattle.std.specs.List.{AllByRecursion, sum_by}
use Rattle.std.proofs.lemmas.Bool.{ltb-false}
use Rattle.std.proofs.lemmas.List.Sums.{sum_by-cons}
use Rattle.view_figures.specs.declared.task_tick.TaskTick.{TaskTick}
use Rattle.view_figures.specs.declared.routine_figures.RoutineTick.{RoutineTick}
use Rattle.view_figures.specs.declared.alarm_figures.AlarmTick.{AlarmTick}
use Rattle.view_figures.specs.Counts.{capped}
use Rattle.view_figures.specs.Reaching.{first_tick}
use Rattle.view_figures.specs.TaskSums.{task_counts, more_blockers, most_blockers, first_refusal}
use Rattle.view_figures.specs.RoutineSums.{routine_figures, first_loss}
use Rattle.view_figures.specs.AlarmSums.{alarm_figures, first_refusal as first_refused}
use Rattle.law_figures.specs.Counts.{one_if, IsNever, IsCountOf, IsFirstOf, TaskCountsTell, RoutineCountsTell, AlarmCountsTell, CountsTell}

module _ {T : Type 0} (number : T → ℕ) where
  sum_none : (seen : List T) → IsNever number seen → sum_by number seen ≡ 0
  sum_none [] never = refl
  sum_none (t ∷ before) never =
      let sum = sum_by-cons number t before in
      let rest : sum_by number before ≡ 0 = sum_none before never.1 in
      omega (arith, sum, never.0)

  none_summed : (seen : List T) → sum_by number seen ≡ 0 → IsNever number seen
  none_summed [] none = tt
  none_summed (t ∷ before) none =
      let sum = sum_by-cons number t before in
      (omega (arith, sum), none_summed before (omega (arith, sum)))

  counts : (seen : List T) → IsCountOf number seen (capped (sum_by number seen))
  counts seen = record {
    none = λ never. let e : sum_by number seen ≡ 0 = sum_none seen never in omega arith;
    never = λ none. none_summed seen (omega (arith, none));
  }

  -- the first tick, where it is told by whether something is counted
  module _ (tick : T → ℕ) (first : List T → Option ℕ) (start : first [] ≡ None)
      (next : (t : T) (before : List T) → first (t ∷ before)
      ≡ first_tick (nat_lt 0 (number t)) (tick t) (first before)) where
    first_none : (seen : List T) → IsNever number seen → first seen ≡ None
    first_none [] never = start
    first_none (t ∷ before) never =
        next t before
        ∙ (λ i. first_tick (nat_lt 0 (never.0 i)) (tick t) (first_none before never.1 i))

    none_before : (b : Bool) (n : ℕ) (r : Option ℕ) → first_tick b n r ≡ None
        → (b ≡ false) × (r ≡ None)
    none_before true n None e = absurd (cc)
    none_before false n None e = (refl, refl)
    none_before b n (Some u) e = absurd (cc)

    none_first : (seen : List T) → first seen ≡ None → IsNever number seen
    none_first [] none = tt
    none_first (t ∷ before) none =
        let parts : (nat_lt 0 (number t) ≡ false) × (first before ≡ None) =
        none_before (nat_lt 0 (number t)) (tick t) (first before) (sym (next t before) ∙ none) in
        let low : number t ≤ 0 = ltb-false 0 (number t) parts.0 in
        (omega arith, none_first before parts.1)

    firsts : (seen : List T) → IsFirstOf number seen (first seen)
    firsts seen = record { none = first_none seen; never = none_first seen }

one_above : (b : Bool) → b ≡ nat_lt 0 (one_if b)
one_above true = refl
one_above false = refl

-- ---- blockers

more_within : (m : ℕ) (told most : Option ℕ) → IfSome told (λ n. n ≤ m) → IfSome most (λ n. n ≤ m)
    → IfSome (more_blockers told most) (λ n. n ≤ m)
more_within m None most here low = low
more_within m (Some n) None here low = here
more_within m (Some n) (Some k) here low = omega (arith, here, low)

within_more : (m : ℕ) (told most : Option ℕ) → IfSome (more_blockers told most) (λ n. n ≤ m)
    → IfSome told (λ n. n ≤ m) × IfSome most (λ n. n ≤ m)
within_more m None most low = (tt, low)
within_more m (Some n) None low = (low, tt)
within_more m (Some n) (Some k) low = (omega (arith, low), omega (arith, low))

blockers_within : (m : ℕ) (seen : List TaskTick)
    → AllByRecursion (λ t. IfSome t.blockers (λ n. n ≤ m)) seen
    → IfSome (most_blockers seen) (λ n. n ≤ m)
blockers_within m [] all = tt
blockers_within m (t ∷ before) all =
    more_within m t.blockers (most_blockers before) all.0 (blockers_within m before all.1)

blockers_told : (m : ℕ) (seen : List TaskTick) → IfSome (most_blockers seen) (λ n. n ≤ m)
    → AllByRecursion (λ t. IfSome t.blockers (λ n. n ≤ m)) seen
blockers_told m [] low = tt
blockers_told m (t ∷ before) low =
    let parts : IfSome t.blockers (λ n. n ≤ m) × IfSome (most_blockers before) (λ n. n ≤ m) =
    within_more m t.blockers (most_blockers before) low in
    (parts.0, blockers_told m before parts.1)

-- ---- the figures

task_counts_tell : (seen : List TaskTick) → TaskCountsTell seen
unfolding task_counts
task_counts_tell seen = record {
  refused = counts (λ (t : TaskTick). t.seen.refused) seen;
  first_refusal =
      firsts (λ (t : TaskTick). t.seen.refused) (λ (t : TaskTick). t.tick) first_refusal refl
      (λ t before. refl) seen;
  errors = counts (λ (t : TaskTick). one_if t.has_failed) seen;
  within = λ m all. blockers_within m seen all;
  told = λ m low. blockers_told m seen low;
}

routine_counts_tell : (seen : List RoutineTick) → RoutineCountsTell seen
unfolding routine_figures
routine_counts_tell seen = record {
  losses = counts (λ (r : RoutineTick). r.seen.lost) seen;
  first_loss = firsts (λ (r : RoutineTick). r.seen.lost)
      (λ (r : RoutineTick). r.tick) first_loss refl (λ r before. refl) seen;
  errors = counts (λ (r : RoutineTick). one_if r.has_failed) seen;
}

alarm_counts_tell : (seen : List AlarmTick) → AlarmCountsTell seen
unfolding alarm_figures
alarm_counts_tell seen = record {
  refused = counts (λ (a : AlarmTick). one_if a.seen.is_refused) seen;
  first_refusal =
      firsts (λ (a : AlarmTick). one_if a.seen.is_refused)
      (λ (a : AlarmTick). a.tick) first_refused refl
      (λ a before. ap (λ b. first_tick b a.tick (first_refused before))
      (one_above a.seen.is_refused)) seen;
}

pub counts_tell : CountsTell
counts_tell = (task_counts_tell, routine_counts_tell, alarm_counts_tell)
