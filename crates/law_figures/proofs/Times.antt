-- Times that ended and the age of what is left are within a bound where no label shows more.
use Rattle.std.proofs.Common.{ℕ, zero, suc, ◌≡◌, ◌<◌, ◌≤◌, ◌-◌, ◌^◌, Bool, true, false, cond, List, [], ◌∷◌, ◌++◌, map, replicate, length, Option, Some, None, option_map, refl, sym, subst, arith}
use Rattle.view_figures.specs.declared.reached.Reached.{Reached}
use Rattle.view_figures.specs.declared.task_tick.TaskTick.{TaskTick}
use Rattle.view_figures.specs.declared.routine_figures.RoutineTick.{RoutineTick}
use Rattle.view_figures.specs.Reaching.{worse_of}
use Rattle.view_figures.specs.ResponseSums.{later, ready_since, oldest_response, response_figures}
use Rattle.view_figures.specs.RoutineSums.{pending_age, routine_figures}
use Rattle.view_figures.specs.StateSums.{leaves}
use Rattle.law_figures.specs.Labels.{Label, label_after, reached, IsAtMost, IsWithin, NoneShowsMore, IsGreatest}
use Rattle.law_figures.specs.Ages.{ages, ages_in, ages_next, oldest, oldest_age, leaving_age, followed}
use Rattle.law_figures.specs.Pending.{pending, pending_in, start_latency}
use Rattle.law_figures.specs.Times.{IsBoundBy, waited, TaskTimesAreAges, RoutineTimesAreAges}
use Rattle.law_figures.proofs.Ages.{responses_are_ages, oldest_is_age}
use Rattle.law_figures.proofs.Greatest.{BothWithin, capped_within, within_capped, worse_parts, worse_within}
use Rattle.law_figures.proofs.Pending.{latencies_are_ages, pending_is_age}

-- ---- two figures

of_within : (m : ℕ) (worst other : Option Reached) → IsWithin m worst → IsWithin m other
    → IsWithin m (worse_of worst other)
of_within m worst None low here = low
of_within m worst (Some r) low here = worse_within m worst r low here

within_of : (m : ℕ) (worst other : Option Reached) → IsWithin m (worse_of worst other)
    → IsWithin m worst × IsWithin m other
within_of m worst None low = (low, tt)
within_of m worst (Some r) low =
    let both : BothWithin m worst r = worse_parts m worst r low in
    (both.so_far, both.here)

reached_within : (m tick : ℕ) (age : Option ℕ) → IsAtMost m age → IsWithin m (reached tick age)
reached_within m tick None low = tt
reached_within m tick (Some n) low = capped_within m n low

within_reached : (m tick : ℕ) (age : Option ℕ) → m < 2 ^ 32 - 1 → IsWithin m (reached tick age)
    → IsAtMost m age
within_reached m tick None small low = tt
within_reached m tick (Some n) small low = within_capped m n small low

-- what ended and what is left
module _ {T L : Type 0} (label : Label T L) (number : T → ℕ) (ended show : T → L → Option ℕ)
    (left : L → Option ℕ)
    (parts : (m : ℕ) (seen : List T) → NoneShowsMore label show m seen
    → NoneShowsMore label ended m seen × IsAtMost m (left (label_after label seen)))
    (whole : (m : ℕ) (seen : List T) → NoneShowsMore label ended m seen
    → IsAtMost m (left (label_after label seen)) → NoneShowsMore label show m seen) where
  bound : (seen : List T) (worst age : Option Reached) (tick : ℕ)
      → IsGreatest label number ended seen worst
      → age ≡ reached tick (left (label_after label seen))
      → IsBoundBy label show seen (worse_of worst age)
  bound seen worst age tick greatest e = record {
    within = λ m none.
        let both : NoneShowsMore label ended m seen × IsAtMost m (left (label_after label seen)) =
        parts m seen none in
        of_within m worst age (greatest.within m both.0)
        (subst (IsWithin m) (sym e) (reached_within m tick (left (label_after label seen)) both.1));
    shown = λ m small low.
        let both : IsWithin m worst × IsWithin m age = within_of m worst age low in
        whole m seen (greatest.shown m small both.0)
        (within_reached m tick (left (label_after label seen)) small (subst (IsWithin m) e both.1));
  }

-- ---- tasks

left_or_leaves : (m : ℕ) (b : Bool) (old : List ℕ) → IsAtMost m (cond b (oldest old) None)
    → IsAtMost m (oldest (cond b (later old) old)) → IsAtMost m (oldest old)
left_or_leaves m true old here low = here
left_or_leaves m false old here low = low

-- the ages behind the oldest are no greater
abbrev Falls : List ℕ → Type 0
Falls [] = Unit {0}
Falls (n ∷ []) = Unit {0}
Falls (n ∷ (k ∷ old)) = (k ≤ n) × Falls (k ∷ old)

later_falls : (old : List ℕ) → Falls old → Falls (later old)
later_falls [] h = tt
later_falls (n ∷ []) h = tt
later_falls (n ∷ (k ∷ old)) h = h.1

later_at_most : (m : ℕ) (old : List ℕ) → Falls old → IsAtMost m (oldest old)
    → IsAtMost m (oldest (later old))
later_at_most m [] h low = tt
later_at_most m (n ∷ []) h low = tt
later_at_most m (n ∷ (k ∷ old)) h low = omega (arith, h.0, low)

new_fall : (n : ℕ) → Falls (replicate n 1)
new_fall zero = tt
new_fall (suc zero) = tt
new_fall (suc (suc n)) = (omega arith, new_fall (suc n))

in_falls : (old : List ℕ) (n : ℕ) → Falls old → Falls (map suc old ++ replicate n 1)
in_falls [] n h = new_fall n
in_falls (k ∷ []) zero h = tt
in_falls (k ∷ []) (suc n) h = (omega arith, new_fall (suc n))
in_falls (k ∷ (j ∷ old)) n h = (omega (arith, h.0), in_falls (j ∷ old) n h.1)

next_falls : (t : TaskTick) (old : List ℕ) → Falls old → Falls (ages_next t old)
next_falls t old h = go (leaves t) (in_falls old (followed t - length old) h)
  where
    go : (b : Bool) → Falls (ages_in t old) → Falls (cond b (later (ages_in t old)) (ages_in t old))
    go true f = later_falls (ages_in t old) f
    go false f = f

ages_fall : (seen : List TaskTick) → Falls (label_after ages seen)
ages_fall [] = tt
ages_fall (t ∷ before) = next_falls t (label_after ages before) (ages_fall before)

leaving_at_most : (m : ℕ) (b : Bool) (age : Option ℕ) → IsAtMost m age
    → IsAtMost m (cond b age None)
leaving_at_most m true age low = low
leaving_at_most m false age low = tt

next_at_most : (m : ℕ) (b : Bool) (old : List ℕ) → Falls old → IsAtMost m (oldest old)
    → IsAtMost m (oldest (cond b (later old) old))
next_at_most m true old h low = later_at_most m old h low
next_at_most m false old h low = low

task_parts : (m : ℕ) (seen : List TaskTick) → NoneShowsMore ages oldest_age m seen
    → NoneShowsMore ages leaving_age m seen × IsAtMost m (oldest (label_after ages seen))
task_parts m [] none = (tt, tt)
task_parts m (t ∷ before) none =
    let old = label_after ages before in
    let rest : NoneShowsMore ages leaving_age m before × IsAtMost m (oldest old) =
    task_parts m before none.1 in
    let falls = in_falls old (followed t - length old) (ages_fall before) in (
      (leaving_at_most m (leaves t) (oldest_age t old) none.0, rest.0),
      next_at_most m (leaves t) (ages_in t old) falls none.0,
    )

younger : (m : ℕ) (t : TaskTick) (old : List ℕ) → IsAtMost m (oldest_age t old)
    → IsAtMost m (oldest old)
younger m t [] low = tt
younger m t (n ∷ old) low = omega (arith, low)

task_whole : (m : ℕ) (seen : List TaskTick) → NoneShowsMore ages leaving_age m seen
    → IsAtMost m (oldest (label_after ages seen)) → NoneShowsMore ages oldest_age m seen
task_whole m [] none low = tt
task_whole m (t ∷ before) none low =
    let old = label_after ages before in
    let here : IsAtMost m (oldest_age t old) =
    left_or_leaves m (leaves t) (ages_in t old) none.0 low in
    (here, task_whole m before none.1 (younger m t old here))

since_is : (seen : List TaskTick) → (response_figures seen).ready_since ≡ ready_since seen
unfolding response_figures
since_is seen = refl

pub task_times_are_ages : TaskTimesAreAges
task_times_are_ages t before h =
    let seen : List TaskTick = t ∷ before in
    subst (λ since. IsBoundBy ages oldest_age seen (worse_of (response_figures seen).spread.greatest
    (oldest_response t.tick since))) (sym (since_is seen))
    (bound ages (λ u. u.tick) leaving_age oldest_age oldest task_parts task_whole seen
    (response_figures seen).spread.greatest (oldest_response t.tick (ready_since seen)) t.tick
    (responses_are_ages seen h) (oldest_is_age t before h))

-- ---- routines

routine_parts : (m : ℕ) (seen : List RoutineTick) → NoneShowsMore pending waited m seen
    → NoneShowsMore pending start_latency m seen × IsAtMost m (label_after pending seen)
routine_parts m [] none = (tt, tt)
routine_parts m (r ∷ before) none =
    let age = pending_in r (label_after pending before) in
    let rest : NoneShowsMore pending start_latency m before
    × IsAtMost m (label_after pending before) =
    routine_parts m before none.1 in
    let here = go r.seen.is_started age none.0 in
    ((here.0, rest.0), here.1)
  where
    go : (b : Bool) (age : Option ℕ) → IsAtMost m (cond b (option_map (λ n. n - 1) age) age)
        → IsAtMost m (cond b (option_map (λ n. n - 1) age) None) × IsAtMost m (cond b None age)
    go true age low = (low, tt)
    go false age low = (tt, low)

routine_whole : (m : ℕ) (seen : List RoutineTick) → NoneShowsMore pending start_latency m seen
    → IsAtMost m (label_after pending seen) → NoneShowsMore pending waited m seen
routine_whole m [] none low = tt
routine_whole m (r ∷ before) none low =
    let here : IsAtMost m (waited r (label_after pending before)) =
    go r.seen.is_started (pending_in r (label_after pending before)) none.0 low in (
      here,
      routine_whole m before none.1
          (younger_wait r.seen.is_started (label_after pending before) here),
    )
  where
    go : (b : Bool) (age : Option ℕ) → IsAtMost m (cond b (option_map (λ n. n - 1) age) None)
        → IsAtMost m (cond b None age) → IsAtMost m (cond b (option_map (λ n. n - 1) age) age)
    go true age here low = here
    go false age here low = low

    younger_wait : (b : Bool) (age : Option ℕ)
        → IsAtMost m (cond b (option_map (λ n. n - 1) (pending_in r age)) (pending_in r age))
        → IsAtMost m age
    younger_wait b None low = tt
    younger_wait true (Some n) low = omega (arith, low)
    younger_wait false (Some n) low = omega (arith, low)

pub routine_times_are_ages : RoutineTimesAreAges
routine_times_are_ages r before h small =
    let seen : List RoutineTick = r ∷ before in
    bound pending (λ u. u.tick) start_latency waited (λ age. age) routine_parts routine_whole seen
    (routine_figures seen).latency (pending_age r.tick (routine_figures seen).pending_since) r.tick
    (latencies_are_ages seen h small) (pending_is_age r before h)
