-- What runs of the upper part by itself show, runs of every system with that part show.
use Rattle.std.proofs.Common.{◌≡◌, ℕ, zero, suc, ◌+◌, ◌-◌, ◌<◌, false, true, List, [], map, length, refl, sym, ◌∙◌, ap, subst, arith}
use Rattle.std.specs.Prelude.{IfSome, IsTrue, Option, Some, None, slice_index_or}
use Rattle.std.specs.Option.{option_map}
use Rattle.osek_base.specs.declared.arrivals.Arrival.{Arrival}
use Rattle.osek_base.specs.declared.executed.Executed.{Executed}
use Rattle.osek_base.specs.declared.ids.Owner.{Owner}
use Rattle.osek_base.specs.Agree.{is_upper_declared, upper_part}
use Rattle.osek_base.specs.BlockingText.{blockers_at}
use Rattle.osek_base.specs.System.{System}
use Rattle.osek_base.specs.Trace.{run}
use Rattle.osek_base.specs.Upper.{is_upper_alarm, is_upper_task}
use Rattle.arrival_rules.specs.declared.rule.ArrivalRule.{ArrivalRule}
use Rattle.law_runs.proofs.RunSteps.{going_before}
use Rattle.partition_check.proofs.PartAgrees.{all_upper}
use Rattle.seen_ticks.specs.declared.observation.Observation.{Observation}
use Rattle.seen_ticks.specs.declared.task_seen.TaskSeen.{TaskSeen}
use Rattle.seen_ticks.specs.Observed.{is_by, owner_of, tick_at}
use Rattle.view_figures.specs.declared.task_figures.TaskFigures.{TaskFigures}
use Rattle.view_figures.specs.declared.task_tick.TaskTick.{TaskTick}
use Rattle.view_figures.specs.AlarmSums.{alarm_figures}
use Rattle.view_figures.specs.FigureSums.{AreFigures, RunFigures, alarm_tick, held_count, holder_tick, is_task, levels_of, routine_tick, task_figures, task_tick}
use Rattle.view_figures.specs.ResourceSums.{resource_figures}
use Rattle.view_figures.specs.RoutineSums.{routine_figures}
use Rattle.law_figures.specs.RunFigures.{AreRunFigures, IsTickOf}
use Rattle.law_bounds.specs.Unending.{NeedNotEnd}
use Rattle.law_bounds.proofs.Showing.{going_at}
use Rattle.law_upper.specs.Above.{AreOneAbove, IsTheSameAlarm, IsTheSameResource, IsUpperTask}
use Rattle.law_upper.specs.FiguresAbove.{alarm_in_part, resource_in_part}
use Rattle.law_upper.specs.RunsAbove.{AreThoseOfThePart, HasThoseOfThePart, RunsShowWhatThePartShows, ShowsWhatThePartShows, TickShowsThatOfThePart}
use Rattle.law_upper.specs.ShownAbove.{TicksShowTheSame}
use Rattle.law_upper.proofs.Bare.{bare_task, task_errors_bare, task_refused_bare, task_responses_bare}
use Rattle.law_upper.proofs.Blocked.{blocked_at_same}
use Rattle.law_upper.proofs.BlockersAbove.{blockers_there}
use Rattle.law_upper.proofs.Carried.{alarms_same, declared_same, routines_same, scheduler_same, tasks_same}
use Rattle.law_upper.proofs.FailingAbove.{failure_there}
use Rattle.law_upper.proofs.Observed.{are_figures, figures_of, observed_at}
use Rattle.law_upper.proofs.ObservedAs.{all_as, are_ticks_as, bare_as, blockers_as, last_as, observed_as, task_blockers_same, told_as}
use Rattle.law_upper.proofs.OneTick.{by_is}
use Rattle.law_upper.proofs.Part.{itself, numbered, over_there, ticks_show}
use Rattle.law_upper.proofs.Sides.{upper_back, with_part}
use Rattle.law_upper.proofs.StandingAbove.{stands_there}
use Rattle.law_upper.proofs.States.{states_are_seen_the_same}
use Rattle.law_upper.proofs.Within.{AreNumbered, declared_held, rules_there, scheduler_held}

-- a run that isn't over before a tick isn't over before an earlier one
going_back : (S : System) (mode : ℕ) (arrivals : List Arrival) (w d : ℕ)
    → (run S mode arrivals (w + d)).state.over ≡ false → (run S mode arrivals w).state.over ≡ false
going_back S mode arrivals w zero going =
    let same : w + 0 ≡ w = omega arith in
    subst (λ k. (run S mode arrivals k).state.over ≡ false) same going
going_back S mode arrivals w (suc d) going =
    let same : w + suc d ≡ suc (w + d) = omega arith in
    going_back S mode arrivals w d
    (going_before S mode arrivals (w + d)
    (subst (λ k. (run S mode arrivals k).state.over ≡ false) same going))

going_until : (S : System) (mode : ℕ) (arrivals : List Arrival) (n : ℕ)
    → (run S mode arrivals n).state.over ≡ false → (w : ℕ) → w < suc n
    → (run S mode arrivals w).state.over ≡ false
going_until S mode arrivals n going w low =
    let same : n ≡ w + (n - w) = omega (arith, low) in
    going_back S mode arrivals w (n - w)
    (subst (λ k. (run S mode arrivals k).state.over ≡ false) same going)

task_is : (told : Option Executed) (t : ℕ)
    → is_task (option_map owner_of told) t ≡ is_by (Owner.Task t) told
task_is None t = refl
task_is (Some e) t = of e.owner
  where
    of : (who : Owner) → is_task (Some who) t
        ≡ is_by (Owner.Task t) (Some (record e { owner = who }))
    of (Owner.Task u) = grind arith
    of (Owner.Routine i) = refl

-- ---- a system and the part

module _ (P S : System) (p : ℕ) (pair : AreOneAbove P S p)
    (all : (t : ℕ) → t < length P.tasks → is_upper_task P p t ≡ true)
    (numbers : AreNumbered S P p) where
  shown : TicksShowTheSame P S p
  shown = ticks_show P S p pair

  over : (mode : ℕ) (arrivals : List Arrival) (n : ℕ)
      → (run P mode arrivals n).state.over ≡ (run S mode arrivals n).state.over
  over mode arrivals n =
      ((states_are_seen_the_same.states.others P S p pair).between mode arrivals n).over

  upper : (t : ℕ) → IsUpperTask S p t → IsUpperTask P p t
  upper t is = upper_back P S p pair t is

  resource : (r : ℕ) → r < length S.resources → IsTrue (is_upper_declared S p r)
      → IsTheSameResource P S p (resource_in_part S p r) r
  resource r low high =
      let one = numbers.resources r low high in
      record {
        known = one.known_there;
        upper = one.upper_there;
        known_there = one.known;
        upper_there = one.upper;
        number = sym one.number;
      }

  alarm : (a : ℕ) → a < length S.alarms → IsTrue (is_upper_alarm S p a)
      → IsTheSameAlarm P S p (alarm_in_part S p a) a
  alarm a low high =
      let one = numbers.alarms a low high in
      record {
        known = one.known_there;
        upper = one.upper_there;
        known_there = one.known;
        upper_there = one.upper;
        number = sym one.number;
      }

  blockers : (mode : ℕ) (arrivals : List Arrival) (n : ℕ)
      → (run P mode arrivals n).state.over ≡ false → (m : ℕ)
      → blockers_at P mode arrivals n ≡ Some m → blockers_at S mode arrivals n ≡ Some m
  blockers mode arrivals n going =
      blockers_there P S p pair mode arrivals all n (going_until P mode arrivals n going)

  -- ---- figures

  module _ (mode : ℕ) (arrivals : List Arrival) (n : ℕ) (f : RunFigures)
      (are : AreRunFigures P mode arrivals n f) where
    abbrev others : List Observation
    others = observed_as P S mode arrivals n are.seen

    abbrev g : RunFigures
    g = figures_of S others

    theirs : AreFigures S others g
    theirs = are_figures S others

    -- ---- of a task

    module _ (t : ℕ) (is : IsUpperTask S p t) where
      abbrev seen : List TaskTick
      seen = map (λ o. task_tick (levels_of P) o t) are.seen

      abbrev seen_there : List TaskTick
      seen_there = map (λ o. task_tick (levels_of S) o t) others

      bare : map bare_task seen ≡ map bare_task seen_there
      bare =
          tasks_same P S p mode arrivals shown t (upper t is) is n are.seen are.ticks
          ∙ bare_as P S mode arrivals t n are.seen are.ticks

      executes : (k : ℕ) (o : Observation) → IsTickOf P mode arrivals k o
          → is_task o.executor t ≡ is_task (observed_at S mode arrivals k).executor t
      executes k o of =
          let states = states_are_seen_the_same.states.others P S p pair in
          ap (λ who. is_task who t) of.seen.executor
          ∙ task_is (tick_at P mode arrivals k).executed t
          ∙ by_is P pair.proper mode arrivals k of.going (Owner.Task t)
          ∙ ((states.executing mode arrivals k).tasks t (upper t is)).executes
          ∙ sym (by_is S pair.proper_there mode arrivals k
          (sym (over mode arrivals k) ∙ of.going) (Owner.Task t))
          ∙ sym (task_is (tick_at S mode arrivals k).executed t)

      -- a figure of it that goes by what is told of it is the same
      figure_is : {X : Type 0} (figure : TaskFigures → X)
          → figure (task_figures seen) ≡ figure (task_figures seen_there)
          → figure (slice_index_or f.tasks t (task_figures []))
          ≡ figure (slice_index_or g.tasks t (task_figures []))
      figure_is figure same =
          ap figure (are.figures.tasks.each t (upper t is).known) ∙ same
          ∙ sym (ap figure (theirs.tasks.each t is.known))

      blockers_are : (task_figures seen).counts.blockers
          ≡ (task_figures seen_there).counts.blockers
      blockers_are =
          task_blockers_same seen seen_there
          (blockers_as P S mode arrivals t executes n are.seen are.ticks)

    -- ---- of what can be held

    held_is : (q r : ℕ) → q < held_count P → r < held_count S
        → map (λ o. holder_tick o q) are.seen ≡ map (λ o. holder_tick o r) others
        → slice_index_or f.resources q (resource_figures [])
        ≡ slice_index_or g.resources r (resource_figures [])
    held_is q r low there same =
        are.figures.resources.each q low ∙ ap resource_figures same
        ∙ sym (theirs.resources.each r there)

    declared_is : (r : ℕ) → r < length S.resources → IsTrue (is_upper_declared S p r)
        → slice_index_or f.resources (resource_in_part S p r) (resource_figures [])
        ≡ slice_index_or g.resources r (resource_figures [])
    declared_is r low high =
        let q : ℕ = resource_in_part S p r in
        let one = resource r low high in
        held_is q r (declared_held P q one.known) (declared_held S r low)
        (declared_same P S p mode arrivals shown q r one n are.seen are.ticks
        ∙ all_as P S mode arrivals (λ o. holder_tick o r) (λ o told. refl) n are.seen are.ticks)

    scheduler_is : IsTrue S.use_res_scheduler
        → slice_index_or f.resources (resource_in_part S p (length S.resources))
        (resource_figures [])
        ≡ slice_index_or g.resources (length S.resources) (resource_figures [])
    scheduler_is used =
        let used_here : P.use_res_scheduler ≡ true = sym numbers.scheduler ∙ used in
        ap (λ q. slice_index_or f.resources q (resource_figures [])) numbers.held
        ∙ held_is (length P.resources) (length S.resources) (scheduler_held P used_here)
        (scheduler_held S used)
        (scheduler_same P S p mode arrivals shown used_here used n are.seen are.ticks
        ∙ all_as P S mode arrivals (λ o. holder_tick o (length S.resources)) (λ o told. refl) n
        are.seen are.ticks)

    -- ---- of routines and alarms

    routine_is : (i : ℕ) → i < length S.routines
        → slice_index_or f.routines i (routine_figures [])
        ≡ slice_index_or g.routines i (routine_figures [])
    routine_is i low =
        let here : i < length P.routines = subst (λ m. i < m) numbers.routines low in
        are.figures.routines.each i here
        ∙ ap routine_figures
        (routines_same P S p mode arrivals shown i here low n are.seen are.ticks
        ∙ all_as P S mode arrivals (λ o. routine_tick o i) (λ o told. refl) n are.seen are.ticks)
        ∙ sym (theirs.routines.each i low)

    alarm_is : (a : ℕ) → a < length S.alarms → IsTrue (is_upper_alarm S p a)
        → slice_index_or f.alarms (alarm_in_part S p a) (alarm_figures [])
        ≡ slice_index_or g.alarms a (alarm_figures [])
    alarm_is a low high =
        let c : ℕ = alarm_in_part S p a in
        let one = alarm a low high in
        are.figures.alarms.each c one.known
        ∙ ap alarm_figures
        (alarms_same P S p mode arrivals shown c a one n are.seen are.ticks
        ∙ all_as P S mode arrivals (λ o. alarm_tick o a) (λ o told. refl) n are.seen are.ticks)
        ∙ sym (theirs.alarms.each a low)

    are_those : AreThoseOfThePart S p f g
    are_those = record {
      last = are.figures.last ∙ last_as P S mode arrivals n are.seen are.ticks ∙ sym theirs.last;
      responses = λ t is.
          figure_is t is (λ (k : TaskFigures). k.responses)
          (task_responses_bare (seen t is) (seen_there t is) (bare t is));
      refusals = λ t is.
          figure_is t is (λ (k : TaskFigures). k.counts.refused)
          (task_refused_bare (seen t is) (seen_there t is) (bare t is));
      errors = λ t is.
          figure_is t is (λ (k : TaskFigures). k.counts.errors)
          (task_errors_bare (seen t is) (seen_there t is) (bare t is));
      blockers = λ t is.
          figure_is t is (λ (k : TaskFigures). k.counts.blockers) (blockers_are t is);
      routines = routine_is;
      resources = declared_is;
      scheduler = scheduler_is;
      alarms = alarm_is;
    }

    figures_there : HasThoseOfThePart P S p mode arrivals n f are.seen
    figures_there = record {
      figures = g;
      are = record {
        seen = others;
        proper = pair.proper_there;
        small = are.small;
        ticks =
            are_ticks_as P S mode arrivals n are.seen are.ticks
            (λ i low.
            sym (over mode arrivals i) ∙ going_at P mode arrivals n are.seen are.ticks i low);
        figures = theirs;
      };
      same = are_those;
      told = told_as P S mode arrivals (blockers mode arrivals) n are.seen are.ticks;
    }

  -- ---- ticks

  tick_shows : (mode : ℕ) (arrivals : List Arrival) (n : ℕ)
      → (run P mode arrivals n).state.over ≡ false
      → TickShowsThatOfThePart P S p mode arrivals n
  tick_shows mode arrivals n going = record {
    jobs = λ t is.
        ap (λ (x : TaskSeen). x.jobs) ((shown mode arrivals n going).tasks t (upper t is));
    blocked = λ t is. (shown mode arrivals n going).blocked t (upper t is);
    blocked_for = λ t is. blocked_at_same P S p mode arrivals shown t (upper t is) n going;
    failure = failure_there P S p pair shown all mode arrivals n going;
    blockers = of (blockers_at P mode arrivals n) (blockers mode arrivals n going);
  }
    where
      of : (o : Option ℕ) → ((m : ℕ) → o ≡ Some m → blockers_at S mode arrivals n ≡ Some m)
          → IfSome o (λ m. blockers_at S mode arrivals n ≡ Some m)
      of None there = tt
      of (Some m) there = there m refl

  -- ---- tasks that can be kept from ending

  unending_there : (mode : ℕ) (rules : List ArrivalRule) (t : ℕ) → IsUpperTask S p t
      → NeedNotEnd P mode rules t → NeedNotEnd S mode rules t
  unending_there mode rules t is unending count =
      let so_long = unending count in
      record {
        arrivals = so_long.arrivals;
        from = so_long.from;
        keep = rules_there P S rules so_long.arrivals (sym numbers.routines) so_long.keep;
        stands = λ u late early.
            stands_there P S p pair shown over mode so_long.arrivals u t (upper t is)
            (so_long.stands u late early);
      }

  shows : ShowsWhatThePartShows P S p
  shows = record {
    keep = λ rules arrivals keep.
        rules_there P S rules arrivals (sym numbers.routines) keep;
    over = over;
    figures = figures_there;
    ticks = tick_shows;
    stands = λ mode arrivals from until t is all_stand u late early.
        stands_there P S p pair shown over mode arrivals u t (upper t is)
        (all_stand u late early);
    unending = unending_there;
  }

-- ---- the law

module _ (S B : System) (p : ℕ) (pair : AreOneAbove S B p) where
  abbrev part : System
  part = upper_part S p

  part_and_that : AreOneAbove part B p
  part_and_that =
      let own = with_part S p pair.proper pair.separable in
      record {
        proper = own.proper_there;
        separable = own.separable_there;
        proper_there = pair.proper_there;
        separable_there = pair.separable_there;
        agree = over_there S part B p own.agree pair.agree;
      }

  shows_there : ShowsWhatThePartShows part B p
  shows_there =
      shows part B p part_and_that (all_upper S p pair.proper pair.separable).tasks
      (numbered S B p pair)

pub runs_show_what_the_part_shows : RunsShowWhatThePartShows
runs_show_what_the_part_shows = record {
  whole = λ S p proper separable.
      shows_there S S p
      (record {
        proper = proper;
        separable = separable;
        proper_there = proper;
        separable_there = separable;
        agree = itself S p;
      });
  others = shows_there;
}
