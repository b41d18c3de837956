-- Figures of the upper part are the same in runs of systems that agree.
use Rattle.std.proofs.Common.{◌≡◌, ℕ, zero, suc, ◌<◌, true, ◌&&◌, List, [], ◌∷◌, map, length, refl, sym, ◌∙◌, ap, ap₂, subst, arith}
use Rattle.std.specs.Prelude.{IsOk, OnOk, Ok, Err, None, Result, slice_index_or}
use Rattle.std.proofs.lemmas.Simd.{map-map}
use Rattle.osek_base.specs.declared.arrivals.Arrival.{Arrival}
use Rattle.osek_base.specs.Agree.{upper_part}
use Rattle.osek_base.specs.Proper.{IsProper}
use Rattle.osek_base.specs.Separable.{Separable}
use Rattle.osek_base.specs.System.{System}
use Rattle.seen_ticks.specs.declared.observation.Observation.{Observation}
use Rattle.seen_ticks.specs.declared.task_seen.TaskSeen.{TaskSeen}
use Rattle.seen_ticks.specs.Observed.{Ticked, task_seen, tick_at}
use Rattle.law_future.proofs.Tables.{table_at}
use Rattle.view_figures.specs.AlarmSums.{alarm_figures}
use Rattle.view_figures.specs.Counts.{capped}
use Rattle.seen_ticks.specs.Seen.{unseen_task}
use Rattle.view_figures.specs.FigureSums.{RunFigures, held_count, is_error, is_task, levels_of, lower_executes, task_figures, task_tick}
use Rattle.view_figures.specs.ResourceSums.{resource_figures}
use Rattle.view_figures.specs.RoutineSums.{routine_figures}
use Rattle.law_figures.specs.Blocking.{stands_ready}
use Rattle.law_figures.specs.RunFigures.{AreRunFigures, AreTicksOf, IsTickOf}
use Rattle.law_upper.specs.Above.{AreOneAbove, IsTheSameAlarm, IsTheSameResource, IsUpperTask}
use Rattle.law_upper.proofs.Sides.{routine_count, upper_there, with_part}
use Rattle.law_upper.specs.ShownAbove.{ShowTheSameAbove, TicksShowTheSame}
use Rattle.law_upper.proofs.Carried.{alarms_same, declared_same, last_same, routines_same, scheduler_same}
use Rattle.law_upper.proofs.Part.{itself, upper_parts_show_the_same}
use Rattle.partition_isolation.specs.Everywhere.{IsTheSameEverywhere}
use Rattle.partition_isolation.specs.SameFigures.{AreTheSameAbove, FiguresAreTheSame, but_blockers}
use Rattle.partition_isolation.proofs.ByTicks.{plain_tick, task_figures_same}

-- ---- observations of one run

length_is : (S : System) (mode : ℕ) (arrivals : List Arrival) (n : ℕ) (seen : List Observation)
    → AreTicksOf S mode arrivals n seen → length seen ≡ n
length_is S mode arrivals zero [] are = refl
length_is S mode arrivals zero (o ∷ before) are = absurd are
length_is S mode arrivals (suc n) [] are = absurd are
length_is S mode arrivals (suc n) (o ∷ before) are =
    ap suc (length_is S mode arrivals n before are.1)

-- ---- ticks of two systems

module _ (S B : System) (p : ℕ) (pair : AreOneAbove S B p) (mode : ℕ)
    (arrivals : List Arrival) where
  shows : TicksShowTheSame S B p
  shows = upper_parts_show_the_same.others S B p pair

  shows_there : TicksShowTheSame B B p
  shows_there =
      upper_parts_show_the_same.others B B p
      (record {
        proper = pair.proper_there;
        separable = pair.separable_there;
        proper_there = pair.proper_there;
        separable_there = pair.separable_there;
        agree = itself B p;
      })

  module _ {T : Type 0} (tick there : Observation → T)
      (same : (n : ℕ) (o u : Observation) → IsTickOf S mode arrivals n o
      → IsTickOf B mode arrivals n u → tick o ≡ there u) where
    listed : (n : ℕ) (seen others : List Observation) → AreTicksOf S mode arrivals n seen
        → AreTicksOf B mode arrivals n others → map tick seen ≡ map there others
    listed zero [] [] are other = refl
    listed zero (o ∷ before) others are other = absurd are
    listed zero [] (u ∷ earlier) are other = absurd other
    listed (suc n) [] others are other = absurd are
    listed (suc n) (o ∷ before) [] are other = absurd other
    listed (suc n) (o ∷ before) (u ∷ earlier) are other =
        ap₂ (λ (t : T) ts. t ∷ ts) (same n o u are.0 other.0)
        (listed n before earlier are.1 other.1)

  module _ (n : ℕ) (o u : Observation) (is : IsTickOf S mode arrivals n o)
      (there : IsTickOf B mode arrivals n u) where
    abbrev mine : Ticked
    mine = tick_at S mode arrivals n

    abbrev theirs : Ticked
    theirs = tick_at B mode arrivals n

    number_same : o.tick ≡ u.tick
    number_same = is.number ∙ sym there.number

    shown_here : ShowTheSameAbove S B p mine theirs
    shown_here = shows mode arrivals n is.going

    module _ (t : ℕ) (high : IsUpperTask S p t) (high_there : IsUpperTask B p t) where
      abbrev seen : TaskSeen
      seen = slice_index_or o.tasks.items t unseen_task

      abbrev seen_there : TaskSeen
      seen_there = slice_index_or u.tasks.items t unseen_task

      seen_is : seen ≡ task_seen S mine t
      seen_is =
          ap (λ (xs : List TaskSeen). slice_index_or xs t unseen_task) is.seen.tasks
          ∙ table_at (task_seen S mine) (length S.tasks) t unseen_task high.known

      seen_there_is : seen_there ≡ task_seen B theirs t
      seen_there_is =
          ap (λ (xs : List TaskSeen). slice_index_or xs t unseen_task) there.seen.tasks
          ∙ table_at (task_seen B theirs) (length B.tasks) t unseen_task high_there.known

      lower_one : (stands_ready seen.state && lower_executes (levels_of S) o.executor t)
          ≡ (stands_ready seen_there.state && lower_executes (levels_of B) u.executor t)
      lower_one =
          ap₂ (λ (x : TaskSeen) who. stands_ready x.state && lower_executes (levels_of S) who t)
          seen_is is.seen.executor
          ∙ shown_here.blocked t high
          ∙ sym (ap₂
          (λ (x : TaskSeen) who. stands_ready x.state && lower_executes (levels_of B) who t)
          seen_there_is there.seen.executor)

      failed_one : (is_task o.executor t && is_error o.answered)
          ≡ (is_task u.executor t && is_error u.answered)
      failed_one =
          ap₂ (λ who answer. is_task who t && is_error answer) is.seen.executor is.seen.answered
          ∙ shown_here.errors t high
          ∙ sym (ap₂ (λ who answer. is_task who t && is_error answer) there.seen.executor
          there.seen.answered)

      task_one : plain_tick (task_tick (levels_of S) o t) ≡ plain_tick (task_tick (levels_of B) u t)
      task_one =
          let saw : seen ≡ seen_there =
          seen_is ∙ shown_here.tasks t high ∙ sym seen_there_is in
          λ i. record {
            tick = number_same i;
            seen = saw i;
            lower_executes = lower_one i;
            has_failed = failed_one i;
            blockers = None;
          }

  -- ---- the figures

  module _ (n : ℕ) (f g : RunFigures) (are : AreRunFigures S mode arrivals n f)
      (other : AreRunFigures B mode arrivals n g) where
    tasks_are : (t : ℕ) → IsUpperTask S p t
        → but_blockers (slice_index_or f.tasks t (task_figures []))
        ≡ but_blockers (slice_index_or g.tasks t (task_figures []))
    tasks_are t high =
        let high_there : IsUpperTask B p t = upper_there S B p pair t high in
        let tick = λ (o : Observation). task_tick (levels_of S) o t in
        let tick_there = λ (u : Observation). task_tick (levels_of B) u t in
        ap but_blockers (are.figures.tasks.each t high.known)
        ∙ task_figures_same (map tick are.seen) (map tick_there other.seen)
        (map-map plain_tick tick are.seen
        ∙ listed (λ o. plain_tick (tick o)) (λ u. plain_tick (tick_there u))
        (λ k o u is there. task_one k o u is there t high high_there)
        n are.seen other.seen are.ticks other.ticks
        ∙ sym (map-map plain_tick tick_there other.seen))
        ∙ sym (ap but_blockers (other.figures.tasks.each t high_there.known))

    routines_are : (r : ℕ) → r < length S.routines
        → slice_index_or f.routines r (routine_figures [])
        ≡ slice_index_or g.routines r (routine_figures [])
    routines_are r low =
        let low_there : r < length B.routines =
        subst (λ m. r < m) (routine_count S B p pair) low in
        are.figures.routines.each r low
        ∙ ap routine_figures
        (routines_same S B p mode arrivals shows r low low_there n are.seen are.ticks
        ∙ sym (routines_same B B p mode arrivals shows_there r low_there low_there n other.seen
        other.ticks))
        ∙ sym (other.figures.routines.each r low_there)

    declared_are : (r q : ℕ) → IsTheSameResource S B p r q
        → slice_index_or f.resources r (resource_figures [])
        ≡ slice_index_or g.resources q (resource_figures [])
    declared_are r q same =
        let there : IsTheSameResource B B p q q = record {
          known = same.known_there;
          upper = same.upper_there;
          known_there = same.known_there;
          upper_there = same.upper_there;
          number = refl;
        } in
        are.figures.resources.each r (inside S r same.known)
        ∙ ap resource_figures
        (declared_same S B p mode arrivals shows r q same n are.seen are.ticks
        ∙ sym (declared_same B B p mode arrivals shows_there q q there n other.seen other.ticks))
        ∙ sym (other.figures.resources.each q (inside B q same.known_there))
      where
        inside : (T : System) (k : ℕ) → k < length T.resources → k < held_count T
        inside T k low = omega (arith, low)

    scheduler_are : S.use_res_scheduler ≡ true
        → slice_index_or f.resources (length S.resources) (resource_figures [])
        ≡ slice_index_or g.resources (length B.resources) (resource_figures [])
    scheduler_are used =
        let used_there : B.use_res_scheduler ≡ true = sym pair.agree.use_res_scheduler ∙ used in
        are.figures.resources.each (length S.resources) (last S used)
        ∙ ap resource_figures
        (scheduler_same S B p mode arrivals shows used used_there n are.seen are.ticks
        ∙ sym (scheduler_same B B p mode arrivals shows_there used_there used_there n other.seen
        other.ticks))
        ∙ sym (other.figures.resources.each (length B.resources) (last B used_there))
      where
        last : (T : System) → T.use_res_scheduler ≡ true → length T.resources < held_count T
        last T has = rw has (omega arith)

    alarms_are : (a c : ℕ) → IsTheSameAlarm S B p a c
        → slice_index_or f.alarms a (alarm_figures [])
        ≡ slice_index_or g.alarms c (alarm_figures [])
    alarms_are a c same =
        let there : IsTheSameAlarm B B p c c = record {
          known = same.known_there;
          upper = same.upper_there;
          known_there = same.known_there;
          upper_there = same.upper_there;
          number = refl;
        } in
        are.figures.alarms.each a same.known
        ∙ ap alarm_figures
        (alarms_same S B p mode arrivals shows a c same n are.seen are.ticks
        ∙ sym (alarms_same B B p mode arrivals shows_there c c there n other.seen other.ticks))
        ∙ sym (other.figures.alarms.each c same.known_there)

    same_above : AreTheSameAbove S B p f g
    same_above = record {
      ticks =
          are.figures.ticks
          ∙ ap capped (length_is S mode arrivals n are.seen are.ticks
          ∙ sym (length_is B mode arrivals n other.seen other.ticks))
          ∙ sym other.figures.ticks;
      last =
          are.figures.last ∙ last_same S B p mode arrivals shows n are.seen are.ticks
          ∙ sym (last_same B B p mode arrivals shows_there n other.seen other.ticks)
          ∙ sym other.figures.last;
      tasks = tasks_are;
      routines = routines_are;
      resources = declared_are;
      scheduler = scheduler_are;
      alarms = alarms_are;
    }

-- ---- the laws

figures_same : (S B : System) (p : ℕ) → AreOneAbove S B p → FiguresAreTheSame S B p
figures_same S B p pair mode arrivals n f g are other =
    same_above S B p pair mode arrivals n f g are other

pub everywhere : (IsTheSame : System → System → ℕ → Type 0)
    → ((S B : System) (p : ℕ) → AreOneAbove S B p → IsTheSame S B p)
    → (S : System) (p : ℕ) → IsProper S → Separable S p → IsTheSameEverywhere IsTheSame S p
everywhere IsTheSame others S p proper separable = record {
  part = others S (upper_part S p) p (with_part S p proper separable);
  others = λ B pair. others S B p pair;
}

pub figures_everywhere : (S : System) (p : ℕ) → IsProper S → Separable S p
    → IsTheSameEverywhere FiguresAreTheSame S p
figures_everywhere = everywhere FiguresAreTheSame figures_same

-- what follows where an answer is Ok
pub where_ok : {T E X : Type 0} (answer : Result T E) → (IsOk answer → X) → OnOk answer X
where_ok (Ok done) follows = follows refl
where_ok (Err fault) follows = tt
