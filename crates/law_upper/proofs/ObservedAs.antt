-- Observations of a run that tell as many blockers as those of another run, and are else its own.
use Rattle.std.proofs.Common.{◌≡◌, ℕ, zero, suc, ◌<◌, cond, List, [], ◌∷◌, map, refl, sym, ◌∙◌, ap, ap₂, Bool, false, arith}
use Rattle.std.specs.Prelude.{IfSome, None, Option, Some}
use Rattle.std.proofs.lemmas.Simd.{map-map}
use Rattle.osek_base.specs.declared.arrivals.Arrival.{Arrival}
use Rattle.osek_base.specs.BlockingText.{blockers_at}
use Rattle.osek_base.specs.System.{System}
use Rattle.osek_base.specs.Trace.{run}
use Rattle.seen_ticks.specs.declared.observation.Observation.{Observation}
use Rattle.view_figures.specs.declared.task_tick.TaskTick.{TaskTick}
use Rattle.view_figures.specs.FigureSums.{is_task, last_tick, levels_of, task_figures, task_tick}
use Rattle.view_figures.specs.TaskSums.{more_blockers, most_blockers, task_counts}
use Rattle.law_figures.specs.RunFigures.{AreTicksOf, IsTickOf}
use Rattle.law_figures.specs.Telling.{TellBlockers}
use Rattle.law_upper.proofs.Bare.{bare_task}
use Rattle.law_upper.proofs.Observed.{observed_at, observed_before}

-- ---- figures of a task by the blockers that are told

blockers_of : (seen : List TaskTick) → (task_figures seen).counts.blockers ≡ most_blockers seen
unfolding task_figures task_counts
blockers_of seen = refl

pub task_blockers_same : (seen others : List TaskTick) → most_blockers seen ≡ most_blockers others
    → (task_figures seen).counts.blockers ≡ (task_figures others).counts.blockers
task_blockers_same seen others same = blockers_of seen ∙ same ∙ sym (blockers_of others)

-- ---- observations of S that tell blockers as those of P do

module _ (P S : System) (mode : ℕ) (arrivals : List Arrival) where
  abbrev pub observed_as : ℕ → List Observation → List Observation
  observed_as zero seen = []
  observed_as (suc n) [] = []
  observed_as (suc n) (o ∷ before) =
      record (observed_at S mode arrivals n) { blockers = o.blockers } ∷ observed_as n before

  pub are_ticks_as : (n : ℕ) (seen : List Observation) → AreTicksOf P mode arrivals n seen
      → ((i : ℕ) → i < n → (run S mode arrivals i).state.over ≡ false)
      → AreTicksOf S mode arrivals n (observed_as n seen)
  are_ticks_as zero seen are going = tt
  are_ticks_as (suc n) [] are going = absurd are
  are_ticks_as (suc n) (o ∷ before) are going = (
    record {
      number = refl;
      going = going n (omega arith);
      seen = record {
        executor = refl;
        answered = refl;
        failure = refl;
        tasks = refl;
        routines = refl;
        holders = refl;
        alarms = refl;
      };
    },
    are_ticks_as n before are.1 (λ i low. going i (omega (arith, low))),
  )

  pub last_as : (n : ℕ) (seen : List Observation) → AreTicksOf P mode arrivals n seen
      → last_tick seen ≡ last_tick (observed_as n seen)
  last_as zero [] are = refl
  last_as zero (o ∷ before) are = absurd are
  last_as (suc n) [] are = absurd are
  last_as (suc n) (o ∷ before) are = are.0.number

  -- what doesn't go by blockers
  module _ {T : Type 0} (tick : Observation → T)
      (ignores : (o : Observation) (told : Option ℕ)
      → tick (record o { blockers = told }) ≡ tick o) where
    pub all_as : (n : ℕ) (seen : List Observation) → AreTicksOf P mode arrivals n seen
        → map tick (observed_before S mode arrivals n) ≡ map tick (observed_as n seen)
    all_as zero seen are = refl
    all_as (suc n) [] are = absurd are
    all_as (suc n) (o ∷ before) are =
        ap₂ (λ (t : T) ts. t ∷ ts) (sym (ignores (observed_at S mode arrivals n) o.blockers))
        (all_as n before are.1)

  pub bare_as : (t n : ℕ) (seen : List Observation) → AreTicksOf P mode arrivals n seen
      → map bare_task (map (λ o. task_tick (levels_of S) o t) (observed_before S mode arrivals n))
      ≡ map bare_task (map (λ o. task_tick (levels_of S) o t) (observed_as n seen))
  bare_as t n seen are =
      let tick = λ (o : Observation). task_tick (levels_of S) o t in
      map-map bare_task tick (observed_before S mode arrivals n)
      ∙ all_as (λ o. bare_task (tick o)) (λ o told. refl) n seen are
      ∙ sym (map-map bare_task tick (observed_as n seen))

  -- the numbers of blockers that are told of a task that executes in the same ticks
  module _ (t : ℕ) (alike : (n : ℕ) (o : Observation) → IsTickOf P mode arrivals n o
      → is_task o.executor t ≡ is_task (observed_at S mode arrivals n).executor t) where
    pub blockers_as : (n : ℕ) (seen : List Observation) → AreTicksOf P mode arrivals n seen
        → most_blockers (map (λ o. task_tick (levels_of P) o t) seen)
        ≡ most_blockers (map (λ o. task_tick (levels_of S) o t) (observed_as n seen))
    blockers_as zero [] are = refl
    blockers_as zero (o ∷ before) are = absurd are
    blockers_as (suc n) [] are = absurd are
    blockers_as (suc n) (o ∷ before) are =
        ap₂ more_blockers (ap (λ (b : Bool). cond b o.blockers None) (alike n o are.0))
        (blockers_as n before are.1)

  pub told_as : ((n : ℕ) → (run P mode arrivals n).state.over ≡ false → (m : ℕ)
      → blockers_at P mode arrivals n ≡ Some m → blockers_at S mode arrivals n ≡ Some m)
      → (n : ℕ) (seen : List Observation) → AreTicksOf P mode arrivals n seen
      → TellBlockers P mode arrivals seen → TellBlockers S mode arrivals (observed_as n seen)
  told_as there zero seen are told = tt
  told_as there (suc n) [] are told = absurd are
  told_as there (suc n) (o ∷ before) are told =
      (one o.blockers told.0, told_as there n before are.1 told.1)
    where
      one : (number : Option ℕ) → IfSome number (λ m. blockers_at P mode arrivals o.tick ≡ Some m)
          → IfSome number (λ m. blockers_at S mode arrivals n ≡ Some m)
      one None is = tt
      one (Some m) is =
          there n are.0.going m (ap (blockers_at P mode arrivals) (sym are.0.number) ∙ is)
