-- Labels over the observations of a run are those over what its ticks show.
use Rattle.std.proofs.Common.{ℕ, zero, suc, ◌≡◌, ◌<◌, ◌≤◌, ◌^◌, List, [], ◌∷◌, map, length, Option, None, refl, sym, ◌∙◌, ap, subst, arith}
use Rattle.std.specs.Prelude.{slice_index_or}
use Rattle.std.specs.List.{AllByRecursion}
use Rattle.osek_base.specs.declared.arrivals.Arrival.{Arrival}
use Rattle.osek_base.specs.Proper.{IsProper}
use Rattle.osek_base.specs.System.{System}
use Rattle.seen_ticks.specs.declared.observation.Observation.{Observation}
use Rattle.law_future.proofs.Tables.{table_at}
use Rattle.law_seen.specs.Shown.{IsShown, kept_tick_at, task_seen_in, routine_seen_in}
use Rattle.law_seen.proofs.Shown.{seen_is_shown}
use Rattle.view_figures.specs.declared.task_tick.TaskTick.{TaskTick}
use Rattle.view_figures.specs.declared.routine_figures.RoutineTick.{RoutineTick}
use Rattle.view_figures.specs.declared.resource_figures.HolderTick.{HolderTick}
use Rattle.view_figures.specs.declared.task_figures.TaskFigures.{TaskFigures}
use Rattle.view_figures.specs.declared.routine_figures.RoutineFigures.{RoutineFigures}
use Rattle.view_figures.specs.declared.resource_figures.ResourceFigures.{ResourceFigures}
use Rattle.seen_ticks.specs.Seen.{unseen_routine, unseen_task}
use Rattle.view_figures.specs.FigureSums.{RunFigures, held_count, holder_tick, levels_of, routine_tick, task_figures, task_tick}
use Rattle.view_figures.specs.ResourceSums.{resource_figures}
use Rattle.view_figures.specs.ResponseSums.{response_figures}
use Rattle.view_figures.specs.RoutineSums.{routine_figures}
use Rattle.law_figures.specs.Labels.{Label, label_after, AreNumbered, IsAtMost, IsWithin, NoneShowsMore}
use Rattle.law_figures.specs.Ages.{ages, leaving_age, tick_of}
use Rattle.law_figures.specs.Pending.{pending, start_latency, tick_of as routine_tick_of}
use Rattle.law_figures.specs.Holding.{Hold, holding, held_ticks}
use Rattle.law_figures.specs.Seen.{AgesAgree, PendingAgrees, HoldsAgree}
use Rattle.law_figures.proofs.Ages.{responses_are_ages}
use Rattle.law_figures.proofs.Pending.{latencies_are_ages}
use Rattle.law_figures.proofs.Holding.{holds_are_labels}
use Rattle.law_figures.proofs.Seen.{labels_go_by_seen}
use Rattle.law_figures.specs.RunFigures.{IsTickOf, AreTicksOf, task_ticks, routine_ticks, holder_ticks, label_before, NoneMoreBefore, AreRunFigures}

module _ (S : System) (mode : ℕ) (arrivals : List Arrival) where
  -- ---- a label over observations, where each shows and leaves what its tick does

  module _ {T L : Type 0} (label : Label T L) (show : T → L → Option ℕ) (tick : Observation → T)
      (ticks : ℕ → T)
      (next : (n : ℕ) (o : Observation) → IsTickOf S mode arrivals n o → (l : L)
      → label.next (tick o) l ≡ label.next (ticks n) l)
      (shown : (n : ℕ) (o : Observation) → IsTickOf S mode arrivals n o → (l : L)
      → show (tick o) l ≡ show (ticks n) l) where
    pub same_label : (n : ℕ) (seen : List Observation) → AreTicksOf S mode arrivals n seen
        → label_after label (map tick seen) ≡ label_before label ticks n
    same_label zero [] are = refl
    same_label zero (o ∷ before) are = absurd are
    same_label (suc n) [] are = absurd are
    same_label (suc n) (o ∷ before) are =
        next n o are.0 (label_after label (map tick before))
        ∙ ap (label.next (ticks n)) (same_label n before are.1)

    pub none_more : (m n : ℕ) (seen : List Observation) → AreTicksOf S mode arrivals n seen
        → NoneMoreBefore label show ticks m n → NoneShowsMore label show m (map tick seen)
    none_more m zero [] are none = tt
    none_more m zero (o ∷ before) are none = absurd are
    none_more m (suc n) [] are none = absurd are
    none_more m (suc n) (o ∷ before) are none =
        let same : show (tick o) (label_after label (map tick before))
        ≡ show (ticks n) (label_before label ticks n) =
        shown n o are.0 (label_after label (map tick before))
        ∙ ap (show (ticks n)) (same_label n before are.1) in (
          subst (IsAtMost m) (sym same) (none n (omega arith)),
          none_more m n before are.1 (λ i low. none i (omega (arith, low))),
        )

  -- ---- the numbers of ticks

  module _ {T : Type 0} (number : T → ℕ) (tick : Observation → T)
      (same : (o : Observation) → number (tick o) ≡ o.tick) where
    pub numbered : (n : ℕ) (seen : List Observation) → AreTicksOf S mode arrivals n seen
        → AreNumbered number (map tick seen)
    numbered zero [] are = tt
    numbered zero (o ∷ before) are = absurd are
    numbered (suc n) [] are = absurd are
    numbered (suc zero) (o ∷ []) are = tt
    numbered (suc (suc n)) (o ∷ []) are = absurd are.1
    numbered (suc zero) (o ∷ (u ∷ before)) are = absurd are.1
    numbered (suc (suc n)) (o ∷ (u ∷ before)) are =
        let one : o.tick ≡ suc n = are.0.number in
        let other : u.tick ≡ n = are.1.0.number in (
          same o ∙ one ∙ ap suc (sym other)
              ∙ ap suc (sym (same u)),
          numbered (suc n) (u ∷ before) are.1,
        )

    pub all_small : (n : ℕ) (seen : List Observation) → AreTicksOf S mode arrivals n seen
        → n ≤ 2 ^ 32
        → AllByRecursion (λ t. number t < 2 ^ 32) (map tick seen)
    all_small zero [] are small = tt
    all_small zero (o ∷ before) are small = absurd are
    all_small (suc n) [] are small = absurd are
    all_small (suc n) (o ∷ before) are small =
        let one : number (tick o) ≡ n = same o ∙ are.0.number in
        (omega (arith, one, small), all_small n before are.1 (omega (arith, small)))

  -- ---- what an observation has of each thing

  module _ (proper : IsProper S) (n : ℕ) (o : Observation) (is : IsTickOf S mode arrivals n o) where
    pub shows : IsShown S (kept_tick_at S mode arrivals n) o
    shows = seen_is_shown S mode arrivals n o proper is.going is.seen

    pub task_seen : (k : ℕ) → k < length S.tasks
        → (task_tick (levels_of S) o k).seen ≡ (task_ticks S mode arrivals k n).seen
    task_seen k low =
        ap (λ xs. slice_index_or xs k unseen_task) shows.tasks
        ∙ table_at (task_seen_in S (kept_tick_at S mode arrivals n))
        (length S.tasks) k unseen_task low

    pub routine_seen : (k : ℕ) → k < length S.routines
        → (routine_tick o k).seen ≡ (routine_ticks S mode arrivals k n).seen
    routine_seen k low =
        ap (λ xs. slice_index_or xs k unseen_routine) shows.routines
        ∙ table_at (routine_seen_in (kept_tick_at S mode arrivals n))
        (length S.routines) k unseen_routine low

    holder_seen : (k : ℕ) → (holder_tick o k).holder ≡ (holder_ticks S mode arrivals k n).holder
    holder_seen k = ap (λ xs. slice_index_or xs k None) shows.holders

    pub task_agrees : (k : ℕ) → k < length S.tasks → (old : List ℕ)
        → AgesAgree (task_tick (levels_of S) o k) (task_ticks S mode arrivals k n) old
    task_agrees k low old = labels_go_by_seen.ages (task_tick (levels_of S) o k)
        (task_ticks S mode arrivals k n) old (task_seen k low)

    pub routine_agrees : (k : ℕ) → k < length S.routines → (age : Option ℕ)
        → PendingAgrees (routine_tick o k) (routine_ticks S mode arrivals k n) age
    routine_agrees k low age = labels_go_by_seen.pending (routine_tick o k)
        (routine_ticks S mode arrivals k n) age (routine_seen k low)

    holder_agrees : (k : ℕ) (hold : Hold)
        → HoldsAgree (holder_tick o k) (holder_ticks S mode arrivals k n) hold
    holder_agrees k hold =
        labels_go_by_seen.holds (holder_tick o k) (holder_ticks S mode arrivals k n) hold
        (holder_seen k)

-- ---- the law

pub responses_of : (seen : List TaskTick) → (task_figures seen).responses ≡ response_figures seen
unfolding task_figures
responses_of seen = refl

module _ (S : System) (mode : ℕ) (arrivals : List Arrival) (n : ℕ) (f : RunFigures)
    (are : AreRunFigures S mode arrivals n f) where
  pub responses_within : (k m : ℕ) → k < length S.tasks
      → NoneMoreBefore ages leaving_age (task_ticks S mode arrivals k) m n
      → IsWithin m (slice_index_or f.tasks k (task_figures [])).responses.spread.greatest
  responses_within k m low none =
      let tick = λ (o : Observation). task_tick (levels_of S) o k in
      let seen : List TaskTick = map tick are.seen in
      let greatest = responses_are_ages seen
      (numbered S mode arrivals tick_of tick (λ o. refl) n are.seen are.ticks) in
      let same : (slice_index_or f.tasks k (task_figures [])).responses ≡ response_figures seen =
      ap (λ (g : TaskFigures). g.responses) (are.figures.tasks.each k low)
      ∙ responses_of seen in
      subst (λ r. IsWithin m r.spread.greatest) (sym same)
      (greatest.within m
      (none_more S mode arrivals ages leaving_age tick (task_ticks S mode arrivals k)
      (λ i o is old. (task_agrees S mode arrivals are.proper i o is k low old).next)
      (λ i o is old. (task_agrees S mode arrivals are.proper i o is k low old).leaving)
      m n are.seen are.ticks none))

  pub latencies_within : (k m : ℕ) → k < length S.routines
      → NoneMoreBefore pending start_latency (routine_ticks S mode arrivals k) m n
      → IsWithin m (slice_index_or f.routines k (routine_figures [])).latency
  latencies_within k m low none =
      let tick = λ (o : Observation). routine_tick o k in
      let seen : List RoutineTick = map tick are.seen in
      let greatest =
      latencies_are_ages seen (numbered S mode arrivals routine_tick_of tick
      (λ o. refl) n are.seen are.ticks)
      (all_small S mode arrivals routine_tick_of tick
      (λ o. refl) n are.seen are.ticks are.small) in
      subst (λ (g : RoutineFigures). IsWithin m g.latency) (sym (are.figures.routines.each k low))
      (greatest.within m
      (none_more S mode arrivals pending start_latency tick (routine_ticks S mode arrivals k)
      (λ i o is age. (routine_agrees S mode arrivals are.proper i o is k low age).next)
      (λ i o is age. (routine_agrees S mode arrivals are.proper i o is k low age).latency)
      m n are.seen are.ticks none))

  pub holds_within : (k m : ℕ) → k < held_count S
      → NoneMoreBefore holding held_ticks (holder_ticks S mode arrivals k) m n
      → IsWithin m (slice_index_or f.resources k (resource_figures [])).longest
  holds_within k m low none =
      let tick = λ (o : Observation). holder_tick o k in
      let seen : List HolderTick = map tick are.seen in
      let greatest = holds_are_labels seen in
      subst (λ (g : ResourceFigures). IsWithin m g.longest) (sym (are.figures.resources.each k low))
      (greatest.within m
      (none_more S mode arrivals holding held_ticks tick (holder_ticks S mode arrivals k)
      (λ i o is hold. (holder_agrees S mode arrivals are.proper i o is k hold).next)
      (λ i o is hold. (holder_agrees S mode arrivals are.proper i o is k hold).held)
      m n are.seen are.ticks none))
