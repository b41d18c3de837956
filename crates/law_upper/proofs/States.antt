-- States that are one from above show the same of the upper part.
use Rattle.std.proofs.Common.{◌≡◌, ℕ, ◌/◌, ◌<◌, true, List, length, refl, sym, ◌∙◌, ap, subst, arith, get_or-take}
use Rattle.std.specs.Prelude.{IsTrue, slice_index}
use Rattle.std.specs.Option.{option_map}
use Rattle.std.proofs.lemmas.List.{length-map}
use Rattle.osek_base.specs.declared.ids.ResId.{ResId}
use Rattle.osek_base.specs.declared.ids.Owner.{Owner}
use Rattle.osek_base.specs.System.{System, alarm, counter_of, task}
use Rattle.osek_base.specs.State.{State, jobs_of, shared_window}
use Rattle.osek_base.specs.Priority.{dynamic_priority}
use Rattle.osek_base.specs.Alarm.{expiry}
use Rattle.osek_base.specs.Service.{task_state}
use Rattle.osek_base.specs.Tick.{before_execution, tick}
use Rattle.osek_base.specs.Trace.{arriving, run}
use Rattle.osek_base.specs.Upper.{is_upper_alarm, is_upper_task}
use Rattle.osek_base.specs.Agree.{rank, is_upper_declared, upper_alarms, upper_core, upper_part, upper_resources, resource}
use Rattle.osek_base.specs.Proper.{IsProper}
use Rattle.osek_base.specs.Separable.{Separable}
use Rattle.partition_check.proofs.UpperState.{up, upper_count}
use Rattle.partition_check.proofs.IsolationLemmas.{Agree-core}
use Rattle.partition_check.proofs.Shared.{IsCounterpart, IsLayered}
use Rattle.partition_check.proofs.Ranks.{rank_less}
use Rattle.partition_check.proofs.Picked.{all_rank}
use Rattle.partition_check.proofs.JobsUp.{jobs_of_length_up}
use Rattle.partition_check.proofs.PriorityUp.{first_tasks}
use Rattle.partition_check.proofs.ResultsUp.{task_state_up}
use Rattle.partition_check.proofs.AlarmsUp.{expiry_up}
use Rattle.partition_check.proofs.SharedUp.{window_up}
use Rattle.partition_check.proofs.ExecutedUp.{own_words}
use Rattle.partition_check.proofs.TickUp.{before_alike}
use Rattle.partition_check.proofs.PartAgrees.{all_upper}
use Rattle.law_upper.specs.Above.{IsUpperTask, IsTheSameResource, IsTheSameAlarm, AreOneAbove}
use Rattle.law_upper.specs.StatesAbove.{oldest_job, but_held, counts_from, counts_left, executes, IsTaskSeenTheSame, IsSeenTheSame, DeclareTheSame, HaveTheSameStates, StatesAreSeenTheSame}
use Rattle.law_upper.proofs.Sides.{IsBeside, both, below, run_beside, one_state, upper_there, of_the_part}
use Rattle.law_upper.proofs.SeenUp.{holder_of, holder_declared, holder_scheduler, oldest_up, priority_up, holder_up, counts_up, task_executes, routine_executes}

-- as many jobs of an upper task are left
left_same : (S B : System) (p t : ℕ) (s b : State) → up S p s ≡ up B p b
    → is_upper_task S p t ≡ true → is_upper_task B p t ≡ true
    → length (jobs_of t s.jobs) ≡ length (jobs_of t b.jobs)
left_same S B p t s b same high high_B =
    sym (jobs_of_length_up S p t s.jobs high)
    ∙ ap (λ (c : State). length (jobs_of t c.jobs)) same
    ∙ jobs_of_length_up B p t b.jobs high_B

module _ (S B : System) (p : ℕ) (pair : AreOneAbove S B p) where
  cores : upper_core S p ≡ upper_core B p
  cores = Agree-core S B p pair.agree

  mine : IsCounterpart S p
  mine = both S p pair.proper pair.separable

  theirs : IsCounterpart B p
  theirs = both B p pair.proper_there pair.separable_there

  pub declare_same : DeclareTheSame S B p
  declare_same =
      record {
        tasks = λ t h.
            let k = upper_there S B p pair t h in
            sym (mine.tasks t (first_tasks S p mine t h.known h.upper))
            ∙ ap (λ C. task C t) cores
            ∙ theirs.tasks t (first_tasks B p theirs t k.known k.upper);
        counters = λ a c h.
            sym (mine.counters a h.known h.upper) ∙ (λ i. counter_of (cores i) (h.number i))
            ∙ theirs.counters c h.known_there h.upper_there;
        actions = λ a c h.
            sym (mine.actions a h.known h.upper)
            ∙ (λ i. (alarm (cores i) (h.number i)).action)
            ∙ theirs.actions c h.known_there h.upper_there;
      }

  module _ (s b : State) (layered : IsLayered S p s) (layered_B : IsLayered B p b)
      (same : up S p s ≡ up B p b) where
    task_seen : (t : ℕ) → IsUpperTask S p t → IsTaskSeenTheSame S B s b t
    task_seen t h =
        let k = upper_there S B p pair t h in
        let first : t < upper_count S p = first_tasks S p mine t h.known h.upper in
        let first_B : t < upper_count B p = first_tasks B p theirs t k.known k.upper in
        record {
          state =
              sym (task_state_up S p mine s t first h.upper) ∙ ap (λ x. task_state x t) same
              ∙ task_state_up B p theirs b t first_B k.upper;
          jobs = left_same S B p t s b same h.upper k.upper;
          oldest =
              sym (oldest_up S p mine pair.proper s layered t h.upper)
              ∙ ap (λ x. option_map but_held (oldest_job x t)) same
              ∙ oldest_up B p theirs pair.proper_there b layered_B t k.upper;
          priority =
              sym (priority_up S p mine pair.proper s layered t h.upper)
              ∙ (λ i. option_map (dynamic_priority (cores i)) (oldest_job (same i) t))
              ∙ priority_up B p theirs pair.proper_there b layered_B t k.upper;
          events =
              sym (get_or-take (upper_count S p) s.masks t 0 first)
              ∙ ap (λ (x : State). slice_index x.masks t) same
              ∙ get_or-take (upper_count B p) b.masks t 0 first_B;
          words =
              sym (own_words S p s.words (Owner.Task t) h.upper)
              ∙ ap (λ (x : State). x.words (Owner.Task t)) same
              ∙ own_words B p b.words (Owner.Task t) k.upper;
          executes =
              sym (task_executes S p mine pair.proper s layered t h.upper)
              ∙ ap (λ x. executes x (Owner.Task t)) same
              ∙ task_executes B p theirs pair.proper_there b layered_B t k.upper;
        }

    expiry_same : (a c : ℕ) → IsTheSameAlarm S B p a c → expiry s a ≡ expiry b c
    expiry_same a c h =
        sym (expiry_up S p mine s a h.known h.upper)
        ∙ (λ i. expiry (same i) (h.number i))
        ∙ expiry_up B p theirs b c h.known_there h.upper_there

    pub seen_same : IsSeenTheSame S B p s b
    seen_same =
        record {
          tasks = task_seen;
          active = ap (λ (x : State). x.active) same;
          pending = ap (λ (x : State). x.pending) same;
          routine_words = λ i. ap (λ (x : State). x.words (Owner.Routine i)) same;
          routine_executes = λ i.
              sym (routine_executes S p mine pair.proper s layered i)
              ∙ ap (λ x. executes x (Owner.Routine i)) same
              ∙ routine_executes B p theirs pair.proper_there b layered_B i;
          disabled = ap (λ (x : State). x.disabled) same;
          suspended_all = ap (λ (x : State). x.suspended_all) same;
          suspended_os = ap (λ (x : State). x.suspended_os) same;
          holders = λ r q h.
              holder_declared S s r h.known
              ∙ sym (holder_up S p mine pair.proper s layered (ResId.Declared r) h.upper)
              ∙ (λ i. holder_of (cores i) (same i) (ResId.Declared (h.number i)))
              ∙ holder_up B p theirs pair.proper_there b layered_B (ResId.Declared q) h.upper_there
              ∙ sym (holder_declared B b q h.known_there);
          scheduler =
              holder_scheduler S s
              ∙ sym (holder_up S p mine pair.proper s layered ResId.Scheduler refl)
              ∙ (λ i. holder_of (cores i) (same i) ResId.Scheduler)
              ∙ holder_up B p theirs pair.proper_there b layered_B ResId.Scheduler refl
              ∙ sym (holder_scheduler B b);
          shared = λ r q h.
              sym (window_up S p mine s r h.known h.upper)
              ∙ (λ i. shared_window (same i).shared (h.number i))
              ∙ window_up B p theirs b q h.known_there h.upper_there;
          expiries = expiry_same;
          counts = λ a c h.
              sym (counts_up S p mine pair.proper s layered a h.known h.upper)
              ∙ (λ i. counts_left (cores i) (same i) (h.number i))
              ∙ counts_up B p theirs pair.proper_there b layered_B c h.known_there h.upper_there;
          counts_at = λ a c u h.
              let same_expiry : expiry s a ≡ expiry b c = expiry_same a c h in
              let same_counter : counter_of S a ≡ counter_of B c = declare_same.counters a c h in
              λ i. counts_from (u / (same_counter i).ticks_per_base) (same_expiry i);
          tick = ap (λ (x : State). x.tick) same;
          over = ap (λ (x : State). x.over) same;
        }

  -- what stands beside one state of the core is seen the same
  beside_same : (s b c d : State) → IsBeside S p s c → IsBeside B p b d → c ≡ d
      → IsSeenTheSame S B p s b
  beside_same s b c d h k same =
      seen_same s b h.layered k.layered (one_state S B p s b c d h k same)

-- ---- where the instruction of a tick is executed

module _ (S : System) (p : ℕ) (proper : IsProper S) (separable : Separable S p) where
  pub executing_beside : (arrived : List ℕ) (s c : State) → IsBeside S p s c
      → IsBeside S p (tick S arrived s).executing (tick (upper_core S p) arrived c).executing
  unfolding tick
  executing_beside arrived s c beside =
      let alike = before_alike S p (both S p proper separable)
      (below S p proper separable) proper separable arrived s beside.layered in
      record {
        layered = alike.layered;
        state =
            ap (λ x. (before_execution (upper_core S p) arrived x).state) beside.state
            ∙ sym alike.state;
      }

pub same_states : (S B : System) (p : ℕ) → AreOneAbove S B p → HaveTheSameStates S B p
same_states S B p pair =
    let one : upper_core S p ≡ upper_core B p = Agree-core S B p pair.agree in
    record {
      declared = declare_same S B p pair;
      between = λ mode arrivals n.
          beside_same S B p pair
          (run S mode arrivals n).state (run B mode arrivals n).state
          (run (upper_core S p) mode arrivals n).state (run (upper_core B p) mode arrivals n).state
          (run_beside S p pair.proper pair.separable mode arrivals n)
          (run_beside B p pair.proper_there pair.separable_there mode arrivals n)
          (ap (λ C. (run C mode arrivals n).state) one);
      executing = λ mode arrivals n.
          beside_same S B p pair
          (tick S (arriving arrivals n) (run S mode arrivals n).state).executing
          (tick B (arriving arrivals n) (run B mode arrivals n).state).executing
          (tick (upper_core S p) (arriving arrivals n)
          (run (upper_core S p) mode arrivals n).state).executing
          (tick (upper_core B p) (arriving arrivals n)
          (run (upper_core B p) mode arrivals n).state).executing
          (executing_beside S p pair.proper pair.separable (arriving arrivals n)
          (run S mode arrivals n).state (run (upper_core S p) mode arrivals n).state
          (run_beside S p pair.proper pair.separable mode arrivals n))
          (executing_beside B p pair.proper_there pair.separable_there (arriving arrivals n)
          (run B mode arrivals n).state (run (upper_core B p) mode arrivals n).state
          (run_beside B p pair.proper_there pair.separable_there mode arrivals n))
          (ap (λ C. (tick C (arriving arrivals n) (run C mode arrivals n).state).executing) one);
    }

-- ---- the numbers of the upper part by itself

module _ (S : System) (p : ℕ) (proper : IsProper S) (separable : Separable S p) where
  pub part_resource : (r : ℕ) → r < length S.resources → IsTrue (is_upper_declared S p r)
      → IsTheSameResource S (upper_part S p) p r (rank (is_upper_declared S p) r)
  part_resource r inside high =
      let whole = all_upper S p proper separable in
      let new : ℕ = rank (is_upper_declared S p) r in
      let there : new < length (upper_part S p).resources =
      subst (λ n. new < n) (sym (length-map (upper_resources S p) (resource S)))
      (rank_less (is_upper_declared S p) r (length S.resources) inside high) in
      record {
        known = inside;
        upper = high;
        known_there = there;
        upper_there = whole.resources new there;
        number =
            sym (all_rank (is_upper_declared (upper_part S p) p)
            (length (upper_part S p).resources) new whole.resources (omega (arith, there)));
      }

  part_alarm : (a : ℕ) → a < length S.alarms → IsTrue (is_upper_alarm S p a)
      → IsTheSameAlarm S (upper_part S p) p a (rank (is_upper_alarm S p) a)
  part_alarm a inside high =
      let whole = all_upper S p proper separable in
      let new : ℕ = rank (is_upper_alarm S p) a in
      let there : new < length (upper_part S p).alarms =
      subst (λ n. new < n) (sym (length-map (upper_alarms S p) (alarm S)))
      (rank_less (is_upper_alarm S p) a (length S.alarms) inside high) in
      record {
        known = inside;
        upper = high;
        known_there = there;
        upper_there = whole.alarms new there;
        number =
            sym (all_rank (is_upper_alarm (upper_part S p) p)
            (length (upper_part S p).alarms) new whole.alarms (omega (arith, there)));
      }

pub states_are_seen_the_same : StatesAreSeenTheSame
states_are_seen_the_same =
    record {
      states = of_the_part HaveTheSameStates same_states;
      numbers = λ S p proper separable.
          record {
            resources = part_resource S p proper separable;
            alarms = part_alarm S p proper separable;
          };
    }
