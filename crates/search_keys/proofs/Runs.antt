-- What is kept of a standing state is in range, and so of the states of runs.
use Rattle.std.proofs.Common.{ℕ, ◌≡◌, ◌≤◌, Bool, true, false, List, [], ◌∷◌, map, length, refl, ap, arith}
use Rattle.std.specs.Prelude.{Option, Some, None, IfSome, nat_le, ◌&&◌, ◌==◌}
use Rattle.std.specs.List.{AllByRecursion}
use Rattle.std.proofs.lemmas.Bool.{leb-true, and_parts}
use Rattle.std.proofs.lemmas.List.{get_or_past}
use Rattle.osek_base.specs.declared.limits.TheConstants.{MAX_TASK_PRIORITY}
use Rattle.osek_base.specs.Ceiling.{top_priority}
use Rattle.osek_base.specs.Lists.{greatest}
use Rattle.osek_base.specs.Proper.{IsProper, are_falling}
use Rattle.osek_base.specs.State.{Job, Active, State, jobs_of}
use Rattle.osek_base.specs.System.{System, Task, activation_of, no_task}
use Rattle.osek_base.specs.Trace.{run}
use Rattle.law_runs.proofs.Formed.{HasActive, IsPlacedJob}
use Rattle.law_runs.proofs.FormedTick.{run_form}
use Rattle.law_runs.proofs.Lists.{all_kept}
use Rattle.law_runs.proofs.RankedTick.{IsRunState, run_ordered}
use Rattle.law_kept.specs.Kept.{unbegun, slot_of, kept}
use Rattle.law_kept.specs.Standing.{IsStanding}
use Rattle.law_kept.proofs.Fitting.{fits_where_standing}
use Rattle.law_future.specs.Relative.{AreAhead}
use Rattle.law_future.proofs.Ahead.{always_ahead}
use Rattle.search_keys.specs.InRange.{HasRegisters, IsInRange, RunsAreInRange}
use Rattle.search_keys.proofs.Windows.{AreWindows, run_windows}

-- ---- slots

none_kept : (jobs : List Job) → (slot_of jobs).count ≡ 0 → slot_of jobs ≡ unbegun 0
none_kept [] none = refl
none_kept (j ∷ js) none = absurd (omega (arith, none))

count_is : (jobs : List Job) → (slot_of jobs).count ≡ length jobs
count_is [] = refl
count_is (j ∷ js) = refl

its_registers : (S : System) (jobs : List Job) → AllByRecursion (IsPlacedJob S) jobs
    → HasRegisters (slot_of jobs).context
its_registers S [] placed = refl
its_registers S (j ∷ js) placed = placed.0.context.registers

routine_registers : (S : System) (active : Option Active) → HasActive S active
    → IfSome active (λ a. HasRegisters a.context)
routine_registers S None placed = tt
routine_registers S (Some a) placed = placed.context.registers

-- ---- levels

first_of : (f t r m c a : Bool) → (f && t && r && m && c && a) ≡ true → f ≡ true
first_of true t r m c a h = refl
first_of false t r m c a h = h

falling_low : (limit : ℕ) (tasks : List Task) → are_falling limit tasks ≡ true
    → greatest (map (λ a. a.priority) tasks) ≤ limit
falling_low limit [] falling = omega arith
falling_low limit (a ∷ rest) falling =
    let both = and_parts (nat_le a.priority limit) (are_falling a.priority rest) falling in
    let here = leb-true a.priority limit both.0 in
    let lower = falling_low a.priority rest both.1 in
    omega (arith, here, lower)

top_low : (S : System) → IsProper S → top_priority S ≤ MAX_TASK_PRIORITY
top_low S proper =
    falling_low MAX_TASK_PRIORITY S.tasks
    (first_of (are_falling MAX_TASK_PRIORITY S.tasks) _ _ _ _ _ proper.objects)

-- ---- runs

module _ (S : System) (s : State) (standing : IsStanding S s) where
  none_beyond : (t : ℕ) → length S.tasks ≤ t → (slot_of (jobs_of t s.jobs)).count ≡ 0
  none_beyond t high =
      let few = standing.form.formed.limited t in
      let is = count_is (jobs_of t s.jobs) in
      let none : activation_of S t ≡ 0 =
      ap (λ (a : Task). a.activation) (get_or_past S.tasks t no_task high) in
      omega (arith, few, is, none)

  standing_in_range : AreWindows (length S.resources) s.shared → AreAhead S (kept S s)
      → IsInRange S (kept S s)
  standing_in_range windows ahead = record {
    unused = λ t. none_kept (jobs_of t s.jobs);
    tasks = none_beyond;
    registers = λ t.
        its_registers S (jobs_of t s.jobs)
        (all_kept (IsPlacedJob S) (λ j. j.id.task == t) s.jobs standing.form.formed.jobs);
    active = routine_registers S s.active standing.form.active;
    levels = λ l high.
        let low = top_low S standing.proper in
        (fits_where_standing S s standing).high l (omega (arith, low, high));
    pending = standing.form.pending;
    masks = standing.form.formed.masks;
    shared = windows.count;
    windows = windows.sizes;
    ahead = ahead;
  }

pub runs_are_in_range : RunsAreInRange
runs_are_in_range S mode arrivals n proper =
    let good : IsRunState S (run S mode arrivals n).state = run_ordered S proper mode arrivals n in
    standing_in_range S (run S mode arrivals n).state
    (record {
      proper = proper;
      single = good.single;
      ranked = good.ordered.ranked;
      form = run_form S proper mode arrivals n;
    })
    (run_windows S mode arrivals n) (always_ahead S mode arrivals n proper)
