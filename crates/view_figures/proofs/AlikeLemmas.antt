-- Figures of a run after ticks in which the same is seen.
use Rattle.std.proofs.Common.{ℕ, zero, suc, ◌≡◌, ◌+◌, ◌<◌, Bool, true, false, List, cond, length, sym, ◌∙◌, ap, subst, arith}
use Rattle.std.specs.List.{refill, count_by}
use Rattle.std.proofs.lemmas.List.Sums.{sum_by-cons}
use Rattle.osek_base.specs.System.{System}
use Rattle.seen_ticks.specs.declared.observation.Observation.{Observation}
use Rattle.view_figures.specs.declared.task_figures.TaskFigures.{TaskFigures}
use Rattle.view_figures.specs.declared.routine_figures.RoutineFigures.{RoutineFigures}
use Rattle.view_figures.specs.declared.resource_figures.ResourceFigures.{ResourceFigures}
use Rattle.view_figures.specs.declared.alarm_figures.AlarmFigures.{AlarmFigures}
use Rattle.view_figures.specs.Counts.{capped}
use Rattle.seen_ticks.specs.Seen.{numbered}
use Rattle.view_figures.specs.FigureSums.{RunFigures, AreFigures, task_figures, task_tick, routine_tick, holder_tick, alarm_tick, alike, is_idle, last_tick, levels_of, held_count}
use Rattle.view_figures.specs.RoutineSums.{routine_figures}
use Rattle.view_figures.specs.ResourceSums.{resource_figures}
use Rattle.view_figures.specs.AlarmSums.{alarm_figures}
use Rattle.view_figures.specs.Counting.{AreCounted, task_figures_of, routine_figures_of, resource_figures_of, alarm_figures_of}
use Rattle.view_figures.proofs.RowLemmas.{list_row}

-- the lists of a run's figures, and each list as it was lent and as it came back
pub record AreListRows (o : Observation) (first n : ℕ) (old : RunFigures) (levels : List ℕ)
    (tasks new_tasks : List TaskFigures) (routines new_routines : List RoutineFigures)
    (resources new_resources : List ResourceFigures) (alarms new_alarms : List AlarmFigures) : Type 0 where
  pub lent_levels : levels ≡ old.levels
  pub lent_tasks : tasks ≡ old.tasks
  pub lent_routines : routines ≡ old.routines
  pub lent_resources : resources ≡ old.resources
  pub lent_alarms : alarms ≡ old.alarms
  pub task_rows : AreCounted (task_figures_of levels) o first n tasks new_tasks
  pub routine_rows : AreCounted routine_figures_of o first n routines new_routines
  pub resource_rows : AreCounted resource_figures_of o first n resources new_resources
  pub alarm_rows : AreCounted alarm_figures_of o first n alarms new_alarms

length_alike : (o : Observation) (first n : ℕ) (before : List Observation) → length (alike o first n before) ≡ length before + n
length_alike o first zero before = omega arith
length_alike o first (suc n) before =
    let less = length_alike o first n before in
    omega (arith, less)

one_more : (b : Bool) (n count : ℕ) → cond b 1 0 + (count + cond b n 0) ≡ count + cond b (suc n) 0
one_more true n count = omega arith
one_more false n count = omega arith

none : (b : Bool) (count : ℕ) → count ≡ count + cond b 0 0
none true count = omega arith
none false count = omega arith

idle_alike : (o : Observation) (first n : ℕ) (before : List Observation)
    → count_by is_idle (alike o first n before) ≡ count_by is_idle before + cond (is_idle o) n 0
idle_alike o first zero before = none (is_idle o) (count_by is_idle before)
idle_alike o first (suc n) before =
    sum_by-cons (λ p. cond (is_idle p) 1 0) (numbered (first + n) o) (alike o first n before)
    ∙ ap (λ m. cond (is_idle o) 1 0 + m) (idle_alike o first n before) ∙ one_more (is_idle o) n (count_by is_idle before)

capped_more : (n m : ℕ) → capped (capped n + m) ≡ capped (n + m)
capped_more n m = omega arith

last_alike : (o : Observation) (first n last : ℕ) (before : List Observation) → suc last ≡ first + n → 0 < n
    → last ≡ last_tick (alike o first n before)
last_alike o first zero last before e some = absurd (omega (arith, some))
last_alike o first (suc n) last before e some = omega (arith, e)

pub figures_alike : (S : System) (before : List Observation) (o : Observation) (first n : ℕ) (old : RunFigures) (levels : List ℕ)
    (tasks new_tasks : List TaskFigures) (routines new_routines : List RoutineFigures)
    (resources new_resources : List ResourceFigures) (alarms new_alarms : List AlarmFigures) (ticks last idle : ℕ)
    → ticks ≡ capped (old.ticks + n) → suc last ≡ first + n → 0 < n → idle ≡ capped (old.idle + cond (is_idle o) n 0)
    → AreListRows o first n old levels tasks new_tasks routines new_routines resources new_resources alarms new_alarms
    → AreFigures S before old
    → AreFigures S (alike o first n before) (record {
      ticks = ticks;
      last = last;
      idle = idle;
      levels = old.levels;
      tasks = refill (length old.tasks) old.tasks new_tasks;
      routines = refill (length old.routines) old.routines new_routines;
      resources = refill (length old.resources) old.resources new_resources;
      alarms = refill (length old.alarms) old.alarms new_alarms;
    })
figures_alike S before o first n old levels tasks new_tasks routines new_routines resources new_resources alarms new_alarms ticks last idle all ends some idles rows are =
    let all_levels : levels ≡ levels_of S = rows.lent_levels ∙ are.levels in
    let task_rows : AreCounted (task_figures_of (levels_of S)) o first n tasks new_tasks =
    subst (λ ls. AreCounted (task_figures_of ls) o first n tasks new_tasks) all_levels
    rows.task_rows in
    record {
      ticks = all ∙ ap (λ m. capped (m + n)) are.ticks ∙ capped_more (length before) n ∙ sym (ap capped (length_alike o first n before));
      last = last_alike o first n last before ends some;
      idle = idles ∙ ap (λ m. capped (m + cond (is_idle o) n 0)) are.idle ∙ capped_more (count_by is_idle before) (cond (is_idle o) n 0)
          ∙ sym (ap capped (idle_alike o first n before));
      levels = are.levels;
      tasks = list_row (length S.tasks) task_figures (task_tick (levels_of S)) o first n before
          old.tasks tasks new_tasks rows.lent_tasks are.tasks task_rows;
      routines = list_row (length S.routines) routine_figures routine_tick o first n before
          old.routines routines new_routines rows.lent_routines are.routines rows.routine_rows;
      resources = list_row (held_count S) resource_figures holder_tick o first n before
          old.resources resources new_resources rows.lent_resources are.resources rows.resource_rows;
      alarms = list_row (length S.alarms) alarm_figures alarm_tick o first n before
          old.alarms alarms new_alarms rows.lent_alarms are.alarms rows.alarm_rows;
    }
