-- Figures of an alarm, over the ticks that were seen, newest first.
use Rattle.std.specs.Prelude.{ℕ, List, [], ◌∷◌, Option, None, count_by}
use Rattle.view_figures.specs.declared.alarm_figures.AlarmTick.{AlarmTick}
use Rattle.view_figures.specs.declared.alarm_figures.AlarmFigures.{AlarmFigures}
use Rattle.view_figures.specs.Counts.{capped}
use Rattle.view_figures.specs.Reaching.{first_tick}

-- the first tick in which its action was refused
abbrev pub first_refusal : List AlarmTick → Option ℕ
first_refusal [] = None
first_refusal (a ∷ before) = first_tick a.seen.is_refused a.tick (first_refusal before)

-- the expiries, and those whose action was refused
unfoldable pub alarm_figures : List AlarmTick → AlarmFigures
alarm_figures seen = record {
  expiries = capped (count_by (λ a. a.seen.has_expired) seen);
  refused = capped (count_by (λ a. a.seen.is_refused) seen);
  first_refusal = first_refusal seen;
}
