-- OSEK/VDX OS: resource management, priority inversion. For how many ticks a task's oldest job has
-- been blocked, over the ticks that were seen, newest first.
use Rattle.std.specs.Prelude.{List}
use Rattle.view_figures.specs.declared.task_tick.TaskTick.{TaskTick}
use Rattle.view_figures.specs.Counts.{capped}
use Rattle.law_figures.specs.Blocking.{blocking}
use Rattle.law_figures.specs.Labels.{label_after}
use Rattle.law_bounds.specs.Showing.{most_of}
use Rattle.search_witnesses.specs.declared.blocked.BlockedTicks.{BlockedTicks}

unfoldable pub blocked_ticks : List TaskTick → BlockedTicks
blocked_ticks seen =
    record { so_far = capped (label_after blocking seen); most = most_of seen }
