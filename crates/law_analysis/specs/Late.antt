-- OSEK/VDX OS: interrupt processing, category 2. Latencies less the routine itself: its own
-- instructions lie in the window in which its interrupt is pending.
use Rattle.std.specs.Prelude.{ℕ, suc, ◌-◌, ◌≡◌, ◌<◌, true, false, List, length}
use Rattle.osek_base.specs.Proper.{IsProper}
use Rattle.osek_base.specs.System.{System}
use Rattle.arrival_rules.specs.declared.rule.ArrivalRule.{ArrivalRule}
use Rattle.law_windows.specs.Analysis.{IsBoundOf}
use Rattle.law_windows.specs.Routines.{begun}
use Rattle.law_windows.specs.Work.{goes_at}
use Rattle.law_costs.specs.Left.{on}
use Rattle.law_nodes.specs.Closed.{is_closed}
use Rattle.law_nodes.specs.Nodes.{Table}
use Rattle.law_analysis.specs.Lengths.{Lasts}
use Rattle.law_analysis.specs.Told.{StartsBefore, may_end}

-- where no window of a level has more than so many ticks and no run ends, an interrupt of a routine
-- of the level is pending for no more than so many, less the instructions that the routine executes
abbrev pub LongRoutinesStartEarly : Type 0
LongRoutinesStartEarly =
    (S : System) (mode : ℕ) (rules : List ArrivalRule) (table : Table) (p most i count : ℕ)
    → IsProper S → is_closed S table ≡ true → may_end S table ≡ false
    → i < length S.routines → goes_at S p i ≡ true → IsBoundOf S mode rules p most
    → Lasts S count on (begun i)
    → StartsBefore S mode rules (suc (most - count)) i
