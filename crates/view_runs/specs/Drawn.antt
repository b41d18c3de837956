-- The picture of a run.
use Rattle.std.specs.Prelude.{ℕ, ◌≡◌, ◌+◌, false, min, List}
use Rattle.osek_base.specs.System.{System}
use Rattle.kernel.specs.Progress.{Progress}
use Rattle.law_blockers.specs.Steps.{record_at}
use Rattle.view_timelines.specs.Marks.{AreMarks}
use Rattle.view_timelines.specs.Rows.{AreRows, Picture}
use Rattle.tracer.specs.WholeRuns.{IsBegun}
use Rattle.view_runs.specs.Seen.{SeesRun}

-- the rows of a picture of the ticks from one on and before another are those of so many ticks of a run, and its marks those of
-- the same ticks, with the records of each
pub record IsDrawnOf (r : Progress) (ticks from to : ℕ) (picture : Picture) : Type 0 where
  pub sees : SeesRun false r ticks
  pub rows : AreRows r.system sees.seen picture
  pub marks : AreMarks r.system (record_at r.system r.mode r.arrivals) sees.seen picture
  pub first : picture.from ≡ from
  pub end : picture.to ≡ to

-- the same of a run of the system in the mode of that name, with the arrivals of that list: of 5,000 ticks at most
abbrev pub IsDrawn : System → List ℕ → List ℕ → ℕ → ℕ → Picture → Type 0
IsDrawn S irqs mode ticks from picture =
    (r : Progress) × IsBegun S irqs mode r × IsDrawnOf r ticks from (min ticks (from + 5000)) picture
