-- The value change dump of a run.
use Rattle.std.specs.Prelude.{ℕ, ◌≡◌, false, List}
use Rattle.osek_base.specs.System.{System}
use Rattle.kernel.specs.Progress.{Progress}
use Rattle.tracer.specs.WholeRuns.{IsBegun}
use Rattle.view_runs.specs.Seen.{SeesRun}
use Rattle.view_dumps.specs.Runs.{whole_text}

-- the bytes are the dump, from tick `from` on, of so many ticks of a run
pub record IsDumpOf (r : Progress) (ticks from : ℕ) (bytes : List ℕ) : Type 0 where
  pub sees : SeesRun false r ticks
  pub spelled : bytes ≡ whole_text r.system from sees.seen

-- the same of a run of the system in the mode of that name, with the arrivals of that list
abbrev pub IsDump : System → List ℕ → List ℕ → ℕ → ℕ → List ℕ → Type 0
IsDump S irqs mode ticks from bytes = (r : Progress) × IsBegun S irqs mode r × IsDumpOf r ticks from bytes
