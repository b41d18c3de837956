-- The laws of whole runs, as a kernel cites them.
use Rattle.osek_base.specs.Proper.{IsProper}
use Rattle.law_runs.proofs.SingleTick.{starts_singly}
use Rattle.law_runs.proofs.Excluding.{excludes}
use Rattle.law_runs.proofs.Blocking.{blocks_once}
use Rattle.law_runs.proofs.Protection.{protects}
use Rattle.kernel.specs.Progress.{Progress, IsLawful}

pub lawful : (r : Progress) → IsProper r.system → IsLawful r
lawful r proper = record {
  single_start = λ n. starts_singly r.system r.mode r.arrivals n proper;
  exclusion = λ n. excludes r.system r.mode r.arrivals n proper;
  single_blocking = λ n. blocks_once r.system r.mode r.arrivals n proper;
  protection = λ n. protects r.system r.mode r.arrivals n proper;
}
