-- Steps are sound, of jobs and of routines.
use Rattle.law_nodes.specs.Laws.{StepsAreSound}
use Rattle.law_nodes.proofs.Executing.{job_sound}
use Rattle.law_nodes.proofs.Returning.{routine_sound}

pub steps_are_sound : StepsAreSound
steps_are_sound S = record {
  job = λ n s j executes at. job_sound S s j executes n at;
  routine = λ n s a executes at. routine_sound S s a executes n at;
}
