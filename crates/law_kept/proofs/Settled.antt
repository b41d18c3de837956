-- The steps of jobs and a reschedule are those over what is kept, in settled states.
use Rattle.std.proofs.Common.{◌≡◌, ℕ, ◌<◌, true, List, length, subst}
use Rattle.std.specs.Prelude.{Option, Some, None}
use Rattle.std.specs.List.{AllByRecursion}
use Rattle.osek_base.specs.System.{System}
use Rattle.osek_base.specs.State.{Job, JobId, State, same_id, job_of, with_job}
use Rattle.osek_base.specs.Activation.{activated, ended}
use Rattle.osek_base.specs.Reschedule.{reschedule}
use Rattle.law_runs.proofs.Lists.{Pairs, all_weaker, all_any, found}
use Rattle.law_runs.proofs.Single.{IsSoundJob, HasRunner, IsSingle}
use Rattle.law_runs.proofs.Ranked.{IsBehind, IsStill}
use Rattle.law_kept.specs.Kept.{Slot, slot_with, kept}
use Rattle.law_kept.specs.Moves.{activated_in, ended_in, slot_changed, kept_recorded, rescheduled}
use Rattle.law_kept.proofs.Parts.{IsOldest, oldest, found_any}
use Rattle.law_kept.proofs.JobMoves.{IsGiven, IsFresh, activated_kept, changed_kept, ended_kept}
use Rattle.law_kept.proofs.Rescheduled.{rescheduled_kept}

-- what of a state they stand on: single jobs, nobody before the running job at its level, who waits holds nothing
pub record IsSettled (S : System) (s : State) : Type 0 where
  pub single : IsSingle S s
  pub behind : Pairs (IsBehind S s.running) s.jobs
  pub still : AllByRecursion IsStill s.jobs

-- the tasks of the jobs exist
abbrev pub AreKnown : System → State → Type 0
AreKnown S s = AllByRecursion (λ j. j.id.task < length S.tasks) s.jobs

-- the running job stands
abbrev pub Stands : State → JobId → Type 0
Stands s n = (j : Job) × (s.running ≡ Some n) × (job_of n s.jobs ≡ Some j)

pub given_of : (made : List ℕ) (jobs : List Job) (r : Option JobId) → HasRunner made jobs r → IsGiven made r
given_of made jobs None h = tt
given_of made jobs (Some r) h = h.given

pub activates : (S : System) (s : State) (t : ℕ) → IsSettled S s
    → kept S (activated S t s) ≡ activated_in S t (kept S s)
activates S s t settled = activated_kept S t s (given_of s.made s.jobs s.running settled.single.runs)

pub stands_oldest : (S : System) (s : State) (n : JobId) → IsSettled S s → Stands s n → IsOldest n s.jobs
stands_oldest S s n settled stands =
    let at : same_id stands.0.id n ≡ true =
    (found (λ j. Unit {0}) (λ j. same_id j.id n) s.jobs stands.0 (all_any (λ j. Unit {0}) s.jobs (λ j. tt)) stands.2).1 in
    oldest S n s.jobs settled.single.pairs (subst (HasRunner s.made s.jobs) stands.1 settled.single.runs).begun
    (found_any (λ j. same_id j.id n) (λ j. same_id j.id n) s.jobs stands.0 stands.2 at)

-- of the running job anything but its id
pub changes : (S : System) (s : State) (n : JobId) (f : Job → Job) (g : Slot → Slot) → IsSettled S s → Stands s n
    → ((j : Job) → (f j).id ≡ j.id)
    → ((c : ℕ) (j : Job) → j.id ≡ n → slot_with c (f j) ≡ g (slot_with c j))
    → kept S (record s { jobs = with_job n f s.jobs }) ≡ slot_changed n.task g (kept S s)
changes S s n f g settled stands keep fits =
    changed_kept S s n f g keep fits stands.1 (stands_oldest S s n settled stands)

pub ends : (S : System) (s : State) (n : JobId) → IsSettled S s → Stands s n
    → kept S (ended n s) ≡ ended_in n.task (kept S s)
ends S s n settled stands =
    ended_kept S s n stands.1 settled.single.each
    (all_weaker (IsSoundJob S s.made) IsFresh s.jobs (λ j h. h.fresh) settled.single.each) settled.single.pairs
    (stands_oldest S s n settled stands)

pub reschedules : (S : System) (s : State) → IsSettled S s
    → kept_recorded S (reschedule S s) ≡ rescheduled S (kept S s)
reschedules S s settled = rescheduled_kept S s settled.single settled.behind
