-- What is done in a tick keeps the stamps of jobs, the last ticks of levels and the number of blockers.
use Rattle.std.proofs.Common.{◌≡◌, ℕ, suc, ◌+◌, ◌-◌, Bool, true, false, cond, List, [], ◌∷◌, length, map, refl, sym, ◌∙◌, ap, ap₂, subst, arith}
use Rattle.std.specs.Prelude.{Option, ◌==◌}
use Rattle.std.proofs.Math.Numerals.{add-one}
use Rattle.osek_base.specs.declared.arrivals.Arrival.{Arrival}
use Rattle.osek_base.specs.System.{System}
use Rattle.osek_base.specs.State.{Job, State, jobs_of}
use Rattle.osek_base.specs.Blocker.{calling_job, executing_job}
use Rattle.osek_base.specs.BlockingText.{blockers_at}
use Rattle.osek_base.specs.Proper.{IsProper}
use Rattle.osek_base.specs.Tick.{before_execution, executor}
use Rattle.osek_base.specs.Trace.{arriving, run}
use Rattle.law_runs.proofs.Known.{executor_calls}
use Rattle.law_runs.proofs.RankedTick.{IsExecuting, before_executing, run_ordered}
use Rattle.law_kept.specs.Kept.{Kept, kept, slot_of}
use Rattle.law_kept.specs.Moves.{KeptRecorded}
use Rattle.law_kept.specs.KeptService.{KeptCaller, ByTask, ByRoutine, ByNobody, caller_in, kept_caller}
use Rattle.law_kept.specs.KeptTick.{before_execution_in, execute_phase_in}
use Rattle.law_kept.proofs.InRuns.{before_alike}
use Rattle.law_kept.proofs.Served.{executor_kept}
use Rattle.law_kept.proofs.Settled.{IsSettled}
use Rattle.law_kept.proofs.Ticked.{settled_of}
use Rattle.kernel_stamps.specs.Stamps.{spent_oldest}
use Rattle.law_blockers.specs.Steps.{step_at}
use Rattle.law_blockers.specs.Stamps.{Stamps, blockers_by, levels_of, stamps_in, stamps_of}
use Rattle.law_blockers.specs.Restamping.{AreListed, StampLists, after_restamped, before_restamped, last_restamped, spent_of, stamps_at}
use Rattle.kernel.specs.Stamping.{AreCounted, executed_restamped, noted, number_for}
use Rattle.kernel.specs.Machine.{AreLast}
use Rattle.law_blockers.proofs.AfterStamps.{run_listed}
use Rattle.law_blockers.proofs.BeforeStamps.{before_listed}
use Rattle.kernel.proofs.NumberLemmas.{noted_last, number_is}
use Rattle.law_blockers.proofs.StepLemmas.{executing_is}
use Rattle.law_blockers.proofs.SpentStamps.{spent_at, spent_here}
use Rattle.law_blockers.proofs.StampLemmas.{Going, blockers_are}

-- ---- as many stamps as jobs

map_length : {X Y : Type 0} (f : X → Y) (xs : List X) → length (map f xs) ≡ length xs
map_length f [] = refl
map_length f (x ∷ xs) = ap suc (map_length f xs)

-- as many jobs as their slot counts
pub many_jobs : (jobs : List Job) → length jobs ≡ (slot_of jobs).count
many_jobs [] = refl
many_jobs (j ∷ jobs) = refl

pub counted_of : (S : System) (xs : StampLists) (p : Stamps) (s : State) (k : Kept) → AreListed S xs p s
    → k ≡ kept S s → AreCounted xs k
counted_of S xs p s k are same t =
    ap (λ (ys : List (Option ℕ)). length ys) (are.lists t) ∙ map_length (λ (j : Job). p j.id) (jobs_of t s.jobs)
    ∙ many_jobs (jobs_of t s.jobs) ∙ sym (ap (λ (k : Kept). (k.slots t).count) same)

spent_length : (list : List (Option ℕ)) → length (spent_oldest list) ≡ length list
spent_length [] = refl
spent_length (x ∷ list) = refl

spent_counted : (d : KeptCaller) (xs : StampLists) (t : ℕ) → length (stamps_at (spent_of d xs) t) ≡ length (stamps_at xs t)
spent_counted d xs t = ap (λ (ys : List (Option ℕ)). length ys) (spent_at d xs t) ∙ go d
  where
    go : (d : KeptCaller) → length (spent_here d t (stamps_at xs t)) ≡ length (stamps_at xs t)
    go (ByTask u) = at (u == t)
      where
        at : (b : Bool) → length (cond b (spent_oldest (stamps_at xs t)) (stamps_at xs t)) ≡ length (stamps_at xs t)
        at true = spent_length (stamps_at xs t)
        at false = refl
    go ByRoutine = refl
    go ByNobody = refl

-- ---- a tick

-- a run whose picture is k, and which isn't over
module _ (S : System) (proper : IsProper S) (mode : ℕ) (arrivals : List Arrival) (n : ℕ) (k : Kept)
    (same : k ≡ kept S (run S mode arrivals n).state) (going : Going S mode arrivals n) where
  -- the state in which the instruction of the tick is executed
  abbrev pub e : State
  e = (before_execution S (arriving arrivals n) (run S mode arrivals n).state).state

  pub step_is : e ≡ (step_at S mode arrivals n).executing
  step_is = executing_is S mode arrivals n going

  -- phases 1 to 4
  pub begun_listed : (xs zs : StampLists) → zs ≡ before_restamped S n (arriving arrivals n) k xs
      → AreListed S xs (stamps_of S mode arrivals n) (run S mode arrivals n).state
      → AreListed S zs (stamps_in S mode arrivals n (stamps_of S mode arrivals n)) e
  begun_listed xs zs restamped are =
      let all : zs ≡ before_restamped S n (arriving arrivals n) (kept S (run S mode arrivals n).state) xs =
      restamped ∙ ap (λ (k : Kept). before_restamped S n (arriving arrivals n) k xs) same in
      subst (λ vs. AreListed S vs (stamps_in S mode arrivals n (stamps_of S mode arrivals n)) e) (sym all)
      (subst (λ s. AreListed S (before_restamped S n (arriving arrivals n) (kept S (run S mode arrivals n).state) xs) (stamps_in S mode arrivals n (stamps_of S mode arrivals n)) s) (sym step_is)
      (before_listed S mode arrivals n xs proper going are))

  module _ (b : Kept) (before : b ≡ (before_execution_in S (arriving arrivals n) k).state)
      (zs : StampLists) (are : AreListed S zs (stamps_in S mode arrivals n (stamps_of S mode arrivals n)) e) where
    kept_is : b ≡ kept S e
    kept_is =
        before ∙ ap (λ k. (before_execution_in S (arriving arrivals n) k).state) same
        ∙ sym (ap (λ (r : KeptRecorded). r.state) (before_alike S mode arrivals n (arriving arrivals n) proper))

    caller_is : caller_in b ≡ kept_caller (executor e)
    caller_is = ap caller_in kept_is ∙ sym (executor_kept S e)

    job_is : executing_job (step_at S mode arrivals n) ≡ calling_job (executor e)
    job_is = ap (λ (s : State). calling_job (executor s)) (sym step_is)

    settled : IsSettled S e
    settled =
        let executing : IsExecuting S proper e = before_executing S proper (arriving arrivals n) (run S mode arrivals n).state (run_ordered S proper mode arrivals n) in
        settled_of S e executing.good.single executing.good.ordered.ranked

    pub counted_spent : (ts : StampLists) → ts ≡ spent_of (caller_in b) zs → AreCounted ts b
    counted_spent ts is t =
        ap (λ (vs : StampLists). length (stamps_at vs t)) is ∙ spent_counted (caller_in b) zs t
        ∙ counted_of S zs (stamps_in S mode arrivals n (stamps_of S mode arrivals n)) e b are kept_is t

    pub number_told : (last : List ℕ) (number : Option ℕ) → AreLast S mode arrivals n last
        → number ≡ number_for S (caller_in b) last zs → number ≡ blockers_at S mode arrivals (n + 1 - 1)
    number_told last number levels is =
        let one : n + 1 - 1 ≡ n = omega arith in
        is ∙ ap (λ d. number_for S d last zs) caller_is
        ∙ number_is S mode arrivals n last levels e (stamps_in S mode arrivals n (stamps_of S mode arrivals n)) zs proper settled are
        (executor e) (executor_calls e)
        ∙ ap (blockers_by S (levels_of S mode arrivals n) (stamps_in S mode arrivals n (stamps_of S mode arrivals n))) (sym job_is)
        ∙ sym (blockers_are S mode arrivals n going proper) ∙ ap (blockers_at S mode arrivals) (sym one)

    pub levels_told : (last after : List ℕ) → AreLast S mode arrivals n last
        → after ≡ noted S n (caller_in b) last → AreLast S mode arrivals (n + 1) after
    levels_told last after levels is =
        subst (AreLast S mode arrivals (n + 1)) (sym (is ∙ ap (λ d. noted S n d last) caller_is))
        (noted_last S mode arrivals n last levels proper (executor e) job_is)

    -- phases 5 and 6
    pub after_told : (ex : Kept) (ts us vs : StampLists) → ex ≡ (execute_phase_in S b).state
        → ts ≡ spent_of (caller_in b) zs → us ≡ executed_restamped S (n + 1) b ts → vs ≡ last_restamped S (n + 1) ex us
        → AreListed S vs (stamps_of S mode arrivals (n + 1)) (run S mode arrivals (n + 1)).state
    after_told ex ts us vs executed first second third =
        let all : vs ≡ after_restamped S (suc n) (kept S (step_at S mode arrivals n).executing) zs =
        third
        ∙ ap₂ (λ (o : Kept) (ys : StampLists). last_restamped S (n + 1) o ys) executed (second ∙ ap (executed_restamped S (n + 1) b) first)
        ∙ ap₂ (λ u o. after_restamped S u o zs) (add-one n) (kept_is ∙ ap (kept S) step_is) in
        subst (λ t. AreListed S vs (stamps_of S mode arrivals t) (run S mode arrivals t).state) (sym (add-one n))
        (subst (λ ys. AreListed S ys (stamps_of S mode arrivals (suc n)) (run S mode arrivals (suc n)).state) (sym all)
        (run_listed S proper mode arrivals n going zs
        (subst (AreListed S zs (stamps_in S mode arrivals n (stamps_of S mode arrivals n))) step_is are)))
