-- How many blockers the job of an upper task has that executes is the same in runs of systems that
-- agree.
use Rattle.std.proofs.Common.{◌≡◌, ℕ, zero, suc, ◌+◌, ◌<◌, Bool, true, false, cond, ◌&&◌, nat_le, List, [], ◌∷◌, ◌++◌, drop, length, refl, sym, ◌∙◌, ap, subst, subst₂, arith}
use Rattle.std.specs.Prelude.{Option, Some, None}
use Rattle.std.specs.Option.{option_map}
use Rattle.std.proofs.Math.Numerals.{add-one}
use Rattle.std.proofs.lemmas.Bool.{and_parts}
use Rattle.osek_base.specs.declared.arrivals.Arrival.{Arrival}
use Rattle.osek_base.specs.declared.ids.Owner.{Owner}
use Rattle.osek_base.specs.Agree.{upper_core}
use Rattle.osek_base.specs.Blocker.{blockers, executing_job, is_ready_from}
use Rattle.osek_base.specs.BlockingText.{behind_last, blockers_at, blockers_since, executor_at, ready_since}
use Rattle.osek_base.specs.Lists.{below}
use Rattle.osek_base.specs.Proper.{IsProper}
use Rattle.osek_base.specs.Separable.{Separable}
use Rattle.osek_base.specs.State.{Job, JobId, State}
use Rattle.osek_base.specs.System.{System}
use Rattle.osek_base.specs.Tick.{Step, executor}
use Rattle.osek_base.specs.Trace.{arriving, boot, run}
use Rattle.osek_base.specs.Upper.{is_upper_task}
use Rattle.osek_base.proofs.ForemostLemmas.{keep}
use Rattle.law_runs.proofs.Blocking.{run_blocks, until}
use Rattle.law_runs.proofs.Counting.{blockers_counted, one_if}
use Rattle.law_runs.proofs.Known.{all_below}
use Rattle.law_runs.proofs.Lists.{found, none_some, some_inside}
use Rattle.law_blockers.specs.Steps.{step_at}
use Rattle.law_blockers.proofs.StampLemmas.{last_step}
use Rattle.law_blockers.proofs.StepLemmas.{steps_more}
use Rattle.seen_ticks.specs.Observed.{tick_at}
use Rattle.partition_check.proofs.IsolationLemmas.{Agree-core}
use Rattle.partition_check.proofs.UpperState.{is_upper_job, up, up_job}
use Rattle.law_upper.specs.Above.{AreOneAbove, IsUpperTask}
use Rattle.law_upper.specs.StatesAbove.{executes, executing_at}
use Rattle.law_upper.proofs.Below.{AllWait, all_wait_above}
use Rattle.law_upper.proofs.OneTick.{after_is, at_is}
use Rattle.law_upper.proofs.Sides.{IsBeside, one_state, run_beside, upper_there}
use Rattle.law_upper.proofs.SightsAbove.{AreOne, SeeAlike, caller_is, executing_in, executing_known, executing_up, see_alike}
use Rattle.law_upper.proofs.States.{executing_beside}
use Rattle.law_upper.proofs.StepsAbove.{AreAlike, IsQuiet, StepsAreOne, any_same, appended, dropped, from_same, since_same, until_same}

none_yet : (S : System) (mode : ℕ) (arrivals : List Arrival) → (run S mode arrivals 0).steps ≡ []
unfolding run
none_yet S mode arrivals = refl

booted : (S : System) (mode : ℕ) (arrivals : List Arrival)
    → (run S mode arrivals 0).state ≡ (boot S mode).state
unfolding run
booted S mode arrivals = refl

module _ (S : System) (p : ℕ) (proper : IsProper S) (separable : Separable S p) (mode : ℕ)
    (arrivals : List Arrival) (n : ℕ) (going : (run S mode arrivals n).state.over ≡ false) where
  quiet_at : IsQuiet S p (tick_at S mode arrivals n).at
  quiet_at k runs is_low =
      let same = at_is S proper mode arrivals n going in
      subst (λ (s : State). AllWait (up S p s).jobs) (sym same)
      (all_wait_above S p proper separable (arriving arrivals n) (run S mode arrivals n).state
      (run_beside S p proper separable mode arrivals n).layered k.id.task
      (ap (λ (s : State). executes s (Owner.Task k.id.task)) (sym same)
      ∙ caller_is (executor (tick_at S mode arrivals n).at) k runs) is_low)

module _ (S B : System) (p : ℕ) (pair : AreOneAbove S B p) (mode : ℕ)
    (arrivals : List Arrival) where
  cores : upper_core S p ≡ upper_core B p
  cores = Agree-core S B p pair.agree

  mine_at : (n : ℕ)
      → IsBeside S p (run S mode arrivals n).state (run (upper_core S p) mode arrivals n).state
  mine_at n = run_beside S p pair.proper pair.separable mode arrivals n

  theirs_at : (n : ℕ)
      → IsBeside B p (run B mode arrivals n).state (run (upper_core B p) mode arrivals n).state
  theirs_at n = run_beside B p pair.proper_there pair.separable_there mode arrivals n

  beside_one : (s b c d : State) → IsBeside S p s c → IsBeside B p b d → c ≡ d → AreOne S B p s b
  beside_one s b c d mine theirs same = record {
    layered = mine.layered;
    layered_there = theirs.layered;
    same = one_state S B p s b c d mine theirs same;
  }

  run_one : (n : ℕ) → AreOne S B p (run S mode arrivals n).state (run B mode arrivals n).state
  run_one n =
      beside_one (run S mode arrivals n).state (run B mode arrivals n).state
      (run (upper_core S p) mode arrivals n).state (run (upper_core B p) mode arrivals n).state
      (mine_at n) (theirs_at n) (ap (λ C. (run C mode arrivals n).state) cores)

  executing_one : (n : ℕ) → AreOne S B p (executing_at S mode arrivals n)
      (executing_at B mode arrivals n)
  executing_one n =
      beside_one (executing_at S mode arrivals n) (executing_at B mode arrivals n)
      (executing_at (upper_core S p) mode arrivals n)
      (executing_at (upper_core B p) mode arrivals n)
      (executing_beside S p pair.proper pair.separable (arriving arrivals n)
      (run S mode arrivals n).state (run (upper_core S p) mode arrivals n).state (mine_at n))
      (executing_beside B p pair.proper_there pair.separable_there (arriving arrivals n)
      (run B mode arrivals n).state (run (upper_core B p) mode arrivals n).state (theirs_at n))
      (ap (λ C. executing_at C mode arrivals n) cores)

  -- not over before a tick, in both
  record BothGo (n : ℕ) : Type 0 where
    here : (run S mode arrivals n).state.over ≡ false
    there : (run B mode arrivals n).state.over ≡ false

  both_go : (n : ℕ) → (run S mode arrivals n).state.over ≡ false → BothGo n
  both_go n going = record {
    here = going;
    there = sym (ap (λ (s : State). s.over) (run_one n).same) ∙ going;
  }

  step_one : (n : ℕ) → BothGo n
      → StepsAreOne S B p (step_at S mode arrivals n) (step_at B mode arrivals n)
  step_one n go = record {
    executing =
        subst₂ (AreOne S B p) (sym (at_is S pair.proper mode arrivals n go.here))
        (sym (at_is B pair.proper_there mode arrivals n go.there)) (executing_one n);
    after =
        subst₂ (AreOne S B p) (sym (after_is S pair.proper mode arrivals n go.here))
        (sym (after_is B pair.proper_there mode arrivals n go.there)) (run_one (n + 1));
    quiet = quiet_at S p pair.proper pair.separable mode arrivals n go.here;
    quiet_there = quiet_at B p pair.proper_there pair.separable_there mode arrivals n go.there;
  }

  one_later : (T : System) (n : ℕ) → (run T mode arrivals n).state.over ≡ false
      → (run T mode arrivals (suc n)).steps
      ≡ (run T mode arrivals n).steps ++ step_at T mode arrivals n ∷ []
  one_later T n going =
      ap (λ k. (run T mode arrivals k).steps) (sym (add-one n)) ∙ steps_more T mode arrivals n going

  steps_alike : (n : ℕ) → ((v : ℕ) → v < n → (run S mode arrivals v).state.over ≡ false)
      → AreAlike S B p (run S mode arrivals n).steps (run B mode arrivals n).steps
  steps_alike zero going =
      subst₂ (AreAlike S B p) (sym (none_yet S mode arrivals)) (sym (none_yet B mode arrivals)) tt
  steps_alike (suc n) going =
      let go : BothGo n = both_go n (going n (omega arith)) in
      subst₂ (AreAlike S B p) (sym (one_later S n go.here)) (sym (one_later B n go.there))
      (appended S B p (run S mode arrivals n).steps (run B mode arrivals n).steps
      (step_at S mode arrivals n) (step_at B mode arrivals n)
      (steps_alike n (λ v less. going v (omega (arith, less)))) (step_one n go))

  -- ---- the job that executes in a tick

  module _ (v : ℕ) (going : (w : ℕ) → w < suc v → (run S mode arrivals w).state.over ≡ false)
      (n : JobId) (is : IsUpperTask S p n.task) where
    abbrev mine : List Step
    mine = (run S mode arrivals (suc v)).steps

    abbrev theirs : List Step
    theirs = (run B mode arrivals (suc v)).steps

    alike : AreAlike S B p mine theirs
    alike = steps_alike (suc v) going

    begun : SeeAlike n (boot S mode).state (boot B mode).state
    begun =
        see_alike S B p n is.upper (upper_there S B p pair n.task is).upper
        (boot S mode).state (boot B mode).state
        (subst₂ (AreOne S B p) (booted S mode arrivals) (booted B mode arrivals) (run_one 0))

    abbrev since : Option ℕ
    since = ready_since S (boot S mode).state mine n v

    becomes_there : (u : ℕ) → is_ready_from S (boot S mode).state mine u n
        ≡ is_ready_from B (boot B mode).state theirs u n
    becomes_there u =
        from_same S B p pair n is (boot S mode).state (boot B mode).state begun mine theirs alike u

    counted : (u : ℕ) → is_ready_from S (boot S mode).state mine u n ≡ true
        → length (blockers S mine u n) ≡ length (blockers B theirs u n)
    counted u ready =
        let ready_there = sym (becomes_there u) ∙ ready in
        let held = run_blocks S mode arrivals (suc v) u n pair.proper ready in
        let held_there = run_blocks B mode arrivals (suc v) u n pair.proper_there ready_there in
        blockers_counted S mode arrivals (suc v) u n pair.proper ready
        ∙ ap one_if
        (any_same S B p pair n is (until S pair.proper n (drop u mine))
        (until B pair.proper_there n (drop u theirs))
        (until_same S B p pair n is (drop u mine) (drop u theirs)
        (dropped S B p u mine theirs alike)) held.1.1 held_there.1.1)
        ∙ sym (blockers_counted B mode arrivals (suc v) u n pair.proper_there ready_there)

    counts : (r : Option ℕ) → since ≡ r
        → option_map (λ u. length (blockers S mine u n)) r
        ≡ option_map (λ u. length (blockers B theirs u n)) r
    counts None e = refl
    counts (Some u) e =
        let it = found (λ k. k < suc v)
        (λ k. nat_le (behind_last n mine v) k && is_ready_from S (boot S mode).state mine k n)
        (below (suc v)) u (all_below (suc v)) e in
        ap Some (counted u
        (and_parts (nat_le (behind_last n mine v) u)
        (is_ready_from S (boot S mode).state mine u n) it.1).1)

    number_same : option_map (λ u. length (blockers S mine u n)) since
        ≡ option_map (λ u. length (blockers B theirs u n))
        (ready_since B (boot B mode).state theirs n v)
    number_same =
        counts since refl
        ∙ ap (option_map (λ u. length (blockers B theirs u n)))
        (since_same S B p pair n is (boot S mode).state (boot B mode).state begun mine theirs
        alike v)

  -- where an upper job executes in one, it does in the other
  record ExecutesThere (v : ℕ) (j : Job) : Type 0 where
    job : Job
    runs : executing_job (step_at B mode arrivals v) ≡ Some job
    id : job.id ≡ j.id

  executes_there : (v : ℕ) → BothGo v → (j : Job)
      → executing_job (step_at S mode arrivals v) ≡ Some j → is_upper_job S p j ≡ true
      → ExecutesThere v j
  executes_there v go j by high =
      let one : StepsAreOne S B p (step_at S mode arrivals v) (step_at B mode arrivals v) =
      step_one v go in
      of (executing_in (step_at B mode arrivals v).executing) refl
      (ap (λ (c : Bool). option_map (up_job S p) (cond c (Some j) None)) (sym high)
      ∙ ap (λ o. option_map (up_job S p) (keep (is_upper_job S p) o)) (sym by)
      ∙ sym (executing_up S p (step_at S mode arrivals v).executing)
      ∙ ap executing_in one.executing.same
      ∙ executing_up B p (step_at B mode arrivals v).executing)
    where
      at : (q : Job) (c : Bool)
          → executing_job (step_at B mode arrivals v) ≡ Some q
          → Some (up_job S p j) ≡ option_map (up_job B p) (cond c (Some q) None)
          → ExecutesThere v j
      at q true runs same = record {
        job = q;
        runs = runs;
        id = sym (ap (λ (k : Job). k.id) (some_inside (up_job S p j) (up_job B p q) same));
      }
      at q false runs same = absurd (none_some (up_job S p j) (sym same))

      of : (o : Option Job) → executing_in (step_at B mode arrivals v).executing ≡ o
          → Some (up_job S p j)
          ≡ option_map (up_job B p)
          (keep (is_upper_job B p) (executing_in (step_at B mode arrivals v).executing))
          → ExecutesThere v j
      of None runs same =
          absurd (none_some (up_job S p j) (sym (same
          ∙ ap (λ o. option_map (up_job B p) (keep (is_upper_job B p) o)) runs)))
      of (Some q) runs same =
          at q (is_upper_job B p q) runs
          (same ∙ ap (λ o. option_map (up_job B p) (keep (is_upper_job B p) o)) runs)

  told : (T : System) (v : ℕ) (j : Job) → (run T mode arrivals v).state.over ≡ false
      → executing_job (step_at T mode arrivals v) ≡ Some j
      → blockers_at T mode arrivals v
      ≡ option_map (λ u. length (blockers T (run T mode arrivals (suc v)).steps u j.id))
      (ready_since T (boot T mode).state (run T mode arrivals (suc v)).steps j.id v)
  told T v j going by =
      ap (λ o. blockers_since T (boot T mode).state (run T mode arrivals (suc v)).steps v
      (executor_at o)) (last_step T mode arrivals v going)
      ∙ ap (blockers_since T (boot T mode).state (run T mode arrivals (suc v)).steps v) by

  -- what is told of blockers in such a tick is the same
  pub blockers_same : (v : ℕ)
      → ((w : ℕ) → w < suc v → (run S mode arrivals w).state.over ≡ false) → (j : Job)
      → executing_job (step_at S mode arrivals v) ≡ Some j → is_upper_job S p j ≡ true
      → blockers_at S mode arrivals v ≡ blockers_at B mode arrivals v
  blockers_same v going j by high =
      let go : BothGo v = both_go v (going v (omega arith)) in
      let known =
      executing_known S p (step_at S mode arrivals v).executing
      (step_one v go).executing.layered j by in
      let other : ExecutesThere v j = executes_there v go j by high in
      told S v j go.here by
      ∙ number_same v going j.id (record { known = known.task; upper = high })
      ∙ ap (λ (n : JobId).
      option_map (λ u. length (blockers B (run B mode arrivals (suc v)).steps u n))
      (ready_since B (boot B mode).state (run B mode arrivals (suc v)).steps n v)) (sym other.id)
      ∙ sym (told B v other.job go.there other.runs)

  -- so where all tasks are upper, what is told of blockers is told in the other run too
  pub blockers_there : ((t : ℕ) → t < length S.tasks → is_upper_task S p t ≡ true) → (v : ℕ)
      → ((w : ℕ) → w < suc v → (run S mode arrivals w).state.over ≡ false) → (m : ℕ)
      → blockers_at S mode arrivals v ≡ Some m → blockers_at B mode arrivals v ≡ Some m
  blockers_there all v going m is =
      by (executing_job (step_at S mode arrivals v)) refl
    where
      here : (run S mode arrivals v).state.over ≡ false
      here = going v (omega arith)

      by : (o : Option Job) → executing_job (step_at S mode arrivals v) ≡ o
          → blockers_at B mode arrivals v ≡ Some m
      by None runs =
          absurd (none_some m (sym (ap (λ o.
          blockers_since S (boot S mode).state (run S mode arrivals (suc v)).steps v
          (executor_at o)) (last_step S mode arrivals v here)
          ∙ ap (blockers_since S (boot S mode).state (run S mode arrivals (suc v)).steps v) runs)
          ∙ is))
      by (Some j) runs =
          let known =
          executing_known S p (step_at S mode arrivals v).executing
          (step_one v (both_go v here)).executing.layered j runs in
          sym (blockers_same v going j runs (all j.id.task known.task)) ∙ is
