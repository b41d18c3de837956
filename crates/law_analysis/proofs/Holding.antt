-- No job holds a resource for longer than the greatest response of a task that may get it.
use Rattle.std.proofs.Common.{◌≡◌, ℕ, zero, suc, ◌+◌, ◌<◌, ◌≤◌, ◌⊎◌, inl, inr, Bool, true, false, not, ◌&&◌, ◌||◌, List, [], ◌∷◌, length, refl, sym, ◌∙◌, ap, subst, arith}
use Rattle.std.specs.Prelude.{Option, Some, None, cond, is_some}
use Rattle.std.specs.List.{AllByRecursion, list_any}
use Rattle.std.proofs.lemmas.Bool.{and_parts, cases_lt}
use Rattle.osek_base.specs.declared.arrivals.Arrival.{Arrival}
use Rattle.osek_base.specs.declared.ids.ResId.{ResId}
use Rattle.osek_base.specs.Blocker.{is_waiting_job}
use Rattle.osek_base.specs.Lists.{same_resource}
use Rattle.osek_base.specs.Proper.{IsProper}
use Rattle.osek_base.specs.Service.{holds, may_take}
use Rattle.osek_base.specs.State.{Job, JobId, State, job_of, same_id, waits}
use Rattle.osek_base.specs.System.{System}
use Rattle.osek_base.specs.Trace.{arriving, run}
use Rattle.arrival_rules.specs.declared.rule.ArrivalRule.{ArrivalRule}
use Rattle.arrival_rules.specs.Rules.{KeepRules}
use Rattle.law_runs.proofs.Exclusion.{same_resources}
use Rattle.law_runs.proofs.Foremost.{AreApart, same_ids, same_self, self_equal}
use Rattle.law_runs.proofs.Formed.{IsPlacedJob}
use Rattle.law_runs.proofs.Lists.{Pairs, all_both, clash, pairs_weaker}
use Rattle.law_runs.proofs.Ranked.{IsStill}
use Rattle.law_runs.proofs.RankedTick.{IsRunState, run_ordered}
use Rattle.law_runs.proofs.Single.{IsSoundPair}
use Rattle.law_kept.proofs.Parts.{any_has}
use Rattle.law_blockers.specs.Steps.{step_at}
use Rattle.law_blockers.proofs.StepLemmas.{executing_is}
use Rattle.law_future.specs.Spans.{resource_of}
use Rattle.view_figures.specs.FigureSums.{held_count}
use Rattle.law_figures.specs.Ages.{ages, ages_in}
use Rattle.law_figures.specs.Labels.{IsAtMost}
use Rattle.law_figures.specs.RunFigures.{label_before, task_ticks}
use Rattle.law_jobs.specs.HeldSince.{IsHeldSince, IsHold, held_for, holds_in}
use Rattle.law_jobs.specs.ReadySince.{AreAges, IsAge, IsReadySince}
use Rattle.law_jobs.specs.Standing.{standing, stands_in}
use Rattle.law_jobs.proofs.Aging.{ages_are_of_jobs}
use Rattle.law_jobs.proofs.Getting.{before_fewer}
use Rattle.law_jobs.proofs.Holds.{holds_are_of_jobs}
use Rattle.law_jobs.proofs.Lists.{is_among}
use Rattle.law_jobs.proofs.Members.{stands_among}
use Rattle.law_windows.proofs.Short.{going_early}
use Rattle.law_nodes.proofs.Tests.{by_any}
use Rattle.law_costs.proofs.InTicks.{at_form, executing}
use Rattle.law_bounds.specs.Ending.{EndsWithin}
use Rattle.law_bounds.specs.RunTicks.{held_at}
use Rattle.law_bounds.proofs.RunTicks.{hold_low}
use Rattle.law_analysis.proofs.Listed.{all_listed, is_listed}

-- ---- who holds a resource is READY or RUNNING

abbrev holds_by : ResId → JobId → Job → Bool
holds_by r n j = same_id j.id n && holds j r

ready_holder : (r : ResId) (j : Job) → IsStill j → holds j r ≡ true → waits j ≡ false
ready_holder r j still held = go (waits j) refl
  where
    go : (b : Bool) → waits j ≡ b → b ≡ false
    go false is = refl
    go true is =
        clash (sym held ∙ ap (λ (rs : List ResId). list_any (same_resource r) rs) (still is).0)

holder_stands : (r : ResId) (n : JobId) (jobs : List Job) → Pairs AreApart jobs
    → AllByRecursion IsStill jobs → list_any (holds_by r n) jobs ≡ true
    → (is_some (job_of n jobs) && not (is_waiting_job (job_of n jobs))) ≡ true
holder_stands r n [] apart still some = clash (sym some)
holder_stands r n (j ∷ js) apart still some =
    go (same_id j.id n) (holds j r) refl refl some (holder_stands r n js apart.1 still.1)
  where
    go : (b h : Bool) → same_id j.id n ≡ b → holds j r ≡ h
        → ((b && h) || list_any (holds_by r n) js) ≡ true
        → (list_any (holds_by r n) js ≡ true
        → (is_some (job_of n js) && not (is_waiting_job (job_of n js))) ≡ true)
        → (is_some (cond b (Some j) (job_of n js))
        && not (is_waiting_job (cond b (Some j) (job_of n js)))) ≡ true
    go true true own held some rest = ap not (ready_holder r j still.0 held)
    go true false own held some rest =
        let other : (l : Job) × (holds_by r n l ≡ true) × AreApart j l =
        any_has (holds_by r n) (AreApart j) js some apart.0 in
        clash
        (sym (same_self j.id)
        ∙ ap (λ (m : JobId). same_id m j.id)
        (same_ids j.id n own
        ∙ sym (same_ids other.0.id n
        (and_parts (same_id other.0.id n) (holds other.0 r) other.1).0))
        ∙ other.2)
    go false h own held some rest = rest some

stands_where : (S : System) (s : State) (r : ResId) (n : JobId) → IsRunState S s
    → holds_in s r n ≡ true → stands_in s n ≡ true
stands_where S s r n good held =
    holder_stands r n s.jobs
    (pairs_weaker (IsSoundPair S) AreApart s.jobs (λ x y h. h.apart) good.single.pairs)
    good.ordered.ranked.still held

-- ---- and may take it

module _ (S : System) (mode : ℕ) (arrivals : List Arrival) (proper : IsProper S) where
  abbrev at : ℕ → State
  at n = (step_at S mode arrivals n).executing

  abbrev here : ℕ → State
  here n = (run S mode arrivals n).state

  record IsHolderOf (r : ResId) (n : JobId) : Type 0 where
    pub takes : may_take S n.task r ≡ true
    pub known : n.task < length S.tasks

  holder_takes : (n : ℕ) → (here n).over ≡ false → (r : ResId) (job : JobId)
      → holds_in (at n) r job ≡ true → IsHolderOf r job
  holder_takes n going r job held =
      let one : (j : Job) × (holds_by r job j ≡ true)
      × ((is_listed S j ≡ true) × IsPlacedJob S j) =
      any_has (holds_by r job) (λ j. (is_listed S j ≡ true) × IsPlacedJob S j) (at n).jobs held
      (all_both (λ j. is_listed S j ≡ true) (IsPlacedJob S) (at n).jobs
      (all_listed S mode arrivals proper n going)
      (at_form S proper mode arrivals n going).formed.jobs) in
      let both = and_parts (same_id one.0.id job) (holds one.0 r) one.1 in
      let same : one.0.id ≡ job = same_ids one.0.id job both.0 in
      record {
        takes =
            subst (λ (i : JobId). may_take S i.task r ≡ true) same
            (by_any (may_take S one.0.id.task r ≡ true) (same_resource r)
            (may_take S one.0.id.task) one.0.held
            (λ q is may. ap (may_take S one.0.id.task) (same_resources r q is) ∙ may) both.1
            one.2.0);
        known = subst (λ (i : JobId). i.task < length S.tasks) same one.2.1.task;
      }

  -- ---- a job that stands is ready since a tick

  aged : (n : ℕ) (job : JobId) (jobs : List JobId) (old : List ℕ)
      → AreAges S mode arrivals n jobs old → is_among jobs job ≡ true
      → (age : ℕ) × IsAge S mode arrivals n job age
  aged n job [] old are there = clash (sym there)
  aged n job (i ∷ jobs) [] are there = absurd are
  aged n job (i ∷ jobs) (a ∷ old) are there =
      go (same_id i job) refl there (aged n job jobs old are.1)
    where
      go : (b : Bool) → same_id i job ≡ b → (b || is_among jobs job) ≡ true
          → (is_among jobs job ≡ true → (age : ℕ) × IsAge S mode arrivals n job age)
          → (age : ℕ) × IsAge S mode arrivals n job age
      go true same there rest =
          (a, subst (λ x. IsAge S mode arrivals n x a) (same_ids i job same) are.0)
      go false other there rest = rest there

  ready_since : (n : ℕ) → (here n).over ≡ false → (job : JobId) → job.task < length S.tasks
      → stands_in (at n) job ≡ true → (age : ℕ) × IsAge S mode arrivals n job age
  ready_since n going job known stands =
      aged n job (standing job.task (at n).jobs)
      (ages_in (task_ticks S mode arrivals job.task n)
      (label_before ages (task_ticks S mode arrivals job.task) n))
      (ages_are_of_jobs S mode arrivals n job.task proper going known)
      (go (is_among (standing job.task (at n).jobs) job) refl)
    where
      go : (b : Bool) → is_among (standing job.task (at n).jobs) job ≡ b → b ≡ true
      go true is = refl
      go false is =
          clash
          (sym stands ∙ stands_among (at n) job.task job (self_equal job.task) is)

  -- ---- while it holds

  module _ (n : ℕ) (going : (here n).over ≡ false)
      (goes : (i : ℕ) → i ≤ n → (here i).over ≡ false) (r : ℕ) (job : JobId) (since : ℕ)
      (is : IsHeldSince S mode arrivals n r job since) where
    abbrev res : ResId
    res = resource_of S r

    at_stands : (i : ℕ) → since ≤ i → i ≤ n → stands_in (at i) job ≡ true
    at_stands i from to =
        stands_where S (at i) res job (executing S proper mode arrivals i (goes i to)).good
        (is.holds i from to)

    before_stands : (i : ℕ) → since ≤ i → i ≤ n → stands_in (here i) job ≡ true
    before_stands i from to =
        stands_where S (here i) res job (run_ordered S proper mode arrivals i)
        (before_fewer res S (arriving arrivals i) (here i) job
        (subst (λ (s : State). holds_in s res job ≡ true)
        (sym (executing_is S mode arrivals i (goes i to))) (is.holds i from to)))

    -- so it was ready when it got it
    not_later : (s : ℕ) → IsReadySince S mode arrivals n job s → s ≤ since
    not_later zero ready = omega arith
    not_later (suc i) ready = go (cases_lt since (suc i))
      where
        go : (since < suc i) ⊎ (suc i ≤ since) → suc i ≤ since
        go (inr low) = low
        go (inl less) =
            let past = ready.past in
            let one = at_stands i (omega (arith, less)) (omega (arith, past)) in
            let two = before_stands (suc i) (omega (arith, less)) past in
            let both : (stands_in (at i) job && stands_in (here (suc i)) job) ≡ true =
            rw (one, two) refl in
            clash (sym both ∙ ready.first i refl)

  -- ---- for how long

  module _ (rules : List ArrivalRule) (keep : KeepRules S rules arrivals) (n : ℕ)
      (going : (here n).over ≡ false) (r most : ℕ) (known : r < held_count S)
      (ends : (k : ℕ) → k < length S.tasks → may_take S k (resource_of S r) ≡ true
      → (m : ℕ) × EndsWithin S mode rules m k × (m ≤ most)) where
    one_low : (held : ℕ) → IsHold S mode arrivals n r held → held ≤ most
    one_low held it =
        let goes : (i : ℕ) → i ≤ n → (here i).over ≡ false =
        λ i low. going_early S mode arrivals n i low going in
        let now = it.holds.holds n it.holds.past (omega arith) in
        let who = holder_takes n going (resource_of S r) it.job now in
        let old : (age : ℕ) × IsAge S mode arrivals n it.job age =
        ready_since n going it.job who.known
        (stands_where S (at n) (resource_of S r) it.job
        (executing S proper mode arrivals n going).good now) in
        let within : (m : ℕ) × EndsWithin S mode rules m it.job.task × (m ≤ most) =
        ends it.job.task who.known who.takes in
        let early : old.1.since ≤ it.since =
        not_later n going goes r it.job it.since it.holds old.1.since old.1.ready in
        let soon : n < old.1.since + within.0 =
        within.1 arrivals n old.1.since it.job keep going refl old.1.ready in
        let few : within.0 ≤ most = within.2 in
        let sum : held + it.since ≡ suc n = it.both in
        omega (arith, early, soon, few, sum)

    pub held_low : IsAtMost most (held_at S mode arrivals r n)
    held_low =
        hold_low S mode arrivals proper r n most going (go (held_for S mode arrivals r n) refl)
      where
        go : (o : Option ℕ) → held_for S mode arrivals r n ≡ o → IsAtMost most o
        go None is = tt
        go (Some held) is =
            one_low held ((holds_are_of_jobs S mode arrivals n r proper going known).seen held is)
