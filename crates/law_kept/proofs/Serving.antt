-- Where a service may be called, the running job is the one that is to run; and it is where an instruction is executed.
use Rattle.std.proofs.Common.{◌≡◌, ℕ, suc, ◌<◌, ◌≤◌, inl, inr, Bool, true, false, cond, not, ◌&&◌, ◌||◌, nat_le, nat_lt, List, [], ◌∷◌, refl, sym, ◌∙◌, ap, subst, arith}
use Rattle.std.specs.Prelude.{Option, Some, None, is_some}
use Rattle.std.specs.Option.{option_map}
use Rattle.std.specs.List.{list_any, list_all, AllByRecursion}
use Rattle.osek_base.specs.System.{System}
use Rattle.osek_base.specs.Ceiling.{top_priority}
use Rattle.osek_base.specs.State.{Job, JobId, State, same_id, waits}
use Rattle.osek_base.specs.Priority.{static_priority, dynamic_priority}
use Rattle.osek_base.specs.GoodState.{is_raised}
use Rattle.osek_base.proofs.ForemostLemmas.{best, fits, bounded_best}
use Rattle.law_runs.proofs.Lists.{some_inside, none_some, EitherWay, clash, all_weaker, all_any, all_both, pairs_weaker, pairs_both, pairs_of_all, either_way, any_none}
use Rattle.law_runs.proofs.Foremost.{same_self, static_le}
use Rattle.law_runs.proofs.Single.{IsSingle}
use Rattle.law_runs.proofs.Ranked.{IsRankedPair, IsBehind, AreRanked, HasReady, IsUnder, IsBefore, IsDispatched, HasDispatched, raised_ready}
use Rattle.law_kept.specs.Kept.{is_queued, runs, slot_of, queue, slots_of, is_gone, task_in, kept}
use Rattle.ready_queues.specs.QueueMoves.{highest}
use Rattle.law_kept.specs.Moves.{contender, contender_of, dynamic_in}
use Rattle.law_kept.specs.KeptService.{is_above}
use Rattle.law_kept.specs.Standing.{is_overtaken, is_overtaken_by}
use Rattle.law_kept.proofs.Parts.{IsOldest}
use Rattle.law_kept.proofs.Choose.{highest_queue}
use Rattle.law_kept.proofs.Rescheduled.{dynamic_top}
use Rattle.law_kept.proofs.Runner.{runner_oldest, runner_member, runner_itself, runner_slot}
use Rattle.std.proofs.lemmas.Bool.{and_parts}

-- ---- no job in a queue is above a priority

-- a job in a queue is at most at a priority
abbrev IsLow : System → Option JobId → ℕ → Job → Type 0
IsLow S running p k = is_queued running k ≡ true → dynamic_priority S k ≤ p

module _ (S : System) (running : Option JobId) (p : ℕ) where
  low_of : (jobs : List Job)
      → list_all (λ k. not (is_queued running k) || nat_le (dynamic_priority S k) p) jobs ≡ true
      → AllByRecursion (IsLow S running p) jobs
  low_of [] h = tt
  low_of (k ∷ ks) h =
      let both =
      and_parts (not (is_queued running k) || nat_le (dynamic_priority S k) p)
      (list_all (λ x. not (is_queued running x) || nat_le (dynamic_priority S x) p) ks) h in
      (λ e. one (is_queued running k) (dynamic_priority S k) both.0 e, low_of ks both.1)
    where
      one : (b : Bool) (m : ℕ) → (not b || nat_le m p) ≡ true → b ≡ true → m ≤ p
      one true m h e = grind (arith, h)
      one false m h e = clash (sym e)

  of_low : (jobs : List Job) → AllByRecursion (IsLow S running p) jobs
      → list_all (λ k. not (is_queued running k) || nat_le (dynamic_priority S k) p) jobs ≡ true
  of_low [] h = refl
  of_low (k ∷ ks) h = rw (one (is_queued running k) (dynamic_priority S k) h.0) (of_low ks h.1)
    where
      one : (b : Bool) (m : ℕ) → (b ≡ true → m ≤ p) → (not b || nat_le m p) ≡ true
      one true m h = let le = h refl in grind (arith, le)
      one false m h = refl

  -- the highest level is above the priority where not all are low
  above_or_low : (jobs : List Job) → is_above p (highest (suc (top_priority S)) (queue S running jobs))
      ≡ not (list_all (λ k. not (is_queued running k) || nat_le (dynamic_priority S k) p) jobs)
  above_or_low jobs =
      ap (is_above p) (highest_queue S (suc (top_priority S)) running jobs (dynamic_top S))
      ∙ go (best (is_queued running) (dynamic_priority S) jobs)
      ∙ sym (ap not (bounded_best (is_queued running) (dynamic_priority S) p jobs))
    where
      go : (o : Option Job) → is_above p (option_map (dynamic_priority S) o) ≡ not (fits (dynamic_priority S) p o)
      go None = refl
      go (Some y) = one (dynamic_priority S y)
        where
          one : (m : ℕ) → nat_lt p m ≡ not (nat_le m p)
          one m = grind arith

  un : (b : Bool) → not b ≡ false → b ≡ true
  un true h = refl
  un false h = clash h

  pub all_low : (jobs : List Job) → is_above p (highest (suc (top_priority S)) (queue S running jobs)) ≡ false
      → AllByRecursion (IsLow S running p) jobs
  all_low jobs h = low_of jobs (un _ (sym (above_or_low jobs) ∙ h))

  pub none_above : (jobs : List Job) → AllByRecursion (IsLow S running p) jobs
      → is_above p (highest (suc (top_priority S)) (queue S running jobs)) ≡ false
  none_above jobs low = above_or_low jobs ∙ ap not (of_low jobs low)

-- ---- the running job against the queues

module _ (S : System) (s : State) (single : IsSingle S s) (n : JobId) (runs_n : s.running ≡ Some n) (o : IsOldest n s.jobs) (ready : waits o.job ≡ false) where
  -- the highest level against the dynamic priority of the running job
  pub overtaken_is : list_any (λ j. same_id j.id n) s.jobs ≡ true
      → is_overtaken S (kept S s)
      ≡ is_above (dynamic_priority S o.job) (highest (suc (top_priority S)) (queue S s.running s.jobs))
  overtaken_is there =
      ap (λ c. is_overtaken_by S c (kept S s)) contends
      ∙ ap (λ d. is_above d (highest (suc (top_priority S)) (queue S s.running s.jobs))) level
    where
      contends : contender (kept S s) ≡ Some n.task
      contends =
          ap (λ m. contender_of (option_map task_in m) (is_gone m s.jobs) (slots_of s.jobs)) runs_n
          ∙ ap (λ b. cond (not b) None (cond (is_some (slots_of s.jobs n.task).waits_for) None (Some n.task))) there
          ∙ ap (λ a. cond (is_some a.waits_for) None (Some n.task)) (runner_slot S s single n o)
          ∙ ap (λ b. cond b None (Some n.task)) ready

      level : dynamic_in S n.task (slots_of s.jobs n.task) ≡ dynamic_priority S o.job
      level =
          ap (dynamic_in S n.task) (runner_slot S s single n o)
          ∙ sym (ap (λ (m : JobId). dynamic_in S m.task (slot_of (o.job ∷ o.others))) o.id)

  runs_r : s.running ≡ Some o.job.id
  runs_r = runs_n ∙ ap Some (sym o.id)

  itself : AllByRecursion (λ k. same_id k.id o.job.id ≡ true → k ≡ o.job) s.jobs
  itself =
      subst (λ (m : JobId). AllByRecursion (λ k. same_id k.id m ≡ true → k ≡ o.job) s.jobs) (sym o.id)
      (runner_itself S s single n o)

  -- ---- where no queue is above it, it is the one that is to run

  module _ (ranked : AreRanked S s.running s.jobs) (low : AllByRecursion (IsLow S s.running (dynamic_priority S o.job)) s.jobs) where
    -- a job is the running one where it has its id, and isn't above it
    abbrev IsTopped : Job → Type 0
    IsTopped k =
        (same_id k.id o.job.id ≡ true → k ≡ o.job) ×
        (waits k ≡ false → dynamic_priority S k ≤ dynamic_priority S o.job)

    topped : AllByRecursion IsTopped s.jobs
    topped =
        all_weaker
        (λ k. (same_id k.id o.job.id ≡ true → k ≡ o.job) × IsLow S s.running (dynamic_priority S o.job) k) IsTopped s.jobs
        (λ k h. (h.0, λ unwaits. one k h.0 h.1 unwaits (same_id k.id o.job.id) refl))
        (all_both (λ k. same_id k.id o.job.id ≡ true → k ≡ o.job) (IsLow S s.running (dynamic_priority S o.job)) s.jobs itself low)
      where
        one : (k : Job) → (same_id k.id o.job.id ≡ true → k ≡ o.job) → IsLow S s.running (dynamic_priority S o.job) k
            → waits k ≡ false → (b : Bool) → same_id k.id o.job.id ≡ b
            → dynamic_priority S k ≤ dynamic_priority S o.job
        one k same low unwaits true e =
            let here : dynamic_priority S k ≡ dynamic_priority S o.job =
            ap (dynamic_priority S) (same e) in omega (arith, here)
        one k same low unwaits false e =
            low (ap (λ m. is_queued m k) runs_r ∙ ap (λ b. not b && not (waits k)) e ∙ ap not unwaits)

    abbrev IsWorse : Job → Job → Type 0
    IsWorse x y = IsRankedPair S x y × IsBehind S s.running x y

    either : AllByRecursion (EitherWay IsWorse o.job) s.jobs
    either =
        runner_member S s single n o (λ x. AllByRecursion (EitherWay IsWorse x) s.jobs)
        (either_way IsWorse s.jobs (pairs_both (IsRankedPair S) (IsBehind S s.running) s.jobs ranked.pairs ranked.behind))

    lt_of_not : (a b : ℕ) → (b ≤ a → ⊥) → a < b
    lt_of_not a b h = omega (arith, h)

    beneath : (k : Job) → EitherWay IsWorse o.job k → IsTopped k → same_id k.id o.job.id ≡ false
        → is_raised S k ≡ true → dynamic_priority S k < static_priority S o.job
    beneath k (inl later) top other raised =
        lt_of_not (dynamic_priority S k) (static_priority S o.job)
        (λ le. later.0.older raised ready (let own = static_le S k in let up = top.1 (raised_ready S k raised) in omega (arith, own, up)) (later.0.earlier_across raised ready le))
    beneath k (inr (inl earlier)) top other raised =
        lt_of_not (dynamic_priority S k) (static_priority S o.job)
        (λ le. earlier.1 runs_r (raised_ready S k raised) le (top.1 (raised_ready S k raised)))
    beneath k (inr (inr same)) top other raised =
        clash (sym (same_self o.job.id) ∙ ap (λ (z : Job). same_id z.id o.job.id) same ∙ other)

    pub dispatched_runner : IsDispatched S s.jobs o.job
    dispatched_runner = record {
      ready = ready;
      under = all_weaker (λ k. EitherWay IsWorse o.job k × IsTopped k) (IsUnder S o.job) s.jobs
          (λ k h. record { top = h.1.1; beneath = λ other raised. beneath k h.0 h.1 other raised })
          (all_both (EitherWay IsWorse o.job) IsTopped s.jobs either topped);
      before = pairs_weaker (λ x y. IsBehind S s.running x y × (IsTopped x × IsTopped y)) (IsBefore S o.job) s.jobs
          (λ x y h same unwaits le. before x y h.0 h.1.0 (h.1.1.0 same) unwaits le)
          (pairs_both (IsBehind S s.running) (λ x y. IsTopped x × IsTopped y) s.jobs ranked.behind (pairs_of_all IsTopped s.jobs topped));
    }
      where
        before : (x y : Job) → IsBehind S s.running x y → IsTopped x → y ≡ o.job → waits x ≡ false
            → static_priority S o.job ≤ dynamic_priority S x → ⊥
        before x y behind top same unwaits le =
            (subst (IsBehind S s.running x) same behind) runs_r unwaits le (top.1 unwaits)

  -- ---- and where it is, no queue is above it

  pub low_beside : IsDispatched S s.jobs o.job → AllByRecursion (IsLow S s.running (dynamic_priority S o.job)) s.jobs
  low_beside dispatched = all_weaker (IsUnder S o.job) (IsLow S s.running (dynamic_priority S o.job)) s.jobs
      (λ k under queued. under.top (second (not (runs s.running k)) (waits k) queued)) dispatched.under
    where
      second : (a b : Bool) → (a && not b) ≡ true → b ≡ false
      second a false h = refl
      second true true h = clash (sym h)
      second false true h = clash (sym h)

-- ---- where a service may be called

module _ (S : System) (s : State) (single : IsSingle S s) where
  -- no job has the running one's id, where it has ended
  ended_runner : (P : Job → Type 0) (n : JobId) → list_any (λ j. same_id j.id n) s.jobs ≡ false
      → AllByRecursion (λ c. Some n ≡ Some c.id → P c) s.jobs
  ended_runner P n none =
      all_weaker (λ j. same_id j.id n ≡ false) (λ c. Some n ≡ Some c.id → P c) s.jobs
      (λ c other is. clash (sym (ap (λ m. same_id m n) (sym (some_inside n c.id is)) ∙ same_self n) ∙ other))
      (any_none (λ j. same_id j.id n) s.jobs none)

  the_runner : (P : Job → Type 0) (n : JobId) (o : IsOldest n s.jobs) → P o.job
      → AllByRecursion (λ c. Some n ≡ Some c.id → P c) s.jobs
  the_runner P n o here =
      all_weaker (λ k. same_id k.id n ≡ true → k ≡ o.job) (λ c. Some n ≡ Some c.id → P c) s.jobs
      (λ c itself is. subst P (sym (itself (ap (λ m. same_id m n) (sym (some_inside n c.id is)) ∙ same_self n))) here) (runner_itself S s single n o)

  pub dispatched_of : AreRanked S s.running s.jobs → HasReady s.running s.jobs → is_overtaken S (kept S s) ≡ false
      → HasDispatched S s.running s.jobs
  dispatched_of ranked ready behind = go s.running refl
    where
      go : (m : Option JobId) → s.running ≡ m → AllByRecursion (λ c. m ≡ Some c.id → IsDispatched S s.jobs c) s.jobs
      go None e =
          all_any (λ c. None ≡ Some c.id → IsDispatched S s.jobs c) s.jobs (λ c is. absurd (none_some c.id is))
      go (Some n) e = at (list_any (λ j. same_id j.id n) s.jobs) refl
        where
          at : (b : Bool) → list_any (λ j. same_id j.id n) s.jobs ≡ b
              → AllByRecursion (λ c. Some n ≡ Some c.id → IsDispatched S s.jobs c) s.jobs
          at false none = ended_runner (IsDispatched S s.jobs) n none
          at true there =
              let o : IsOldest n s.jobs = runner_oldest S s single n e there in
              let unwaits : waits o.job ≡ false =
              runner_member S s single n o (λ j. s.running ≡ Some j.id → waits j ≡ false) ready
              (e ∙ ap Some (sym o.id)) in
              the_runner (IsDispatched S s.jobs) n o
              (dispatched_runner S s single n e o unwaits ranked
              (all_low S s.running (dynamic_priority S o.job) s.jobs (sym (overtaken_is S s single n e o unwaits there) ∙ behind)))

  pub not_overtaken : HasReady s.running s.jobs → HasDispatched S s.running s.jobs → is_overtaken S (kept S s) ≡ false
  not_overtaken ready dispatched = go s.running refl
    where
      nobody : contender (kept S s) ≡ None → is_overtaken S (kept S s) ≡ false
      nobody none = ap (λ c. is_overtaken_by S c (kept S s)) none

      go : (m : Option JobId) → s.running ≡ m → is_overtaken S (kept S s) ≡ false
      go None e = nobody (ap (λ m. contender_of (option_map task_in m) (is_gone m s.jobs) (slots_of s.jobs)) e)
      go (Some n) e = at (list_any (λ j. same_id j.id n) s.jobs) refl
        where
          at : (b : Bool) → list_any (λ j. same_id j.id n) s.jobs ≡ b → is_overtaken S (kept S s) ≡ false
          at false none =
              nobody (ap (λ m. contender_of (option_map task_in m) (is_gone m s.jobs) (slots_of s.jobs)) e
              ∙ ap
              (λ b. cond (not b) None (cond (is_some (slots_of s.jobs n.task).waits_for) None (Some n.task))) none)
          at true there =
              let o : IsOldest n s.jobs = runner_oldest S s single n e there in
              let runs_o : s.running ≡ Some o.job.id = e ∙ ap Some (sym o.id) in
              let unwaits : waits o.job ≡ false =
              runner_member S s single n o (λ j. s.running ≡ Some j.id → waits j ≡ false) ready runs_o in
              let first : IsDispatched S s.jobs o.job =
              runner_member S s single n o (λ c. s.running ≡ Some c.id → IsDispatched S s.jobs c) dispatched runs_o in
              overtaken_is S s single n e o unwaits there
              ∙ none_above S s.running (dynamic_priority S o.job) s.jobs (low_beside S s single n e o unwaits first)
