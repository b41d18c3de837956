-- A reschedule of the definitions is one by queues.
use Rattle.std.proofs.Math.Path.{fun_ext}
use Rattle.std.proofs.Common.{◌≡◌, ℕ, zero, suc, ◌<◌, ◌≤◌, Bool, true, false, cond, not, ◌&&◌, nat_le, max, List, [], ◌∷◌, ◌++◌, map, length, refl, sym, ◌∙◌, ap, subst, arith}
use Rattle.std.specs.Prelude.{Option, Some, None, ◌==◌, is_some, slice_index_or}
use Rattle.std.specs.Option.{option_map, unwrap_or}
use Rattle.std.specs.List.{filter, find, list_any, AllByRecursion}
use Rattle.osek_base.specs.declared.ids.ResId.{ResId}
use Rattle.osek_base.specs.declared.task.Schedule.{Schedule}
use Rattle.osek_base.specs.Lists.{greatest}
use Rattle.osek_base.specs.System.{System, Task, task, no_task, priority_of, lists}
use Rattle.osek_base.specs.Ceiling.{ceiling, declared_ceiling, internal_ceiling, internal_ceiling_by, is_internal, top_priority}
use Rattle.osek_base.specs.State.{Job, JobId, State, same_id, jobs_of, with_job, waits, may_dispatch}
use Rattle.osek_base.specs.Choice.{choice}
use Rattle.osek_base.specs.Priority.{dynamic_priority}
use Rattle.osek_base.specs.Reschedule.{entered, switched, switch_records, reschedule, with_dispatch_of}
use Rattle.osek_base.proofs.ForemostLemmas.{better, best, foremost-best}
use Rattle.osek_base.proofs.LevelLemmas.{level, IsFirst, best_first}
use Rattle.law_runs.proofs.Lists.{Pairs, EitherWay, clash, all_weaker, all_any, all_kept, found, pairs_weaker, either_way, any_none}
use Rattle.law_runs.proofs.Foremost.{AreApart, same_self, only}
use Rattle.law_runs.proofs.Single.{IsSoundPair, HasRunner, AreSingle, IsSingle}
use Rattle.law_runs.proofs.SingleMoves.{other_way, chosen_single, is_best}
use Rattle.law_runs.proofs.Ranked.{IsBehind}
use Rattle.law_kept.specs.Kept.{Slot, slot_with, slot_of, slots_of, runs, is_at, is_queued, task_of, task_in, queue, is_gone, kept}
use Rattle.ready_queues.specs.QueueMoves.{changed_at, put_oldest, first, highest}
use Rattle.law_kept.specs.Moves.{kept_recorded, left_in, entered_in, dynamic_in, slot_entered, stays, entered_as, dispatched, contender_of, contender, chosen, rescheduled}
use Rattle.law_kept.proofs.Parts.{filter_same, any_moved, found_any, IsOldest, oldest}
use Rattle.law_kept.proofs.JobMoves.{one_changed, keeps_id, changed_queue, changed_gone, changed_of, changed_slots}
use Rattle.law_kept.proofs.Choose.{best_same, highest_queue, is_ready, IsClear, clear_behind, best_against, first_of_level, all_ready, taken_out, put_back, first_is}
use Rattle.std.proofs.lemmas.Bool.{and_parts}

-- ---- no priority is above the top

module _ (S : System) where
  pub at_most : (tasks : List Task) (t : ℕ)
      → (slice_index_or tasks t no_task).priority ≤ greatest (map (λ a. a.priority) tasks)
  at_most [] t = omega arith
  at_most (a ∷ rest) zero = omega arith
  at_most (a ∷ rest) (suc t) = let ih = at_most rest t in omega arith

  some_at_most : (test : Task → Bool) (tasks : List Task)
      → greatest (map (λ a. a.priority) (filter test tasks)) ≤ greatest (map (λ a. a.priority) tasks)
  some_at_most test [] = omega arith
  some_at_most test (a ∷ rest) = go (test a) (some_at_most test rest)
    where
      go : (b : Bool) → greatest (map (λ x. x.priority) (filter test rest)) ≤ greatest (map (λ x. x.priority) rest)
          → greatest (map (λ x. x.priority) (cond b (a ∷ filter test rest) (filter test rest))) ≤ max a.priority (greatest (map (λ x. x.priority) rest))
      go true ih = omega arith
      go false ih = omega arith

  ceiling_top : (r : ResId) → ceiling S r ≤ top_priority S
  ceiling_top (ResId.Declared r) = some_at_most (lists r) S.tasks
  ceiling_top ResId.Scheduler = omega arith

  held_top : (held : List ResId) → greatest (map (ceiling S) held) ≤ top_priority S
  held_top [] = omega arith
  held_top (r ∷ rs) = let one = ceiling_top r in let ih = held_top rs in omega arith

  internal_top : (schedule : Schedule) (resources : List ℕ)
      → unwrap_or (internal_ceiling_by S schedule resources) 0 ≤ top_priority S
  internal_top Schedule.Non resources = omega arith
  internal_top Schedule.Full resources = go (find (is_internal S) resources)
    where
      go : (o : Option ℕ) → unwrap_or (option_map (declared_ceiling S) o) 0 ≤ top_priority S
      go None = omega arith
      go (Some r) = some_at_most (lists r) S.tasks

  taken_top : (b : Bool) (n m : ℕ) → n ≤ m → cond b n 0 ≤ m
  taken_top true n m h = h
  taken_top false n m h = omega arith

  pub dynamic_top : (j : Job) → dynamic_priority S j < suc (top_priority S)
  dynamic_top j =
      let a : priority_of S j.id.task ≤ top_priority S = at_most S.tasks j.id.task in
      let b : greatest (map (ceiling S) j.held) ≤ top_priority S = held_top j.held in
      let c : cond j.taken (unwrap_or (internal_ceiling S j.id.task) 0) 0 ≤ top_priority S =
      taken_top j.taken (unwrap_or (internal_ceiling S j.id.task) 0) (top_priority S)
      (internal_top (task S j.id.task).schedule (task S j.id.task).resources) in
      omega arith

-- the oldest before a change that keeps ids
oldest_before : (n : JobId) (f : Job → Job) → ((j : Job) → (f j).id ≡ j.id) → (jobs : List Job)
    → IsOldest n (with_job n f jobs) → IsOldest n jobs
oldest_before n f keep jobs o = go (jobs_of n.task jobs) refl (sym (changed_of n f keep jobs n.task) ∙ o.is)
  where
    go : (js : List Job) → jobs_of n.task jobs ≡ js → map (one_changed n f keep) js ≡ o.job ∷ o.others
        → IsOldest n jobs
    go [] e h = absurd (grind arith)
    go (k ∷ ks) e h =
        let head : one_changed n f keep k ≡ o.job = grind arith in
        record { job = k; others = ks; is = e; id = sym (keeps_id n f keep k) ∙ ap (λ (j : Job). j.id) head ∙ o.id }

module _ (S : System) (s : State) (single : IsSingle S s) where
  apart : Pairs AreApart s.jobs
  apart = pairs_weaker (IsSoundPair S) AreApart s.jobs (λ x y h. h.apart) single.pairs

  module _ (c : Job) (falls : choice S s.jobs ≡ Some c) where
    c_itself : AllByRecursion (λ y. same_id y.id c.id ≡ true → y ≡ c) s.jobs
    c_itself =
        only c s.jobs
        (found (λ x. AllByRecursion (EitherWay AreApart x) s.jobs) (is_best S s.jobs) s.jobs c (either_way AreApart s.jobs apart) falls).0

    c_there : list_any (λ j. same_id j.id c.id) s.jobs ≡ true
    c_there = found_any (is_best S s.jobs) (λ j. same_id j.id c.id) s.jobs c falls (same_self c.id)

    c_oldest : IsOldest c.id s.jobs
    c_oldest =
        let after : AreSingle S s.made (Some c.id) (with_job c.id (entered S) s.jobs) =
        chosen_single S s.made s.running s.jobs (Some c) falls single in
        oldest_before c.id (entered S) (λ j. refl) s.jobs
        (oldest S c.id (with_job c.id (entered S) s.jobs) after.pairs after.runs.begun
        (any_moved (λ j. same_id j.id c.id) (one_changed c.id (entered S) (λ j. refl)) (λ j. ap (λ m. same_id m c.id) (keeps_id c.id (entered S) (λ j. refl) j)) s.jobs ∙ c_there))

    c_first : IsFirst c (level (is_ready S) (dynamic_priority S) (dynamic_priority S c) s.jobs)
    c_first =
        best_first (is_ready S) (dynamic_priority S) s.jobs c
        (sym (foremost-best (is_ready S) (dynamic_priority S) s.jobs) ∙ falls)

    -- whoever is chosen leaves the queues of all that are ready
    entered_kept : kept S (switched S (Some c) s).state
        ≡ entered_as S c.id.task (dynamic_priority S c) (all_ready S s.jobs) (kept S s)
    entered_kept = λ i. record (kept S s) {
      queues =
          λ l. (changed_queue c.id (entered S) (λ j. refl) S s.jobs l ∙ taken_out S c s.jobs apart c_itself c_first l) i;
      slots = λ u. changed_slots c.id (entered S) (λ j. refl) (slot_entered S c.id.task) fits s.jobs c_oldest u i;
      running = Some c.id.task;
      gone = (changed_gone c.id (entered S) (λ j. refl) (Some c.id) s.jobs ∙ ap not c_there) i;
    }
      where
        fits : (k : ℕ) (j : Job) → j.id ≡ c.id → slot_with k (entered S j) ≡ slot_entered S c.id.task (slot_with k j)
        fits k j e = λ i. record (slot_with k j) { begun = true; taken = is_some (internal_ceiling S (e i).task) }

    c_ready : waits c ≡ false
    c_ready =
        unwait (waits c)
        (and_parts (is_ready S c) _ (found (λ x. Unit {0}) (is_best S s.jobs) s.jobs c (all_any _ s.jobs (λ x. tt)) falls).1).0
      where
        unwait : (b : Bool) → not b ≡ true → b ≡ false
        unwait false h = refl
        unwait true h = clash (sym h)

    switch_events : runs s.running c ≡ false
        → switch_records S s.running (Some c.id) ≡ left_in S (option_map task_in s.running) ++ entered_in S c.id.task
    switch_events other = go s.running other
      where
        go : (r : Option JobId) → runs r c ≡ false
            → switch_records S r (Some c.id) ≡ left_in S (option_map task_in r) ++ entered_in S c.id.task
        go None h = refl
        go (Some n) h = rw (other_way S c.id n h) refl

    -- the first of a level of queues that are those
    dispatched_kept : runs s.running c ≡ false → (q : ℕ → List ℕ) → ((l : ℕ) → all_ready S s.jobs l ≡ q l)
        → kept_recorded S (switched S (Some c) s) ≡ dispatched S (dynamic_priority S c) q (kept S s)
    dispatched_kept other q same = λ i. record { events = events i; state = state i }
      where
        is : first (q (dynamic_priority S c)) ≡ c.id.task
        is = ap first (sym (same (dynamic_priority S c))) ∙ first_is S c s.jobs apart c_itself c_first

        events : switch_records S s.running (Some c.id)
            ≡ left_in S (option_map task_in s.running) ++ entered_in S (first (q (dynamic_priority S c)))
        events = switch_events other ∙ ap (λ t. left_in S (option_map task_in s.running) ++ entered_in S t) (sym is)

        state : kept S (switched S (Some c) s).state
            ≡ entered_as S (first (q (dynamic_priority S c))) (dynamic_priority S c) q (kept S s)
        state =
            entered_kept
            ∙ ap (λ p. entered_as S c.id.task (dynamic_priority S c) p (kept S s)) (fun_ext same)
            ∙ ap (λ t. entered_as S t (dynamic_priority S c) q (kept S s)) (sym is)

  -- ---- nobody contends

  module _ (idle : AllByRecursion (λ j. runs s.running j ≡ true → waits j ≡ true) s.jobs) where
    free : (j : Job) → (runs s.running j ≡ true → waits j ≡ true) → is_queued s.running j ≡ is_ready S j
    free j h = go (runs s.running j) (waits j) h
      where
        go : (a b : Bool) → (a ≡ true → b ≡ true) → (not a && not b) ≡ not b
        go true b h = sym (ap not (h refl))
        go false b h = refl

    queues_all : (l : ℕ) → all_ready S s.jobs l ≡ queue S s.running s.jobs l
    queues_all l =
        ap (map task_of) (filter_same (λ x. is_ready S x && (dynamic_priority S x == l)) (is_at S s.running l) s.jobs
        (all_weaker (λ j. runs s.running j ≡ true → waits j ≡ true) _ s.jobs (λ j h. ap (λ b. b && (dynamic_priority S j == l)) (sym (free j h))) idle))

    queue_none : (l : ℕ) → queue S None s.jobs l ≡ queue S s.running s.jobs l
    queue_none l = queues_all l

    against_none : (o : Option Job) → choice S s.jobs ≡ o
        → kept_recorded S (switched S o s) ≡ chosen S None (option_map (dynamic_priority S) o) (kept S s)
    against_none None falls = λ i. record { events = events s.running i; state = record (kept S s) { queues = λ l. queue_none l i; running = None; gone = false } }
      where
        events : (r : Option JobId) → switch_records S r None ≡ left_in S (option_map task_in r)
        events None = refl
        events (Some n) = refl
    against_none (Some c) falls = dispatched_kept c falls other (queue S s.running s.jobs) queues_all
      where
        never : (b : Bool) → runs s.running c ≡ b → b ≡ false
        never false e = refl
        never true e =
            clash
            (sym ((found (λ j. runs s.running j ≡ true → waits j ≡ true) (is_best S s.jobs) s.jobs c idle falls).0 e) ∙ c_ready c falls)

        other : runs s.running c ≡ false
        other = never (runs s.running c) refl

    best_is : choice S s.jobs ≡ best (is_queued s.running) (dynamic_priority S) s.jobs
    best_is =
        foremost-best (is_ready S) (dynamic_priority S) s.jobs
        ∙ sym
        (best_same (dynamic_priority S) (is_queued s.running) (is_ready S) s.jobs (all_weaker (λ j. runs s.running j ≡ true → waits j ≡ true) _ s.jobs free idle))

    pub none_contends : kept_recorded S (switched S (choice S s.jobs) s)
        ≡ chosen S None (highest (suc (top_priority S)) (queue S s.running s.jobs)) (kept S s)
    none_contends =
        against_none (choice S s.jobs) refl
        ∙ ap (λ h. chosen S None h (kept S s))
        (ap (option_map (dynamic_priority S)) best_is ∙ sym (highest_queue S (suc (top_priority S)) s.running s.jobs (dynamic_top S)))

  -- ---- the running job contends

  module _ (r : Job) (runs_r : s.running ≡ Some r.id) (behind : Pairs (IsBehind S s.running) s.jobs) (ready : waits r ≡ false)
      (itself : AllByRecursion (λ y. same_id y.id r.id ≡ true → y ≡ r) s.jobs)
      (there : list_any (λ j. same_id j.id r.id) s.jobs ≡ true)
      (k : ℕ) (slot : slots_of s.jobs r.id.task ≡ slot_with k r) where
    clear : Pairs (IsClear S r.id (dynamic_priority S r)) s.jobs
    clear = clear_behind S r s.jobs itself (subst (λ o. Pairs (IsBehind S o) s.jobs) runs_r behind)

    level_first : IsFirst r (level (is_ready S) (dynamic_priority S) (dynamic_priority S r) s.jobs)
    level_first = first_of_level S r s.jobs ready itself clear there

    queue_is : (l : ℕ) → queue S (Some r.id) s.jobs l ≡ queue S s.running s.jobs l
    queue_is l = ap (λ o. queue S o s.jobs l) (sym runs_r)

    -- it stays
    stays_kept : choice S s.jobs ≡ Some r
        → kept S (switched S (Some r) s).state ≡ (stays S r.id.task (kept S s)).state
    stays_kept falls =
        entered_kept r falls
        ∙ (λ i. record (kept S s) {
          queues = λ l. (sym (taken_out S r s.jobs apart itself level_first l) ∙ queue_is l) i;
          slots = changed_at (slots_of s.jobs) r.id.task (slot_entered S r.id.task (slots_of s.jobs r.id.task));
          running = option_map task_in (sym runs_r i);
          gone = sym (ap (λ o. is_gone o s.jobs) runs_r ∙ ap not there) i;
        })

    stays_recorded : choice S s.jobs ≡ Some r → kept_recorded S (switched S (Some r) s) ≡ stays S r.id.task (kept S s)
    stays_recorded falls = λ i. record { events = events i; state = stays_kept falls i }
      where
        events : switch_records S s.running (Some r.id) ≡ []
        events = ap (λ o. switch_records S o (Some r.id)) runs_r ∙ rw (same_self r.id) refl

    falls_best : choice S s.jobs
        ≡ better (dynamic_priority S) true r (best (is_queued (Some r.id)) (dynamic_priority S) s.jobs)
    falls_best =
        foremost-best (is_ready S) (dynamic_priority S) s.jobs
        ∙ best_against S r s.jobs ready apart itself clear there

    level_is : dynamic_in S r.id.task (slots_of s.jobs r.id.task) ≡ dynamic_priority S r
    level_is = ap (dynamic_in S r.id.task) slot

    above : (y : Job) (b : Bool) → nat_le (dynamic_priority S y) (dynamic_priority S r) ≡ b
        → choice S s.jobs ≡ cond b (Some r) (Some y)
        → kept_recorded S (switched S (cond b (Some r) (Some y)) s)
        ≡ cond b (stays S r.id.task (kept S s)) (dispatched S (dynamic_priority S y) (put_oldest (queue S s.running s.jobs) (dynamic_priority S r) r.id.task) (kept S s))
    above y true e falls = stays_recorded falls
    above y false e falls =
        dispatched_kept y falls other (put_oldest (queue S s.running s.jobs) (dynamic_priority S r) r.id.task)
        (λ l. put_back S r s.jobs apart itself level_first l ∙ ap (λ o. put_oldest (queue S o s.jobs) (dynamic_priority S r) r.id.task l) (sym runs_r))
      where
        self : nat_le (dynamic_priority S r) (dynamic_priority S r) ≡ true
        self = grind arith

        never : (b : Bool) → same_id y.id r.id ≡ b → b ≡ false
        never false k = refl
        never true k =
            let same : y ≡ r =
            (found (λ x. same_id x.id r.id ≡ true → x ≡ r) (is_best S s.jobs) s.jobs y itself falls).0 k in
            clash (sym self ∙ ap (λ (z : Job). nat_le (dynamic_priority S z) (dynamic_priority S r)) (sym same) ∙ e)

        other : runs s.running y ≡ false
        other = ap (λ o. runs o y) runs_r ∙ never (same_id y.id r.id) refl

    against : (o : Option Job) → choice S s.jobs ≡ better (dynamic_priority S) true r o
        → kept_recorded S (switched S (better (dynamic_priority S) true r o) s)
        ≡ chosen S (Some r.id.task) (option_map (dynamic_priority S) o) (kept S s)
    against None falls = stays_recorded falls
    against (Some y) falls =
        above y (nat_le (dynamic_priority S y) (dynamic_priority S r)) refl falls
        ∙ ap
        (λ d. cond (nat_le (dynamic_priority S y) d) (stays S r.id.task (kept S s)) (dispatched S (dynamic_priority S y) (put_oldest (queue S s.running s.jobs) d r.id.task) (kept S s)))
        (sym level_is)

    pub one_contends : kept_recorded S (switched S (choice S s.jobs) s)
        ≡ chosen S (Some r.id.task) (highest (suc (top_priority S)) (queue S s.running s.jobs)) (kept S s)
    one_contends =
        ap (λ c. kept_recorded S (switched S c s)) falls_best
        ∙ against (best (is_queued (Some r.id)) (dynamic_priority S) s.jobs) falls_best
        ∙ ap (λ h. chosen S (Some r.id.task) h (kept S s))
        (ap (λ o. option_map (dynamic_priority S) (best (is_queued o) (dynamic_priority S) s.jobs)) (sym runs_r)
        ∙ sym (highest_queue S (suc (top_priority S)) s.running s.jobs (dynamic_top S)))

  -- ---- whoever contends

  module _ (behind : Pairs (IsBehind S s.running) s.jobs) where
    pub switched_kept : kept_recorded S (switched S (choice S s.jobs) s)
        ≡ chosen S (contender (kept S s)) (highest (suc (top_priority S)) (queue S s.running s.jobs)) (kept S s)
    switched_kept = go s.running refl
      where
        at : (n : Option JobId) → s.running ≡ n
            → contender_of (option_map task_in n) (is_gone n s.jobs) (slots_of s.jobs) ≡ contender (kept S s)
        at n e = ap (λ o. contender_of (option_map task_in o) (is_gone o s.jobs) (slots_of s.jobs)) (sym e)

        stands : (n : JobId) → s.running ≡ Some n → list_any (λ j. same_id j.id n) s.jobs ≡ true
            → kept_recorded S (switched S (choice S s.jobs) s)
            ≡ chosen S (contender (kept S s)) (highest (suc (top_priority S)) (queue S s.running s.jobs)) (kept S s)
        stands n e there = waiting (waits r) refl
          where
            o : IsOldest n s.jobs
            o = oldest S n s.jobs single.pairs (subst (HasRunner s.made s.jobs) e single.runs).begun there

            r : Job
            r = o.job

            r_itself : AllByRecursion (λ y. same_id y.id r.id ≡ true → y ≡ r) s.jobs
            r_itself = only r s.jobs
                (subst (AllByRecursion (λ x. AllByRecursion (EitherWay AreApart x) s.jobs)) o.is
                (all_kept (λ x. AllByRecursion (EitherWay AreApart x) s.jobs) (λ j. j.id.task == n.task) s.jobs (either_way AreApart s.jobs apart))).0

            slot : slots_of s.jobs n.task ≡ slot_of (r ∷ o.others)
            slot = ap slot_of o.is

            known : contender (kept S s) ≡ cond (waits r) None (Some n.task)
            known =
                sym (at (Some n) e)
                ∙ ap
                (λ b. cond (not b) None (cond (is_some (slots_of s.jobs n.task).waits_for) None (Some n.task))) there
                ∙ ap (λ (a : Slot). cond (is_some a.waits_for) None (Some n.task)) slot

            runs_n : (j : Job) → runs s.running j ≡ same_id j.id r.id
            runs_n j = ap (λ m. runs m j) e ∙ ap (λ m. same_id j.id m) (sym o.id)

            waiting : (b : Bool) → waits r ≡ b
                → kept_recorded S (switched S (choice S s.jobs) s)
                ≡ chosen S (contender (kept S s)) (highest (suc (top_priority S)) (queue S s.running s.jobs)) (kept S s)
            waiting true w =
                none_contends
                (all_weaker (λ y. same_id y.id r.id ≡ true → y ≡ r) _ s.jobs (λ j h same. ap waits (h (sym (runs_n j) ∙ same)) ∙ w) r_itself)
                ∙ ap (λ c. chosen S c (highest (suc (top_priority S)) (queue S s.running s.jobs)) (kept S s))
                (sym (known ∙ ap (λ b. cond b None (Some n.task)) w))
            waiting false w =
                one_contends r (e ∙ ap Some (sym o.id)) behind w r_itself
                (ap (λ m. list_any (λ j. same_id j.id m) s.jobs) o.id ∙ there)
                (suc (length o.others)) (ap (λ (m : JobId). slots_of s.jobs m.task) o.id ∙ slot)
                ∙ ap (λ c. chosen S c (highest (suc (top_priority S)) (queue S s.running s.jobs)) (kept S s))
                (ap (λ (m : JobId). Some m.task) o.id ∙ sym (known ∙ ap (λ b. cond b None (Some n.task)) w))

        gone : (n : JobId) → s.running ≡ Some n → list_any (λ j. same_id j.id n) s.jobs ≡ false
            → kept_recorded S (switched S (choice S s.jobs) s)
            ≡ chosen S (contender (kept S s)) (highest (suc (top_priority S)) (queue S s.running s.jobs)) (kept S s)
        gone n e none =
            none_contends
            (all_weaker (λ j. same_id j.id n ≡ false) _ s.jobs (λ j h same. clash (sym same ∙ ap (λ m. runs m j) e ∙ h)) (any_none (λ j. same_id j.id n) s.jobs none))
            ∙ ap (λ c. chosen S c (highest (suc (top_priority S)) (queue S s.running s.jobs)) (kept S s))
            (ap (λ b. cond (not b) None (cond (is_some (slots_of s.jobs n.task).waits_for) None (Some n.task))) (sym none) ∙ at (Some n) e)

        go : (n : Option JobId) → s.running ≡ n
            → kept_recorded S (switched S (choice S s.jobs) s)
            ≡ chosen S (contender (kept S s)) (highest (suc (top_priority S)) (queue S s.running s.jobs)) (kept S s)
        go None e =
            none_contends (all_any _ s.jobs (λ j same. clash (sym same ∙ ap (λ m. runs m j) e)))
            ∙ ap (λ c. chosen S c (highest (suc (top_priority S)) (queue S s.running s.jobs)) (kept S s)) (at None e)
        go (Some n) e = there (list_any (λ j. same_id j.id n) s.jobs) refl
          where
            there : (b : Bool) → list_any (λ j. same_id j.id n) s.jobs ≡ b
                → kept_recorded S (switched S (choice S s.jobs) s)
                ≡ chosen S (contender (kept S s)) (highest (suc (top_priority S)) (queue S s.running s.jobs)) (kept S s)
            there true h = stands n e h
            there false h = gone n e h

    pub rescheduled_kept : kept_recorded S (reschedule S s) ≡ rescheduled S (kept S s)
    unfolding reschedule rescheduled
    rescheduled_kept = go (may_dispatch s)
      where
        go : (b : Bool)
            → kept_recorded S (with_dispatch_of s (cond b (switched S (choice S s.jobs) s) (record { events = []; state = s })))
            ≡ cond b (chosen S (contender (kept S s)) (highest (suc (top_priority S)) (queue S s.running s.jobs)) (kept S s)) (record { events = []; state = kept S s })
        go true = switched_kept
        go false = refl
