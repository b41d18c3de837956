-- What is kept of a standing state fits: tasks exist, and the queues have room.
use Rattle.std.proofs.Common.{◌≡◌, ℕ, zero, suc, ◌+◌, ◌<◌, ◌≤◌, ◌⊎◌, inl, inr, Bool, true, false, cond, not, ◌&&◌, nat_lt, List, [], ◌∷◌, map, length, refl, sym, ◌∙◌, ap, subst, arith}
use Rattle.std.specs.Prelude.{Option, Some, None, IfSome, is_some, slice_index, ◌==◌}
use Rattle.std.specs.Option.{option_map}
use Rattle.std.specs.List.{filter, list_any, AllByRecursion}
use Rattle.std.proofs.lemmas.Bool.{cases_lt}
use Rattle.std.proofs.lemmas.List.{get_or_past, length-map}
use Rattle.ready_queues.specs.declared.ready_queues.TheConstants.{LEVELS}
use Rattle.osek_base.specs.declared.ids.Owner.{Owner}
use Rattle.osek_base.specs.System.{System, activation_of}
use Rattle.osek_base.specs.Ceiling.{top_priority}
use Rattle.osek_base.specs.State.{Job, JobId, State, jobs_of, same_id, waits}
use Rattle.osek_base.specs.Priority.{dynamic_priority}
use Rattle.law_runs.proofs.Lists.{clash, all_weaker, all_any, all_kept}
use Rattle.law_runs.proofs.Foremost.{same_self}
use Rattle.law_runs.proofs.Single.{HasRunner}
use Rattle.law_runs.proofs.Formed.{IsPlaced, IsPlacedJob}
use Rattle.ready_queues.specs.Queues.{total_below, total}
use Rattle.law_kept.specs.Kept.{Slot, slot_of, slots_of, task_of, task_in, is_at, is_queued, runs, queue, is_gone, kept}
use Rattle.law_kept.specs.KeptService.{is_full_in}
use Rattle.law_kept.specs.Standing.{IsStanding, IsRunnerPlaced, sum_to, room_for, FitsWhereStanding}
use Rattle.law_kept.proofs.Parts.{filter_all, filter_none, IsOldest}
use Rattle.law_kept.proofs.Rescheduled.{dynamic_top}
use Rattle.law_kept.proofs.Runner.{runner_oldest, runner_member, runner_slot}

-- ---- counting

module _ {X : Type 0} where
  -- what passes one of two tests that exclude each other, and any other test besides
  pub count_two : (p q t : X → Bool) → ((x : X) → cond (p x) 1 0 + cond (q x) 1 0 ≤ cond (t x) 1 0) → (xs : List X)
      → length (filter p xs) + length (filter q xs) ≤ length (filter t xs)
  count_two p q t fit [] = omega arith
  count_two p q t fit (x ∷ xs) = go (p x) (q x) (t x) (fit x) (count_two p q t fit xs)
    where
      go : (a b c : Bool) → cond a 1 0 + cond b 1 0 ≤ cond c 1 0
          → length (filter p xs) + length (filter q xs) ≤ length (filter t xs)
          → length (cond a (x ∷ filter p xs) (filter p xs)) + length (cond b (x ∷ filter q xs) (filter q xs)) ≤ length (cond c (x ∷ filter t xs) (filter t xs))
      go true true true h ih = absurd (omega (arith, h))
      go true true false h ih = absurd (omega (arith, h))
      go true false true h ih = omega (arith, ih)
      go true false false h ih = absurd (omega (arith, h))
      go false true true h ih = omega (arith, ih)
      go false true false h ih = absurd (omega (arith, h))
      go false false true h ih = omega (arith, ih)
      go false false false h ih = ih

  -- what passes one of two tests that cover it
  count_cover : (p q t : X → Bool) → ((x : X) → cond (t x) 1 0 ≤ cond (p x) 1 0 + cond (q x) 1 0) → (xs : List X)
      → length (filter t xs) ≤ length (filter p xs) + length (filter q xs)
  count_cover p q t fit [] = omega arith
  count_cover p q t fit (x ∷ xs) = go (p x) (q x) (t x) (fit x) (count_cover p q t fit xs)
    where
      one : (d : Bool) → length (cond d (x ∷ filter t xs) (filter t xs)) ≤ suc (length (filter t xs))
      one true = omega arith
      one false = omega arith

      go : (a b c : Bool) → cond c 1 0 ≤ cond a 1 0 + cond b 1 0
          → length (filter t xs) ≤ length (filter p xs) + length (filter q xs)
          → length (cond c (x ∷ filter t xs) (filter t xs)) ≤ length (cond a (x ∷ filter p xs) (filter p xs)) + length (cond b (x ∷ filter q xs) (filter q xs))
      go true true c h ih = omega (arith, one c)
      go true false c h ih = omega (arith, one c)
      go false true c h ih = omega (arith, one c)
      go false false true h ih = absurd (omega (arith, h))
      go false false false h ih = ih

  pub count_most : (p : X → Bool) (xs : List X) → length (filter p xs) ≤ length xs
  count_most p [] = omega arith
  count_most p (x ∷ xs) = go (p x) (count_most p xs)
    where
      go : (b : Bool) → length (filter p xs) ≤ length xs
          → length (cond b (x ∷ filter p xs) (filter p xs)) ≤ suc (length xs)
      go true h = omega (arith, h)
      go false h = omega (arith, h)

  -- where all stay, each passes
  all_stay : (p : X → Bool) (xs : List X) → length xs ≤ length (filter p xs) → AllByRecursion (λ x. p x ≡ true) xs
  all_stay p [] h = tt
  all_stay p (x ∷ xs) h = go (p x) refl h (all_stay p xs) (count_most p xs)
    where
      go : (b : Bool) → p x ≡ b → suc (length xs) ≤ length (cond b (x ∷ filter p xs) (filter p xs))
          → (length xs ≤ length (filter p xs) → AllByRecursion (λ y. p y ≡ true) xs)
          → length (filter p xs) ≤ length xs → AllByRecursion (λ y. p y ≡ true) (x ∷ xs)
      go true e k more most = (e, more (omega (arith, k)))
      go false e k more most = absurd (omega (arith, k, most))

  -- fewer pass than there are, where one doesn't
  pub count_fewer : (p : X → Bool) (xs : List X) (x : X) → ((P : X → Type 0) → AllByRecursion P xs → P x)
      → p x ≡ false → length (filter p xs) < length xs
  count_fewer p xs x member out = go (cases_lt (length (filter p xs)) (length xs))
    where
      go : (length (filter p xs) < length xs) ⊎ (length xs ≤ length (filter p xs)) → length (filter p xs) < length xs
      go (inl less) = less
      go (inr all) = clash (sym (member (λ y. p y ≡ true) (all_stay p xs all)) ∙ out)

-- ---- sums over tasks

sum_low : (n : ℕ) (f g : ℕ → ℕ) → ((t : ℕ) → f t ≤ g t) → sum_to n f ≤ sum_to n g
sum_low zero f g low = omega arith
sum_low (suc n) f g low = let ih = sum_low n f g low in let one = low n in omega (arith, ih, one)

sum_lower : (n : ℕ) (f g : ℕ → ℕ) → ((t : ℕ) → f t ≤ g t) → (t : ℕ) → t < n → f t < g t → sum_to n f < sum_to n g
sum_lower zero f g low t inside less = absurd (omega (arith, inside))
sum_lower (suc n) f g low t inside less = go (cases_lt t n) (λ h. sum_lower n f g low t h less)
  where
    go : (t < n) ⊎ (n ≤ t) → (t < n → sum_to n f < sum_to n g) → sum_to n f + f n < sum_to n g + g n
    go (inl h) ih = let more = ih h in let one = low n in omega (arith, more, one)
    go (inr h) ih =
        let same : t ≡ n = omega (arith, h, inside) in
        let here : f n < g n = subst (λ k. f k < g k) same less in
        let all = sum_low n f g low in
        omega (arith, here, all)

-- ---- jobs by task, and by level

-- what is at n, and what is below, is below n + 1
at_and_below : (m n : ℕ) → cond (m == n) 1 0 + cond (nat_lt m n) 1 0 ≤ cond (nat_lt m (suc n)) 1 0
at_and_below m n = go (m == n) (nat_lt m n) (nat_lt m (suc n)) refl refl refl
  where
    go : (a b c : Bool) → (m == n) ≡ a → nat_lt m n ≡ b → nat_lt m (suc n) ≡ c → cond a 1 0 + cond b 1 0 ≤ cond c 1 0
    go true true c e f g = absurd (grind (arith, e, f))
    go true false true e f g = omega arith
    go true false false e f g = absurd (grind (arith, e, f, g))
    go false true true e f g = omega arith
    go false true false e f g = absurd (grind (arith, e, f, g))
    go false false c e f g = omega arith

below_or_at : (m n : ℕ) → cond (nat_lt m (suc n)) 1 0 ≤ cond (m == n) 1 0 + cond (nat_lt m n) 1 0
below_or_at m n = go (m == n) (nat_lt m n) (nat_lt m (suc n)) refl refl refl
  where
    go : (a b c : Bool) → (m == n) ≡ a → nat_lt m n ≡ b → nat_lt m (suc n) ≡ c → cond c 1 0 ≤ cond a 1 0 + cond b 1 0
    go true b true e f g = omega arith
    go false true true e f g = omega arith
    go false false true e f g = absurd (grind (arith, e, f, g))
    go a b false e f g = omega arith

none_below : (m : ℕ) → nat_lt m 0 ≡ false
none_below m = grind arith

-- the jobs of the tasks below n are those of each of them
by_task : (n : ℕ) (jobs : List Job)
    → length (filter (λ j. nat_lt j.id.task n) jobs) ≤ sum_to n (λ t. length (jobs_of t jobs))
by_task zero jobs = none jobs
  where
    none : (js : List Job) → length (filter (λ j. nat_lt j.id.task 0) js) ≤ 0
    none [] = omega arith
    none (j ∷ js) = rw (none_below j.id.task) (none js)
by_task (suc n) jobs =
    let ih = by_task n jobs in
    let one =
    count_cover (λ (j : Job). j.id.task == n) (λ (j : Job). nat_lt j.id.task n)
    (λ (j : Job). nat_lt j.id.task (suc n)) (λ j. below_or_at j.id.task n) jobs in
    omega (arith, ih, one)

all_below : (n : ℕ) (jobs : List Job) → AllByRecursion (λ j. j.id.task < n) jobs
    → filter (λ j. nat_lt j.id.task n) jobs ≡ jobs
all_below n jobs known =
    filter_all (λ j. nat_lt j.id.task n) jobs
    (all_weaker (λ j. j.id.task < n) (λ j. nat_lt j.id.task n ≡ true) jobs (λ j h. true_of j.id.task h) known)
  where
    true_of : (m : ℕ) → m < n → nat_lt m n ≡ true
    true_of m h = grind (arith, h)

module _ (S : System) (running : Option JobId) where
  -- each job stands in one queue at most
  by_level : (n : ℕ) (jobs : List Job)
      → total_below n (queue S running jobs) ≤ length (filter (λ j. is_queued running j && nat_lt (dynamic_priority S j) n) jobs)
  unfolding total_below
  by_level zero jobs = omega arith
  by_level (suc n) jobs =
      let ih = by_level n jobs in
      let same : length (queue S running jobs n) ≡ length (filter (is_at S running n) jobs) =
      length-map (filter (is_at S running n) jobs) task_of in
      let one =
      count_two (is_at S running n) (λ (j : Job). is_queued running j && nat_lt (dynamic_priority S j) n)
      (λ (j : Job). is_queued running j && nat_lt (dynamic_priority S j) (suc n))
      (λ j. both (is_queued running j) (dynamic_priority S j)) jobs in
      omega (arith, ih, one, same)
    where
      both : (b : Bool) (m : ℕ)
          → cond (b && (m == n)) 1 0 + cond (b && nat_lt m n) 1 0 ≤ cond (b && nat_lt m (suc n)) 1 0
      both true m = at_and_below m n
      both false m = omega arith

  and_less : (b c : Bool) → cond (b && c) 1 0 + 0 ≤ cond b 1 0
  and_less true true = omega arith
  and_less true false = omega arith
  and_less false c = omega arith

  pub all_levels : (jobs : List Job) → total (queue S running jobs) ≤ length (filter (is_queued running) jobs)
  all_levels jobs =
      let levels = by_level LEVELS jobs in
      let fewer =
      count_two (λ (j : Job). is_queued running j && nat_lt (dynamic_priority S j) LEVELS) (λ (j : Job). false)
      (is_queued running)
      (λ j. and_less (is_queued running j) (nat_lt (dynamic_priority S j) LEVELS)) jobs in
      omega (arith, levels, fewer)

-- ---- what fits

module _ (S : System) (s : State) (standing : IsStanding S s) where
  of_task : (t : ℕ) → (slots_of s.jobs t).count ≡ length (jobs_of t s.jobs)
  of_task t = go (jobs_of t s.jobs)
    where
      go : (js : List Job) → (slot_of js).count ≡ length js
      go [] = refl
      go (j ∷ js) = refl

  each_known : AllByRecursion (λ j. j.id.task < length S.tasks) s.jobs
  each_known =
      all_weaker (IsPlacedJob S) (λ j. j.id.task < length S.tasks) s.jobs (λ j h. h.task) standing.form.formed.jobs

  all_jobs : length s.jobs ≤ sum_to (length S.tasks) (λ t. length (jobs_of t s.jobs))
  all_jobs =
      subst (λ (js : List Job). length js ≤ sum_to (length S.tasks) (λ t. length (jobs_of t s.jobs)))
      (all_below (length S.tasks) s.jobs each_known) (by_task (length S.tasks) s.jobs)

  no_more : length s.jobs ≤ room_for S
  no_more =
      let most =
      sum_low (length S.tasks) (λ t. length (jobs_of t s.jobs)) (activation_of S) standing.form.formed.limited in
      omega (arith, most, all_jobs)

  -- room for a new job
  room_added : (t : ℕ) → t < length S.tasks → is_full_in S (kept S s) t ≡ false → total (kept S s).queues < room_for S
  room_added t inside full =
      let less : (slots_of s.jobs t).count < activation_of S t = grind (arith, full) in
      let fewer : length (jobs_of t s.jobs) < activation_of S t =
      subst (λ n. n < activation_of S t) (of_task t) less in
      let lower =
      sum_lower (length S.tasks) (λ u. length (jobs_of u s.jobs))
      (activation_of S) standing.form.formed.limited t inside fewer in
      let levels = all_levels S s.running s.jobs in
      let most = count_most (is_queued s.running) s.jobs in
      omega (arith, lower, levels, most, all_jobs)

  -- room for a job that isn't queued
  room_beside : (j : Job) → ((P : Job → Type 0) → AllByRecursion P s.jobs → P j) → is_queued s.running j ≡ false
      → total (kept S s).queues < room_for S
  room_beside j member out =
      let levels = all_levels S s.running s.jobs in
      let fewer = count_fewer (is_queued s.running) s.jobs j member out in
      omega (arith, levels, fewer, no_more)

  -- no job is above the top
  none_high : (l : ℕ) → top_priority S < l → queue S s.running s.jobs l ≡ []
  none_high l high =
      ap (map task_of) (filter_none (is_at S s.running l) s.jobs (all_any (λ j. is_at S s.running l j ≡ false) s.jobs
      (λ j. off (is_queued s.running j) (dynamic_priority S j == l) (differ (dynamic_priority S j) (dynamic_top S j)))))
    where
      differ : (m : ℕ) → m < suc (top_priority S) → (m == l) ≡ false
      differ m low = grind (arith, low, high)

      off : (b c : Bool) → c ≡ false → (b && c) ≡ false
      off true c h = h
      off false c h = refl

  -- ---- the running job

  un : (b : Bool) → not b ≡ false → b ≡ true
  un true h = refl
  un false h = clash h

  stands : (n : JobId) → s.running ≡ Some n → is_gone (Some n) s.jobs ≡ false → IsOldest n s.jobs
  stands n e there = runner_oldest S s standing.single n e (un (list_any (λ j. same_id j.id n) s.jobs) there)

  room_runner : (r : Option JobId) → s.running ≡ r → is_gone r s.jobs ≡ false → is_some (option_map task_in r) ≡ true
      → total (kept S s).queues < room_for S
  room_runner None e there some = clash (sym some)
  room_runner (Some n) e there some =
      let o : IsOldest n s.jobs = stands n e there in
      let same : same_id o.job.id n ≡ true = ap (λ m. same_id m n) o.id ∙ same_self n in
      room_beside o.job (runner_member S s standing.single n o)
      (ap (λ m. is_queued m o.job) e ∙ ap (λ b. not b && not (waits o.job)) same)

  room_waits : (t : ℕ) → is_some (slots_of s.jobs t).waits_for ≡ true → total (kept S s).queues < room_for S
  room_waits t waiting = go (jobs_of t s.jobs) refl waiting
    where
      off : (b : Bool) → (b && false) ≡ false
      off true = refl
      off false = refl

      go : (js : List Job) → jobs_of t s.jobs ≡ js → is_some (slot_of js).waits_for ≡ true
          → total (kept S s).queues < room_for S
      go [] e h = clash (sym h)
      go (j ∷ js) e h =
          room_beside j (λ P all. (subst (AllByRecursion P) e (all_kept P (λ k. k.id.task == t) s.jobs all)).0)
          (ap (λ b. not (runs s.running j) && not b) h ∙ off (not (runs s.running j)))

  placed : (r : Option JobId) → s.running ≡ r → is_gone r s.jobs ≡ false
      → IfSome (option_map task_in r) (IsRunnerPlaced S (kept S s))
  placed None e there = tt
  placed (Some n) e there =
      let o : IsOldest n s.jobs = stands n e there in
      let slot : slot_of (o.job ∷ o.others) ≡ slots_of s.jobs n.task = sym (runner_slot S s standing.single n o) in
      let here : IsPlacedJob S o.job =
      runner_member S s standing.single n o (IsPlacedJob S) standing.form.formed.jobs in
      record {
        some = subst (λ (a : Slot). 0 < a.count) slot (omega arith);
        placed = subst (λ (a : Slot). IsPlaced S (Owner.Task n.task) a.context) slot
            (subst (λ (m : JobId). IsPlaced S (Owner.Task m.task) o.job.context) o.id here.context);
      }

  runs_known : (r : Option JobId) → HasRunner s.made s.jobs r
      → IfSome (option_map task_in r) (λ t. t < length S.tasks)
  runs_known None h = tt
  runs_known (Some r) h = subst (λ n. r.task < n) standing.single.known (go (cases_lt r.task (length s.made)))
    where
      go : (r.task < length s.made) ⊎ (length s.made ≤ r.task) → r.task < length s.made
      go (inl inside) = inside
      go (inr past) =
          let none : slice_index s.made r.task ≡ 0 = get_or_past s.made r.task 0 past in
          let given = h.given in
          absurd (omega (arith, none, given))

  tasks_known : (js : List Job) → AllByRecursion (λ j. j.id.task < length S.tasks) js
      → AllByRecursion (λ t. t < length S.tasks) (map task_of js)
  tasks_known [] all = tt
  tasks_known (j ∷ js) all = (all.0, tasks_known js all.1)

pub fits_where_standing : FitsWhereStanding
fits_where_standing S s standing = record {
  running = runs_known S s standing s.running standing.single.runs;
  known =
      λ l. tasks_known S s standing _ (all_kept (λ j. j.id.task < length S.tasks) (is_at S s.running l) s.jobs (each_known S s standing));
  high = none_high S s standing;
  counted = λ t. subst (λ n. n ≤ activation_of S t) (sym (of_task S s standing t)) (standing.form.formed.limited t);
  runner = λ there. placed S s standing s.running refl there;
  active = standing.form.active;
  added = room_added S s standing;
  beside = λ there some. room_runner S s standing s.running refl there some;
  woken = room_waits S s standing;
}
