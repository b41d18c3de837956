-- A task is looked at before and after one thing: what that tells of the stamps of its jobs.
use Rattle.std.proofs.Common.{◌≡◌, ℕ, ◌+◌, Bool, true, false, cond, not, ◌&&◌, List, [], ◌∷◌, ◌++◌, map, length, length-append, refl, sym, ◌∙◌, ap, ap₂, subst, arith}
use Rattle.std.specs.Prelude.{Option, Some, None, is_some, ◌==◌, nat_lt, slice_index, bit_or}
use Rattle.std.specs.List.{filter, find, AllByRecursion}
use Rattle.std.proofs.lemmas.List.{length-map}
use Rattle.std.proofs.lemmas.List.Elements.{filter-append}
use Rattle.osek_base.specs.declared.status.Status.{Status}
use Rattle.osek_base.specs.declared.instr.Service.{Service}
use Rattle.osek_base.specs.System.{System, is_extended}
use Rattle.osek_base.specs.State.{Job, State, same_id, waits, job_of, jobs_of, jobs_but}
use Rattle.osek_base.specs.Activation.{activated, released, woken}
use Rattle.osek_base.specs.Service.{Caller, first_refusal, refusals, reply_to, unasked_service, is_met, released_by, with_events, with_objects_of}
use Rattle.law_runs.proofs.Lists.{Pairs, clash, all_any, all_filter, all_kept, pairs_kept}
use Rattle.law_runs.proofs.Foremost.{equal, self_equal, same_self}
use Rattle.law_runs.proofs.Known.{met_waits}
use Rattle.law_runs.proofs.Single.{IsSoundJob, IsSoundPair, IsSingle}
use Rattle.law_kept.specs.Kept.{slot_of, kept}
use Rattle.law_kept.proofs.Parts.{filter_same, filter_twice, map_unmoved}
use Rattle.law_kept.proofs.JobMoves.{but_of}
use Rattle.kernel_stamps.specs.Stamps.{stamp_oldest}
use Rattle.law_blockers.specs.Stamps.{Stamps, stamped, listed}
use Rattle.law_blockers.specs.Restamping.{task_waits, restamped}
use Rattle.law_blockers.proofs.ReadyLemmas.{changed_listed}
use Rattle.law_blockers.proofs.NewJobs.{activated_listed}
use Rattle.law_blockers.proofs.WakeLemmas.{released_listed}

-- ---- what is seen of a task

pub count_is : (S : System) (s : State) (t : ℕ) → ((kept S s).slots t).count ≡ length (jobs_of t s.jobs)
count_is S s t = go (jobs_of t s.jobs)
  where
    go : (js : List Job) → (slot_of js).count ≡ length js
    go [] = refl
    go (j ∷ js) = refl

pub count_listed : (p : Stamps) (t : ℕ) (jobs : List Job) → length (listed p t jobs) ≡ length (jobs_of t jobs)
count_listed p t jobs = length-map (jobs_of t jobs) (λ j. p j.id)

-- nothing changed; a job more; a job released
restamped_none : (u n : ℕ) (w x : Bool) (list : List (Option ℕ)) → n ≡ length list → (w ≡ true → x ≡ true)
    → restamped u n w x list ≡ list
restamped_none u n w x list many waiting =
    let less : nat_lt (length list) n ≡ false = grind (arith, many) in
    rw less (go w x waiting)
  where
    go : (w x : Bool) → (w ≡ true → x ≡ true) → cond (w && not x) (stamp_oldest u list) list ≡ list
    go false x h = refl
    go true true h = refl
    go true false h = clash (sym (h refl))

pub restamped_more : (u n : ℕ) (w x : Bool) (list : List (Option ℕ)) → n ≡ length list + 1 → restamped u n w x list
    ≡ list ++ Some u ∷ []
restamped_more u n w x list many =
    let less : nat_lt (length list) n ≡ true = grind (arith, many) in
    rw less refl

restamped_woken : (u n : ℕ) (w x : Bool) (list : List (Option ℕ)) → n ≡ length list → w ≡ true → x ≡ false
    → restamped u n w x list ≡ stamp_oldest u list
restamped_woken u n w x list many was is =
    let less : nat_lt (length list) n ≡ false = grind (arith, many) in
    rw (less, was, is) refl

-- what is made of the stamps of a task that is looked at in two states
abbrev pub restamped_between : System → ℕ → ℕ → State → State → List (Option ℕ) → List (Option ℕ)
restamped_between S u t s e list =
    restamped u ((kept S e).slots t).count (task_waits (kept S s) t) (task_waits (kept S e) t) list

-- it is right for that task, and nothing changed of the others
abbrev pub IsLooked : System → ℕ → ℕ → State → State → Stamps → Type 0
IsLooked S u t s e p =
    (v : ℕ) → listed (stamped s e u p) v e.jobs
    ≡ cond (t == v) (restamped_between S u t s e (listed p v s.jobs)) (listed p v s.jobs)

-- ---- jobs stay as they are

module _ (S : System) (s e : State) (u t : ℕ) (p : Stamps) (jobs : e.jobs ≡ s.jobs)
    (running : e.running ≡ s.running) where
  pub same_listed : (v : ℕ) → listed (stamped s e u p) v e.jobs ≡ listed p v s.jobs
  same_listed =
      changed_listed s e u p (λ j. j) (λ j. refl) (λ j h. h)
      (jobs ∙ sym (map_unmoved (λ j. j) s.jobs (all_any (λ j. j ≡ j) s.jobs (λ j. refl)))) running

  pub same_restamped : IsLooked S u t s e p
  same_restamped v = same_listed v ∙ go (t == v) refl
    where
      go : (b : Bool) → (t == v) ≡ b → listed p v s.jobs
          ≡ cond b (restamped_between S u t s e (listed p v s.jobs)) (listed p v s.jobs)
      go false h = refl
      go true h =
          let many : ((kept S e).slots t).count ≡ length (listed p v s.jobs) =
          count_is S e t ∙ ap (λ js. length (jobs_of t js)) jobs ∙ ap (λ x. length (jobs_of x s.jobs)) (equal t v h)
          ∙ sym (count_listed p v s.jobs) in
          sym (restamped_none u ((kept S e).slots t).count (task_waits (kept S s) t) (task_waits (kept S e) t)
          (listed p v s.jobs) many
          (λ w. ap (λ js. is_some (slot_of (jobs_of t js)).waits_for) jobs ∙ w))

-- ---- a job is made

made_running : (S : System) (t : ℕ) (s : State) → (activated S t s).running ≡ s.running
unfolding activated
made_running S t s = refl

module _ (S : System) (s e : State) (u t : ℕ) (p : Stamps) (single : IsSingle S s)
    (jobs : e.jobs ≡ (activated S t s).jobs)
    (running : e.running ≡ s.running) (none : p (record { task = t; serial = slice_index s.made t }) ≡ None) where
  pub made_listed : (v : ℕ) → listed (stamped s e u p) v e.jobs
      ≡ cond (t == v) (listed p v s.jobs ++ Some u ∷ []) (listed p v s.jobs)
  made_listed v =
      ap₂ (λ js r. listed (stamped s (record s { jobs = js; running = r }) u p) v js) jobs
      (running ∙ sym (made_running S t s))
      ∙ activated_listed S s u t p single none v

  pub made_restamped : IsLooked S u t s e p
  made_restamped v = made_listed v ∙ go (t == v) refl
    where
      go : (b : Bool) → (t == v) ≡ b
          → cond b (listed p v s.jobs ++ Some u ∷ []) (listed p v s.jobs)
          ≡ cond b (restamped_between S u t s e (listed p v s.jobs)) (listed p v s.jobs)
      go false h = refl
      go true h =
          let more : listed (stamped s e u p) v e.jobs ≡ listed p v s.jobs ++ Some u ∷ [] =
          made_listed v ∙ ap (λ b. cond b (listed p v s.jobs ++ Some u ∷ []) (listed p v s.jobs)) h in
          let many : ((kept S e).slots t).count ≡ length (listed p v s.jobs) + 1 =
          count_is S e t ∙ ap (λ x. length (jobs_of x e.jobs)) (equal t v h)
          ∙ sym (count_listed (stamped s e u p) v e.jobs)
          ∙ ap length more ∙ length-append (listed p v s.jobs) (Some u ∷ []) in
          sym (restamped_more u ((kept S e).slots t).count (task_waits (kept S s) t) (task_waits (kept S e) t)
          (listed p v s.jobs) many)

-- ---- a job is released

-- the first that passes
first_found : {X : Type 0} (test : X → Bool) (xs : List X) (x : X) → filter test xs ≡ x ∷ [] → find test xs ≡ Some x
first_found test [] x h = absurd (grind arith)
first_found test (y ∷ ys) x h = go (test y) h (first_found test ys x)
  where
    go : (b : Bool) → cond b (y ∷ filter test ys) (filter test ys) ≡ x ∷ []
        → (filter test ys ≡ x ∷ [] → find test ys ≡ Some x)
        → cond b (Some y) (find test ys) ≡ Some x
    go true k rest = let same : y ≡ x = grind arith in ap (λ z. Some z) same
    go false k rest = rest k

-- the only job of an extended task
module _ (S : System) (s : State) (single : IsSingle S s) (t : ℕ) (j : Job) (js : List Job)
    (are : jobs_of t s.jobs ≡ j ∷ js)
    (waiting : waits j ≡ true) where
  first_has : (P : Job → Type 0) → AllByRecursion P s.jobs → P j
  first_has P all = (subst (AllByRecursion P) are (all_kept P (λ k. k.id.task == t) s.jobs all)).0

  all_of : AllByRecursion (λ k. Unit {0} × ((k.id.task == t) ≡ true)) (j ∷ js)
  all_of =
      subst (AllByRecursion (λ k. Unit {0} × ((k.id.task == t) ≡ true))) are
      (all_filter (λ k. Unit {0}) (λ k. k.id.task == t) s.jobs (all_any (λ k. Unit {0}) s.jobs (λ k. tt)))

  pub first_task : j.id.task ≡ t
  first_task = equal j.id.task t all_of.0.1

  only_there : jobs_of t s.jobs ≡ j ∷ []
  only_there =
      are ∙ go js (subst (Pairs (IsSoundPair S)) are
      (pairs_kept (IsSoundPair S) (λ k. k.id.task == t) s.jobs single.pairs)).0 all_of.1
    where
      go : (ks : List Job) → AllByRecursion (IsSoundPair S j) ks
          → AllByRecursion (λ k. Unit {0} × ((k.id.task == t) ≡ true)) ks
          → j ∷ ks ≡ j ∷ []
      go [] sound tasks = refl
      go (k ∷ ks) sound tasks =
          let task : j.id.task ≡ k.id.task = first_task ∙ sym (equal k.id.task t tasks.0.1) in
          clash
          (sym ((first_has (IsSoundJob S s.made) single.each).extended waiting) ∙ ap (is_extended S) task
          ∙ sound.0.basic task)

  pub only_job : jobs_of j.id.task s.jobs ≡ j ∷ []
  only_job = ap (λ x. jobs_of x s.jobs) first_task ∙ only_there

  pub those_of : filter (λ k. same_id k.id j.id) s.jobs ≡ j ∷ []
  those_of =
      filter_same (λ k. same_id k.id j.id) (λ k. (k.id.task == j.id.task) && same_id k.id j.id) s.jobs
      (all_any _ s.jobs (λ k. go (k.id.task == j.id.task) (k.id.serial == j.id.serial)))
      ∙ sym (filter_twice (λ k. same_id k.id j.id) (λ k. k.id.task == j.id.task) s.jobs)
      ∙ ap (filter (λ k. same_id k.id j.id)) only_job
      ∙ rw (same_self j.id) refl
    where
      go : (a b : Bool) → (a && b) ≡ (a && (a && b))
      go true b = refl
      go false b = refl

  pub found_there : job_of j.id s.jobs ≡ Some j
  found_there = first_found (λ k. same_id k.id j.id) s.jobs j those_of

pub released_jobs : (S : System) (s : State) (single : IsSingle S s) (t : ℕ) (j : Job) (js : List Job) → jobs_of t s.jobs
    ≡ j ∷ js
    → waits j ≡ true → (released j.id s).jobs ≡ jobs_but j.id s.jobs ++ woken j ∷ []
unfolding released
released_jobs S s single t j js are waiting =
    ap (λ ks. jobs_but j.id s.jobs ++ map woken ks) (those_of S s single t j js are waiting)

module _ (S : System) (s e : State) (u t : ℕ) (p : Stamps) (single : IsSingle S s) (j : Job) (js : List Job)
    (are : jobs_of t s.jobs ≡ j ∷ js)
    (waiting : waits j ≡ true) (jobs : e.jobs ≡ jobs_but j.id s.jobs ++ woken j ∷ [])
    (running : e.running ≡ s.running) where
  woken_jobs : jobs_of j.id.task e.jobs ≡ woken j ∷ []
  woken_jobs =
      let alone : jobs_of j.id.task s.jobs ≡ j ∷ [] = only_job S s single t j js are waiting in
      let left : jobs_but j.id (jobs_of j.id.task s.jobs) ≡ [] = ap (jobs_but j.id) alone ∙ rw (same_self j.id) refl in
      ap (jobs_of j.id.task) jobs
      ∙ filter-append (λ k. k.id.task == j.id.task) (jobs_but j.id s.jobs) (woken j ∷ [])
      ∙ ap (λ ks. ks ++ jobs_of j.id.task (woken j ∷ [])) (but_of S j.id s.jobs j.id.task ∙ left)
      ∙ rw (self_equal j.id.task) refl

  own_restamped : IsLooked S u j.id.task s e p
  own_restamped v =
      released_listed S s e u p j.id j refl waiting (found_there S s single t j js are waiting)
      (only_job S s single t j js are waiting) jobs running v ∙ go (j.id.task == v) refl
    where
      go : (b : Bool) → (j.id.task == v) ≡ b
          → cond b (stamp_oldest u (listed p v s.jobs)) (listed p v s.jobs)
          ≡ cond b (restamped_between S u j.id.task s e (listed p v s.jobs)) (listed p v s.jobs)
      go false h = refl
      go true h =
          let alone : jobs_of j.id.task s.jobs ≡ j ∷ [] = only_job S s single t j js are waiting in
          let was : length (listed p v s.jobs) ≡ 1 =
          count_listed p v s.jobs ∙ ap (λ x. length (jobs_of x s.jobs)) (sym (equal j.id.task v h)) ∙ ap length alone in
          let many : ((kept S e).slots j.id.task).count ≡ length (listed p v s.jobs) =
          ap (λ ks. (slot_of ks).count) woken_jobs ∙ sym was in
          sym (restamped_woken u ((kept S e).slots j.id.task).count (task_waits (kept S s) j.id.task)
          (task_waits (kept S e) j.id.task)
          (listed p v s.jobs) many (ap (λ ks. is_some (slot_of ks).waits_for) alone ∙ waiting)
          (ap (λ ks. is_some (slot_of ks).waits_for) woken_jobs))

  pub woken_restamped : IsLooked S u t s e p
  woken_restamped = subst (λ x. IsLooked S u x s e p) (first_task S s single t j js are waiting) own_restamped

-- ---- services, whoever calls

module _ (S : System) (s : State) (u : ℕ) (p : Stamps) (single : IsSingle S s) (c : Caller) (t : ℕ) where
  pub activate_restamped : p (record { task = t; serial = slice_index s.made t }) ≡ None
      → IsLooked S u t s (unasked_service S c s (Service.ActivateTask (Some t))).state p
  unfolding unasked_service
  activate_restamped none = go (first_refusal (refusals S c s (Service.ActivateTask (Some t))))
    where
      go : (o : Option Status) → IsLooked S u t s (reply_to S c s (Service.ActivateTask (Some t)) o).state p
      go None =
          made_restamped S s (reply_to S c s (Service.ActivateTask (Some t)) None).state u t p single refl refl none
      go (Some refusal) = same_restamped S s
          (reply_to S c s (Service.ActivateTask (Some t)) (Some refusal)).state u t p refl refl

  pub event_restamped : (set : ℕ) → IsLooked S u t s
      (with_objects_of s (released_by set (jobs_of t s.jobs) (with_events t set s))) p
  event_restamped set = go (jobs_of t s.jobs) refl
    where
      go : (js : List Job) → jobs_of t s.jobs ≡ js → IsLooked S u t s
          (with_objects_of s (released_by set js (with_events t set s))) p
      go [] are = same_restamped S s (with_objects_of s (with_events t set s)) u t p refl refl
      go (j ∷ js) are = pick (is_met set j.waits_for) refl
        where
          pick : (b : Bool) → is_met set j.waits_for ≡ b
              → IsLooked S u t s (with_objects_of s
              (cond b (released j.id (with_events t set s)) (with_events t set s))) p
          pick false met = same_restamped S s (with_objects_of s (with_events t set s)) u t p refl refl
          pick true met =
              let waiting : waits j ≡ true = met_waits set j.waits_for met in
              woken_restamped S s (with_objects_of s (released j.id (with_events t set s))) u t p single j js are waiting
              (released_jobs S (with_events t set s) single t j js are waiting) refl

  pub set_event_restamped : (m : ℕ) → IsLooked S u t s (unasked_service S c s (Service.SetEvent (Some t) m)).state p
  unfolding unasked_service
  set_event_restamped m = go (first_refusal (refusals S c s (Service.SetEvent (Some t) m)))
    where
      go : (o : Option Status) → IsLooked S u t s (reply_to S c s (Service.SetEvent (Some t) m) o).state p
      go None = event_restamped (bit_or (slice_index s.masks t) m)
      go (Some refusal) = same_restamped S s
          (reply_to S c s (Service.SetEvent (Some t) m) (Some refusal)).state u t p refl refl
