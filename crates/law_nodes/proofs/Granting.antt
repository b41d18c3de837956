-- What a job becomes by a service that isn't refused is told.
use Rattle.std.proofs.Common.{◌≡◌, ℕ, Bool, true, false, cond, not, ◌&&◌, List, [], ◌∷◌, ◌++◌, map, refl, sym, ◌∙◌, ap, subst, arith}
use Rattle.std.specs.Prelude.{Option, Some, None, ◌==◌, slice_index, slice_set, bit_and, bit_or, bit_xor}
use Rattle.std.specs.List.{AllByRecursion, filter}
use Rattle.std.proofs.lemmas.Bool.{and_parts, not-true}
use Rattle.osek_base.specs.declared.ids.Owner.{Owner}
use Rattle.osek_base.specs.declared.instr.Service.{Service}
use Rattle.osek_base.specs.Activation.{activated, new_job, released, woken}
use Rattle.osek_base.specs.Instruction.{Context}
use Rattle.osek_base.specs.Service.{JobCalls, effect, event_set, gets, given_up, is_met, is_outranked, meets, released_by, releases, waiting_for, with_caller, with_events}
use Rattle.osek_base.specs.State.{Job, JobId, State, jobs_but, jobs_of, same_id, with_job}
use Rattle.osek_base.specs.System.{System}
use Rattle.osek_base.specs.Tick.{at_values, job_moved}
use Rattle.osek_base.specs.Types.{ServiceCall}
use Rattle.law_runs.proofs.Foremost.{equal, same_ids}
use Rattle.law_runs.proofs.Lists.{all_append, all_filter, all_kept, all_map, all_weaker, clash, cond_case}
use Rattle.law_costs.specs.Left.{Switch}
use Rattle.law_costs.specs.Settable.{settable}
use Rattle.law_nodes.specs.Nodes.{Node, Table, is_told, of_job}
use Rattle.law_nodes.specs.Services.{job_granted, set_by}
use Rattle.law_nodes.specs.Shown.{are_few, shown_node, subsets}
use Rattle.law_nodes.proofs.Knowing.{AreValues, values_set}
use Rattle.law_nodes.proofs.Owning.{IsAlone, IsOwn, own_changed}
use Rattle.law_nodes.proofs.Showing.{CanBeShown, HasShown, set_again, subsets_have, told_map}
use Rattle.law_nodes.proofs.Standing.{is_at_of, node_of}
use Rattle.law_nodes.proofs.Stepping.{told_first, told_later}

-- ---- jobs behind moves

module _ (S : System) (s : State) (j : Job) (alone : IsAlone s j) (Q : Job → Type 0) where
  abbrev Own : List Job → Type 0
  Own jobs = AllByRecursion (IsOwn Q j.id) jobs

  pub stays : Q j → Own s.jobs
  stays is =
      all_weaker (IsOwn (λ k. k ≡ j) j.id) (IsOwn Q j.id) s.jobs
      (λ k h own. subst Q (sym (h own)) is) alone.only

  pub changes : (change : Job → Job) → Q (change j) → Own (with_job j.id change s.jobs)
  changes change is =
      own_changed (λ k. k ≡ j) Q j.id change s.jobs (λ k h. subst (λ l. Q (change l)) (sym h) is)
      alone.only

  pub ends : Own (jobs_but j.id s.jobs)
  ends =
      all_weaker
      (λ k. IsOwn (λ l. l ≡ j) j.id k × (not (same_id k.id j.id) ≡ true)) (IsOwn Q j.id)
      (jobs_but j.id s.jobs)
      (λ k h own. clash (sym own ∙ not-true (same_id k.id j.id) h.1))
      (all_filter (IsOwn (λ l. l ≡ j) j.id) (λ k. not (same_id k.id j.id)) s.jobs alone.only)

  -- a new job is another one
  pub activates : (t : ℕ) (jobs : List Job) → Own jobs
      → Own (activated S t (record s { jobs = jobs })).jobs
  unfolding activated
  activates t jobs all =
      all_append (IsOwn Q j.id) jobs (new_job n ∷ []) all ((λ own. absurd (other own)), tt)
    where
      n : JobId
      n = record { task = t; serial = slice_index s.made t }

      other : same_id (record { task = t; serial = slice_index s.made t }) j.id ≡ true → ⊥
      other own =
          let same = same_ids (record { task = t; serial = slice_index s.made t }) j.id own in
          let serial : slice_index s.made t ≡ j.id.serial = ap (λ (m : JobId). m.serial) same in
          let task : slice_index s.made t ≡ slice_index s.made j.id.task =
          ap (λ (m : JobId). slice_index s.made m.task) same in
          let given = alone.given in
          omega (arith, serial, task, given)

  -- a job that is released is another one, as this one doesn't wait
  releases_one : (n : JobId) (e : State) → e.jobs ≡ s.jobs → Q j → Own (released n e).jobs
  unfolding released
  releases_one n e same is =
      subst (λ jobs. Own (jobs_but n jobs ++ map woken (filter (λ k. same_id k.id n) jobs)))
      (sym same)
      (all_append (IsOwn Q j.id) (jobs_but n s.jobs)
      (map woken (filter (λ k. same_id k.id n) s.jobs))
      (all_kept (IsOwn Q j.id) (λ k. not (same_id k.id n)) s.jobs (stays is))
      (all_map (IsOwn (λ k. k ≡ j) j.id) (IsOwn Q j.id) woken
      (filter (λ k. same_id k.id n) s.jobs)
      (λ k h own. subst Q (sym (ap woken (h own) ∙ unwoken)) is)
      (all_kept (IsOwn (λ k. k ≡ j) j.id) (λ k. same_id k.id n) s.jobs alone.only)))
    where
      unwoken : woken j ≡ j
      unwoken = ap (λ o. record j { waits_for = o }) (sym alone.ready)

  pub sets : (t m : ℕ) → Q j → Own (event_set t m s).jobs
  sets t m is = go (jobs_of t s.jobs)
    where
      events : ℕ
      events = bit_or (slice_index s.masks t) m

      go : (ks : List Job) → Own (released_by events ks (with_events t events s)).jobs
      go [] = stays is
      go (k ∷ ks) =
          cond_case (λ (e : State). Own e.jobs) (is_met events k.waits_for)
          (released k.id (with_events t events s)) (with_events t events s)
          (λ met. releases_one k.id (with_events t events s) refl is) (λ met. stays is)

-- ---- services

module _ (S : System) (s : State) (j : Job) (alone : IsAlone s j) (w : Switch) (x y : Context)
    (registers : List (Option ℕ)) (used : ℕ) (all : AreValues registers y.registers)
    (shows : CanBeShown S s j) where
  -- the node once that is answered
  abbrev m : Node
  m = node_of (of_job w (job_moved y j)) registers used

  abbrev At : Table → Job → Type 0
  At table k = is_told table (of_job w (job_moved y k)) ≡ true

  abbrev Granted : ServiceCall → List Job → Type 0
  Granted call jobs = AllByRecursion (IsOwn (At (job_granted S call m)) j.id) jobs

  itself : (rest : Table) → At (m ∷ rest) j
  itself rest = told_first (of_job w (job_moved y j)) registers used rest all

  only_itself : AllByRecursion (IsOwn (At (m ∷ [])) j.id) s.jobs
  only_itself = stays S s j alone (At (m ∷ [])) (itself [])

  given_told : (b : Bool)
      → AllByRecursion (IsOwn (At (m ∷ [])) j.id)
      (cond b (with_caller (JobCalls j) given_up s) s).jobs
  given_told true = changes S s j alone (At (m ∷ [])) given_up (itself [])
  given_told false = only_itself

  awaited_told : (events : ℕ) (b : Bool)
      → AllByRecursion (IsOwn (At (job_granted S (Service.WaitEvent events) m)) j.id)
      (cond b s (record s { jobs = with_job j.id (waiting_for events) s.jobs })).jobs
  awaited_told events true =
      stays S s j alone (At (job_granted S (Service.WaitEvent events) m))
      (told_first (of_job w (job_moved y j)) registers (bit_or used events)
      (record m { waits_for = Some events } ∷ []) all)
  awaited_told events false =
      changes S s j alone (At (job_granted S (Service.WaitEvent events) m)) (waiting_for events)
      (told_later (of_job w (job_moved y (waiting_for events j)))
      (record m { used = bit_or used events })
      (record m { waits_for = Some events } ∷ [])
      (told_first (of_job w (job_moved y (waiting_for events j))) registers used [] all))

  -- events that it is shown
  shows_own : (t : ℕ) → HasShown s (Service.GetEvent (Some t)) y.registers
      → j.id.task ≡ t → are_few (settable S t) ≡ true
      → At (map (shown_node m) (subsets (settable S t))) j
  shows_own t result same few =
      told_map (shown_node m) (of_job w (job_moved y j)) v (subsets (settable S t))
      (subsets_have (settable S t) v few (shows.within t))
      (is_at_of (of_job w (job_moved y j)) (slice_set registers 1 (Some v)) v
      (subst (AreValues (slice_set registers 1 (Some v)))
      (ap (λ vs. slice_set vs 1 v) result.2 ∙ set_again result.0 v ∙ sym result.2)
      (values_set registers y.registers all 1 (Some v) v refl)))
    where
      v : ℕ
      v = slice_index s.masks t

  shows_to : (t : ℕ) → HasShown s (Service.GetEvent (Some t)) y.registers
      → Granted (Service.GetEvent (Some t)) s.jobs
  shows_to t result =
      stays S s j alone (At (job_granted S (Service.GetEvent (Some t)) m))
      (go (j.id.task == t && are_few (settable S t)) refl)
    where
      go : (b : Bool) → (j.id.task == t && are_few (settable S t)) ≡ b
          → At (cond b (map (shown_node m) (subsets (settable S t))) (m ∷ [])) j
      go false is = itself []
      go true is =
          let both = and_parts (j.id.task == t) (are_few (settable S t)) is in
          shows_own t result (equal j.id.task t both.0) both.1

  pub granted_told : (call : ServiceCall) → HasShown s call y.registers
      → Granted call (effect S (JobCalls j) s (at_values x call)).jobs
  granted_told (Service.ActivateTask None) result = only_itself
  granted_told (Service.ActivateTask (Some t)) result =
      activates S s j alone (At (m ∷ [])) t s.jobs only_itself
  granted_told Service.TerminateTask result = ends S s j alone (At [])
  granted_told (Service.ChainTask None) result = only_itself
  granted_told (Service.ChainTask (Some t)) result =
      activates S s j alone (At []) t (jobs_but j.id s.jobs) (ends S s j alone (At []))
  granted_told Service.Schedule result = given_told (is_outranked S (JobCalls j) s.jobs)
  granted_told Service.GetTaskId result = only_itself
  granted_told (Service.GetTaskState o) result = only_itself
  granted_told (Service.GetResource None) result = only_itself
  granted_told (Service.GetResource (Some r)) result =
      changes S s j alone (At (job_granted S (Service.GetResource (Some r)) m)) (gets r)
      (told_first (of_job w (job_moved y (gets r j))) registers used [] all)
  granted_told (Service.ReleaseResource None) result = only_itself
  granted_told (Service.ReleaseResource (Some r)) result =
      changes S s j alone (At (job_granted S (Service.ReleaseResource (Some r)) m)) releases
      (told_first (of_job w (job_moved y (releases j))) registers used [] all)
  granted_told (Service.LoadShared o i) result = only_itself
  granted_told (Service.StoreShared None i v) result = only_itself
  granted_told (Service.StoreShared (Some r) i v) result = only_itself
  granted_told (Service.SetEvent None e) result = only_itself
  granted_told (Service.SetEvent (Some t) e) result =
      sets S s j alone (At (job_granted S (Service.SetEvent (Some t) e) m)) t e
      (told_first (of_job w (job_moved y j)) registers
      (set_by (Owner.Task j.id.task) t e used) [] all)
  granted_told (Service.ClearEvent e) result =
      stays S s j alone (At (job_granted S (Service.ClearEvent e) m))
      (told_first (of_job w (job_moved y j)) registers (bit_xor used (bit_and used e)) [] all)
  granted_told (Service.GetEvent None) result = only_itself
  granted_told (Service.GetEvent (Some t)) result = shows_to t result
  granted_told (Service.WaitEvent e) result =
      awaited_told e (meets e (slice_index s.masks j.id.task))
  granted_told (Service.SetRelAlarm None increment cycle) result = only_itself
  granted_told (Service.SetRelAlarm (Some a) increment cycle) result = only_itself
  granted_told (Service.SetAbsAlarm None start cycle) result = only_itself
  granted_told (Service.SetAbsAlarm (Some a) start cycle) result = only_itself
  granted_told (Service.CancelAlarm None) result = only_itself
  granted_told (Service.CancelAlarm (Some a)) result = only_itself
  granted_told (Service.GetAlarm o) result = only_itself
  granted_told (Service.GetAlarmBase o) result = only_itself
