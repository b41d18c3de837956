-- Events that are set for a job and not used hold no more behind its instruction than before.
use Rattle.std.proofs.Common.{◌≡◌, ℕ, zero, suc, ◌+◌, ◌≤◌, ◌⊎◌, inl, inr, Bool, true, false, cond, not, ◌&&◌, ◌||◌, ◌<◌, List, [], ◌∷◌, map, length, refl, sym, ◌∙◌, ap, subst, arith}
use Rattle.std.specs.Prelude.{Option, Some, None, slice_index, slice_set, bit_and, bit_or, bit_xor, ◌==◌}
use Rattle.std.specs.List.{AllByRecursion}
use Rattle.std.proofs.lemmas.Bool.{and_parts}
use Rattle.osek_base.specs.declared.ids.Owner.{Owner}
use Rattle.osek_base.specs.declared.instr.Control.{Control}
use Rattle.osek_base.specs.declared.instr.Instr.{Instr}
use Rattle.osek_base.specs.declared.instr.Plain.{Plain}
use Rattle.osek_base.specs.declared.instr.Service.{Service}
use Rattle.osek_base.specs.declared.status.Status.{Status}
use Rattle.osek_base.specs.Activation.{activated, released}
use Rattle.osek_base.specs.Instruction.{Context, holds, next}
use Rattle.osek_base.specs.Service.{JobCalls, Reply, effect, event_set, given_up, is_met, is_outranked, meets, released_by, reply_to, results, waiting_for, with_caller, with_events}
use Rattle.osek_base.specs.State.{Job, State, jobs_of, same_id, waits, with_job}
use Rattle.osek_base.specs.System.{System}
use Rattle.osek_base.specs.Tick.{answered, at_values, executed, job_moved, status_number}
use Rattle.osek_base.specs.Types.{PlainInstr, ServiceCall}
use Rattle.law_runs.proofs.Foremost.{equal, self_equal}
use Rattle.law_runs.proofs.Known.{IsRunningCaller}
use Rattle.law_runs.proofs.Lists.{all_weaker, clash, found}
use Rattle.law_costs.specs.Left.{Switch, switch_of}
use Rattle.law_costs.specs.Settable.{settable}
use Rattle.law_costs.proofs.Events.{IsAlike, activated_alike, masks_set, set_other}
use Rattle.law_costs.proofs.Starts.{released_masks}
use Rattle.law_nodes.specs.Early.{awaited, is_set, shows, sum_but}
use Rattle.law_nodes.specs.Nodes.{Node, Standing, Table, of_job}
use Rattle.law_nodes.specs.Services.{Nothing, answered_node, caller_by, job_granted, replied, results_of, with_found}
use Rattle.law_nodes.specs.Shown.{are_few, shown_node, subsets}
use Rattle.law_nodes.specs.Steps.{control_steps, jumped, plain_steps}
use Rattle.law_nodes.specs.Values.{known, of_known}
use Rattle.law_nodes.proofs.Answering.{answered_is}
use Rattle.law_nodes.proofs.Granting.{changes}
use Rattle.law_nodes.proofs.Knowing.{AreValues}
use Rattle.law_nodes.proofs.Leaving.{LeavesAt, alike_held, stays_held}
use Rattle.law_nodes.proofs.Masks.{set_cleared, set_or}
use Rattle.law_nodes.proofs.MaskSums.{but_within, gone_on, none_but, used_free}
use Rattle.law_nodes.proofs.Owning.{IsAlone, IsOwn, own_changed}
use Rattle.law_nodes.proofs.Showing.{HasShown, has_shown, shown_is}
use Rattle.law_nodes.proofs.Standing.{at_is, node_of}

-- a mask is replaced, or there is none
replaced : (masks : List ℕ) (t m : ℕ) → (slice_index (slice_set masks t m) t ≡ m)
    ⊎ (slice_index (slice_set masks t m) t ≡ 0)
replaced [] t m = inr refl
replaced (x ∷ masks) zero m = inl refl
replaced (x ∷ masks) (suc t) m = replaced masks t m

set_masks : (s : State) (t x : ℕ) → (event_set t x s).masks ≡ masks_set s.masks t x
set_masks s t x = go (jobs_of t s.jobs)
  where
    events : ℕ
    events = bit_or (slice_index s.masks t) x

    go : (ks : List Job) → (released_by events ks (with_events t events s)).masks
        ≡ slice_set s.masks t events
    go [] = refl
    go (k ∷ ks) = pick (is_met events k.waits_for)
      where
        pick : (b : Bool)
            → (cond b (released k.id (with_events t events s)) (with_events t events s)).masks
            ≡ slice_set s.masks t events
        pick true = released_masks k.id (with_events t events s)
        pick false = refl

-- ---- services

module _ (S : System) (s : State) (j : Job) (calls : IsRunningCaller s j)
    (alone : IsAlone s j) where
  abbrev own : State → ℕ
  own e = slice_index e.masks j.id.task

  -- not each job of its id waits
  abbrev pub IsAwake : List Job → Type 0
  IsAwake jobs = AllByRecursion (IsOwn (λ k. waits k ≡ true) j.id) jobs → ⊥

  module _ (w : Switch) (x y : Context) (registers : List (Option ℕ)) (used : ℕ)
      (z : Standing) where
    abbrev m : Node
    m = node_of (of_job w (job_moved y j)) registers used

    abbrev Held : ServiceCall → State → Type 0
    Held call e =
        AllByRecursion
        (LeavesAt z (awaited (Instr.Service call)) (shows (Instr.Service call)) (own s) (own e)
        used)
        (job_granted S call m)

    abbrev Stays : Type 0
    Stays = LeavesAt z None false (own s) (own s) used m

    stays : Stays
    stays at = stays_held None false (own s) used m refl

    either_stays : (b : Bool) → LeavesAt z None false (own s)
        (own (cond b (with_caller (JobCalls j) given_up s) s)) used m
    either_stays true = stays
    either_stays false = stays

    activates : (t : ℕ) → LeavesAt z None false (own s) (own (activated S t s)) used m
    activates t at =
        alike_held None false (own s) (own (activated S t s)) used m
        (found (IsAlike (activated S t s).masks s.masks) (λ k. same_id k.id j.id) s.jobs j
        (activated_alike S t s) calls.found).0
        refl

    -- ---- events that it sets for its own task, or another one's

    besides : (e : ℕ) (f : ℕ → ℕ)
        → sum_but f (bit_or (own s) e) (bit_or used e) ≤ sum_but f (own s) used
    besides e f =
        but_within f (bit_or (own s) e) (bit_or used e) (own s) used
        (λ b set free.
        split (is_set (own s) b) (is_set used b) (is_set e b) (sym (set_or (own s) e b) ∙ set)
        (sym (set_or used e b) ∙ free))
      where
        split : (u v z : Bool) → (u || z) ≡ true → (v || z) ≡ false
            → (u ≡ true) × (v ≡ false)
        split true false false set free = (refl, refl)
        split u true z set free = clash free
        split u false true set free = clash free
        split false false false set free = clash (sym set)

    sets : (t e : ℕ) (b : Bool) → (j.id.task == t) ≡ b
        → LeavesAt z None false (own s) (slice_index (masks_set s.masks t e) j.id.task) used
        (record m { used = cond b (bit_or used e) used })
    sets t e false is = λ at.
        alike_held None false (own s) (slice_index (masks_set s.masks t e) j.id.task) used m
        (set_other s.masks t j.id.task (bit_or (slice_index s.masks t) e)
        (λ same. clash (sym (ap (λ u. u == t) same ∙ self_equal t) ∙ is)))
        refl
    sets t e true is = λ at ready f.
        subst
        (λ u. sum_but f (slice_index (masks_set s.masks u e) j.id.task) (bit_or used e) + (0 + 0)
        ≤ sum_but f (own s) used)
        (equal j.id.task t is)
        (elim (replaced s.masks j.id.task (bit_or (own s) e)) [
          | inl now ↦
              let less = besides e f in
              let same = ap (λ n. sum_but f n (bit_or used e)) now in
              omega (arith, less, same)
          | inr none ↦
              let less = none_but f (bit_or used e) (own s) used in
              let same = ap (λ n. sum_but f n (bit_or used e)) none in
              omega (arith, less, same)
        ])

    -- ---- events that it clears

    abbrev cleared : ℕ → ℕ → ℕ
    cleared n e = bit_xor n (bit_and n e)

    fewer : (e : ℕ) (f : ℕ → ℕ)
        → sum_but f (cleared (own s) e) (cleared used e) ≤ sum_but f (own s) used
    fewer e f =
        but_within f (cleared (own s) e) (cleared used e) (own s) used
        (λ b set free.
        split (is_set (own s) b) (is_set used b) (is_set e b)
        (sym (set_cleared (own s) e b) ∙ set) (sym (set_cleared used e b) ∙ free))
      where
        split : (u v z : Bool) → (u && not z) ≡ true → (v && not z) ≡ false
            → (u ≡ true) × (v ≡ false)
        split true false false set free = (refl, refl)
        split true true false set free = clash free
        split true v true set free = clash (sym set)
        split false v z set free = clash (sym set)

    clears : (e : ℕ)
        → LeavesAt z None false (own s)
        (slice_index (slice_set s.masks j.id.task (cleared (own s) e)) j.id.task) used
        (record m { used = cleared used e })
    clears e at ready f = elim (replaced s.masks j.id.task (cleared (own s) e)) [
      | inl now ↦
          let less = fewer e f in
          let same = ap (λ n. sum_but f n (cleared used e)) now in
          omega (arith, less, same)
      | inr none ↦
          let less = none_but f (cleared used e) (own s) used in
          let same = ap (λ n. sum_but f n (cleared used e)) none in
          omega (arith, less, same)
    ]

    -- ---- a wait

    waits_on : (e : ℕ) (b : Bool) → meets e (own s) ≡ b
        → IsAwake (cond b s (record s { jobs = with_job j.id (waiting_for e) s.jobs })).jobs
        → Held (Service.WaitEvent e)
        (cond b s (record s { jobs = with_job j.id (waiting_for e) s.jobs }))
    waits_on e true met awake = (
      λ at ready f. let low = gone_on f e (own s) used met in omega (arith, low),
      (λ at ready. clash ready, tt),
    )
    waits_on e false met awake =
        absurd (awake (changes S s j alone (λ k. waits k ≡ true) (waiting_for e) refl))

    -- ---- events that it is shown

    shows_own : (t : ℕ) → HasShown s (Service.GetEvent (Some t)) z.context.registers
        → (v : ℕ) → j.id.task ≡ t
        → LeavesAt z None true (own s) (own s) used (shown_node m v)
    shows_own t result v same at ready f =
        subst
        (λ u. sum_but f (own s) u + (0 + sum_but f u used) ≤ sum_but f (own s) used)
        (sym is) (let none = used_free f (own s) in omega (arith, none))
      where
        is : v ≡ own s
        is =
            shown_is registers result.0 v (slice_index s.masks t) result.1
            (subst (AreValues (slice_set registers 1 (Some v))) result.2
            (at_is (shown_node m v) z at).1)
            ∙ ap (slice_index s.masks) (sym same)

    each_map : (P : Node → Type 0) (f : ℕ → Node) → ((v : ℕ) → P (f v)) → (vs : List ℕ)
        → AllByRecursion P (map f vs)
    each_map P f each [] = tt
    each_map P f each (v ∷ vs) = (each v, each_map P f each vs)

    shows_to : (t : ℕ) → HasShown s (Service.GetEvent (Some t)) z.context.registers
        → Held (Service.GetEvent (Some t)) s
    shows_to t result = go (j.id.task == t && are_few (settable S t)) refl
      where
        go : (b : Bool) → (j.id.task == t && are_few (settable S t)) ≡ b
            → AllByRecursion (LeavesAt z None true (own s) (own s) used)
            (cond b (map (shown_node m) (subsets (settable S t))) (m ∷ []))
        go false is = (λ at. stays_held None true (own s) used m refl, tt)
        go true is =
            each_map (LeavesAt z None true (own s) (own s) used) (shown_node m)
            (λ v.
            shows_own t result v
            (equal j.id.task t (and_parts (j.id.task == t) (are_few (settable S t)) is).0))
            (subsets (settable S t))

    pub granted_held : (call : ServiceCall) → HasShown s call z.context.registers
        → IsAwake (effect S (JobCalls j) s (at_values x call)).jobs
        → Held call (effect S (JobCalls j) s (at_values x call))
    granted_held (Service.ActivateTask None) result awake = (stays, tt)
    granted_held (Service.ActivateTask (Some t)) result awake = (activates t, tt)
    granted_held Service.TerminateTask result awake = tt
    granted_held (Service.ChainTask None) result awake = (stays, tt)
    granted_held (Service.ChainTask (Some t)) result awake = tt
    granted_held Service.Schedule result awake =
        (either_stays (is_outranked S (JobCalls j) s.jobs), tt)
    granted_held Service.GetTaskId result awake = (stays, tt)
    granted_held (Service.GetTaskState o) result awake = (stays, tt)
    granted_held (Service.GetResource None) result awake = (stays, tt)
    granted_held (Service.GetResource (Some r)) result awake =
        (λ at. stays_held None false (own s) used m refl, tt)
    granted_held (Service.ReleaseResource None) result awake = (stays, tt)
    granted_held (Service.ReleaseResource (Some r)) result awake =
        (λ at. stays_held None false (own s) used m refl, tt)
    granted_held (Service.LoadShared o i) result awake = (stays, tt)
    granted_held (Service.StoreShared None i v) result awake = (stays, tt)
    granted_held (Service.StoreShared (Some r) i v) result awake = (stays, tt)
    granted_held (Service.SetEvent None e) result awake = (stays, tt)
    granted_held (Service.SetEvent (Some t) e) result awake = (
      subst
          (λ masks. LeavesAt z None false (own s) (slice_index masks j.id.task) used
          (record m { used = cond (j.id.task == t) (bit_or used e) used }))
          (sym (set_masks s t e)) (sets t e (j.id.task == t) refl),
      tt,
    )
    granted_held (Service.ClearEvent e) result awake = (clears e, tt)
    granted_held (Service.GetEvent None) result awake = (stays, tt)
    granted_held (Service.GetEvent (Some t)) result awake = shows_to t result
    granted_held (Service.WaitEvent e) result awake = waits_on e (meets e (own s)) refl awake
    granted_held (Service.SetRelAlarm None increment cycle) result awake = (stays, tt)
    granted_held (Service.SetRelAlarm (Some a) increment cycle) result awake = (stays, tt)
    granted_held (Service.SetAbsAlarm None start cycle) result awake = (stays, tt)
    granted_held (Service.SetAbsAlarm (Some a) start cycle) result awake = (stays, tt)
    granted_held (Service.CancelAlarm None) result awake = (stays, tt)
    granted_held (Service.CancelAlarm (Some a)) result awake = (stays, tt)
    granted_held (Service.GetAlarm o) result awake = (stays, tt)
    granted_held (Service.GetAlarmBase o) result awake = (stays, tt)

  -- ---- an instruction

  asleep : (y : Context) (jobs : List Job) → IsAwake (with_job j.id (job_moved y) jobs)
      → IsAwake jobs
  asleep y jobs awake all =
      awake
      (own_changed (λ k. waits k ≡ true) (λ k. waits k ≡ true) j.id (job_moved y) jobs
      (λ k h. h) all)

  module _ (long : 1 < length j.context.registers) (registers : List (Option ℕ))
      (used : ℕ) where
    abbrev x : Context
    x = j.context

    abbrev who : Owner
    who = Owner.Task j.id.task

    abbrev n : Node
    n = node_of (of_job (switch_of s) j) registers used

    abbrev IsHeld : Standing → Instr → State → Table → Type 0
    IsHeld z what e table =
        AllByRecursion (LeavesAt z (awaited what) (shows what) (own s) (own e) used) table

    -- behind a service that is answered so
    abbrev replying : ServiceCall → Option Status → Reply
    replying call o = reply_to S (JobCalls j) s (at_values x call) o

    abbrev behind : ServiceCall → Option Status → Context
    behind call o = answered (replying call o).status (replying call o).results x

    pub replied_held : (call : ServiceCall) (o : Option Status) (z : Standing)
        → z.context ≡ behind call o
        → IsAwake (with_job j.id (job_moved (behind call o)) (replying call o).state.jobs)
        → IsHeld z (Instr.Service call) (replying call o).state (replied S n call o)
    replied_held call (Some refusal) z is awake = (
      λ at.
          stays_held (awaited (Instr.Service call)) (shows (Instr.Service call)) (own s) used
          (answered_node refusal Nothing n) refl,
      tt,
    )
    replied_held call None z is awake =
        granted_held (switch_of s) x (next x)
        (with_found (results_of S who (caller_by who j.held) call)
        (slice_set registers 0 (Some (status_number Status.Ok))))
        used z call
        (subst (λ (c : Context). HasShown s call c.registers)
        (sym (answered_is Status.Ok (results S s (at_values x call)) x) ∙ sym is)
        (has_shown S s x call long))
        (asleep (behind call None) (replying call None).state.jobs awake)

    -- behind a plain instruction, and a service without a status

    all_same : (what : Instr) (z : Standing) (e : State) → awaited what ≡ None
        → own e ≡ own s → (table : Table)
        → AllByRecursion (λ m. m.used ≡ used) table → IsHeld z what e table
    all_same what z e none is table same =
        subst (λ o. AllByRecursion (LeavesAt z o (shows what) (own s) (own e) used) table)
        (sym none)
        (all_weaker (λ m. m.used ≡ used) (LeavesAt z None (shows what) (own s) (own e) used) table
        (λ m h at. alike_held None (shows what) (own s) (own e) used m is h) same)

    jumped_used : (o : Option Bool) (to : ℕ) → AllByRecursion (λ m. m.used ≡ used) (jumped o to n)
    jumped_used None to = (refl, (refl, tt))
    jumped_used (Some true) to = (refl, tt)
    jumped_used (Some false) to = (refl, tt)

    plain_used : (what : PlainInstr) → AllByRecursion (λ m. m.used ≡ used) (plain_steps what n)
    plain_used Plain.Nop = (refl, tt)
    plain_used (Plain.Li d v) = (refl, tt)
    plain_used (Plain.Mov d a) = (refl, tt)
    plain_used (Plain.Compute operation d a b) = (refl, tt)
    plain_used (Plain.Ld d a) = (refl, tt)
    plain_used (Plain.St a b) = (refl, tt)
    plain_used (Plain.Jmp to) = (refl, tt)
    plain_used (Plain.JumpIf test a b to) =
        jumped_used (of_known (holds test) (known registers a) (known registers b)) to

    abbrev e : Instr → State
    e what = (executed S who (JobCalls j) x what s).state

    pub plain_held : (what : PlainInstr) (z : Standing)
        → IsHeld z (Instr.Plain what) (e (Instr.Plain what)) (plain_steps what n)
    plain_held what z =
        all_same (Instr.Plain what) z (e (Instr.Plain what)) refl refl (plain_steps what n)
        (plain_used what)

    -- the switch may be another
    control_same : (control : Control ℕ) (z : Standing) → own (e (Instr.Control control)) ≡ own s
        → AllByRecursion (λ m. m.used ≡ used) (control_steps control n)
        → IsHeld z (Instr.Control control) (e (Instr.Control control)) (control_steps control n)
    control_same control z is same =
        all_same (Instr.Control control) z (e (Instr.Control control)) refl is
        (control_steps control n) same

    pub control_held : (control : Control ℕ) (z : Standing)
        → IsHeld z (Instr.Control control) (e (Instr.Control control)) (control_steps control n)
    control_held Control.DisableAllInterrupts z =
        control_same Control.DisableAllInterrupts z refl (refl, tt)
    control_held Control.EnableAllInterrupts z =
        control_same Control.EnableAllInterrupts z refl (refl, tt)
    control_held Control.SuspendAllInterrupts z =
        control_same Control.SuspendAllInterrupts z refl (refl, tt)
    control_held Control.ResumeAllInterrupts z =
        control_same Control.ResumeAllInterrupts z refl (refl, tt)
    control_held Control.SuspendOsInterrupts z =
        control_same Control.SuspendOsInterrupts z refl (refl, tt)
    control_held Control.ResumeOsInterrupts z =
        control_same Control.ResumeOsInterrupts z refl (refl, tt)
    control_held (Control.ShutdownOs number) z = tt
    control_held Control.ReturnFromInterrupt z =
        control_same Control.ReturnFromInterrupt z refl (refl, tt)
