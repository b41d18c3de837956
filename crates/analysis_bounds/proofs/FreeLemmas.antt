-- What a way on frees is no more than each step may cost more by the law.
use Rattle.std.proofs.Common.{ℕ, ◌+◌, ◌≡◌, ◌≤◌, ◌⊎◌, inl, inr, Bool, true, false, cond, not, ◌&&◌, ◌||◌, nat_le, List, [], ◌∷◌, map, refl, sym, ◌∙◌, ap, subst, arith}
use Rattle.std.specs.Prelude.{Option, Some, None, is_some, bit_and, bit_or, ◌==◌}
use Rattle.std.specs.List.{AllByRecursion}
use Rattle.osek_base.specs.declared.ids.Owner.{Owner}
use Rattle.osek_base.specs.declared.instr.Instr.{Instr}
use Rattle.osek_base.specs.declared.instr.Service.{Service}
use Rattle.osek_base.specs.declared.status.Status.{Status}
use Rattle.osek_base.specs.System.{System}
use Rattle.osek_base.specs.Types.{ServiceCall}
use Rattle.law_runs.proofs.Lists.{clash}
use Rattle.law_nodes.specs.Early.{awaited, freed_by, freed_early, holds_events, is_mask, least_in}
use Rattle.law_nodes.specs.Nodes.{Node, Table, is_within}
use Rattle.law_nodes.specs.Prices.{may_count}
use Rattle.law_nodes.specs.Services.{answered_node, answers, caller_at, granted_by, job_granted, replied, results_of}
use Rattle.law_nodes.specs.Steps.{steps_by}
use Rattle.analysis_nodes.specs.Outcomes.{Outcome, outcome_by, outcomes_by}
use Rattle.analysis_bounds.specs.declared.level.Level.{Level}
use Rattle.analysis_bounds.specs.Checks.{freed_of, freed_on, freed_where}
use Rattle.analysis_bounds.specs.Levels.{by_event}
use Rattle.analysis_bounds.proofs.EventLemmas.{within_or}

-- a service waits, or it doesn't
waits_or_not : (call : ServiceCall)
    → ((m : ℕ) × (call ≡ Service.WaitEvent m)) ⊎ (awaited (Instr.Service call) ≡ None)
waits_or_not (Service.ActivateTask o) = inr refl
waits_or_not Service.TerminateTask = inr refl
waits_or_not (Service.ChainTask o) = inr refl
waits_or_not Service.Schedule = inr refl
waits_or_not Service.GetTaskId = inr refl
waits_or_not (Service.GetTaskState o) = inr refl
waits_or_not (Service.GetResource o) = inr refl
waits_or_not (Service.ReleaseResource o) = inr refl
waits_or_not (Service.LoadShared o i) = inr refl
waits_or_not (Service.StoreShared o i v) = inr refl
waits_or_not (Service.SetEvent o e) = inr refl
waits_or_not (Service.ClearEvent e) = inr refl
waits_or_not (Service.GetEvent o) = inr refl
waits_or_not (Service.WaitEvent e) = inl (e, refl)
waits_or_not (Service.SetRelAlarm o increment cycle) = inr refl
waits_or_not (Service.SetAbsAlarm o start cycle) = inr refl
waits_or_not (Service.CancelAlarm o) = inr refl
waits_or_not (Service.GetAlarm o) = inr refl
waits_or_not (Service.GetAlarmBase o) = inr refl

module _ (S : System) (level : Level) (t : ℕ) (n : Node) where
  abbrev p : ℕ
  p = level.priority

  abbrev held : ℕ → ℕ → ℕ
  held = by_event level.holds.items

  abbrev freed : Instr → ℕ
  freed what = freed_on (Owner.Task t) S level what n.used

  -- each step of a job that may count may cost so much more
  abbrev pub AreFreed : Instr → ℕ → Table → Type 0
  AreFreed what more table =
      AllByRecursion
      (λ m. may_count S p m ≡ true → more ≤ freed_early S p held t what n m) table

  abbrev pub Frees : Instr → Outcome → Type 0
  Frees what o = AreFreed what (freed_where o.refusal (freed what)) o.next

  no_more : (what : Instr) (more : ℕ) → more ≡ 0 → (table : Table) → AreFreed what more table
  no_more what more none [] = tt
  no_more what more none (m ∷ table) =
      (λ counts. omega (arith, none), no_more what more none table)

  freed_none : (what : Instr) → awaited what ≡ None → freed what ≡ 0
  freed_none what none =
      ap (λ o. cond (holds_events S p t) (freed_of (held t) o n.used) 0) none
      ∙ go (holds_events S p t) (freed_of (held t) None n.used) refl
    where
      go : (b : Bool) (more : ℕ) → more ≡ 0 → cond b more 0 ≡ 0
      go true more is = is
      go false more is = refl

  -- ---- a wait that goes on

  going_on : (w : ℕ) → freed (Instr.Service (Service.WaitEvent w))
      ≤ freed_early S p held t (Instr.Service (Service.WaitEvent w)) n
      (record n { used = bit_or n.used w })
  going_on w = go (holds_events S p t)
    where
      inside : (b v : Bool) → v ≡ true
          → cond b (least_in (held t) w) 0 ≤ cond (b && v) (least_in (held t) w) 0 + 0
      inside true true h = omega arith
      inside true false h = clash (sym h)
      inside false v h = omega arith

      go : (b : Bool)
          → cond b (freed_of (held t) (Some w) n.used) 0
          ≤ cond b (freed_by (held t) (Some w) n.used (bit_or n.used w) + 0) 0
      go true =
          inside (is_mask w && bit_and w n.used == 0) (is_within w (bit_or n.used w))
          (within_or n.used w)
      go false = omega arith

  awaits : (w : ℕ) (k : Node) → k.used ≡ n.used
      → AreFreed (Instr.Service (Service.WaitEvent w))
      (freed (Instr.Service (Service.WaitEvent w))) (job_granted S (Service.WaitEvent w) k)
  awaits w k same = (
    λ counts.
        subst
        (λ used. freed (Instr.Service (Service.WaitEvent w))
        ≤ freed_early S p held t (Instr.Service (Service.WaitEvent w)) n
        (record k { used = bit_or used w }))
        (sym same) (going_on w),
    (λ counts. clash (sym counts), tt),
  )

  -- ---- by each answer

  granted : (call : ServiceCall) (k : Node) → k.used ≡ n.used
      → AreFreed (Instr.Service call) (freed (Instr.Service call)) (job_granted S call k)
  granted call k same = elim (waits_or_not call) [
    | inl wait ↦
        subst
        (λ (e : ServiceCall). AreFreed (Instr.Service e) (freed (Instr.Service e))
        (job_granted S e k))
        (sym wait.1) (awaits wait.0 k same)
    | inr none ↦
        no_more (Instr.Service call) (freed (Instr.Service call))
        (freed_none (Instr.Service call) none) (job_granted S call k)
  ]

  answered : n.owner ≡ Owner.Task t → (call : ServiceCall) (o : Option Status)
      → Frees (Instr.Service call) (outcome_by S n call o)
  answered is call (Some refusal) =
      no_more (Instr.Service call) 0 refl (replied S n call (Some refusal))
  answered is call None =
      subst
      (λ (who : Owner). AreFreed (Instr.Service call) (freed (Instr.Service call))
      (granted_by S who call
      (answered_node Status.Ok (results_of S n.owner (caller_at n) call) n)))
      (sym is)
      (granted call (answered_node Status.Ok (results_of S n.owner (caller_at n) call) n) refl)

  answered_all : n.owner ≡ Owner.Task t → (call : ServiceCall) (os : List (Option Status))
      → AllByRecursion (Frees (Instr.Service call)) (map (outcome_by S n call) os)
  answered_all is call [] = tt
  answered_all is call (o ∷ os) = (answered is call o, answered_all is call os)

  unawaited : (what : Instr) → awaited what ≡ None
      → AreFreed what (freed what) (steps_by S what n)
  unawaited what none = no_more what (freed what) (freed_none what none) (steps_by S what n)

  pub all_free : n.owner ≡ Owner.Task t → (what : Instr)
      → AllByRecursion (Frees what) (outcomes_by S what n)
  all_free is (Instr.Service call) = answered_all is call (answers S n call)
  all_free is (Instr.Plain plain) = (unawaited (Instr.Plain plain) refl, tt)
  all_free is (Instr.Control control) = (unawaited (Instr.Control control) refl, tt)
