-- An instruction of a job takes one, or leaves no more than may be where a window begins.
use Rattle.std.proofs.Common.{ℕ, ◌≡◌, ◌<◌, ◌≤◌, ◌+◌, Bool, true, false, cond, not, ◌&&◌, refl, sym, ◌∙◌, ap, subst, arith}
use Rattle.std.specs.Prelude.{Option, Some, None, is_some, slice_index}
use Rattle.std.specs.List.{list_any, sum_by}
use Rattle.osek_base.specs.declared.ids.Owner.{Owner}
use Rattle.osek_base.specs.declared.instr.Control.{Control}
use Rattle.osek_base.specs.declared.instr.Instr.{Instr}
use Rattle.osek_base.specs.Blocker.{is_job}
use Rattle.osek_base.specs.Instruction.{Context}
use Rattle.osek_base.specs.Service.{Caller, JobCalls, service}
use Rattle.osek_base.specs.State.{Job, JobId, State, job_of, same_id}
use Rattle.osek_base.specs.System.{System, instruction_at, priority_of}
use Rattle.osek_base.specs.Tick.{executed}
use Rattle.law_runs.proofs.Foremost.{same_ids, same_self}
use Rattle.law_runs.proofs.Known.{IsRunningCaller}
use Rattle.law_runs.proofs.Lists.{all_any, any_none, found, pairs_weaker}
use Rattle.law_runs.proofs.RankedTick.{IsRunState}
use Rattle.law_runs.proofs.Single.{IsSingle, IsSoundPair}
use Rattle.law_runs.proofs.SingleMoves.{other_way}
use Rattle.law_costs.specs.Left.{Switch, Weights, counts, is_off, left, left_of_active, left_of_alarms, left_of_job, left_of_jobs, left_of_pending, on, switch_for, switch_of}
use Rattle.law_costs.specs.Jobs.{PaysIn, behind, left_behind, left_of_own, left_of_section, set, started}
use Rattle.law_costs.proofs.Alarms.{no_more}
use Rattle.law_costs.proofs.JobStarts.{left_of_others, others_add}
use Rattle.law_costs.proofs.Parts.{of_found, sum_apart}
use Rattle.law_costs.proofs.SetAlarms.{instruction_sets}
use Rattle.law_costs.proofs.Starts.{StartsPay}
use Rattle.law_costs.proofs.Switches.{idle_on}
use Rattle.law_costs.proofs.Totals.{found_counts}
use Rattle.law_costs.proofs.Work.{left_same}

-- ---- what an instruction leaves alone

module _ (S : System) (s : State) (by : Caller) (who : Owner) (x : Context) where
  abbrev there : Instr → State
  there what = (executed S who by x what s).state

  pending_stays : (what : Instr) → (there what).pending ≡ s.pending
  unfolding service
  pending_stays (Instr.Plain plain) = refl
  pending_stays (Instr.Service call) = refl
  pending_stays (Instr.Control Control.DisableAllInterrupts) = refl
  pending_stays (Instr.Control control) = refl

  pub running_stays : (what : Instr) → (there what).running ≡ s.running
  unfolding service
  running_stays (Instr.Plain plain) = refl
  running_stays (Instr.Service call) = refl
  running_stays (Instr.Control Control.DisableAllInterrupts) = refl
  running_stays (Instr.Control control) = refl

none_active : (S : System) (s : State) (j : Job) (who : Owner) (x : Context) → s.active ≡ None
    → (what : Instr) → (executed S who (JobCalls j) x what s).state.active ≡ None
unfolding service
none_active S s j who x is (Instr.Plain plain) = is
none_active S s j who x is (Instr.Service call) = is
none_active S s j who x is (Instr.Control Control.DisableAllInterrupts) = is
none_active S s j who x is (Instr.Control Control.EnableAllInterrupts) = is
none_active S s j who x is (Instr.Control Control.SuspendAllInterrupts) = is
none_active S s j who x is (Instr.Control Control.ResumeAllInterrupts) = is
none_active S s j who x is (Instr.Control Control.SuspendOsInterrupts) = is
none_active S s j who x is (Instr.Control Control.ResumeOsInterrupts) = is
none_active S s j who x is (Instr.Control (Control.ShutdownOs n)) = is
none_active S s j who x is (Instr.Control Control.ReturnFromInterrupt) = refl

-- the owner and the instruction of a job
abbrev pub owner_of : Job → Owner
owner_of j = Owner.Task j.id.task

abbrev pub next_of : System → Job → Instr
next_of S j = instruction_at S (owner_of j) j.context.place

pub behind_pending : (S : System) (s : State) (j : Job) → (behind S s j).pending ≡ s.pending
behind_pending S s j = pending_stays S s (JobCalls j) (owner_of j) j.context (next_of S j)

pub behind_running : (S : System) (s : State) (j : Job) → (behind S s j).running ≡ s.running
behind_running S s j = running_stays S s (JobCalls j) (owner_of j) j.context (next_of S j)

pub behind_active : (S : System) (s : State) (j : Job) → s.active ≡ None
    → (behind S s j).active ≡ None
behind_active S s j is = none_active S s j (owner_of j) j.context is (next_of S j)

-- ---- the running job and the others

-- no routine is active, and that job runs
pub record Runs (s : State) (n : JobId) : Type 0 where
  pub idle : s.active ≡ None
  pub runs : s.running ≡ Some n

module _ (S : System) (s : State) (n : JobId) (runs : Runs s n) where
  pub other_switch : (k : Job) → same_id k.id n ≡ false → switch_for s k ≡ on
  other_switch k other =
      idle_on s k (ap (λ o. is_job o k.id) runs.runs ∙ other_way S k.id n other)

  pub own_switch : (k : Job) → same_id k.id n ≡ true → switch_for s k ≡ switch_of s
  own_switch k own =
      ap (λ b. cond b (switch_of s) on)
      (ap (λ o. not (is_some o) && is_job s.running k.id) runs.idle
      ∙ ap (λ o. is_job o k.id) runs.runs
      ∙ ap (λ m. same_id n m) (same_ids k.id n own) ∙ same_self n)

module _ (S : System) (p : ℕ) (c : Weights) (s : State) (n : JobId) (runs : Runs s n) where
  -- of all jobs it is that of the running one, and of the others with interrupts on
  pub sum_is : IsSingle S s → sum_by (left_of_job S p c s.masks (switch_for s)) s.jobs
      ≡ of_found (left_of_job S p c s.masks (switch_for s)) (job_of n s.jobs)
      + left_of_others S p c s.masks n s.jobs
  sum_is single =
      sum_apart (left_of_job S p c s.masks (switch_for s)) (left_of_job S p c s.masks (λ l. on))
      (λ k. same_id k.id n) s.jobs
      (pairs_weaker (IsSoundPair S) (λ x y. same_id x.id n ≡ true → same_id y.id n ≡ false) s.jobs
      (λ x y h is. subst (λ m. same_id y.id m ≡ false) (same_ids x.id n is) h.apart) single.pairs)
      (all_any (λ k. same_id k.id n ≡ false
      → left_of_job S p c s.masks (switch_for s) k ≡ left_of_job S p c s.masks (λ l. on) k) s.jobs
      (λ k other.
      ap (λ w. cond (counts S p w k) (c.of_job (slice_index s.masks k.id.task) w k) 0)
      (other_switch S s n runs k other)))

-- ---- an instruction

module _ (S : System) (p : ℕ) (c : Weights) (s : State) (starts : StartsPay S p c s)
    (good : IsRunState S s) (j : Job) (calls : IsRunningCaller s j)
    (single : IsSingle S (behind S s j)) (pays : PaysIn S p c s j) where
  abbrev e : State
  e = behind S s j

  abbrev counted : State → Job → Bool
  counted r k = counts S p (switch_for r k) k

  here : Runs s j.id
  here = record { idle = calls.idle; runs = calls.runs }

  after : Runs e j.id
  after = record {
    idle = behind_active S s j calls.idle;
    runs = behind_running S s j ∙ calls.runs;
  }

  others_more : left_of_others S p c e.masks j.id e.jobs
      ≤ left_of_others S p c s.masks j.id s.jobs + started S c s j
  others_more = others_add S p c s starts good j calls (owner_of j) j.context (next_of S j)

  alarms_more : left_of_alarms S c e.alarms ≤ left_of_alarms S c s.alarms + set S c s j
  alarms_more = instruction_sets S c s (owner_of j) (JobCalls j) j.context (next_of S j)

  -- what is left of the job itself is told by what is asked of it
  own_less : (o : Option Job) → job_of j.id e.jobs ≡ o
      → of_found (left_of_job S p c e.masks (switch_for e)) o
      ≤ left_of_own S p c e.masks (switch_of s) (switch_of e) o
  own_less None is = omega arith
  own_less (Some k) is =
      subst (λ w. cond (counts S p w k) (c.of_job (slice_index e.masks k.id.task) w k) 0
      ≤ left_of_own S p c e.masks (switch_of s) (switch_of e) (Some k))
      (sym (own_switch S e j.id after k own)) (go (counts S p (switch_of e) k))
    where
      own : same_id k.id j.id ≡ true
      own =
          (found (λ l. Unit {0}) (λ l. same_id l.id j.id) e.jobs k
          (all_any (λ l. Unit {0}) e.jobs (λ l. tt)) is).1

      go : (b : Bool) → cond b (c.of_job (slice_index e.masks k.id.task) (switch_of e) k) 0
          ≤ cond b (c.of_job (slice_index e.masks k.id.task) (switch_of e) k)
          (left_of_section c (switch_of s))
      go true = omega arith
      go false = omega arith

  -- where none counts, a section may begin
  section_less : list_any (counted e) e.jobs ≡ false → is_off (switch_of s) ≡ true
      → (o : Option Job) → job_of j.id e.jobs ≡ o
      → c.of_section ≤ left_of_own S p c e.masks (switch_of s) (switch_of e) o
  section_less none off None is =
      let whole : left_of_section c (switch_of s) ≡ c.of_section =
      ap (λ b. cond b c.of_section 0) off in
      omega (arith, whole)
  section_less none off (Some k) is =
      let whole : left_of_section c (switch_of s) ≡ c.of_section =
      ap (λ b. cond b c.of_section 0) off in
      let both =
      found (λ l. counted e l ≡ false) (λ l. same_id l.id j.id) e.jobs k
      (any_none (counted e) e.jobs none) is in
      let out : counts S p (switch_of e) k ≡ false =
      ap (λ w. counts S p w k) (sym (own_switch S e j.id after k both.1)) ∙ both.0 in
      let own : left_of_own S p c e.masks (switch_of s) (switch_of e) (Some k)
      ≡ left_of_section c (switch_of s) =
      ap
      (λ b. cond b (c.of_job (slice_index e.masks k.id.task) (switch_of e) k)
      (left_of_section c (switch_of s)))
      out in
      omega (arith, whole, own)

  unactive : (r : State) → r.active ≡ None → left_of_active c (switch_of r) r.active ≡ 0
  unactive r is = ap (left_of_active c (switch_of r)) is

  same_pending : left_of_pending S p c e ≡ left_of_pending S p c s
  same_pending = left_same S p c s e (behind_pending S s j)

  -- of the jobs behind it
  jobs_behind : (list_any (counted e) e.jobs ≡ false → is_off (switch_of s) ≡ true)
      → left_of_jobs S p c e.masks (switch_for e) e.jobs
      ≤ left_behind S p c s j + (left_of_others S p c s.masks j.id s.jobs + started S c s j)
  jobs_behind stands = go (list_any (counted e) e.jobs) refl
    where
      go : (b : Bool) → list_any (counted e) e.jobs ≡ b
          → cond b (sum_by (left_of_job S p c e.masks (switch_for e)) e.jobs) c.of_section
          ≤ left_behind S p c s j + (left_of_others S p c s.masks j.id s.jobs + started S c s j)
      go true some =
          let whole = sum_is S p c e j.id after single in
          let own = own_less (job_of j.id e.jobs) refl in
          let more = others_more in
          omega (arith, whole, own, more)
      go false none =
          let own = section_less none (stands none) (job_of j.id e.jobs) refl in
          omega (arith, own)

  -- where the job counts, one less is left, unless none counts and interrupts were on
  pub job_takes : counts S p (switch_of s) j ≡ true
      → (list_any (counted e) e.jobs ≡ false → is_off (switch_of s) ≡ true)
      → left S p c e + 1 ≤ left S p c s
  job_takes counting stands =
      let own = own_switch S s j.id here j (same_self j.id) in
      let take = pays.takes counting in
      let idle = unactive s calls.idle in
      let none = unactive e after.idle in
      let pending = same_pending in
      let jobs = jobs_behind stands in
      let whole = sum_is S p c s j.id here good.single in
      let found : of_found (left_of_job S p c s.masks (switch_for s)) (job_of j.id s.jobs)
      ≡ cost (switch_of s) =
      ap (of_found (left_of_job S p c s.masks (switch_for s))) calls.found
      ∙ ap (λ w. cond (counts S p w j) (cost w) 0) own
      ∙ ap (λ b. cond b (cost (switch_of s)) 0) counting in
      let some : left_of_jobs S p c s.masks (switch_for s) s.jobs
      ≡ sum_by (left_of_job S p c s.masks (switch_for s)) s.jobs =
      ap (λ b. cond b (sum_by (left_of_job S p c s.masks (switch_for s)) s.jobs) c.of_section)
      (found_counts (counted s) (λ k. same_id k.id j.id) s.jobs j calls.found
      (ap (λ w. counts S p w j) own ∙ counting)) in
      let held = alarms_more in
      omega (arith, take, idle, none, pending, jobs, whole, found, some, held)
    where
      cost : Switch → ℕ
      cost w = c.of_job (slice_index s.masks j.id.task) w j

  -- where its task is below the level and nothing else is left, no more than may be at a beginning
  pub job_begins : priority_of S j.id.task < p → left_of_pending S p c s ≡ 0
      → left_of_others S p c s.masks j.id s.jobs ≡ 0
      → (list_any (counted e) e.jobs ≡ false → is_off (switch_of s) ≡ true)
      → left S p c e ≤ c.costs.at_begin
  job_begins low quiet alone stands =
      let begin = pays.begins low in
      let none = unactive e after.idle in
      let pending = same_pending in
      let jobs = jobs_behind stands in
      let held = no_more S c e.alarms in
      omega (arith, begin, none, pending, jobs, quiet, alone, held)
