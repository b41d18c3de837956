-- A state in which no work stands: what is left is that of a running job below the level.
use Rattle.std.proofs.Common.{ℕ, ◌≡◌, ◌<◌, ◌≤◌, ◌+◌, inl, inr, Bool, true, false, cond, not, ◌&&◌, ◌||◌, refl, sym, ◌∙◌, ap, arith}
use Rattle.std.specs.Prelude.{Some, None, nat_le, slice_index}
use Rattle.std.specs.List.{AllByRecursion, list_any, sum_by}
use Rattle.std.proofs.lemmas.Bool.{cases_lt, le-leb}
use Rattle.osek_base.specs.Priority.{dynamic_priority}
use Rattle.osek_base.specs.State.{Job, State, job_of, same_id, waits}
use Rattle.osek_base.specs.System.{System, priority_of}
use Rattle.law_runs.proofs.Lists.{all_both, all_weaker, any_none, clash, found}
use Rattle.law_runs.proofs.Ranked.{raised_above}
use Rattle.law_runs.proofs.RankedTick.{IsRunState}
use Rattle.law_windows.specs.Work.{has_work, is_active_at, is_work, some_pending}
use Rattle.law_costs.specs.Left.{Weights, counts, is_off, left, left_of_active, left_of_job, left_of_jobs, of_all_alarms, on, switch_for, switch_of}
use Rattle.law_costs.proofs.Alarms.{no_more}
use Rattle.law_costs.proofs.Dispatch.{high_parts}
use Rattle.law_costs.proofs.JobStarts.{left_of_others}
use Rattle.law_costs.proofs.JobTakes.{Runs, sum_is}
use Rattle.law_costs.proofs.Low.{AreLow, IsLow}
use Rattle.law_costs.proofs.Parts.{of_found, sum_none}
use Rattle.law_costs.proofs.Running.{IsResting}
use Rattle.law_costs.proofs.Totals.{none_any}
use Rattle.law_costs.proofs.Work.{none_left}

-- no routine of the level is active or pending, and no job of it is ready
pub record IsUnbusy (S : System) (p : ℕ) (s : State) : Type 0 where
  pub active : is_active_at S p s.active ≡ false
  pub pending : some_pending S p s ≡ false
  pub jobs : AllByRecursion (λ k. is_work S p k ≡ false) s.jobs

pub unbusy : (S : System) (p : ℕ) (s : State) → has_work S p s ≡ false → IsUnbusy S p s
unbusy S p s none = go (is_active_at S p s.active) (some_pending S p s) refl refl none
  where
    go : (a b : Bool) → is_active_at S p s.active ≡ a → some_pending S p s ≡ b
        → (a || (b || list_any (is_work S p) s.jobs)) ≡ false → IsUnbusy S p s
    go true b is pends none = clash none
    go false true is pends none = clash none
    go false false is pends none =
        record { active = is; pending = pends; jobs = any_none (is_work S p) s.jobs none }

-- then none stands
pub not_busy : (S : System) (p : ℕ) (s : State) → IsUnbusy S p s → has_work S p s ≡ true → ⊥
not_busy S p s quiet some =
    clash
    (sym some
    ∙ ap (λ b. b || (some_pending S p s || list_any (is_work S p) s.jobs)) quiet.active
    ∙ ap (λ b. b || list_any (is_work S p) s.jobs) quiet.pending
    ∙ none_any (is_work S p) s.jobs quiet.jobs)

-- a ready job that is no work is below the level
pub lower : (S : System) (p : ℕ) (k : Job) → waits k ≡ false → is_work S p k ≡ false
    → priority_of S k.id.task < p
lower S p k ready none = elim (cases_lt (priority_of S k.id.task) p) [
  | inl low ↦ low
  | inr high ↦
      clash
      (sym (le-leb p (priority_of S k.id.task) high)
      ∙ sym (ap (λ b. not b && nat_le p (priority_of S k.id.task)) ready) ∙ none)
]

-- where no routine is active and no job is ready, the section that a dispatch may begin stands for them
pub none_counts_left : (S : System) (p : ℕ) (c : Weights) (s : State) → IsUnbusy S p s
    → s.active ≡ None → IsResting s → c.of_section + of_all_alarms S c ≤ c.costs.at_begin
    → left S p c s ≤ c.costs.at_begin
none_counts_left S p c s quiet idle rests section =
    let active : left_of_active c (switch_of s) s.active ≡ 0 =
    ap (left_of_active c (switch_of s)) idle in
    let pending = none_left S p c s quiet.pending in
    let none : left_of_jobs S p c s.masks (switch_for s) s.jobs ≡ c.of_section =
    ap (λ b. cond b (sum_by (left_of_job S p c s.masks (switch_for s)) s.jobs) c.of_section)
    (none_any (λ k. counts S p (switch_for s k) k) s.jobs
    (all_weaker (λ k. waits k ≡ true) (λ k. counts S p (switch_for s k) k ≡ false) s.jobs
    (λ k h.
    ap (λ b. not b && (is_off (switch_for s k) || nat_le p (dynamic_priority S k))) h)
    rests.none)) in
    let held = no_more S c s.alarms in
    omega (arith, active, pending, none, section, held)

module _ (S : System) (p : ℕ) (c : Weights) (s : State) (good : IsRunState S s)
    (low : AreLow S p c s) (quiet : IsUnbusy S p s) (j : Job) (runs : Runs s j.id)
    (there : job_of j.id s.jobs ≡ Some j) where
  member : (P : Job → Type 0) → AllByRecursion P s.jobs → P j
  member P all = (found P (λ k. same_id k.id j.id) s.jobs j all there).0

  ready : waits j ≡ false
  ready = member (λ k. s.running ≡ Some k.id → waits k ≡ false) good.ordered.ready runs.runs

  -- the running job is below the level
  pub is_lower : priority_of S j.id.task < p
  is_lower = lower S p j ready (member (λ k. is_work S p k ≡ false) quiet.jobs)

  other_none : (k : Job) → is_work S p k ≡ false → IsLow S p c s.running (switch_for s k) k
      → same_id k.id j.id ≡ false → left_of_job S p c s.masks (λ l. on) k ≡ 0
  other_none k none h other = go (counts S p on k) refl
    where
      go : (b : Bool) → counts S p on k ≡ b
          → cond b (c.of_job (slice_index s.masks k.id.task) on k) 0 ≡ 0
      go false is = refl
      go true is =
          let parts = high_parts S p c k is in
          let high = parts.1 in
          let under = lower S p k parts.0 none in
          let beneath =
          h.beneath j.id runs.runs other (raised_above S k parts.0 (omega (arith, high, under))) in
          let own = is_lower in
          absurd (omega (arith, beneath, own, high))

  -- nothing is left of the others
  pub none_beside : left_of_others S p c s.masks j.id s.jobs ≡ 0
  none_beside =
      sum_none (left_of_job S p c s.masks (λ l. on)) (λ k. same_id k.id j.id) s.jobs
      (all_weaker (λ k. (is_work S p k ≡ false) × IsLow S p c s.running (switch_for s k) k)
      (λ k. same_id k.id j.id ≡ false → left_of_job S p c s.masks (λ l. on) k ≡ 0) s.jobs
      (λ k h. other_none k h.0 h.1)
      (all_both (λ k. is_work S p k ≡ false) (λ k. IsLow S p c s.running (switch_for s k) k) s.jobs
      quiet.jobs low))

  -- and of it, and of all alarms, no more than may be where a window begins
  own_little : c.of_section + of_all_alarms S c ≤ c.costs.at_begin
      → of_found (left_of_job S p c s.masks (switch_for s)) (Some j) + of_all_alarms S c
      ≤ c.costs.at_begin
  own_little section = go (counts S p (switch_for s j) j) refl
    where
      go : (b : Bool) → counts S p (switch_for s j) j ≡ b
          → cond b (c.of_job (slice_index s.masks j.id.task) (switch_for s j) j) 0
          + of_all_alarms S c
          ≤ c.costs.at_begin
      go false is = omega (arith, section)
      go true is = (member (λ k. IsLow S p c s.running (switch_for s k) k) low).little
          (slice_index s.masks j.id.task) is_lower is

  pub little_left : c.of_section + of_all_alarms S c ≤ c.costs.at_begin
      → left S p c s ≤ c.costs.at_begin
  little_left section =
      let active : left_of_active c (switch_of s) s.active ≡ 0 =
      ap (left_of_active c (switch_of s)) runs.idle in
      let pending = none_left S p c s quiet.pending in
      let jobs = go (list_any (λ k. counts S p (switch_for s k) k) s.jobs) in
      let held = no_more S c s.alarms in
      omega (arith, active, pending, jobs, held)
    where
      go : (b : Bool)
          → cond b (sum_by (left_of_job S p c s.masks (switch_for s)) s.jobs) c.of_section
          + of_all_alarms S c
          ≤ c.costs.at_begin
      go true =
          let whole = sum_is S p c s j.id runs good.single in
          let beside = none_beside in
          let own = own_little section in
          let same : of_found (left_of_job S p c s.masks (switch_for s)) (job_of j.id s.jobs)
          ≡ of_found (left_of_job S p c s.masks (switch_for s)) (Some j) =
          ap (of_found (left_of_job S p c s.masks (switch_for s))) there in
          omega (arith, whole, beside, own, same)
      go false = section
