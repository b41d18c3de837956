-- Jobs below a level: none but the running one is raised to that one's priority, and of none that
-- counts more is left than may be where a window begins.
use Rattle.std.proofs.Common.{ℕ, ◌≡◌, ◌<◌, ◌≤◌, ◌+◌, inl, inr, true, false, cond, sym, ◌∙◌, ap, subst, arith}
use Rattle.std.specs.Prelude.{Option, Some, slice_index}
use Rattle.std.proofs.lemmas.Bool.{cases_lt}
use Rattle.osek_base.specs.GoodState.{is_raised}
use Rattle.osek_base.specs.Priority.{dynamic_priority}
use Rattle.osek_base.specs.Reschedule.{entered}
use Rattle.osek_base.specs.State.{Job, JobId, State, job_of, same_id, waits}
use Rattle.osek_base.specs.System.{System, priority_of}
use Rattle.law_runs.proofs.Foremost.{same_ids, same_self}
use Rattle.law_runs.proofs.Known.{IsRunningCaller}
use Rattle.law_runs.proofs.Lists.{clash, none_some, some_inside}
use Rattle.law_runs.proofs.Ranked.{IsUnder}
use Rattle.law_runs.proofs.RankedMoves.{IsNewest}
use Rattle.law_costs.specs.Left.{Switch, Weights, counts, of_all_alarms, on, switch_of}
use Rattle.law_costs.specs.Paying.{PayForDispatch}
use Rattle.law_costs.specs.Jobs.{PaysIn, behind, left_behind, left_of_own, left_of_section}
use Rattle.law_costs.proofs.Dispatch.{high, high_parts}
use Rattle.law_costs.proofs.JobsKeep.{Each, Lasts}
use Rattle.law_costs.proofs.JobTakes.{behind_running}

module _ (S : System) (p : ℕ) (c : Weights) where
  -- a job, where one runs and where it finds interrupts so
  pub record IsLow (running : Option JobId) (w : Switch) (k : Job) : Type 0 where
    -- where another one runs, it isn't raised to that one's priority
    pub beneath : (r : JobId) → running ≡ Some r → same_id k.id r ≡ false
        → is_raised S k ≡ true → dynamic_priority S k < priority_of S r.task
    -- where it is below the level and counts, little is left of it, whatever alarms are set
    pub little : (m : ℕ) → priority_of S k.id.task < p → counts S p w k ≡ true
        → c.of_job m w k + of_all_alarms S c ≤ c.costs.at_begin

  abbrev pub AreLow : State → Type 0
  AreLow s = Each S IsLow s

  new_low : (o : Option JobId) (k : Job) → IsNewest S o k → IsLow o on k
  new_low o k new = record {
    beneath = λ r runs other raised. clash (sym raised ∙ new.unraised);
    little = λ m low counting.
        (let up = (high_parts S p c k counting).1 in
        let level = new.level in
        absurd (omega (arith, up, level, low)));
  }

  -- ---- a dispatch

  module _ (pays : PayForDispatch S p c) where
    -- the job that is chosen
    chosen_low : (o : Option JobId) (k : Job) → waits k ≡ false → IsLow o on k
        → IsLow (Some k.id) on (entered S k)
    chosen_low o k ready h = record {
      beneath = λ r runs other raised.
          clash (sym (same_self k.id) ∙ ap (λ n. same_id k.id n) (some_inside k.id r runs) ∙ other);
      little = λ m low counting. little m low (high_parts S p c (entered S k) counting).1;
    }
      where
        little : (m : ℕ) → priority_of S k.id.task < p → p ≤ dynamic_priority S (entered S k)
            → c.of_job m on (entered S k) + of_all_alarms S c ≤ c.costs.at_begin
        little m low there = elim (cases_lt (dynamic_priority S k) p) [
          | inl under ↦
              let begin = pays.beginning m k ready under there in
              let section = pays.section in
              omega (arith, begin, section)
          | inr up ↦
              let enter = pays.entering m k ready up in
              let before = h.little m low (high S p c k ready up) in
              omega (arith, enter, before)
        ]

    -- another one
    other_low : (o : Option JobId) (k l : Job) → IsUnder S k l → same_id l.id k.id ≡ false
        → IsLow o on l → IsLow (Some k.id) on l
    other_low o k l under differs h = record {
      beneath = λ r runs other raised.
          subst (λ (n : JobId). dynamic_priority S l < priority_of S n.task)
          (some_inside k.id r runs) (under.beneath differs raised);
      little = h.little;
    }

    pub low_lasts : Lasts S IsLow
    low_lasts = record {
      made = λ o n new. new_low o _ new;
      freed = λ o j waiting new h. new_low o _ new;
      none = λ o k h. record { beneath = λ r runs. absurd (none_some r runs); little = h.little };
      itself = chosen_low;
      other = other_low;
    }

  -- ---- an instruction

  -- the job that executes it
  pub own_low : PayForDispatch S p c → (s : State) (j : Job) → IsRunningCaller s j
      → PaysIn S p c s j → (k : Job)
      → same_id k.id j.id ≡ true → job_of j.id (behind S s j).jobs ≡ Some k
      → IsLow (behind S s j).running (switch_of (behind S s j)) k
  own_low dispatch s j calls pays k own is = record {
    beneath = λ r runs other raised.
        clash
        (sym own
        ∙ ap (λ n. same_id k.id n)
        (some_inside j.id r (sym (behind_running S s j ∙ calls.runs) ∙ runs))
        ∙ other);
    little = λ m low counting.
        (let begin =
        pays.begins
        (subst (λ (n : JobId). priority_of S n.task < p) (same_ids k.id j.id own) low) in
        let left : left_behind S p c s j ≡ c.of_job there e k =
        ap (left_of_own S p c (behind S s j).masks (switch_of s) e) is
        ∙ ap (λ b. cond b (c.of_job there e k) (left_of_section c (switch_of s))) counting in
        let same = dispatch.lower m there e k low in
        omega (arith, begin, left, same));
  }
    where
      e : Switch
      e = switch_of (behind S s j)

      there : ℕ
      there = slice_index (behind S s j).masks k.id.task
