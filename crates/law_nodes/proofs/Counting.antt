-- At some nodes a job that executes counts behind its instruction in any case.
use Rattle.std.proofs.Common.{◌≡◌, ℕ, max, Bool, true, false, cond, not, ◌||◌, nat_le, List, map, refl, sym, ◌∙◌, ap, subst}
use Rattle.std.specs.Prelude.{Option, Some, None, is_some, unwrap_or}
use Rattle.std.proofs.lemmas.Bool.{and_from, and_parts}
use Rattle.osek_base.specs.declared.ids.Owner.{Owner}
use Rattle.osek_base.specs.Ceiling.{ceiling, internal_ceiling}
use Rattle.osek_base.specs.Lists.{greatest}
use Rattle.osek_base.specs.Priority.{dynamic_priority}
use Rattle.osek_base.specs.Service.{JobCalls}
use Rattle.osek_base.specs.State.{Job, JobId, State, interrupts_off, job_of, waits}
use Rattle.osek_base.specs.System.{System, priority_of}
use Rattle.osek_base.specs.Tick.{job_moved}
use Rattle.law_runs.proofs.Known.{IsCaller, IsRunningCaller, executor_calls}
use Rattle.law_runs.proofs.Lists.{clash}
use Rattle.law_costs.specs.Jobs.{behind}
use Rattle.law_costs.specs.Known.{Executes}
use Rattle.law_costs.specs.Left.{Switch, counts, is_off, switch_of}
use Rattle.law_costs.proofs.Entered.{IsMoved, moved_where_off}
use Rattle.law_nodes.specs.Nodes.{Node, is_at, of_job}
use Rattle.law_nodes.specs.Prices.{highest, stays_counted}
use Rattle.law_nodes.proofs.Owning.{caller_alone}
use Rattle.law_nodes.proofs.Standing.{at_is}
use Rattle.law_nodes.proofs.Tests.{first_of, second_of}

-- ---- a job that stays counted

-- the job of an id is there, and counts
abbrev pub HasCounted : System → ℕ → Switch → JobId → List Job → Type 0
HasCounted S p v id jobs =
    (k : Job) × (job_of id jobs ≡ Some k) × (counts S p v k ≡ true)

-- what an internal resource adds that is taken, if there is one
taken_adds : (o : Option ℕ) (taken : Bool) → taken ≡ is_some o
    → unwrap_or o 0 ≡ cond taken (unwrap_or o 0) 0
taken_adds None true h = refl
taken_adds None false h = refl
taken_adds (Some n) true h = refl
taken_adds (Some n) false h = clash (sym h)

module _ (S : System) (p : ℕ) (s : State) (j : Job) (executes : Executes S (JobCalls j) s) where
  abbrev high : ℕ
  high = highest S (Owner.Task j.id.task) j.held

  as_high : high ≡ dynamic_priority S j
  as_high =
      ap (λ n. max (priority_of S j.id.task) (max (greatest (map (ceiling S) j.held)) n))
      (taken_adds (internal_ceiling S j.id.task) j.taken executes.entered)

  calls_here : IsRunningCaller s j
  calls_here = subst (IsCaller s) executes.calls (executor_calls s)

  -- all services are refused, so it is the same behind its instruction
  counted_behind : is_off (switch_of s) ≡ true → nat_le p high ≡ true
      → HasCounted S p (switch_of (behind S s j)) j.id (behind S s j).jobs
  counted_behind off up =
      let moved : IsMoved j (behind S s j) =
      moved_where_off S s j calls_here
      (first_of (interrupts_off s) (interrupts_off (behind S s j)) off) in
      let v : Switch = switch_of (behind S s j) in (
        job_moved moved.context j,
        moved.there,
        and_from (not (waits j)) (is_off v || nat_le p (dynamic_priority S j))
            (ap (λ o. not (is_some o)) (caller_alone S s j executes.good calls_here).ready)
            (second_of (is_off v) (nat_le p (dynamic_priority S j))
            (sym (ap (nat_le p) as_high) ∙ up)),
      )

  pub staying_at : (n : Node) → is_at n (of_job (switch_of s) j) ≡ true
      → stays_counted S p n ≡ true
      → HasCounted S p (switch_of (behind S s j)) j.id (behind S s j).jobs
  staying_at n at h =
      let is = at_is n (of_job (switch_of s) j) at in
      let both =
      and_parts (is_off (switch_of s)) (nat_le p high)
      (subst (λ m. stays_counted S p m ≡ true) is.0 h) in
      counted_behind both.0 both.1
