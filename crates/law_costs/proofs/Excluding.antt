-- With interrupts on nobody but who executes holds a resource that it may take.
use Rattle.std.proofs.Common.{◌≡◌, Bool, true, false, cond, not, refl, sym, ◌∙◌}
use Rattle.std.specs.Prelude.{Some, None}
use Rattle.std.specs.List.{list_any}
use Rattle.osek_base.specs.declared.ids.ResId.{ResId}
use Rattle.osek_base.specs.declared.instr.Service.{Service}
use Rattle.osek_base.specs.declared.status.Status.{Status}
use Rattle.osek_base.specs.Lists.{same_resource}
use Rattle.osek_base.specs.Proper.{IsProper}
use Rattle.osek_base.specs.Service.{Caller, JobCalls, NobodyCalls, RoutineCalls, answer, holds, may_take, service}
use Rattle.osek_base.specs.State.{Job, State, interrupts_off, same_id}
use Rattle.osek_base.specs.System.{System}
use Rattle.law_runs.proofs.Exclusion.{refused_holder}
use Rattle.law_runs.proofs.Foremost.{self_equal}
use Rattle.law_runs.proofs.Known.{IsCaller, IsRunningCaller}
use Rattle.law_runs.proofs.Lists.{any_none, clash, found}
use Rattle.law_runs.proofs.RankedTick.{IsExecuting}
use Rattle.law_runs.proofs.Records.{contains_all}
use Rattle.law_costs.specs.Known.{ExcludesOthers}

resource_self : (r : ResId) → same_resource r r ≡ true
resource_self (ResId.Declared n) = self_equal n
resource_self ResId.Scheduler = refl

-- GetResource is refused where somebody holds the resource
refused_by : (off takes any : Bool) → off ≡ false → takes ≡ true → any ≡ true
    → answer (cond off (Some Status.SysDisabled) (cond (not takes) (Some Status.Access)
    (cond any (Some Status.Access) None))) ≡ Status.Access
refused_by true takes any on may held = clash on
refused_by false false any on may held = clash (sym may)
refused_by false true true on may held = refl
refused_by false true false on may held = clash (sym held)

module _ (S : System) (proper : IsProper S) (s : State) (executing : IsExecuting S proper s) where
  module _ (j : Job) (calls : IsRunningCaller s j) (on : interrupts_off s ≡ false) (r : ResId)
      (takes : may_take S j.id.task r ≡ true) where
    abbrev is_held : Bool
    is_held = list_any (λ k. holds k r) s.jobs

    status_is : is_held ≡ true
        → (service S (JobCalls j) s (Service.GetResource (Some r))).status ≡ Status.Access
    unfolding service
    status_is held =
        refused_by (interrupts_off s) (may_take S j.id.task r) is_held on takes held

    job_excludes : is_held ≡ holds j r
    job_excludes = go is_held (holds j r) refl refl
      where
        go : (a b : Bool) → is_held ≡ a → holds j r ≡ b → a ≡ b
        go true true held own = refl
        go false false held own = refl
        go true false held own =
            clash
            (sym (resource_self r)
            ∙ contains_all (λ q. same_resource r q ≡ false) j.held r
            (any_none (same_resource r) j.held own)
            (refused_holder S proper s executing j calls r takes (status_is held)))
        go false true held own =
            clash
            (sym own
            ∙ (found (λ k. holds k r ≡ false) (λ k. same_id k.id j.id) s.jobs j
            (any_none (λ k. holds k r) s.jobs held) calls.found).0)

  pub excludes_others : (who : Caller) → IsCaller s who → ExcludesOthers S who s
  excludes_others (JobCalls j) calls on r takes = job_excludes j calls on r takes
  excludes_others (RoutineCalls a) calls on r takes = clash (sym takes)
  excludes_others NobodyCalls calls on r takes = clash (sym takes)
