-- What holds of each job holds behind an instruction too, if it does of the job that executes it.
use Rattle.std.proofs.Common.{◌≡◌, Bool, true, false, not, List, refl, sym, ◌∙◌, ap, subst}
use Rattle.std.specs.Prelude.{Option, Some, None, is_some}
use Rattle.std.specs.List.{AllByRecursion}
use Rattle.osek_base.specs.declared.ids.Owner.{Owner}
use Rattle.osek_base.specs.declared.instr.Control.{Control}
use Rattle.osek_base.specs.declared.instr.Instr.{Instr}
use Rattle.osek_base.specs.Instruction.{Context, next, plain}
use Rattle.osek_base.specs.Service.{JobCalls, Reply, RoutineCalls, service}
use Rattle.osek_base.specs.State.{Active, Job, JobId, State, job_of, same_id, with_job}
use Rattle.osek_base.specs.System.{System, instruction_at}
use Rattle.osek_base.specs.Tick.{answered, at_values, caller_executes, executed, job_moved}
use Rattle.osek_base.specs.Types.{ServiceCall}
use Rattle.law_runs.proofs.Foremost.{AreApart, only, same_ids}
use Rattle.law_runs.proofs.Known.{IsRunningCaller}
use Rattle.law_runs.proofs.Lists.{EitherWay, all_both, all_kept, all_weaker, clash, either_way, found, pairs_weaker}
use Rattle.law_runs.proofs.RankedTick.{IsRunState}
use Rattle.law_runs.proofs.Single.{IsSingle, IsSoundPair}
use Rattle.law_costs.specs.Left.{Switch, switch_for, switch_of}
use Rattle.law_costs.specs.Jobs.{behind}
use Rattle.law_costs.proofs.JobsKeep.{Each, Lasts, holds_of_ready}
use Rattle.law_costs.proofs.JobTakes.{Runs, behind_active, behind_running, next_of, other_switch, own_switch, owner_of, running_stays}
use Rattle.law_costs.proofs.Parts.{none_found}
use Rattle.law_costs.proofs.ServicesKeep.{IsOther, others_changed, others_ready, service_keeps}
use Rattle.law_costs.proofs.Switches.{behind_routine, find_on}

module _ (S : System) (P : Option JobId → Switch → Job → Type 0) (lasts : Lasts S P) (s : State)
    (good : IsRunState S s) (all : Each S P s) where
  abbrev Here : Job → Type 0
  Here k = P s.running (switch_for s k) k

  -- ---- an instruction of a job

  module _ (j : Job) (calls : IsRunningCaller s j) where
    abbrev Others : List Job → Type 0
    Others jobs = AllByRecursion (IsOther Here j.id) jobs

    besides : Others s.jobs
    besides = all_weaker Here (IsOther Here j.id) s.jobs (λ k h other. h) all

    moved : (x : Context) (jobs : List Job) → Others jobs
        → Others (with_job j.id (job_moved x) jobs)
    moved x jobs each = others_changed Here j.id (job_moved x) (λ k. refl) jobs each

    served : (call : ServiceCall) → Others (service S (JobCalls j) s call).state.jobs
    served call =
        service_keeps S s good (IsOther Here j.id)
        (others_ready S s.running Here j.id (holds_of_ready S P lasts s)) besides (JobCalls j)
        (record {
          change = λ f ids. others_changed Here j.id f ids s.jobs besides;
          end = all_kept (IsOther Here j.id) (λ k. not (same_id k.id j.id)) s.jobs besides;
        })
        call

    others_keep : (who : Owner) (x : Context) (what : Instr)
        → Others (executed S who (JobCalls j) x what s).state.jobs
    others_keep who x (Instr.Plain what) =
        moved (plain what x (s.words who)).context s.jobs besides
    others_keep who x (Instr.Service call) =
        let r : Reply = service S (JobCalls j) s (at_values x call) in
        moved (answered r.status r.results x) r.state.jobs (served (at_values x call))
    others_keep who x (Instr.Control Control.DisableAllInterrupts) = moved (next x) s.jobs besides
    others_keep who x (Instr.Control control) = moved (next x) s.jobs besides

    module _ (single : IsSingle S (behind S s j)) where
      abbrev e : State
      e = behind S s j

      here : Runs s j.id
      here = record { idle = calls.idle; runs = calls.runs }

      after : Runs e j.id
      after = record {
        idle = behind_active S s j calls.idle;
        runs = behind_running S s j ∙ calls.runs;
      }

      -- the job itself is the one that is found by its id
      abbrev is_itself : Job → Type 0
      is_itself k = same_id k.id j.id ≡ true → job_of j.id e.jobs ≡ Some k

      itself : AllByRecursion is_itself e.jobs
      itself = go (job_of j.id e.jobs) refl
        where
          go : (o : Option Job) → job_of j.id e.jobs ≡ o
              → AllByRecursion (λ k. same_id k.id j.id ≡ true → job_of j.id e.jobs ≡ Some k) e.jobs
          go None is =
              all_weaker (λ k. same_id k.id j.id ≡ false) is_itself e.jobs
              (λ k none own. clash (sym own ∙ none))
              (none_found (λ k. same_id k.id j.id) e.jobs is)
          go (Some l) is =
              let both =
              found (λ k. AllByRecursion (EitherWay AreApart k) e.jobs) (λ k. same_id k.id j.id)
              e.jobs l
              (either_way AreApart e.jobs
              (pairs_weaker (IsSoundPair S) AreApart e.jobs (λ x y h. h.apart) single.pairs))
              is in
              let same : l.id ≡ j.id = same_ids l.id j.id both.1 in
              all_weaker (λ k. same_id k.id l.id ≡ true → k ≡ l) is_itself e.jobs
              (λ k h own. is ∙ ap Some (sym (h (ap (λ n. same_id k.id n) same ∙ own))))
              (only l e.jobs both.0)

      other_keeps : (k : Job) → same_id k.id j.id ≡ false → Here k
          → P e.running (switch_for e k) k
      other_keeps k other h =
          subst (λ o. P o (switch_for e k) k) (sym (behind_running S s j))
          (subst (λ w. P s.running w k)
          (other_switch S s j.id here k other ∙ sym (other_switch S e j.id after k other)) h)

      pub job_keeps : ((k : Job) → same_id k.id j.id ≡ true → job_of j.id e.jobs ≡ Some k
          → P e.running (switch_of e) k) → Each S P e
      job_keeps own =
          all_weaker (λ k. IsOther Here j.id k × is_itself k)
          (λ k. P e.running (switch_for e k) k) e.jobs (λ k h. one k h.0 h.1)
          (all_both (IsOther Here j.id) is_itself e.jobs
          (others_keep (owner_of j) j.context (next_of S j)) itself)
        where
          one : (k : Job) → IsOther Here j.id k → is_itself k → P e.running (switch_for e k) k
          one k other there = go (same_id k.id j.id) refl
            where
              go : (b : Bool) → same_id k.id j.id ≡ b → P e.running (switch_for e k) k
              go true is =
                  subst (λ w. P e.running w k) (sym (own_switch S e j.id after k is))
                  (own k is (there is))
              go false is = other_keeps k is (other is)

  -- ---- an instruction of a routine

  module _ (a : Active) (is : s.active ≡ Some a) where
    all_keep : (who : Owner) (x : Context) (what : Instr)
        → AllByRecursion Here (executed S who (RoutineCalls a) x what s).state.jobs
    all_keep who x (Instr.Plain what) = all
    all_keep who x (Instr.Service call) =
        service_keeps S s good Here (holds_of_ready S P lasts s) all (RoutineCalls a)
        (record { change = λ f ids. all; end = all }) (at_values x call)
    all_keep who x (Instr.Control Control.DisableAllInterrupts) = all
    all_keep who x (Instr.Control control) = all

    pub routine_keeps : Each S P (caller_executes S (RoutineCalls a) s).state
    routine_keeps =
        let who : Owner = Owner.Routine a.routine in
        let what : Instr = instruction_at S who a.context.place in
        let e : State = (caller_executes S (RoutineCalls a) s).state in
        let find = behind_routine s (ap is_some is)
        ∙ sym (find_on S s a is who a.context what) in
        let running = running_stays S s (RoutineCalls a) who a.context what in
        subst (λ o. AllByRecursion (λ k. P o (switch_for e k) k) e.jobs) (sym running)
        (subst (λ f. AllByRecursion (λ k. P s.running (f k) k) e.jobs) find
        (all_keep who a.context what))
