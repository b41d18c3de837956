-- What passes of each answer that there may be passes of the one that is; what a call starts and
-- sets.
use Rattle.std.proofs.Common.{◌≡◌, Bool, true, false, cond, List, [], ◌∷◌, refl, sym, ◌∙◌, ap}
use Rattle.std.specs.Prelude.{Option, Some, None}
use Rattle.std.specs.List.{list_all}
use Rattle.std.proofs.lemmas.Bool.{and_parts}
use Rattle.osek_base.specs.declared.instr.Service.{Service}
use Rattle.osek_base.specs.declared.status.Status.{Status}
use Rattle.osek_base.specs.Instruction.{Context}
use Rattle.osek_base.specs.Service.{first_refusal}
use Rattle.osek_base.specs.Tick.{at_values}
use Rattle.osek_base.specs.Types.{ServiceCall}
use Rattle.law_costs.specs.Left.{Weights}
use Rattle.law_costs.specs.Paying.{start_of}
use Rattle.law_costs.specs.Routines.{set_of, set_where, started_where}
use Rattle.law_nodes.specs.Services.{first_refusals}
use Rattle.law_nodes.proofs.Refusing.{AreTold}

-- what passes of all that may be the first refusal passes of the one that is
module _ (passes : Option Status → Bool) where
  pub all_first : (ts : List (Option Bool × Status)) (rs : List (Bool × Status)) → AreTold ts rs
      → list_all passes (first_refusals ts) ≡ true → passes (first_refusal rs) ≡ true
  all_first [] [] told all = (and_parts (passes None) true all).0
  all_first [] (r ∷ rs) told all = absurd told
  all_first (t ∷ ts) [] told all = absurd told
  all_first ((None, e) ∷ ts) ((b, f) ∷ rs) told all =
      let both = and_parts (passes (Some e)) (list_all passes (first_refusals ts)) all in
      go b (sym (ap (λ s. passes (Some s)) told.1) ∙ both.0)
      (λ passed. all_first ts rs (told.2 passed) both.1)
    where
      go : (b : Bool) → passes (Some f) ≡ true
          → (b ≡ false → passes (first_refusal rs) ≡ true)
          → passes (cond b (Some f) (first_refusal rs)) ≡ true
      go true first rest = first
      go false first rest = rest refl
  all_first ((Some true, e) ∷ ts) ((b, f) ∷ rs) told all =
      sym (ap (λ c. passes (cond c (Some f) (first_refusal rs))) told.0)
      ∙ sym (ap (λ s. passes (Some s)) told.1)
      ∙ (and_parts (passes (Some e)) true all).0
  all_first ((Some false, e) ∷ ts) ((b, f) ∷ rs) told all =
      sym (ap (λ c. passes (cond c (Some f) (first_refusal rs))) told.0)
      ∙ all_first ts rs (told.2 (sym told.0)) all

-- ---- what a call starts and sets goes by no register

start_same : (c : Weights) (x : Context) (call : ServiceCall)
    → start_of c (at_values x call) ≡ start_of c call
start_same c x (Service.ActivateTask o) = refl
start_same c x Service.TerminateTask = refl
start_same c x (Service.ChainTask o) = refl
start_same c x Service.Schedule = refl
start_same c x Service.GetTaskId = refl
start_same c x (Service.GetTaskState o) = refl
start_same c x (Service.GetResource o) = refl
start_same c x (Service.ReleaseResource o) = refl
start_same c x (Service.LoadShared o i) = refl
start_same c x (Service.StoreShared o i v) = refl
start_same c x (Service.SetEvent o m) = refl
start_same c x (Service.ClearEvent m) = refl
start_same c x (Service.GetEvent o) = refl
start_same c x (Service.WaitEvent m) = refl
start_same c x (Service.SetRelAlarm o increment cycle) = refl
start_same c x (Service.SetAbsAlarm o start cycle) = refl
start_same c x (Service.CancelAlarm o) = refl
start_same c x (Service.GetAlarm o) = refl
start_same c x (Service.GetAlarmBase o) = refl

pub started_same : (c : Weights) (x : Context) (call : ServiceCall) (status : Status)
    → started_where c status (at_values x call) ≡ started_where c status call
started_same c x call Status.Ok = start_same c x call
started_same c x call Status.Access = refl
started_same c x call Status.CallLevel = refl
started_same c x call Status.Id = refl
started_same c x call Status.Limit = refl
started_same c x call Status.NoFunc = refl
started_same c x call Status.Resource = refl
started_same c x call Status.State = refl
started_same c x call Status.Value = refl
started_same c x call Status.SysDisabled = refl

which_set : (c : Weights) (x : Context) (call : ServiceCall)
    → set_of c (at_values x call) ≡ set_of c call
which_set c x (Service.SetRelAlarm None increment cycle) = refl
which_set c x (Service.SetRelAlarm (Some a) increment cycle) = refl
which_set c x (Service.SetAbsAlarm None start cycle) = refl
which_set c x (Service.SetAbsAlarm (Some a) start cycle) = refl
which_set c x _ = refl

pub set_same : (c : Weights) (x : Context) (call : ServiceCall) (status : Status)
    → set_where c status (at_values x call) ≡ set_where c status call
set_same c x call Status.Ok = which_set c x call
set_same c x call Status.Access = refl
set_same c x call Status.CallLevel = refl
set_same c x call Status.Id = refl
set_same c x call Status.Limit = refl
set_same c x call Status.NoFunc = refl
set_same c x call Status.Resource = refl
set_same c x call Status.State = refl
set_same c x call Status.Value = refl
set_same c x call Status.SysDisabled = refl
