-- The task on which an instruction acts exists; the stamps with which a run begins.
use Rattle.std.proofs.Common.{◌≡◌, ℕ, ◌<◌, ◌≤◌, length, replicate, sym, ap, subst}
use Rattle.std.specs.Prelude.{Option, Some, None, IfSome}
use Rattle.osek_base.specs.declared.ids.Owner.{Owner}
use Rattle.osek_base.specs.declared.instr.Instr.{Instr}
use Rattle.osek_base.specs.declared.instr.Service.{Service}
use Rattle.osek_base.specs.declared.task.Action.{Action}
use Rattle.osek_base.specs.Proper.{IsProper}
use Rattle.osek_base.specs.Types.{ServiceCall}
use Rattle.osek_base.specs.System.{System, alarm, instruction_at}
use Rattle.osek_base.specs.Instruction.{Context}
use Rattle.osek_base.specs.Tick.{at_values}
use Rattle.osek_base.proofs.PlaceLemmas.{KnownPlace}
use Rattle.law_kept.specs.Kept.{Kept}
use Rattle.services.proofs.BoundLemmas.{activation_few}
use Rattle.services.specs.Calls.{IsKnown, IsTaskOperand}
use Rattle.law_blockers.specs.Restamping.{StampLists, acting_task, named_by, stamps_at}
use Rattle.law_blockers.proofs.KnownTasks.{acts_task}
use Rattle.kernel.specs.Answered.{Activates}
use Rattle.kernel.specs.Stamping.{IsActedOn}
use Rattle.kernel.proofs.PlaceLemmas.{service_known}

-- ---- the task on which an instruction acts

operand_known : (S : System) (o : Option ℕ) → IsTaskOperand S o → IfSome o (λ t. t < length S.tasks)
operand_known S None h = tt
operand_known S (Some t) h = h

call_known : (S : System) (x : Context) (call : ServiceCall) → IsKnown S (at_values x call)
    → IfSome (named_by (Instr.Service call)) (λ t. t < length S.tasks)
call_known S x (Service.ActivateTask t) h = operand_known S t h
call_known S x (Service.ChainTask t) h = operand_known S t h
call_known S x (Service.SetEvent t m) h = operand_known S t h
call_known S x _ h = tt

pub named_known : (S : System) (owner : Owner) (x : Context) → KnownPlace S owner x.place → (i : Instr)
    → instruction_at S owner x.place ≡ i → IfSome (named_by i) (λ t. t < length S.tasks)
named_known S owner x k (Instr.Plain p) is = tt
named_known S owner x k (Instr.Service call) is = call_known S x call (service_known S owner x k call is)
named_known S owner x k (Instr.Control control) is = tt

-- ---- the task on which an alarm acts

pub acted_on_is : (S T : System) (a : ℕ) (action : Action) → IsProper S → T ≡ S → a < length T.alarms → (alarm S a).action ≡ action
    → IsActedOn T a (acting_task action)
acted_on_is S T a action proper here inside is =
    subst (λ (U : System). IsActedOn U a (acting_task action)) (sym here)
    (record {
      value = ap acting_task (sym is);
      known = acts_task S a action proper (subst (λ (U : System). a < length U.alarms) here inside) is;
    })

pub activates_is : (S T : System) (a t : ℕ) → IsProper S → T ≡ S → a < length T.alarms → (alarm S a).action ≡ Action.ActivateTask t → Activates T a t
activates_is S T a t proper here inside is =
    let known = acts_task S a (Action.ActivateTask t) proper (subst (λ (U : System). a < length U.alarms) here inside) is in
    subst (λ (U : System). Activates U a t) (sym here) (record { value = is; known = known; few = activation_few S proper t known })

-- ---- boot

-- the tasks below a number have their stamps, and the others none
pub record AreBegunTo (i : ℕ) (o : Kept) (xs : StampLists) : Type 0 where
  pub each : (t : ℕ) → t < i → stamps_at xs t ≡ replicate (o.slots t).count (Some 0)
  pub none : (t : ℕ) → i ≤ t → length (stamps_at xs t) ≡ 0
