-- OSEK/VDX OS: specification of operating system services. Services that do what the definitions say, from every state that
-- the objects stand for.
use Rattle.std.specs.Prelude.{ℕ, ◌≡◌}
use Rattle.osek_base.specs.Types.{ServiceCall}
use Rattle.osek_base.specs.declared.instr.Control.{Control}
use Rattle.osek_base.specs.declared.status.Status.{Status}
use Rattle.osek_base.specs.State.{State}
use Rattle.osek_base.specs.Service.{NobodyCalls, service, unasked_service, controlled}
use Rattle.osek_base.specs.Tick.{executor}
use Rattle.law_kept.specs.KeptService.{ByNobody, unasked_in}
use Rattle.law_kept.specs.KeptTick.{controlled_in}
use Rattle.services.specs.declared.calls.Answer.{Answer}
use Rattle.services.specs.Calls.{IsSameCaller, served_in}
use Rattle.services.specs.Objects.{Objects, StandsFor, kept_in}

-- ---- a service of whoever executes

-- in that state, it is answered so, and the objects stand for the state after it
pub record ServesFrom (s : State) (o n : Objects) (call : ServiceCall) (answer : Answer) : Type 0 where
  pub answered : answer.status ≡ (service o.system (executor s) s call).status
  pub given : answer.results ≡ (service o.system (executor s) s call).results
  pub stands : StandsFor n (service o.system (executor s) s call).state

unfoldable pub ServesAsDefined : Objects → Objects → ServiceCall → Answer → Type 0
ServesAsDefined o n call answer = (s : State) → StandsFor o s → ServesFrom s o n call answer

-- it is answered as defined, over what is kept and in every state that the objects stand for, and its caller stays
pub record IsServed (call : ServiceCall) (old new : Objects) (answer : Answer) : Type 0 where
  pub system : new.system ≡ old.system
  pub caller : IsSameCaller old new
  pub status : answer.status ≡ (served_in old.system (kept_in old) call).status
  pub results : answer.results ≡ (served_in old.system (kept_in old) call).results
  pub kept : kept_in new ≡ (served_in old.system (kept_in old) call).state
  pub defined : ServesAsDefined old new call answer

-- ---- a service without a status

unfoldable pub ControlsAsDefined : Objects → Objects → Control ℕ → Type 0
ControlsAsDefined o n control = (s : State) → StandsFor o s → StandsFor n (controlled control s)

-- it does as defined, over what is kept and in every state that the objects stand for, and its caller stays
pub record IsControlled (control : Control ℕ) (old new : Objects) : Type 0 where
  pub system : new.system ≡ old.system
  pub caller : IsSameCaller old new
  pub kept : kept_in new ≡ controlled_in control (kept_in old)
  pub defined : ControlsAsDefined old new control

-- ---- a service that nobody calls, as by an alarm or at boot

-- in that state, it is answered so, and the objects stand for the state after it
pub record ActsFrom (s : State) (o n : Objects) (call : ServiceCall) (status : Status) : Type 0 where
  pub answered : status ≡ (unasked_service o.system NobodyCalls s call).status
  pub stands : StandsFor n (unasked_service o.system NobodyCalls s call).state

unfoldable pub ActsAsDefined : Objects → Objects → ServiceCall → Status → Type 0
ActsAsDefined o n call status = (s : State) → StandsFor o s → ActsFrom s o n call status

-- it is answered as defined, over what is kept and in every state that the objects stand for
pub record HasActed (call : ServiceCall) (old new : Objects) (answered : Status) : Type 0 where
  pub system : new.system ≡ old.system
  pub status : answered ≡ (unasked_in old.system ByNobody (kept_in old) call).status
  pub kept : kept_in new ≡ (unasked_in old.system ByNobody (kept_in old) call).state
  pub defined : ActsAsDefined old new call answered
