-- What calls do over what is kept is what the definitions say of every state that the objects stand for.
use Rattle.std.proofs.Common.{◌≡◌, ℕ, ◌<◌, false, length, sym, ◌∙◌, ap}
use Rattle.std.specs.Prelude.{Some}
use Rattle.osek_base.specs.declared.instr.Service.{Service}
use Rattle.osek_base.specs.declared.instr.Control.{Control}
use Rattle.osek_base.specs.Types.{ServiceCall}
use Rattle.osek_base.specs.declared.status.Status.{Status}
use Rattle.osek_base.specs.State.{State}
use Rattle.osek_base.specs.Service.{NobodyCalls, service, unasked_service}
use Rattle.osek_base.specs.Tick.{executor}
use Rattle.law_kept.specs.Kept.{kept}
use Rattle.law_kept.specs.KeptService.{ByNobody, KeptReply, caller_in, kept_reply, unasked_in, service_in}
use Rattle.law_kept.specs.KeptTick.{controlled_in}
use Rattle.law_kept.specs.Standing.{MayServe, runner_waits}
use Rattle.law_kept.proofs.Standing.{activate_stands, set_event_stands, service_stands}
use Rattle.law_kept.proofs.Words.{reply_with, unasked_words, service_words}
use Rattle.services.specs.declared.calls.Answer.{Answer}
use Rattle.services.specs.Objects.{Objects, StandsFor, kept_in}
use Rattle.services.specs.Calls.{IsKnown}
use Rattle.services.specs.Steps.{Answers}
use Rattle.services.specs.AsDefined.{ActsAsDefined, ControlsAsDefined, ServesAsDefined}
use Rattle.services.proofs.StandsLemmas.{activates, serves_for, stands_for_activated, stands_for_set, stands_for_served, stands_for_controlled}

module _ (o n : Objects) (system : n.system ≡ o.system) where
  -- what nobody calls is answered as it is over what is kept
  unasked_reply : (s : State) (call : ServiceCall) → StandsFor o s
      → kept_reply o.system (unasked_service o.system NobodyCalls s call) ≡ unasked_in o.system ByNobody (kept o.system s) call
      → kept_reply o.system (unasked_service o.system NobodyCalls s call)
      ≡ reply_with s.words (unasked_in o.system ByNobody (kept_in o) call)
  unasked_reply s call stands law =
      law ∙ ap (λ k. unasked_in o.system ByNobody k call) (sym stands.same)
      ∙ unasked_words o.system s.words ByNobody (kept_in o) call

  pub activated_as_defined : (t : ℕ) (answer : Status) → t < length o.system.tasks
      → answer ≡ (unasked_in o.system ByNobody (kept_in o) (Service.ActivateTask (Some t))).status
      → kept_in n ≡ (unasked_in o.system ByNobody (kept_in o) (Service.ActivateTask (Some t))).state
      → ActsAsDefined o n (Service.ActivateTask (Some t)) answer
  unfolding ActsAsDefined
  activated_as_defined t answer inside told new = λ s stands.
      let law = activate_stands o.system s t stands.standing inside in
      let reply = unasked_reply s (Service.ActivateTask (Some t)) stands law.1 in
      record {
        answered = told ∙ ap (λ (r : KeptReply). r.status) (sym reply);
        stands = stands_for_activated o n system s t stands inside new;
      }

  pub set_as_defined : (t m : ℕ) (answer : Status) → t < length o.system.tasks → runner_waits (kept_in o) ≡ false
      → answer ≡ (unasked_in o.system ByNobody (kept_in o) (Service.SetEvent (Some t) m)).status
      → kept_in n ≡ (unasked_in o.system ByNobody (kept_in o) (Service.SetEvent (Some t) m)).state
      → ActsAsDefined o n (Service.SetEvent (Some t) m) answer
  unfolding ActsAsDefined
  set_as_defined t m answer inside ready told new = λ s stands.
      let law = set_event_stands o.system s t m stands.standing inside (ap runner_waits (sym stands.same) ∙ ready) in
      let reply = unasked_reply s (Service.SetEvent (Some t) m) stands law.1 in
      record {
        answered = told ∙ ap (λ (r : KeptReply). r.status) (sym reply);
        stands = stands_for_set o n system s t m stands inside ready new;
      }

  -- a service of whoever executes
  service_reply : (s : State) (call : ServiceCall) → StandsFor o s → MayServe o.system (kept_in o)
      → IsKnown o.system call
      → kept_reply o.system (service o.system (executor s) s call)
      ≡ reply_with s.words (service_in o.system (caller_in (kept_in o)) (kept_in o) call)
  service_reply s call stands may known =
      let law = service_stands o.system s call stands.standing (serves_for o n system s stands may) (activates o.system call known) in
      law.1 ∙ ap (λ k. service_in o.system (caller_in k) k call) (sym stands.same)
      ∙ service_words o.system s.words (caller_in (kept_in o)) (kept_in o) call

  pub served_as_defined : (call : ServiceCall) (answer : Answer) → IsKnown o.system call → MayServe o.system (kept_in o)
      → Answers call o n answer → ServesAsDefined o n call answer
  unfolding ServesAsDefined
  served_as_defined call answer known may answers = λ s stands.
      let reply = service_reply s call stands may known in
      record {
        answered = answers.status ∙ ap (λ (r : KeptReply). r.status) (sym reply);
        given = answers.results ∙ ap (λ (r : KeptReply). r.results) (sym reply);
        stands = stands_for_served o n system s call stands known may answers.kept;
      }

  pub controlled_as_defined : (control : Control ℕ) → kept_in n ≡ controlled_in control (kept_in o) → ControlsAsDefined o n control
  unfolding ControlsAsDefined
  controlled_as_defined control new = λ s stands. stands_for_controlled o n system s control stands new
