-- A service called by the upper part is the upper core's service: one status, one answer, and the state seen from above.
use Rattle.std.proofs.Common.{◌≡◌, ℕ, ◌∙◌, ap}
use Rattle.std.specs.Prelude.{Option, ◌∷◌}
use Rattle.osek_base.specs.Types.{ServiceCall}
use Rattle.osek_base.specs.declared.status.Status.{Status}
use Rattle.osek_base.specs.System.{System}
use Rattle.osek_base.specs.State.{State, interrupts_off}
use Rattle.osek_base.specs.Service.{Caller, answer, with_objects_of, first_refusal, refusals, reply_to, service, unasked_service}
use Rattle.osek_base.specs.Agree.{renumbered_service, upper_core}
use Rattle.partition_check.proofs.UpperState.{up}
use Rattle.partition_check.proofs.Shared.{IsCounterpart, IsLow, IsLayered, IsUpperCaller, IsUpperCall, IsSameReply, up_caller}
use Rattle.partition_check.proofs.RefusalsUp.{refusals_up}
use Rattle.partition_check.proofs.ResultsUp.{IsTold, results_told_up}
use Rattle.partition_check.proofs.EffectsUp.{changed_up}

module _ (S : System) (p : ℕ) (both : IsCounterpart S p) (below : IsLow S p) (s : State) (c : Caller) (call : ServiceCall)
    (layered : IsLayered S p s) (upper : IsUpperCaller S p s c) (named : IsUpperCall S p c call) (told : IsTold c call) where
  -- with one refusal, or none, in both
  reply_up : (o o' : Option Status) → o' ≡ o
      → IsSameReply S p (reply_to S c s call o)
      (reply_to (upper_core S p) (up_caller S p c) (up S p s) (renumbered_service S p call) o')
  reply_up o o' same =
      record {
        status = ap answer same;
        results = ap (λ q. (reply_to (upper_core S p) (up_caller S p c) (up S p s) (renumbered_service S p call) q).results) same
            ∙ results_told_up S p both s c call o upper named told;
        state = ap (λ q. (reply_to (upper_core S p) (up_caller S p c) (up S p s) (renumbered_service S p call) q).state) same
            ∙ ap (with_objects_of (up S p s)) (changed_up S p both below s c call o layered upper named);
      }

  pub service_up : IsSameReply S p (service S c s call)
      (service (upper_core S p) (up_caller S p c) (up S p s) (renumbered_service S p call))
  unfolding service
  service_up =
      reply_up (first_refusal ((interrupts_off s, Status.SysDisabled) ∷ refusals S c s call))
      (first_refusal ((interrupts_off s, Status.SysDisabled) ∷ refusals (upper_core S p) (up_caller S p c) (up S p s) (renumbered_service S p call)))
      (ap (λ rows. first_refusal ((interrupts_off s, Status.SysDisabled) ∷ rows)) (refusals_up S p both s c call layered upper named))

  pub unasked_up : IsSameReply S p (unasked_service S c s call)
      (unasked_service (upper_core S p) (up_caller S p c) (up S p s) (renumbered_service S p call))
  unfolding unasked_service
  unasked_up =
      reply_up (first_refusal (refusals S c s call))
      (first_refusal (refusals (upper_core S p) (up_caller S p c) (up S p s) (renumbered_service S p call)))
      (ap first_refusal (refusals_up S p both s c call layered upper named))
