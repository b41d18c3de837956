-- What a service that nobody need call answers whoever executes.
use Rattle.std.proofs.Common.{ℕ, ◌≡◌, refl, ap, ◌∙◌, sym}
use Rattle.std.specs.Prelude.{Option, Some, None}
use Rattle.osek_base.specs.declared.instr.Service.{Service}
use Rattle.osek_base.specs.declared.status.Status.{Status}
use Rattle.osek_base.specs.declared.trace_event.Results.{Results}
use Rattle.osek_base.specs.Types.{ServiceCall}
use Rattle.osek_base.specs.System.{System}
use Rattle.osek_base.specs.Service.{first_refusal}
use Rattle.law_kept.specs.Kept.{Kept}
use Rattle.law_kept.specs.KeptService.{caller_in, refusals_in, results_in, results_told_in, unasked_in}
use Rattle.services.specs.declared.calls.Answer.{Answer}
use Rattle.services.specs.Objects.{Objects, kept_in}
use Rattle.services.specs.Calls.{unasked}
use Rattle.services.specs.Steps.{Acts, Replies}

-- with a status alone
abbrev pub plain : Status → Answer
plain s = record { status = s; results = Results.Nothing }

none_told : (S : System) (o : Kept) (call : ServiceCall) (refusal : Option Status) → results_in S o call ≡ Results.Nothing
    → results_told_in S o call refusal ≡ Results.Nothing
none_told S o call None is = is
none_told S o call (Some refusal) is = refl

tells_nothing : (o : Objects) (call : ServiceCall) → results_in o.system (kept_in o) call ≡ Results.Nothing
    → (unasked o call).results ≡ Results.Nothing
unfolding unasked_in
tells_nothing o call is =
    none_told o.system (kept_in o) call (first_refusal (refusals_in o.system (caller_in (kept_in o)) (kept_in o) call)) is

replied : (call : ServiceCall) (o n : Objects) (s : Status) (a : Answer) → Acts call o n s → a ≡ plain s
    → (unasked o call).results ≡ Results.Nothing → Replies call o n a
replied call o n s a acts is none = record {
  system = acts.system;
  status = ap (λ (x : Answer). x.status) is ∙ acts.status (caller_in (kept_in o));
  results = ap (λ (x : Answer). x.results) is ∙ sym none;
  kept = acts.kept (caller_in (kept_in o));
}

pub activation_replied : (o n : Objects) (t : ℕ) (s : Status) (a : Answer) → Acts (Service.ActivateTask (Some t)) o n s → a ≡ plain s
    → Replies (Service.ActivateTask (Some t)) o n a
activation_replied o n t s a acts is = replied (Service.ActivateTask (Some t)) o n s a acts is (tells_nothing o (Service.ActivateTask (Some t)) refl)

pub setting_replied : (o n : Objects) (t m : ℕ) (s : Status) (a : Answer) → Acts (Service.SetEvent (Some t) m) o n s → a ≡ plain s
    → Replies (Service.SetEvent (Some t) m) o n a
setting_replied o n t m s a acts is = replied (Service.SetEvent (Some t) m) o n s a acts is (tells_nothing o (Service.SetEvent (Some t) m) refl)
