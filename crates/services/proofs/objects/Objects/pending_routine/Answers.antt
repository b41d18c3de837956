use Rattle.std.proofs.Common.{◌∙◌, ap}
use Rattle.osek_base.specs.Tick.{routine_choice}
use Rattle.law_kept.specs.KeptService.{bare}
use Rattle.services.specs.Objects.{Objects, kept_in}
use Rattle.services.proofs.objects.Objects.pending_routine.Goals as goal

pub returns-clause-choice : goal.returns-clause-choice
returns-clause-choice g c =
    c.foremost.ensures.choice ∙ ap (λ (k : Objects). routine_choice k.system (bare (kept_in k))) c.self.view_is
