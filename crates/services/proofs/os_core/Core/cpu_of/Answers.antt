use Rattle.std.proofs.Common.{sym, subst}
use Rattle.services.specs.Objects.{Objects, kept_in}
use Rattle.services.specs.Calls.{IsExecuting}
use Rattle.services.proofs.CallerLemmas.{there}
use Rattle.services.proofs.os_core.Core.cpu_of.Goals as goal

pub cpu_of-requires : goal.cpu_of-requires
cpu_of-requires g c = record {
  who =
      there c.self.inside.objects c.args.owner
      (subst (λ (k : Objects). IsExecuting (kept_in k) c.args.owner) (sym c.self.view_is) c.requires);
}
