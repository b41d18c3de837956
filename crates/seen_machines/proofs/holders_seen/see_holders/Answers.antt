use Rattle.std.proofs.Common.{◌∙◌, ap}
use Rattle.osek_base.specs.System.{System}
use Rattle.services.specs.Objects.{Objects, kept_in}
use Rattle.kernel.specs.Holders.{holders_in}
use Rattle.kernel.specs.Machine.{system_of}
use Rattle.seen_machines.proofs.holders_seen.see_holders.Goals as goal

pub returns : goal.returns
returns g c =
    let o : Objects = c.core.result.now in
    c.see_holders.ensures ∙ ap (λ (x : Objects). holders_in x.system (kept_in x)) c.objects.ensures
    ∙ ap (λ (S : System). holders_in S (kept_in o)) c.core.ensures.system
    ∙ ap (λ (x : Objects). holders_in (system_of c.args.machine.now) (kept_in x)) c.core.ensures.objects
