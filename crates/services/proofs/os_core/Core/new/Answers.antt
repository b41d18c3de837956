use Rattle.services.proofs.StandsLemmas.{stands_new, known_to_stand}
use Rattle.services.proofs.os_core.Core.new.Goals as goal

pub invariant_of-result : goal.invariant_of-result
invariant_of-result g c =
    let e = c.in_ok-new.ensures in
    known_to_stand (stands_new c.in_ok-new.field-0 c.args.system.now c.new.ensures.proper e.system e.kept)
