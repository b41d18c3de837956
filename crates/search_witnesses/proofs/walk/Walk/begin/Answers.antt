use Rattle.std.proofs.Common.{◌∙◌, ap, map, List}
use Rattle.osek_base.specs.declared.arrivals.Arrival.{Arrival}
use Rattle.search_witnesses.proofs.Walking.{begun}
use Rattle.search_witnesses.proofs.walk.Walk.begin.Goals as goal

pub invariant_of-result : goal.invariant_of-result
invariant_of-result c =
    begun c.args.system.now c.args.mode c.args.arrivals.now c.in_ok-routines.routines.items
    c.in_ok-machine.machine c.new.result c.in_ok-machine.ensures c.requires
    (c.in_ok-routines.ensures
    ∙ ap (λ (xs : List Arrival). map (λ (a : Arrival). a.routine) xs) c.list.ensures.value)
    c.list.ensures.kept
