use Rattle.std.proofs.Common.{◌≡◌, Bool, true, List, refl, ◌∙◌, ap, take}
use Rattle.std.specs.Prelude.{slice_set}
use Rattle.osek_base.specs.Tick.{flagged}
use Rattle.services.specs.Objects.{Objects}
use Rattle.kernel.proofs.ActLemmas.{flagged_more}
use Rattle.kernel.proofs.processor.Processor.arrival_phase.Goals as goal

pub loop-index-preserved : goal.loop-index-preserved
loop-index-preserved g c =
    let first : Objects = c.self.inside.core in
    let v = c.loop-index.invariant in
    let i = c.index-arrived-index.result in
    let before : c.loop-index.self-inside.core ≡ record first { pending = flagged (take c.loop-index.index c.args.arrived.now) first.pending } =
    λ j. (v j).core in
    let after =
    c.arrive.ensures
    ∙ ap (λ (o : Objects). record o { pending = slice_set o.pending i true }) before
    ∙ ap (λ (flags : List Bool). record first { pending = flags })
    (flagged_more c.args.arrived.now c.loop-index.index i first.pending _ c.loop-index-test.true c.index-arrived-index.is refl) in
    λ j. record (v j) { core = after j }
