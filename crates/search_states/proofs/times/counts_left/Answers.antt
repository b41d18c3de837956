use Rattle.services.specs.Objects.{kept_in}
use Rattle.std.proofs.Common.{◌∙◌}
use Rattle.search_states.proofs.TimeLemmas.{left_later}
use Rattle.search_states.proofs.times.counts_left.Goals as goal

pub returns : goal.returns
returns c =
    c.less_by.ensures
    ∙ left_later c.args.system.now c.args.objects.now.system (kept_in c.args.objects.now)
    c.args.tick
    c.ticks_per_base-base.result c.args.alarm c.counts_passed.result c.counts_left.result
    c.requires.system c.requires.clock c.ticks_per_base-base.ensures.some
    c.ticks_per_base-base.ensures.value
    c.counts_left.ensures c.counts_passed.ensures
