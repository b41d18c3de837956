use Rattle.std.proofs.Common.{◌∙◌, ap}
use Rattle.std.specs.Prelude.{nat_lt}
use Rattle.search_needs.specs.Table.{has}
use Rattle.search_needs.proofs.AskedLemmas.{all_asked}
use Rattle.search_needs.proofs.counters.all_counters.Goals as goal

pub returns : goal.returns
returns c =
    all_asked c.args.system.now (has c.below.result) c.counter_count.ensures.proper
    (λ n. c.below.ensures n ∙ ap (nat_lt n) c.counter_count.ensures.value)
