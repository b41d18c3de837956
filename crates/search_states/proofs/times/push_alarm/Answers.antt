use Rattle.services.specs.Objects.{kept_in}
use Rattle.search_states.specs.Parts.{at_tick}
use Rattle.search_states.proofs.TimeLemmas.{alarm_bytes}
use Rattle.search_states.proofs.times.push_alarm.Goals as goal

pub returns : goal.returns
returns c =
    let same = alarm_bytes c.args.system.now (at_tick c.args.tick (kept_in c.args.objects.now))
    c.args.alarm
    c.counts_left-left.result c.cycle.result c.counts_left-left.ensures c.cycle.ensures in
    rw same at c.push_left.ensures
