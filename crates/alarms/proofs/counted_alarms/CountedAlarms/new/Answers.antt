use Rattle.std.proofs.Common.{◌≡◌, length, refl, ap, ◌∙◌}
use Rattle.osek_base.specs.System.{System}
use Rattle.alarms.proofs.IdleLemmas.{new_whole, new_table}
use Rattle.alarms.proofs.AlarmLemmas.{length-off}
use Rattle.alarms.proofs.counted_alarms.CountedAlarms.new.Goals as goal

pub invariant_of-result : goal.invariant_of-result
invariant_of-result c =
    let counters : c.deref.result.now ≡ c.args.system.now.counters = c.deref.ensures.value ∙ ap (λ (S : System). S.counters) (c.parts.view_is ∙ c.parts-parts.ensures.value) in
    let alarms : c.deref-2.result.now ≡ c.args.system.now.alarms = c.deref-2.ensures.value ∙ ap (λ (S : System). S.alarms) (c.parts.view_is ∙ c.parts-parts.ensures.value) in
    rw (c.idle_counters.ensures, c.counter_numbers.ensures, counters, alarms) (new_whole c.args.system.now c.parts-parts.ensures.proper)

pub returns-clause-value : goal.returns-clause-value
returns-clause-value c =
    let counters : c.deref.result.now ≡ c.args.system.now.counters = c.deref.ensures.value ∙ ap (λ (S : System). S.counters) (c.parts.view_is ∙ c.parts-parts.ensures.value) in
    let alarms : c.deref-2.result.now ≡ c.args.system.now.alarms = c.deref-2.ensures.value ∙ ap (λ (S : System). S.alarms) (c.parts.view_is ∙ c.parts-parts.ensures.value) in
    rw (c.idle_counters.ensures, c.counter_numbers.ensures, counters, alarms) (new_table c.args.system.now)

pub returns-clause-table : goal.returns-clause-table
returns-clause-table c =
    let counters : c.deref.result.now ≡ c.args.system.now.counters = c.deref.ensures.value ∙ ap (λ (S : System). S.counters) (c.parts.view_is ∙ c.parts-parts.ensures.value) in
    let alarms : c.deref-2.result.now ≡ c.args.system.now.alarms = c.deref-2.ensures.value ∙ ap (λ (S : System). S.alarms) (c.parts.view_is ∙ c.parts-parts.ensures.value) in
    rw (c.idle_counters.ensures, c.counter_numbers.ensures, counters, alarms, new_table c.args.system.now)
    (record { expiries = length-off (length c.args.system.now.alarms); counters = refl })
