use Rattle.std.proofs.Common.{◌≡◌, ◌+◌, ◌-◌, ◌||◌, sym, ap, ◌∙◌, subst, arith}
use Rattle.std.proofs.lemmas.Bool.{false≢true}
use Rattle.std.specs.List.{list_any}
use Rattle.osek_base.specs.Alarm.{is_due_at}
use Rattle.alarms.specs.Alarms.{AlarmTable, AreQuietFor, is_due_in, later}
use Rattle.alarms.specs.Waits.{is_raised}
use Rattle.alarms.specs.Counters.{count_of, expiry_in}
use Rattle.alarms.proofs.AdvanceLemmas.{advanced_table, advanced_whole, due_table}
use Rattle.alarms.proofs.PlaceLemmas.{known_there}
use Rattle.alarms.proofs.QuietLemmas.{all_quiet, counters_quiet, quiet_table}
use Rattle.alarms.proofs.counted_alarms.CountedAlarms.advance_by.Goals as goal

pub advance_each-quiet-requires-clause-quiet : goal.advance_each-quiet-requires-clause-quiet
advance_each-quiet-requires-clause-quiet c =
    counters_quiet c.self.inside.tick (c.args.ticks - 1) c.self.inside.counters.items c.self.inside.numbers.items c.self.invariant
    (subst (AreQuietFor (c.args.ticks - 1)) (sym c.self.view_is) c.requires.quiet)

pub returns-clause-due : goal.returns-clause-due
returns-clause-due c = λ a inside.
    let raised : is_raised a c.advance_each-quiet.new.due ≡ list_any (λ k. is_due_at (count_of (c.self.inside.tick + c.args.ticks) k) (expiry_in c.self.inside.tick k a)) c.self.inside.counters.items =
    c.advance_each-quiet.ensures.due a ∙ ap (λ p. p || list_any (λ k. is_due_at (count_of (c.self.inside.tick + c.args.ticks) k) (expiry_in c.self.inside.tick k a)) c.self.inside.counters.items) (c.none-due.ensures a) in
    let low = known_there c.self.inside.tick c.self.inside.counters.items c.self.inside.numbers.items c.args.self.now a c.self.view_is inside in
    subst (λ (t : AlarmTable). is_raised a c.advance_each-quiet.new.due ≡ is_due_in (later c.args.ticks t) a) c.self.view_is
    (due_table c.self.inside.tick c.args.ticks c.self.inside.counters.items c.advance_each-quiet.new.counters.items c.self.inside.numbers.items c.self.invariant c.advance_each-quiet.ensures.counters
    c.advance_each-quiet.new.due a low raised)

pub returns-clause-alarms : goal.returns-clause-alarms
returns-clause-alarms c =
    rw (← c.self.view_is)
    (advanced_table c.self.inside.tick c.args.ticks c.self.inside.counters.items c.advance_each-quiet.new.counters.items c.self.inside.numbers.items c.self.invariant c.advance_each-quiet.ensures.counters)

pub returns-clause-quiet : goal.returns-clause-quiet
returns-clause-quiet c =
    let same : c.self.inside.tick ≡ c.args.self.now.tick = ap (λ (t : AlarmTable). t.tick) c.self.view_is in
    let whole = advanced_whole c.self.inside.tick c.args.ticks c.self.inside.counters.items c.advance_each-quiet.new.counters.items c.self.inside.numbers.items c.self.invariant c.advance_each-quiet.ensures.counters (omega (arith, same, c.requires.last)) in
    quiet_table (c.self.inside.tick + c.args.ticks) c.advance_each-quiet.result c.advance_each-quiet.new.counters.items c.self.inside.numbers.items whole c.advance_each-quiet.ensures.quiet

pub returns-clause-last : goal.returns-clause-last
returns-clause-last c = λ some quiet.
    let same : c.self.inside.tick ≡ c.args.self.now.tick = ap (λ (t : AlarmTable). t.tick) c.self.view_is in
    let whole = advanced_whole c.self.inside.tick c.args.ticks c.self.inside.counters.items c.advance_each-quiet.new.counters.items c.self.inside.numbers.items c.self.invariant c.advance_each-quiet.ensures.counters (omega (arith, same, c.requires.last)) in
    let all = all_quiet (c.self.inside.tick + c.args.ticks) (c.advance_each-quiet.result + 1) c.advance_each-quiet.new.counters.items c.self.inside.numbers.items whole quiet in
    false≢true (sym (c.advance_each-quiet.ensures.last (omega (arith, same, some))) ∙ all)
