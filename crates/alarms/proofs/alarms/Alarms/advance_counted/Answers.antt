use Rattle.std.proofs.Common.{◌≡◌, ◌∙◌, ap, sym, length}
use Rattle.std.specs.List.{filter}
use Rattle.osek_base.specs.Lists.{below}
use Rattle.alarms.specs.Alarms.{due_of, next_tick}
use Rattle.alarms.specs.Waits.{is_raised}
use Rattle.alarms.proofs.TableOfLemmas.{counted_due, counted_expired}
use Rattle.alarms.proofs.alarms.Alarms.advance_counted.Goals.{then-not-is_none, else-not-is_none}
use Rattle.alarms.proofs.alarms.Alarms.advance_counted.Goals as goal

pub returns-clause-due : goal.returns-clause-due
returns-clause-due c =
    let all : filter (λ a. is_raised a c.advance_by-expired.result.0) (below (length c.args.system.now.alarms)) ≡ due_of c.args.system.now (next_tick c.args.self.now) =
    counted_due c.args.system.now c.self.inside.ahead c.advance_by-expired.result.0 c.self.inside.counted c.args.self.now c.self.view_is c.requires.table c.advance_by-expired.ensures.due in
    elim c.if-not-is_none.branch [
      | then-not-is_none w ↦ w.due-is ∙ (w.list.ensures ∙ (ap (λ n. filter (λ a. is_raised a c.advance_by-expired.result.0) (below n)) w.alarm_count.ensures.value ∙ all))
      | else-not-is_none w ↦ w.due-is ∙ (c.requires.none ∙ (sym (c.is_none.ensures w.if-not-is_none.false (length c.args.system.now.alarms)) ∙ all))
    ]

pub returns-clause-alarms : goal.returns-clause-alarms
returns-clause-alarms c =
    counted_expired c.args.system.now c.self.inside.ahead c.self.inside.counted c.advance_by-expired.new.self c.args.self.now c.self.view_is c.requires.table
    c.advance_by-expired.ensures.alarms
