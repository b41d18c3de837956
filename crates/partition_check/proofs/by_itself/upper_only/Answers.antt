use Rattle.std.proofs.Common.{sym, subst, ap, ◌∙◌}
use Rattle.osek_base.specs.System.{System}
use Rattle.osek_base.specs.Agree.{Agree, HasUpperTasks, upper_part}
use Rattle.osek_base.specs.Laws.{HaveOneView}
use Rattle.osek_base.specs.Proper.{IsProper}
use Rattle.osek_base.specs.Separable.{Separable}
use Rattle.partition_check.proofs.PartProper.{part_is_proper}
use Rattle.partition_check.proofs.PartAgrees.{has_upper_tasks, part_agrees, part_separable, its_upper_part}
use Rattle.partition_check.proofs.Whole.{whole_at_zero}
use Rattle.partition_check.specs.Above.{Above}
use Rattle.partition_check.proofs.by_itself.upper_only.Goals as goal

abbrev part_above : Above → System
part_above a = upper_part a.system a.p

pub returns-clause-tasks : goal.returns-clause-tasks
returns-clause-tasks c =
    subst (λ (T : System). HasUpperTasks c.args.system.now T c.args.p) (sym (c.new-2.ensures ∙ c.in_ok-parts.ensures ∙ ap part_above c.new.ensures))
    (has_upper_tasks c.args.system.now c.args.p c.shows_proper.ensures)

pub returns-clause-separable : goal.returns-clause-separable
returns-clause-separable c =
    subst (λ (T : System). Separable T c.args.p) (sym (c.new-2.ensures ∙ c.in_ok-parts.ensures ∙ ap part_above c.new.ensures))
    (part_separable c.args.system.now c.args.p c.shows_proper.ensures c.requires)

pub returns-clause-agrees : goal.returns-clause-agrees
returns-clause-agrees c =
    subst (λ (T : System). Agree c.args.system.now T c.args.p) (sym (c.new-2.ensures ∙ c.in_ok-parts.ensures ∙ ap part_above c.new.ensures))
    (part_agrees c.args.system.now c.args.p c.shows_proper.ensures c.requires)

pub returns-clause-shows : goal.returns-clause-shows
returns-clause-shows c =
    subst (λ (T : System). HaveOneView c.args.system.now T c.args.p) (sym (c.new-2.ensures ∙ c.in_ok-parts.ensures ∙ ap part_above c.new.ensures))
    (its_upper_part c.args.system.now c.args.p c.shows_proper.ensures c.requires)

pub returns-clause-whole : goal.returns-clause-whole
returns-clause-whole c at_zero =
    c.new-2.ensures ∙ c.in_ok-parts.ensures ∙ ap part_above c.new.ensures ∙ ap (upper_part c.args.system.now) at_zero
    ∙ whole_at_zero c.args.system.now c.shows_proper.ensures

pub new-requires-2 : goal.new-requires-2
new-requires-2 c =
    let proper = part_is_proper c.args.system.now c.args.p c.shows_proper.ensures c.requires in
    subst IsProper (sym (c.in_ok-parts.ensures ∙ ap part_above c.new.ensures)) proper
