use Rattle.std.proofs.Common.{sym, ◌∙◌}
use Rattle.osek_base.specs.Separable.{IsOwner}
use Rattle.partition_check.specs.Partition.{Told}
use Rattle.partition_check.proofs.Firsts.{joined, of_either}
use Rattle.partition_check.proofs.Rules.{rules_in_turn}
use Rattle.partition_check.proofs.check.first_denial.Goals as goal

pub returns-clause-first : goal.returns-clause-first
returns-clause-first c =
    joined _ _ _ _ _ c.or-7.ensures
    (joined _ _ _ _ _ c.or-6.ensures
    (joined _ _ _ _ _ c.or-5.ensures
    (joined _ _ _ _ _ c.or-4.ensures
    (joined _ _ _ _ _ c.or-3.ensures
    (joined _ _ _ _ _ c.or-2.ensures
    (joined _ _ _ _ _ c.or.ensures c.first_not_full.ensures.first c.first_listing.ensures.first)
    c.first_in_tasks.ensures.first) c.first_in_tasks-2.ensures.first) c.first_in_tasks-3.ensures.first)
    c.first_in_tasks-4.ensures.first) c.first_in_routines.ensures.first) c.first_in_routines-2.ensures.first
    ∙ sym (rules_in_turn c.args.system.now c.args.p)

pub returns-clause-subject : goal.returns-clause-subject
returns-clause-subject c =
    let known = λ (d : Told). IsOwner c.args.system.now d.subject in
    of_either known _ _ _ c.or-7.ensures
    (of_either known _ _ _ c.or-6.ensures
    (of_either known _ _ _ c.or-5.ensures
    (of_either known _ _ _ c.or-4.ensures
    (of_either known _ _ _ c.or-3.ensures
    (of_either known _ _ _ c.or-2.ensures
    (of_either known _ _ _ c.or.ensures c.first_not_full.ensures.subject c.first_listing.ensures.subject)
    c.first_in_tasks.ensures.subject) c.first_in_tasks-2.ensures.subject) c.first_in_tasks-3.ensures.subject)
    c.first_in_tasks-4.ensures.subject) c.first_in_routines.ensures.subject) c.first_in_routines-2.ensures.subject
