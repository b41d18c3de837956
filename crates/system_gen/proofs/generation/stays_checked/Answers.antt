use Rattle.std.proofs.Common.{◌≡◌, true, subst}
use Rattle.oil_reader.specs.Checked.{is_name, is_checked_os, are_checked_modes, are_checked_tasks, are_checked_isrs, are_checked_resources, are_checked_events, are_checked_counters, are_checked_alarms}
use Rattle.std.proofs.lemmas.Bool.{and_from}
use Rattle.system_gen.proofs.generation.stays_checked.Goals as goal

pub returns : goal.returns
returns c =
    and_from _ _ (and_from _ _ (and_from _ _ (and_from _ _ (and_from _ _ (and_from _ _ (and_from _ _ (and_from _ _
    (subst (λ x. is_name x ≡ true) c.cpu.ensures.value c.cpu.ensures.checked)
    (subst (λ x. is_checked_os x ≡ true) c.os.ensures.value c.os.ensures.checked))
    (subst (λ x. are_checked_modes x ≡ true) c.app_modes.ensures.value c.app_modes.ensures.checked))
    (subst (λ x. are_checked_tasks x ≡ true) c.tasks.ensures.value c.tasks.ensures.checked))
    (subst (λ x. are_checked_isrs x ≡ true) c.routines.ensures.value c.routines.ensures.checked))
    (subst (λ x. are_checked_resources x ≡ true) c.resources.ensures.value c.resources.ensures.checked))
    (subst (λ x. are_checked_events x ≡ true) c.events.ensures.value c.events.ensures.checked))
    (subst (λ x. are_checked_counters x ≡ true) c.counters.ensures.value c.counters.ensures.checked))
    (subst (λ x. are_checked_alarms x ≡ true) c.alarms.ensures.value c.alarms.ensures.checked)
