use Rattle.std.proofs.Common.{rules, ◌≡◌, ◌∙◌, None, false, ap, length, replicate}
use Rattle.std.proofs.lemmas.List.{length-replicate}
use Rattle.osek_base.specs.State.{no_shared}
use Rattle.law_kept.specs.Kept.{unbegun}
use Rattle.services.specs.Objects.{by_task, no_words}
use Rattle.services.proofs.BoundLemmas.{bounds_of}
use Rattle.services.proofs.HeldLemmas.{no_slots}
use Rattle.services.proofs.objects.Objects.new.Goals as goal

pub invariant_of-result : goal.invariant_of-result
invariant_of-result g c =
    let made : c.in_ok-slots_of.field-0.items ≡ replicate c.task_count-tasks.result (unbegun 0) = c.in_ok-slots_of.ensures in
    let flags : c.in_ok-new.field-0 ≡ replicate (length c.args.system.now.routines) false = search rules in
    let events : c.in_ok-vec.field-0.items ≡ replicate (length c.args.system.now.tasks) 0 = search rules in
    let windows : c.in_ok-windows.field-0.items ≡ replicate c.resource_count.result no_shared = c.in_ok-windows.ensures in
    record {
      bounds = bounds_of c.args.system.now c.task_count-tasks.ensures.proper;
      slots = ap length made ∙ length-replicate c.task_count-tasks.result (unbegun 0) ∙ c.task_count-tasks.ensures.value;
      masks = ap length events ∙ length-replicate (length c.args.system.now.tasks) 0;
      pending = ap length flags ∙ length-replicate (length c.args.system.now.routines) false;
      shared = ap length windows ∙ length-replicate c.resource_count.result no_shared ∙ c.resource_count.ensures.value;
      alarms = search rules;
      room = c.in_ok-with_room.ensures.room ∙ c.room_for.ensures;
      running = tt;
    }

pub returns-clause-kept : goal.returns-clause-kept
returns-clause-kept g c =
    let S = c.args.system.now in
    let made : c.in_ok-slots_of.field-0.items ≡ replicate c.task_count-tasks.result (unbegun 0) = c.in_ok-slots_of.ensures in
    let none = ap by_task made ∙ no_slots c.task_count-tasks.result in
    let flags : c.in_ok-new.field-0 ≡ replicate (length S.routines) false = search rules in
    let events : c.in_ok-vec.field-0.items ≡ replicate (length S.tasks) 0 = search rules in
    let windows : c.in_ok-windows.field-0.items ≡ replicate (length S.resources) no_shared =
    c.in_ok-windows.ensures ∙ ap (λ n. replicate n no_shared) c.resource_count.ensures.value in
    let off : c.new-2.result.expiries ≡ replicate (length S.alarms) None = search rules in
    let start : c.new-2.result.tick ≡ 0 = search rules in
    λ i. record {
      queues = c.in_ok-with_room.ensures.empty i;
      slots = none i;
      running = None;
      gone = false;
      active = None;
      pending = flags i;
      disabled = false;
      suspended_all = 0;
      suspended_os = 0;
      alarms = off i;
      words = no_words;
      masks = events i;
      shared = windows i;
      tick = start i;
      over = false;
    }
