use Rattle.std.proofs.Common.{ℕ, ◌≡◌, ◌++◌, ◌∙◌, List, sym, ap, append_assoc, arith}
use Rattle.std.specs.Prelude.{Some, false}
use Rattle.osek_base.specs.System.{System}
use Rattle.ready_queues.specs.QueueMoves.{changed_at, first, put_oldest, without_first_at_level}
use Rattle.ready_queues.specs.LevelLists.{by_level}
use Rattle.law_kept.specs.Kept.{Kept}
use Rattle.law_kept.specs.Moves.{entered_in, left_in, slot_entered}
use Rattle.services.specs.Objects.{Objects, kept_in}
use Rattle.services.proofs.BoundLemmas.{put_below}
use Rattle.services.proofs.objects.Objects.preempt.Goals as goal

-- a task that left its queue runs
abbrev entering : System → ℕ → Kept → Kept
entering S t k = record k { slots = changed_at k.slots t (slot_entered S t (k.slots t)); running = Some t; gone = false }

pub returns : goal.returns
returns g c =
    let o : Objects = c.args.self.now in
    let S : System = o.system in
    let n : Objects = c.change_places-next.new.self in
    let r = c.change_places-next.ensures in
    let q : ℕ → List ℕ = put_oldest (by_level o.queues) c.args.own c.args.task in
    let next : c.change_places-next.result ≡ first (q c.args.level) =
    r.next ∙ sym (ap first (put_below (by_level o.queues) c.args.own c.args.task c.args.level c.requires.own)) in
    let system : n.system ≡ S = ap (λ (x : Objects). x.system) r.others in
    let few_left = c.record_left.ensures.few in
    let few_entered = c.record_entered.ensures.few in
    record {
      system = c.enter.ensures.system ∙ system;
      kept =
          c.enter.ensures.kept
          ∙ ap (λ (x : Objects). entering x.system c.change_places-next.result (kept_in x)) r.others
          ∙ ap (λ (ts : ℕ → List ℕ). entering S c.change_places-next.result (record (kept_in o) { queues = ts })) r.queues
          ∙ ap (λ t. entering S t (record (kept_in o) { queues = without_first_at_level q c.args.level })) next;
      events =
          c.record_entered.ensures.events
          ∙ ap (λ (x : Objects). c.record_left.new.record_of_tick ++ entered_in x.system c.change_places-next.result) c.self-2.view_is
          ∙ ap (λ v. v ++ entered_in n.system c.change_places-next.result) c.record_left.ensures.events
          ∙ append_assoc c.args.record_of_tick.now (left_in c.self.inside.system.now c.self.inside.running) (entered_in n.system c.change_places-next.result)
          ∙ ap (λ (x : Objects). c.args.record_of_tick.now ++ (left_in x.system x.running ++ entered_in n.system c.change_places-next.result)) c.self.view_is
          ∙ ap (λ T. c.args.record_of_tick.now ++ (left_in S o.running ++ entered_in T c.change_places-next.result)) system
          ∙ ap (λ t. c.args.record_of_tick.now ++ (left_in S o.running ++ entered_in S t)) next;
      few = omega (arith, few_left, few_entered);
    }
