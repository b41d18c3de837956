use Rattle.std.proofs.Common.{◌≡◌, List, ℕ, get_or, Some, slice_get, ap, ◌∙◌, sym, arith}
use Rattle.circular_buffer.specs.Buffer.{Buffer, buffer}
use Rattle.ready_queues.proofs.RingLemmas.{turn, first-turned, turned-all}
use Rattle.ready_queues.proofs.level.put_in_front.Goals as goal
use Rattle.ready_queues.proofs.level.put_in_front.Goals.{in-Some, in_default}

pub loop-moved-preserved : goal.loop-moved-preserved
loop-moved-preserved c =
    let xs = c.args.ring.now.items in
    let i = c.loop-moved._moved in
    elim c.match-pop_front.branch [
      | in-Some w ↦ w.ring-is ∙ turn xs c.args.task c.args.ring.now.capacity i w.in-Some.first c.loop-moved.ring
          c.pop_front.new.self w.push_back-in-Some.new.self (omega arith) c.requires c.loop-moved.invariant
          (sym w.in-Some.is ∙ c.pop_front.ensures.value) c.pop_front.ensures.items w.push_back-in-Some.ensures.items
      | in_default w ↦
          let e : slice_get c.loop-moved.ring.items 0 ≡ Some (get_or xs i 0) =
          ap (λ (b : Buffer ℕ). slice_get b.items 0) c.loop-moved.invariant
          ∙ first-turned i xs c.args.task (omega arith) in
          let h = w.in_default in cc (e, c.pop_front.ensures.value)
    ]

pub returns : goal.returns
returns c =
    let xs = c.args.ring.now.items in
    c.loop-moved.invariant ∙ ap (λ (l : List ℕ). buffer l c.args.ring.now.capacity)
    (turned-all c.loop-moved._moved xs c.args.task (omega arith))
