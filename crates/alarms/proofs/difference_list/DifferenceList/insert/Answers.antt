use Rattle.std.proofs.Common.{ℕ, arith, length, ◌≡◌, ap, sym, ◌∙◌}
use Rattle.alarms.specs.Waits.{Wait}
use Rattle.alarms.proofs.WaitLemmas.{length-waits, inserted_at, inserted_span}
use Rattle.alarms.proofs.difference_list.DifferenceList.insert.Goals as goal

pub put_in-requires-clause-room : goal.put_in-requires-clause-room
put_in-requires-clause-room c =
    let same : length c.self.inside.entries.items ≡ length c.args.self.now = sym (length-waits c.self.inside.entries.items) ∙ ap length c.self.view_is in
    omega arith

pub invariant_of-self : goal.invariant_of-self
invariant_of-self c = rw c.put_in.ensures (inserted_span c.self.inside.entries.items c.place_for-place.result.0 4294967296
    (record { alarm = c.args.alarm; difference = c.place_for-place.result.1; cycle = c.args.cycle })
    (omega arith) (omega arith) (omega arith) c.place_for-place.ensures.stop)

pub returns : goal.returns
returns c =
    let t : Wait = record { alarm = c.args.alarm; left = c.args.wait; cycle = c.args.cycle } in
    let wait : ℕ → Wait = λ n. record { alarm = c.args.alarm; left = n; cycle = c.args.cycle } in
    let is = ap wait c.place_for-place.ensures.left in
    rw (c.put_in.ensures, ← c.self.view_is) (inserted_at c.self.inside.entries.items c.place_for-place.result.0 t
    (record { alarm = c.args.alarm; difference = c.place_for-place.result.1; cycle = c.args.cycle })
    (omega arith) is c.place_for-place.ensures.sooner c.place_for-place.ensures.stop)
