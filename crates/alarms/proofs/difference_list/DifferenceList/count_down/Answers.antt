use Rattle.std.proofs.Common.{true, arith, length, ◌≡◌, ◌<◌, ◌-◌, ap, ◌∙◌, refl, slice_index_or}
use Rattle.alarms.specs.Waits.{waits, are_beyond, not_waiting}
use Rattle.alarms.proofs.WaitLemmas.{last_beyond, counted, counted_span}
use Rattle.alarms.proofs.difference_list.DifferenceList.count_down.Goals as goal

pub cut_last-requires : goal.cut_last-requires
cut_last-requires c = λ more.
    let beyond : are_beyond (c.args.counts - 1) (waits c.self.inside.entries.items) ≡ true = ap (are_beyond (c.args.counts - 1)) c.self.view_is ∙ c.requires.beyond in
    let low = last_beyond (c.args.counts - 1) c.self.inside.entries.items (length c.self.inside.entries.items) refl more beyond in
    omega arith

pub invariant_of-self : goal.invariant_of-self
invariant_of-self c =
    let least = counted_span c.args.counts c.self.inside.entries.items (length c.self.inside.entries.items) refl in
    rw c.cut_last.ensures.items (omega arith)

pub returns-clause-waits : goal.returns-clause-waits
returns-clause-waits c =
    let beyond : are_beyond (c.args.counts - 1) (waits c.self.inside.entries.items) ≡ true = ap (are_beyond (c.args.counts - 1)) c.self.view_is ∙ c.requires.beyond in
    let low : 0 < length c.self.inside.entries.items → c.args.counts - 1 < (slice_index_or c.self.inside.entries.items (length c.self.inside.entries.items - 1) not_waiting).difference =
    λ more. last_beyond (c.args.counts - 1) c.self.inside.entries.items (length c.self.inside.entries.items) refl more beyond in
    rw (c.cut_last.ensures.items, ← c.self.view_is)
    (counted c.args.counts c.self.inside.entries.items (length c.self.inside.entries.items) refl (λ more. omega (arith, low more)))
