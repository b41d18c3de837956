use Rattle.std.proofs.Common.{◌≡◌, ◌≤◌, ◌++◌, ◌-◌}
use Rattle.search_keys.specs.Bytes.{each, needed}
use Rattle.kernel.specs.Machine.{picture}
use Rattle.search_needs.specs.Table.{need_of}
use Rattle.search_states.proofs.words.push_each_word.Given as goal

abbrev pub invariant-loop-index : goal.invariant-loop-index
invariant-loop-index g l =
    (l.from ≤ 64) × (l.out.items ≡ l.fn.out.items
    ++ each l.from (λ i. needed ((need_of l.needs).words l.owner i)
    ((picture l.machine).words l.owner i)))

abbrev pub decreases-loop-index : goal.decreases-loop-index
decreases-loop-index g l = 64 - l.from
