use Rattle.std.proofs.Common.{◌≡◌, length, map, take}
use Rattle.osek_base.specs.Lists.{below}
use Rattle.search_labels.specs.Parts.{debt_behind}
use Rattle.search_labels.proofs.debts.put_next_debts.Given as goal

-- the debts of those gone over
abbrev pub invariant-loop-number : goal.invariant-loop-number
invariant-loop-number l =
    (length l.next.items ≡ length l.debts) × (
    take l.number l.next.items
    ≡ map (debt_behind l.rules l.set l.debts) (below l.number))
