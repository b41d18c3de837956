use Rattle.std.proofs.Common.{◌≡◌, ◌≤◌, ◌++◌, ◌-◌}
use Rattle.osek_base.specs.declared.limits.TheConstants.{REGISTERS}
use Rattle.osek_base.specs.Instruction.{value}
use Rattle.search_keys.specs.Bytes.{each, needed}
use Rattle.search_needs.specs.Table.{need_of}
use Rattle.search_states.proofs.executing.push_registers.Given as goal

abbrev pub invariant-loop-number : goal.invariant-loop-number
invariant-loop-number l =
    (l.from ≤ REGISTERS) × (l.out.items ≡ l.fn.out.items
    ++ each l.from (λ r. needed ((need_of l.needs).registers l.owner r) (value l.cpu r)))

abbrev pub decreases-loop-number : goal.decreases-loop-number
decreases-loop-number l = REGISTERS - l.from
