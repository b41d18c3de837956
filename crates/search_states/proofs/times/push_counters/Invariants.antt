use Rattle.std.proofs.Common.{◌≡◌, ◌++◌}
use Rattle.search_needs.specs.Table.{need_of}
use Rattle.search_keys.specs.Bytes.{each, needed, number}
use Rattle.osek_base.specs.System.{counter}
use Rattle.law_future.specs.Alike.{phase_at, value_at}
use Rattle.search_states.proofs.times.push_counters.Given as goal

abbrev pub invariant-loop-number : goal.invariant-loop-number
invariant-loop-number l =
    l.out.items ≡ l.fn.out.items
    ++ each l.number (λ c. needed ((need_of l.needs).counters c) (value_at (counter l.system c) l.tick)
    ++ number (phase_at (counter l.system c) l.tick))
