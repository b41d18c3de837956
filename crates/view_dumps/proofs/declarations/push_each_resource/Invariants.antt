use Rattle.std.proofs.Common.{◌≡◌, ◌+◌, ◌*◌, ◌≤◌, ◌++◌, length}
use Rattle.osek_base.specs.declared.ids.ResId.{ResId}
use Rattle.view_dumps.specs.Declarations.{resource_line, each_below}
use Rattle.view_dumps.proofs.declarations.push_each_resource.Given as goal

abbrev pub invariant-loop-number : goal.invariant-loop-number
invariant-loop-number l =
    record {
      same : l.text ≡ l.initial.text ++ each_below (λ r. resource_line l.system.names (ResId.Declared r)) l.number;
      short : length l.text ≤ length l.initial.text + 55 * l.number;
    }
