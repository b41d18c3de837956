use Rattle.std.proofs.Common.{◌≡◌, ◌≤◌, length, take}
use Rattle.osek_base.specs.View.{view_records}
use Rattle.trace_lines.proofs.view.upper_view_into.Given as goal

abbrev pub invariant-entries : goal.invariant-entries
invariant-entries l =
    record {
      so_far : l.view ≡ view_records l.system l.p (take l.entry-index l.entry-items);
      few : length l.view ≤ l.entry-index;
    }
