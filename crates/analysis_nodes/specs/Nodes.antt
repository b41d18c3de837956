-- Nodes and outcomes of the code, as those of the laws.
use Rattle.std.specs.Prelude.{map}
use Rattle.law_costs.specs.Left.{Switch}
use Rattle.law_nodes.specs.Nodes.{Node}
use Rattle.analysis_nodes.specs.declared.node.Node.{Node as Kept}
use Rattle.analysis_nodes.specs.declared.outcome.Outcome.{Outcome as Told}
use Rattle.analysis_nodes.specs.declared.switch.Switch.{Switch as Found}
use Rattle.analysis_nodes.specs.Outcomes.{Outcome}

abbrev pub switch_by : Found → Switch
switch_by w =
    record {
      disabled = w.disabled;
      suspended_all = w.suspended_all;
      suspended_os = w.suspended_os;
    }

abbrev pub node_by : Kept → Node
node_by n =
    record {
      owner = n.owner;
      switch = switch_by n.switch;
      held = n.held.items;
      waits_for = n.waits_for;
      used = n.used;
      place = n.place;
      registers = n.registers;
    }

abbrev pub outcome_told : Told → Outcome
outcome_told o =
    record { refusal = o.refusal; start = o.start; next = map node_by o.next.items }
