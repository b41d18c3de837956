-- Tables that are closed: what begins is covered, and what may become of each node.
use Rattle.std.specs.Prelude.{Bool, not, ◌&&◌, ◌||◌, is_some, length}
use Rattle.std.specs.List.{list_all}
use Rattle.osek_base.specs.declared.ids.Owner.{Owner}
use Rattle.osek_base.specs.Lists.{below}
use Rattle.osek_base.specs.System.{System}
use Rattle.law_costs.specs.Known.{Known}
use Rattle.law_nodes.specs.Nodes.{Node, Table, fresh_node, is_covered, is_told, of_job, of_routine, woken_node}
use Rattle.law_nodes.specs.Steps.{steps}

-- whether the table covers each task and routine of the system as it begins
abbrev pub has_fresh : System → Table → Bool
has_fresh S table =
    list_all (λ t. is_covered table (fresh_node (Owner.Task t))) (below (length S.tasks))
    && list_all (λ i. is_covered table (fresh_node (Owner.Routine i))) (below (length S.routines))

-- whether it covers what may become of a node: each step, and where that waits, its end
abbrev pub goes_on_in : System → Table → Node → Bool
goes_on_in S table n =
    list_all (is_covered table) (steps S n)
    && (not (is_some n.waits_for) || is_covered table (woken_node n))

abbrev pub is_closed : System → Table → Bool
is_closed S table = has_fresh S table && list_all (goes_on_in S table) table

-- what a table tells is known
abbrev pub known_by : Table → Known
known_by table =
    record {
      job = λ w j. is_told table (of_job w j);
      routine = λ w a. is_told table (of_routine w a);
    }
