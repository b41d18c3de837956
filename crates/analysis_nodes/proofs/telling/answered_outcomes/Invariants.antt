use Rattle.std.proofs.Common.{◌≡◌, map, take}
use Rattle.analysis_nodes.specs.Nodes.{node_by, outcome_told}
use Rattle.analysis_nodes.specs.Outcomes.{outcome_by}
use Rattle.analysis_nodes.proofs.telling.answered_outcomes.Given as goal

abbrev pub invariant-loop-refusal : goal.invariant-loop-refusal
invariant-loop-refusal l =
    map outcome_told l.outcomes.items
    ≡ map (outcome_by l.system (node_by l.node) l.service) (take l.refusal-index l.answers)
