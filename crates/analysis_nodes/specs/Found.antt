-- Results of services at a node, as those of the laws.
use Rattle.law_nodes.specs.Services.{Found}
use Rattle.analysis_nodes.specs.declared.results.Known.{Known}

abbrev pub found_by : Known → Found
found_by Known.Nothing = Found.Nothing
found_by (Known.One u) = Found.One u
found_by (Known.Three u v w) = Found.Three u v w
