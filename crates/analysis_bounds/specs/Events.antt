-- Events, one by one, as code goes over them.
use Rattle.std.specs.Prelude.{ℕ, Bool, not, if◌then◌else◌}
use Rattle.law_nodes.specs.Early.{is_set}

-- one of a mask, or one besides
abbrev pub is_summed : ℕ → Bool → ℕ → Bool
is_summed m besides b = if besides then not (is_set m b) else is_set m b
