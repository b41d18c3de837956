use Rattle.std.proofs.Common.{◌≡◌, ◌+◌, drop}
use Rattle.std.specs.Option.{option_map}
use Rattle.osek_base.specs.Names.{number_of}
use Rattle.view_figure_texts.proofs.broken.number_of.Given as goal

-- the place among those that are left, behind those gone over
abbrev pub invariant-loop-number : goal.invariant-loop-number
invariant-loop-number l =
    number_of l.name l.names ≡ option_map (λ k. l.number + k) (number_of l.name (drop l.number l.names))
