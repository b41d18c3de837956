use Rattle.std.proofs.Common.{◌≡◌, ◌++◌, drop, map}
use Rattle.std.specs.List.{flat_map}
use Rattle.std.specs.String.{string_bytes}
use Rattle.oil_reader.specs.Grammar.{Named}
use Rattle.oil_printer.specs.Layout.{sub_text}
use Rattle.oil_printer.specs.Printed.{setting}
use Rattle.oil_printer.proofs.layout.push_subs.Given as goal

abbrev pub invariant-loop-name : goal.invariant-loop-name
invariant-loop-name l =
    string_bytes l.text ++ flat_map sub_text (map (λ name. setting l.word (Named name)) (drop l.name-index l.names))
    ≡ string_bytes l.fn.text ++ flat_map sub_text (map (λ name. setting l.word (Named name)) l.names)
