use Rattle.std.proofs.Common.{◌≡◌, ◌++◌, drop, map}
use Rattle.std.specs.List.{flat_map}
use Rattle.std.specs.String.{string_bytes}
use Rattle.oil_printer.specs.Layout.{object_text}
use Rattle.oil_printer.proofs.printed_object.push_all.Given as goal

abbrev pub invariant-loop-object : goal.invariant-loop-object
invariant-loop-object g l =
    string_bytes l.text ++ flat_map object_text (map g.T.PrintedObject.object_of (drop l.object-index l.objects))
    ≡ string_bytes l.fn.text ++ flat_map object_text (map g.T.PrintedObject.object_of l.objects)
