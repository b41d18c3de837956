use Rattle.oil_printer.proofs.attributes.push_property.Goals as goal

pub returns-in-Standard : goal.returns-in-Standard
returns-in-Standard c = rw c.in-Standard.is c.push_line.ensures

pub returns-in-Internal : goal.returns-in-Internal
returns-in-Internal c = rw c.in-Internal.is c.push_line-in-Internal.ensures
