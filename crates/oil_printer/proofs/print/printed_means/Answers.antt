use Rattle.oil_printer.proofs.ReadAgain.{printed_means}
use Rattle.oil_printer.proofs.print.printed_means.Goals as goal

pub returns : goal.returns
returns c = printed_means
