use Rattle.oil_reader.proofs.TextMeaning.{meaning_unique, text_fault_unique, meaning_apart}
use Rattle.oil_reader.proofs.reading.one_meaning.Goals as goal

pub returns-clause-files : goal.returns-clause-files
returns-clause-files c = meaning_unique

pub returns-clause-faults : goal.returns-clause-faults
returns-clause-faults c = text_fault_unique

pub returns-clause-apart : goal.returns-clause-apart
returns-clause-apart c = meaning_apart
