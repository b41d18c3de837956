use Rattle.arrival_reader.proofs.OneArrivalList.{one_list, one_first_fault, never_both}
use Rattle.arrival_reader.proofs.arrivals.one_meaning.Goals as goal

pub returns-clause-lists : goal.returns-clause-lists
returns-clause-lists c = one_list

pub returns-clause-faults : goal.returns-clause-faults
returns-clause-faults c = one_first_fault

pub returns-clause-apart : goal.returns-clause-apart
returns-clause-apart c = never_both
