use Rattle.test_libraries.proofs.chosen_arrivals.Seen.+ticks.Given as goal

abbrev pub decreases-ticks : goal.decreases-ticks
decreases-ticks l = l.count
