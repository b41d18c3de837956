use Rattle.std.proofs.Common.{◌≡◌, [], ◌≤◌, take, length}
use Rattle.kernel.specs.Processor.{picture, system_of}
use Rattle.seen_ticks.specs.Told.{refused_of_in}
use Rattle.kernel.specs.Watches.{MayAct, Watches, all_acting}
use Rattle.kernel.proofs.watched.Watched.alarms_act.Given as goal

-- the alarms so far have acted, with one record each at most
abbrev pub invariant-loop-number : goal.invariant-loop-number
invariant-loop-number g l = record {
  does : Watches g.B.Blockers.are_counted (all_acting (take l.number l.due)) l.tick l.fn.self l.self [] l.records;
  refused : l.refused ≡ refused_of_in (system_of l.fn.self.processor) (take l.number l.due) (picture l.fn.self.processor);
  fewer : length l.refused ≤ l.number;
  may : MayAct g.B.Blockers.are_counted l.self;
  few : length l.records ≤ l.number;
}
