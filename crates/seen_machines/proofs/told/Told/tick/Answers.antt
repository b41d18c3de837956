use Rattle.std.proofs.Common.{◌≡◌, ◌∙◌, ap₂}
use Rattle.osek_base.specs.System.{System}
use Rattle.law_kept.specs.KeptTick.{tick_in}
use Rattle.kernel.specs.Machine.{picture, system_of}
use Rattle.seen_ticks.specs.Observed.{ending, executed_in, refusing}
use Rattle.seen_machines.proofs.Executing.{executed_is}
use Rattle.seen_machines.proofs.told.Told.tick.Goals as goal

pub returns-clause-told : goal.returns-clause-told
returns-clause-told g c =
    let m = c.args.machine.now in
    let t = c.tick_seen-executed in
    let e = c.of-self.ensures in
    let S : System = system_of m in
    let here : c.system.result.now ≡ S = c.system.ensures ∙ t.ensures.done.ticks.system in
    let told : t.result ≡ executed_in (tick_in S c.args.arrived.now (picture m)).events =
    executed_is g.B.Blockers.are_counted m c.args.arrived.now t.ensures.done.was_of_run c.requires.on
    t.new.before t.new.behind t.result t.ensures.done.ticks.events in
    record {
      jobs = c.note.ensures.jobs;
      pending = c.note.ensures.pending;
      active = c.note.ensures.active;
      tasks = t.ensures.seen;
      executed = e.executed ∙ told;
      ending = e.ending ∙ ap₂ ending here told;
      refusing = e.refusing ∙ ap₂ refusing here told;
    }
