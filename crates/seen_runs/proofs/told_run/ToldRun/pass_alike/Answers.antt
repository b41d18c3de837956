use Rattle.std.specs.Prelude.{None}
use Rattle.seen_runs.proofs.Alike.{idle_stays}
use Rattle.seen_runs.proofs.told_run.ToldRun.pass_alike.Goals as goal

pub returns-then-is_idle : goal.returns-then-is_idle
returns-then-is_idle g c =
    let p = c.pass_idle in
    record {
      last = None;
      stayed = idle_stays g.B.Blockers.are_counted c.args.most p.result c.args.self.now p.new.self p.ensures;
    }
