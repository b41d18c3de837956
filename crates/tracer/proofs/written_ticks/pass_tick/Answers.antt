use Rattle.std.proofs.Common.{sym, subst, ◌∙◌}
use Rattle.kernel.specs.Progress.{Progress}
use Rattle.tracer.specs.Ticks.{MayPass, PassesIfOn}
use Rattle.tracer.specs.declared.shown.Shown.{Shown}
use Rattle.tracer.proofs.written_ticks.pass_tick.Goals as goal

pub pass_viewed-requires : goal.pass_viewed-requires
pass_viewed-requires g c =
    subst (λ (shown : Shown). MayPass c.args.lines.now.texts.now shown g.B.Blockers.are_counted c.args.lines.now.digits c.args.kernel.now)
    c.in-View.is c.requires.ready

pub returns-clause-passes : goal.returns-clause-passes
returns-clause-passes g c =
    let k : Progress = c.args.kernel.now in
    subst
    (λ (shown : Shown).
    PassesIfOn g.S.Sink.taken g.S.Sink.has_failed c.args.lines.now.texts.now shown k c.pass_viewed.new.kernel c.args.out.now
    c.pass_viewed.new.out c.args.room.now.text c.pass_viewed.new.room.text c.pass_viewed.result)
    (sym c.in-View.is) c.pass_viewed.ensures.passes
