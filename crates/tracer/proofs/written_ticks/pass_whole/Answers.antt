use Rattle.std.proofs.Common.{[], ◌++◌, List, ℕ, refl, sym, ap, subst, Some, true≢false}
use Rattle.kernel.specs.Progress.{Progress}
use Rattle.sinks.specs.Sinks.{AppendsSome}
use Rattle.tracer.proofs.PassLemmas.{stopped, went_on}
use Rattle.tracer.proofs.TickLines.{done, listed, whole_text}
use Rattle.tracer.proofs.written_ticks.pass_whole.Goals as goal
use Rattle.tracer.proofs.written_ticks.pass_whole.Goals.{in-Any+in_ok-write_any-in-Any, in-First+in_ok-write_from_executed-in-First}

pub returns-in-Over-clause-passes : goal.returns-in-Over-clause-passes
returns-in-Over-clause-passes g c =
    record { over = c.in-Over.ensures.0; same = c.in-Over.ensures.1; sink = refl; block = refl }

pub returns-in-Over-clause-empty : goal.returns-in-Over-clause-empty
returns-in-Over-clause-empty g c = λ none. absurd (true≢false (sym none))

pub write_any-requires-clause-done : goal.write_any-requires-clause-done
write_any-requires-clause-done g c = done _ _ _ _ _ _ _ _ _ c.requires.ready c.in-Any.ensures.1

pub write_any-requires-clause-before : goal.write_any-requires-clause-before
write_any-requires-clause-before g c = (listed _ _ _ _ _ _ _ _ _ c.requires.ready c.in-Any.ensures.1).front

pub write_any-requires-clause-placed : goal.write_any-requires-clause-placed
write_any-requires-clause-placed g c = (listed _ _ _ _ _ _ _ _ _ c.requires.ready c.in-Any.ensures.1).placed

pub write_any-requires-clause-behind : goal.write_any-requires-clause-behind
write_any-requires-clause-behind g c = (listed _ _ _ _ _ _ _ _ _ c.requires.ready c.in-Any.ensures.1).rest

pub returns-in_err-write_any-in-Any-clause-passes : goal.returns-in_err-write_any-in-Any-clause-passes
returns-in_err-write_any-in-Any-clause-passes g c =
    let k : Progress = c.args.kernel.now in
    let taken = g.S.Sink.taken in
    let ran = c.in-Any.ensures.1 in
    let text = whole_text c.args.lines.now.texts.now c.args.lines.now.shown g.B.Blockers.are_counted c.args.lines.now.digits k c.go_on.new.self c.go_on.new.before c.go_on.new.executed c.go_on.new.behind c.requires.ready ran c.requires.whole in
    stopped taken g.S.Sink.has_failed c.args.lines.now.texts.now c.args.lines.now.shown k c.go_on.new.self c.args.out.now c.write_any.new.out
    c.args.room.now.text c.write_any.new.room.text _ c.from_residual.result c.from_residual.ensures.1 c.in-Any.ensures.0 ran.next
    (subst (λ (t : List ℕ). AppendsSome (taken c.args.out.now) (taken c.write_any.new.out) (c.args.room.now.text ++ t)) text
    c.in_err-write_any-in-Any.ensures.beginning)
    c.in_err-write_any-in-Any.ensures.failed

pub write_from_executed-requires-clause-number : goal.write_from_executed-requires-clause-number
write_from_executed-requires-clause-number g c = done _ _ _ _ _ _ _ _ _ c.requires.ready c.in-First.ensures.1

pub write_from_executed-requires-clause-placed : goal.write_from_executed-requires-clause-placed
write_from_executed-requires-clause-placed g c = (listed _ _ _ _ _ _ _ _ _ c.requires.ready c.in-First.ensures.1).placed

pub write_from_executed-requires-clause-behind : goal.write_from_executed-requires-clause-behind
write_from_executed-requires-clause-behind g c = (listed _ _ _ _ _ _ _ _ _ c.requires.ready c.in-First.ensures.1).rest

pub returns-in_err-write_from_executed-in-First-clause-passes : goal.returns-in_err-write_from_executed-in-First-clause-passes
returns-in_err-write_from_executed-in-First-clause-passes g c =
    let k : Progress = c.args.kernel.now in
    let taken = g.S.Sink.taken in
    let ran = c.in-First.ensures.1 in
    let text = whole_text c.args.lines.now.texts.now c.args.lines.now.shown g.B.Blockers.are_counted c.args.lines.now.digits k c.go_on.new.self [] (Some c.in-First.executed) c.go_on.new.behind c.requires.ready ran c.requires.whole in
    stopped taken g.S.Sink.has_failed c.args.lines.now.texts.now c.args.lines.now.shown k c.go_on.new.self c.args.out.now c.write_from_executed.new.out
    c.args.room.now.text c.write_from_executed.new.text _ c.from_residual-in_err-write_from_executed-in-First.result
    c.from_residual-in_err-write_from_executed-in-First.ensures.1 c.in-First.ensures.0 ran.next
    (subst (λ (t : List ℕ). AppendsSome (taken c.args.out.now) (taken c.write_from_executed.new.out) (c.args.room.now.text ++ t)) text
    c.in_err-write_from_executed-in-First.ensures.beginning)
    c.in_err-write_from_executed-in-First.ensures.failed

pub returns-clause-passes : goal.returns-clause-passes
returns-clause-passes g c =
    let k : Progress = c.args.kernel.now in
    let T = c.args.lines.now.texts.now in
    let shown = c.args.lines.now.shown in
    let counted = g.B.Blockers.are_counted in
    elim c.match-go_on.branch [
      | in-Any+in_ok-write_any-in-Any w ↦
          let ran = w.in-Any.ensures.1 in
          went_on g.S.Sink.taken g.S.Sink.has_failed T shown k c.go_on.new.self c.args.out.now c.match-go_on.out
          c.args.room.now.text c.match-go_on.room.text w.write_any.new.out w.write_any.new.room.text _ w.in-Any.ensures.0 ran.next
          w.out-is (ap (λ r. r.text) w.room-is)
          (whole_text T shown counted c.args.lines.now.digits k c.go_on.new.self c.go_on.new.before c.go_on.new.executed c.go_on.new.behind c.requires.ready ran c.requires.whole)
          w.in_ok-write_any-in-Any.ensures.written w.in_ok-write_any-in-Any.ensures.still
      | in-First+in_ok-write_from_executed-in-First w ↦
          let ran = w.in-First.ensures.1 in
          went_on g.S.Sink.taken g.S.Sink.has_failed T shown k c.go_on.new.self c.args.out.now c.match-go_on.out
          c.args.room.now.text c.match-go_on.room.text w.write_from_executed.new.out w.write_from_executed.new.text _ w.in-First.ensures.0 ran.next
          w.out-is (ap (λ r. r.text) w.room-is)
          (whole_text T shown counted c.args.lines.now.digits k c.go_on.new.self [] (Some w.in-First.executed) c.go_on.new.behind c.requires.ready ran c.requires.whole)
          w.in_ok-write_from_executed-in-First.ensures.written w.in_ok-write_from_executed-in-First.ensures.still
    ]

pub returns-clause-empty : goal.returns-clause-empty
returns-clause-empty g c = λ _. c.clear.ensures
