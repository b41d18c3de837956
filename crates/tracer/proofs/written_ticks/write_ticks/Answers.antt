use Rattle.std.proofs.Common.{◌≡◌, ℕ, ◌+◌, ◌<◌, Option, [], ◌++◌, refl, sym, ap, subst, ◌∙◌, arith}
use Rattle.osek_base.specs.System.{System}
use Rattle.osek_base.specs.Trace.{run}
use Rattle.kernel.specs.Progress.{Progress, is_over}
use Rattle.tracer.specs.Shown.{is_blocking, is_view, numbers_shown, text_shown, tick_text_shown}
use Rattle.tracer.specs.declared.shown.Shown.{Shown}
use Rattle.sinks.specs.Sinks.{AppendsSome, Passes}
use Rattle.sinks.proofs.SinkLemmas.{passes_none, passed_all, passed_some, stops, goes_on}
use Rattle.tracer.proofs.PassLemmas.{alive, before_last, carried, over_is, was_done, was_over}
use Rattle.tracer.proofs.RunTextLemmas.{text_begun, passes_part, passed_whole}
use Rattle.tracer.proofs.IdleTickLemmas.{at_next, passes_next, passes_idle, some_idle}
use Rattle.tracer.proofs.written_ticks.write_ticks.Goals as goal
use Rattle.tracer.proofs.written_ticks.write_ticks.Goals.{else-ticks-test, then-ticks-test+in_ok-pass_tick+then-not-branch}

pub pass_tick-requires-clause-ready : goal.pass_tick-requires-clause-ready
pass_tick-requires-clause-ready g c =
    let v = c.ticks.invariant in
    record {
      system = ap (λ (r : Progress). r.system) v.at ∙ c.requires.system ∙ sym v.kept.texts;
      counted = v.counted;
      blockers = c.requires.types.blockers ∙ sym (ap is_blocking v.kept.shows);
      few = before_last c.ticks.kernel.ticks c.args.ticks (rw (c.ticks-in-ticks.ensures) at c.ticks-test.true) c.requires.ticks;
    }

pub pass_tick-requires-clause-views : goal.pass_tick-requires-clause-views
pass_tick-requires-clause-views g c = c.requires.types.views ∙ sym (ap is_view c.ticks.invariant.kept.shows)

pub ticks-init : goal.ticks-init
ticks-init g c =
    let k : Progress = c.args.kernel.now in
    let V : System = c.args.texts.now in
    let numbers : ℕ → Option ℕ = numbers_shown c.args.shown k.system k.mode k.arrivals in
    let taken = g.S.Sink.taken c.args.out.now in
    record {
      so_far =
          subst (λ n. Passes taken taken [] c.new-4.result (text_shown V c.args.shown numbers (run k.system k.mode k.arrivals n))) (sym c.requires.begun)
          (subst (Passes taken taken [] c.new-4.result) (sym (text_begun V c.args.shown numbers k.system k.mode k.arrivals))
          (subst (λ w. Passes taken taken [] w []) (sym c.new-4.ensures) (passes_none taken [])));
      at = refl;
      within = omega (arith, c.requires.begun);
      counted = c.new.ensures ∙ sym c.requires.begun;
      kept = record { texts = refl; shows = refl };
      empty = c.new-3.ensures;
      still = refl;
    }

pub pass_idle_ticks-requires : goal.pass_idle_ticks-requires
pass_idle_ticks-requires g c =
    let v = c.ticks.invariant in
    let below : c.ticks.kernel.ticks < c.args.ticks = rw (c.ticks-in-ticks.ensures) at c.ticks-test.true in
    let passed = was_done _ _ _ _ _ _ _ _ _ _ _ c.if-not-branch.false c.in_ok-pass_tick.ensures.passes in
    let more : c.pass_tick.new.kernel.ticks ≡ c.ticks.kernel.ticks + 1 = ap (λ (r : Progress). r.ticks) passed.next in
    record {
      counted = c.advance.ensures ∙ ap (λ m. m + 1) v.counted ∙ sym more;
      before = omega (arith, more, below);
      few = c.requires.ticks;
    }

pub ticks-preserved : goal.ticks-preserved
ticks-preserved g c =
    let k : Progress = c.args.kernel.now in
    let V : System = c.args.texts.now in
    let v = c.ticks.invariant in
    let r : Progress = c.ticks.kernel in
    let after : Progress = c.pass_tick.new.kernel in
    let below : r.ticks < c.args.ticks = rw (c.ticks-in-ticks.ensures) at c.ticks-test.true in
    let passed = was_done _ _ _ _ _ _ _ _ _ _ _ c.if-not-branch.false c.in_ok-pass_tick.ensures.passes in
    let on = alive r (before_last r.ticks c.args.ticks below c.requires.ticks) passed.on in
    let next = passed.next in
    let at = at_next V c.args.shown k.system k.mode k.arrivals r after r.ticks v.at next in
    let idle = c.in_ok-pass_idle_ticks.ensures in
    let more : c.pass_idle_ticks.new.kernel.ticks ≡ after.ticks + idle.passed.count = ap (λ (x : Progress). x.ticks) idle.passed.next in
    record {
      so_far =
          subst (λ m. Passes (g.S.Sink.taken c.args.out.now) (g.S.Sink.taken c.pass_idle_ticks.new.out) [] c.pass_idle_ticks.new.text (text_shown V c.args.shown (numbers_shown c.args.shown k.system k.mode k.arrivals) (run k.system k.mode k.arrivals m))) (sym more)
          (passes_idle V c.args.shown k.system k.mode k.arrivals c.ticks.lines.texts.now c.ticks.lines.shown after _ _ _ _ _ _ after.ticks idle.passed.count v.kept at
          (passes_next V c.args.shown k.system k.mode k.arrivals c.ticks.lines.texts.now c.ticks.lines.shown r after _ _ _ _ _ _ r.ticks v.kept v.at next on v.so_far
          passed.puts.written)
          idle.passed.going idle.passed.puts.written);
      at =
          idle.passed.next ∙ ap (λ (x : Progress). record x { ticks = x.ticks + idle.passed.count }) at
          ∙ ap (λ m. record k { ticks = m }) (sym more);
      within = idle.within;
      counted = idle.digits;
      kept = record { texts = idle.kept.texts ∙ v.kept.texts; shows = idle.kept.shows ∙ v.kept.shows };
      empty = c.in_ok-pass_tick.ensures.empty c.if-not-branch.false;
      still = idle.passed.puts.still ∙ passed.puts.still ∙ v.still;
    }

pub returns-in_err-pass_idle_ticks : goal.returns-in_err-pass_idle_ticks
returns-in_err-pass_idle_ticks g c =
    let k : Progress = c.args.kernel.now in
    let V : System = c.args.texts.now in
    let v = c.ticks.invariant in
    let r : Progress = c.ticks.kernel in
    let after : Progress = c.pass_tick.new.kernel in
    let below : r.ticks < c.args.ticks = rw (c.ticks-in-ticks.ensures) at c.ticks-test.true in
    let passed = was_done _ _ _ _ _ _ _ _ _ _ _ c.if-not-branch.false c.in_ok-pass_tick.ensures.passes in
    let on = alive r (before_last r.ticks c.args.ticks below c.requires.ticks) passed.on in
    let next = passed.next in
    let at = at_next V c.args.shown k.system k.mode k.arrivals r after r.ticks v.at next in
    let idle = c.in_err-pass_idle_ticks.ensures in
    let more : c.pass_idle_ticks.new.kernel.ticks ≡ after.ticks + idle.passed.count = ap (λ (x : Progress). x.ticks) idle.passed.next in
    stops g.S.Sink.taken g.S.Sink.has_failed _ _ _ c.args.out.now _ c.from_residual-in_err-pass_idle_ticks.result
    c.from_residual-in_err-pass_idle_ticks.ensures.1
    (some_idle V c.args.shown k.system k.mode k.arrivals c.ticks.lines.texts.now c.ticks.lines.shown after _ _ _ _ _ after.ticks idle.passed.count c.args.ticks v.kept at
    (omega (arith, more, idle.within))
    (passes_next V c.args.shown k.system k.mode k.arrivals c.ticks.lines.texts.now c.ticks.lines.shown r after _ _ _ _ _ _ r.ticks v.kept v.at next on v.so_far
    passed.puts.written)
    idle.passed.going idle.passed.puts.beginning)
    idle.passed.puts.failed

pub returns-in_err-pass_tick : goal.returns-in_err-pass_tick
returns-in_err-pass_tick g c =
    let k : Progress = c.args.kernel.now in
    let V : System = c.args.texts.now in
    let numbers : ℕ → Option ℕ = numbers_shown c.args.shown k.system k.mode k.arrivals in
    let v = c.ticks.invariant in
    let n = c.ticks.kernel.ticks in
    let below : n < c.args.ticks = rw (c.ticks-in-ticks.ensures) at c.ticks-test.true in
    let passed = c.in_err-pass_tick.ensures.passes in
    let on = alive c.ticks.kernel (before_last n c.args.ticks below c.requires.ticks) passed.on in
    let text = ap (λ (how : Shown). tick_text_shown c.ticks.lines.texts.now how c.ticks.kernel.system c.ticks.kernel.mode c.ticks.kernel.arrivals n) v.kept.shows
    ∙ ap (λ (S : System). tick_text_shown S c.args.shown c.ticks.kernel.system c.ticks.kernel.mode c.ticks.kernel.arrivals n) v.kept.texts
    ∙ ap (λ (r : Progress). tick_text_shown V c.args.shown r.system r.mode r.arrivals r.ticks) v.at in
    stops g.S.Sink.taken g.S.Sink.has_failed _ _ _ c.args.out.now _ c.from_residual.result c.from_residual.ensures.1
    (passes_part V c.args.shown numbers k.system k.mode k.arrivals _ _ _ _ _ n c.args.ticks below (ap is_over (sym v.at) ∙ on) v.so_far
    (subst (λ t. AppendsSome (g.S.Sink.taken c.ticks.out) (g.S.Sink.taken c.pass_tick.new.out) (c.ticks.room.text ++ t)) text passed.puts.beginning))
    passed.puts.failed

pub returns : goal.returns
returns g c =
    let k : Progress = c.args.kernel.now in
    let V : System = c.args.texts.now in
    let numbers : ℕ → Option ℕ = numbers_shown c.args.shown k.system k.mode k.arrivals in
    let v = c.ticks.invariant in
    let n = c.ticks.kernel.ticks in
    let taken = g.S.Sink.taken in
    let has_failed = g.S.Sink.has_failed in
    let all = text_shown V c.args.shown numbers (run k.system k.mode k.arrivals c.args.ticks) in
    let passed : Passes (taken c.args.out.now) (taken c.ticks-test.out) [] c.ticks-test.room.text all × (has_failed c.ticks-test.out ≡ has_failed c.args.out.now) =
    elim c.ticks-test.branch [
      | else-ticks-test w ↦
          let last : n ≡ c.args.ticks = grind (arith, v.within, w.ticks-test.false, c.ticks-in-ticks.ensures) in (
            carried taken (taken c.args.out.now) c.ticks-test.out c.ticks.out [] c.ticks-test.room.text c.ticks.room.text all w.out-is
                (ap (λ r. r.text) w.room-is)
                (subst (λ m. Passes (taken c.args.out.now) (taken c.ticks.out) [] c.ticks.room.text (text_shown V c.args.shown numbers (run k.system k.mode k.arrivals m))) last v.so_far),
            ap has_failed w.out-is ∙ v.still,
          )
      | then-ticks-test+in_ok-pass_tick+then-not-branch w ↦
          let below : n < c.args.ticks = rw (c.ticks-in-ticks.ensures) at w.ticks-test.true in
          let o = was_over _ _ _ _ _ _ _ _ _ _ _ _ w.if-not-branch.true w.in_ok-pass_tick.ensures.passes in
          let over = over_is c.ticks.kernel (before_last n c.args.ticks below c.requires.ticks) ∙ o.over in
          let sink = w.out-is ∙ o.sink in (
            carried taken (taken c.args.out.now) c.ticks-test.out c.ticks.out [] c.ticks-test.room.text c.ticks.room.text all sink
                (ap (λ r. r.text) w.room-is ∙ o.block)
                (passed_whole V c.args.shown numbers k.system k.mode k.arrivals _ _ _ _ n c.args.ticks below c.requires.ticks (ap is_over (sym v.at) ∙ over) v.so_far),
            ap has_failed sink ∙ v.still,
          )
    ] in
    goes_on taken has_failed _ _ _ _ c.args.out.now c.ticks-test.out _ c.flush.result passed.1
    (passed_all _ _ _ _ _ _ passed.0) (passed_some _ _ _ _ _ _ passed.0) c.flush.ensures.puts
