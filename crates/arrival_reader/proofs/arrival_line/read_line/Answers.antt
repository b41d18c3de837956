use Rattle.std.proofs.Common.{refl, arith, sym, ap, ◌∙◌}
use Rattle.osek_base.specs.Names.{number_of}
use Rattle.arrival_reader.specs.ArrivalText.{IsKnown}
use Rattle.arrival_reader.proofs.arrival_line.read_line.Goals as goal

pub returns-then-tick-ge-MAX_TICKS-clause-fault : goal.returns-then-tick-ge-MAX_TICKS-clause-fault
returns-then-tick-ge-MAX_TICKS-clause-fault c =
    let formed = c.in-Some.ensures.some in
    let known : IsKnown c.args.names.now c.args.line.now formed.0 = record {
      name = c.in-Some.name.now;
      routine = c.in-Some-routine_of.routine;
      formed = formed.1;
      known =
          ap (λ n. number_of c.in-Some.name.now n.routines) (sym c.names.view_is)
          ∙ ap (number_of c.in-Some.name.now) (sym c.as_slice.ensures.value)
          ∙ sym c.routine_of.ensures ∙ c.in-Some-routine_of.is;
    } in
    (refl, (formed.0, known, omega (arith, formed.2, c.if-tick-before.false), c.if-number-gt-MAX_ARRIVALS.false, omega (arith, formed.2, c.if-tick-ge-MAX_TICKS.true)))
