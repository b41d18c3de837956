use Rattle.std.proofs.Common.{arith}
use Rattle.osek_base.proofs.PlaceLemmas.{known_place, KnownPlace}
use Rattle.osek_base.specs.System.{System}
use Rattle.trace_lines.proofs.program_texts.text_at.Goals as goal

pub overflow_cast-place : goal.overflow_cast-place
overflow_cast-place c =
    let S : System = c.args.system.now in
    let k : KnownPlace S c.args.who.now c.args.place = known_place S c.args.who.now c.args.place c.names-names.ensures.proper c.requires.owner c.requires.place in
    omega (arith, c.requires.place, k.short)

pub new-place-requires : goal.new-place-requires
new-place-requires c =
    let S : System = c.args.system.now in
    let k : KnownPlace S c.args.who.now c.args.place = known_place S c.args.who.now c.args.place c.names-names.ensures.proper c.requires.owner c.requires.place in
    omega (arith, c.requires.place, k.short)
