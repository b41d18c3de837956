use Rattle.std.proofs.Common.{◌+◌, ◌<◌, ◌≤◌, arith}
use Rattle.std.proofs.Math.Facts.{Fits-below}
use Rattle.osek_base.specs.declared.limits.TheConstants.{MAX_INSTRUCTIONS}
use Rattle.partition_check.proofs.PlaceLemmas.{place_short}
use Rattle.partition_check.proofs.programs.+first_in_program.Goals as goal

pub overflow_add-place : goal.overflow_add-place
overflow_add-place t c =
    let short : c.args.place < MAX_INSTRUCTIONS = place_short c.args.system.now c.args.owner.now c.args.place c.shows_proper.ensures c.requires (omega arith) in
    let bound : c.args.place + 1 ≤ MAX_INSTRUCTIONS = omega (arith, short) in
    Fits-below {n = MAX_INSTRUCTIONS} tt bound
