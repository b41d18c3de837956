-- They come to that.
use Rattle.std.proofs.Common.{refl}
use Rattle.law_nodes.specs.Worked.{WorkedNodes}

pub worked : WorkedNodes
worked = record {
  counting_steps = refl;
  counting_closed = refl;
  open_end = refl;
  open_start = refl;
  getting = refl;
  getting_again = refl;
  releasing = refl;
  refused = refl;
  awaiting = refl;
  at_rest = refl;
  setting = refl;
  waiting_closed = refl;
  disabled = refl;
  counting_pays = refl;
  too_little = refl;
  one_too_cheap = refl;
  waiting_pays = refl;
  event_is_free = refl;
  interrupt_too_cheap = refl;
  early_pays = refl;
  early_is_free = refl;
  looping_steps = refl;
  looping_clears = refl;
  looping_closed = refl;
  looping_pays = refl;
  held_too_cheap = refl;
  event_too_cheap = refl;
  timing_closed = refl;
  timing_pays = refl;
  setting_too_cheap = refl;
  boot_too_cheap = refl;
  begin_too_cheap = refl;
  set_again = refl;
  shielding_closed = refl;
  shielding_pays = refl;
  section_too_short = refl;
  shield_too_cheap = refl;
}
