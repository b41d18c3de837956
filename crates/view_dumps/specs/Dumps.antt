-- Value change dumps: what is to be known to go on with a dump, and how it goes on.
use Rattle.std.specs.Prelude.{ℕ, ◌+◌, Bool, true, false, nat_lt, max, if◌then◌else◌, List, []}
use Rattle.seen_ticks.specs.declared.observation.Observation.{Observation}
use Rattle.osek_base.specs.System.{System}
use Rattle.view_dumps.specs.declared.last_values.LastValues.{LastValues}
use Rattle.view_dumps.specs.Ticks.{after_tick, nothing_written, tick_text}

-- the system, what its variables were last written with, the first tick that is written, whether it was, and the tick behind the
-- last that was seen
pub record Dump : Type 0 where
  pub system : System
  pub values : LastValues
  pub first : ℕ
  pub is_begun : Bool
  pub behind : ℕ

-- the dump of a system's ticks from one on, of which nothing is written
abbrev pub started : System → ℕ → Dump
started S from = record { system = S; values = nothing_written; first = from; is_begun = false; behind = from }

-- the dump behind a tick in which that is seen
abbrev pub behind_tick : Dump → ℕ → Observation → Dump
behind_tick d behind seen = record d { values = after_tick d.values seen; is_begun = true; behind = behind }

-- what is written of a tick, and the dump behind it: ticks before the first that is written are left out
abbrev pub observed_text : Dump → Observation → List ℕ
observed_text d seen = if nat_lt seen.tick d.first then [] else tick_text d.system d.is_begun seen.tick d.values seen

abbrev pub observed : Dump → Observation → Dump
observed d seen = if nat_lt seen.tick d.first then d else behind_tick d (seen.tick + 1) seen

-- the same of the ticks from one on and before another, in each of which the same is seen
abbrev pub alike_text : Dump → Observation → ℕ → ℕ → List ℕ
alike_text d seen from end =
    let t = max from d.first in
    if nat_lt t end then tick_text d.system d.is_begun t d.values seen else []

abbrev pub alike : Dump → Observation → ℕ → ℕ → Dump
alike d seen from end = if nat_lt (max from d.first) end then behind_tick d end seen else d
