-- Value change dumps: ticks that are handed on one after another, oldest first.
use Rattle.std.specs.Prelude.{ℕ, ◌≡◌, List, [], ◌∷◌, ◌++◌}
use Rattle.seen_ticks.specs.declared.observation.Observation.{Observation}
use Rattle.seen_ticks.specs.Seen.{alike_ticks}
use Rattle.osek_base.specs.System.{System}
use Rattle.view_dumps.specs.Declarations.{declarations}
use Rattle.view_dumps.specs.Dumps.{Dump, alike, alike_text, observed, observed_text, started}
use Rattle.view_dumps.specs.Lines.{time_line}

-- what is written of ticks in which these are seen, and the dump behind them
abbrev pub dump_text : Dump → List Observation → List ℕ
dump_text d [] = []
dump_text d (o ∷ seen) = observed_text d o ++ dump_text (observed d o) seen

abbrev pub dump_behind : Dump → List Observation → Dump
dump_behind d [] = d
dump_behind d (o ∷ seen) = dump_behind (observed d o) seen

-- the whole text of a dump of a run of a system: the declarations, what is written of the ticks in which these are seen, from
-- one on, and the time behind the last of them
abbrev pub whole_text : System → ℕ → List Observation → List ℕ
whole_text S from seen =
    let d : Dump = started S from in
    declarations S ++ dump_text d seen ++ time_line (dump_behind d seen).behind

-- to hand on such ticks at once, up to an end, is to hand on each
pub record IsEach (d : Dump) (o : Observation) (first end n : ℕ) : Type 0 where
  pub text : alike_text d o first end ≡ dump_text d (alike_ticks o first n)
  pub behind : alike d o first end ≡ dump_behind d (alike_ticks o first n)
