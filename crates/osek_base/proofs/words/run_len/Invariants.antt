-- The bytes so far are bytes of words.
use Rattle.std.proofs.Common.{◌-◌, ◌<◌, ◌≤◌, ℕ, length, get_or}
use Rattle.std.specs.Prelude.{IsTrue}
use Rattle.osek_base.specs.Words.{is_word_byte}
use Rattle.osek_base.proofs.words.run_len.Given as goal

abbrev pub invariant-loop-n : goal.invariant-loop-n
invariant-loop-n l = record { within : l.n ≤ length l.bytes; each : (i : ℕ) → i < l.n → IsTrue (is_word_byte (get_or l.bytes i 0)) }

abbrev pub decreases-loop-n : goal.decreases-loop-n
decreases-loop-n l = length l.bytes - l.n
