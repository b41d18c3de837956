-- A set of levels as a word: bit k is set exactly where level k is in it.
use Rattle.std.specs.Prelude.{◌≡◌, ℕ, ◌<◌}
use Rattle.std.specs.Int.{bit_at}
use Rattle.ready_queues.specs.declared.ready_queues.TheConstants.{LEVELS}

-- a word has this bit for one level, and for each other level the bit that it had
pub record IsWithBit (level bit was now : ℕ) : Type 0 where
  pub here : bit_at now level ≡ bit
  pub others : (k : ℕ) → k < LEVELS → ¬ (k ≡ level) → bit_at now k ≡ bit_at was k

-- a level is the highest whose bit is set
pub record IsHighest (level word : ℕ) : Type 0 where
  pub low : level < LEVELS
  pub here : bit_at word level ≡ 1
  pub above : (k : ℕ) → level < k → bit_at word k ≡ 0
