-- Partitions. What a system, its upper part by itself and every system that agrees with it have in
-- common.
use Rattle.std.specs.Prelude.{ℕ}
use Rattle.osek_base.specs.System.{System}
use Rattle.osek_base.specs.Agree.{upper_part}
use Rattle.law_upper.specs.Above.{AreOneAbove}

-- something is the same in a system and in its upper part by itself, and in the system and in each
-- that is proper and separable at p and agrees with it from p upward
pub record IsTheSameEverywhere (IsTheSame : System → System → ℕ → Type 0) (S : System)
    (p : ℕ) : Type 0 where
  pub part : IsTheSame S (upper_part S p) p
  pub others : (B : System) → AreOneAbove S B p → IsTheSame S B p
