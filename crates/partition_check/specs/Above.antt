-- Partitions. A system, and the priority from which its upper part goes.
use Rattle.std.specs.Prelude.{ℕ}
use Rattle.osek_base.specs.System.{System}

pub record Above : Type 0 where
  pub system : System
  pub p : ℕ

abbrev pub above : System → ℕ → Above
above S p = record { system = S; p = p }
