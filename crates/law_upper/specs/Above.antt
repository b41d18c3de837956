-- Partitions. What systems that agree have in common, and so a system and its upper part by
-- itself.
use Rattle.std.specs.Prelude.{ℕ, ◌≡◌, ◌<◌, IsTrue, length}
use Rattle.osek_base.specs.System.{System}
use Rattle.osek_base.specs.Upper.{is_upper_task, is_upper_alarm}
use Rattle.osek_base.specs.Agree.{Agree, rank, is_upper_declared, upper_part}
use Rattle.osek_base.specs.Proper.{IsProper}
use Rattle.osek_base.specs.Separable.{Separable}

-- a task of the upper part
pub record IsUpperTask (S : System) (p t : ℕ) : Type 0 where
  pub known : t < length S.tasks
  pub upper : IsTrue (is_upper_task S p t)

-- a resource of one system and one of another are upper, with one number among the upper ones
pub record IsTheSameResource (S B : System) (p r q : ℕ) : Type 0 where
  pub known : r < length S.resources
  pub upper : IsTrue (is_upper_declared S p r)
  pub known_there : q < length B.resources
  pub upper_there : IsTrue (is_upper_declared B p q)
  pub number : rank (is_upper_declared S p) r ≡ rank (is_upper_declared B p) q

pub record IsTheSameAlarm (S B : System) (p a b : ℕ) : Type 0 where
  pub known : a < length S.alarms
  pub upper : IsTrue (is_upper_alarm S p a)
  pub known_there : b < length B.alarms
  pub upper_there : IsTrue (is_upper_alarm B p b)
  pub number : rank (is_upper_alarm S p) a ≡ rank (is_upper_alarm B p) b

-- two proper systems that are separable at p and agree from p upward, whatever stands below
pub record AreOneAbove (S B : System) (p : ℕ) : Type 0 where
  pub proper : IsProper S
  pub separable : Separable S p
  pub proper_there : IsProper B
  pub separable_there : Separable B p
  pub agree : Agree S B p

-- something is the same in each two such systems, and in each proper and separable system and its
-- upper part by itself
pub record IsThatOfTheUpperPart (IsTheSame : System → System → ℕ → Type 0) : Type 0 where
  pub others : (S B : System) (p : ℕ) → AreOneAbove S B p → IsTheSame S B p
  pub part : (S : System) (p : ℕ) → IsProper S → Separable S p → IsTheSame S (upper_part S p) p
