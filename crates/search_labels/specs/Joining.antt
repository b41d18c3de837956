-- Labels that stand for two.
use Rattle.std.specs.Prelude.{ℕ, ◌≡◌, Bool, true, false, if◌then◌else◌, ◌&&◌, is_some, length, max, min, nat_lt}
use Rattle.law_figures.specs.Holding.{Hold}
use Rattle.law_figures.specs.Merging.{merged_age, merged_ages, merged_hold}
use Rattle.search_labels.specs.Labels.{Labels, IsAtLeast, ages_of, blocked_of, hold_of, pending_of, debt_of}

-- labels of as many things
pub record AreOfAsMany (l m : Labels) : Type 0 where
  pub rules : length l.debts ≡ length m.debts
  pub tasks : length l.ages ≡ length m.ages
  pub interrupts : length l.pending ≡ length m.pending
  pub resources : length l.holds ≡ length m.holds
  pub blockable : length l.blocked ≡ length m.blocked

-- a task has held the resource
abbrev pub has_held : Hold → Bool
has_held hold = is_some hold.holder && nat_lt 0 hold.held

-- the longer of two, where no two tasks have held it
abbrev pub joined_hold : Hold → Hold → Hold
joined_hold hold other =
    if has_held other then (if has_held hold then merged_hold hold other else other) else hold

abbrev pub AreJoinable : Hold → Hold → Type 0
AreJoinable hold other =
    has_held hold ≡ true → has_held other ≡ true → hold.holder ≡ other.holder

-- the shorter debts and the greater ages of two: the least labels that are at least both
pub record IsJoined (l m joined : Labels) : Type 0 where
  pub debts : (n : ℕ) → debt_of joined n ≡ min (debt_of l n) (debt_of m n)
  pub ages : (k : ℕ) → ages_of joined k ≡ merged_ages (ages_of l k) (ages_of m k)
  pub pending : (i : ℕ) → pending_of joined i ≡ merged_age (pending_of l i) (pending_of m i)
  pub holds : (r : ℕ) → hold_of joined r ≡ joined_hold (hold_of l r) (hold_of m r)
  pub blocked : (k : ℕ) → blocked_of joined k ≡ max (blocked_of l k) (blocked_of m k)
  pub one : IsAtLeast joined l
  pub other : IsAtLeast joined m
  pub least : (n : Labels) → IsAtLeast n l → IsAtLeast n m → IsAtLeast n joined

-- so they are where that can be done, or else as they were
abbrev pub Joins : Labels → Labels → Labels → Bool → Type 0
Joins l m joined true = IsJoined l m joined
Joins l m joined false = joined ≡ l
