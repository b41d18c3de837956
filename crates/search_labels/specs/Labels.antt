-- Labels of a state that may come in many runs: what interrupts owe, and for how long
-- jobs stand ready, are blocked, interrupts pend and resources are held, at most. Ages up to a cap
-- are told; the cap stands for that age and all above it.
use Rattle.std.specs.Prelude.{ℕ, ◌≡◌, ◌≤◌, Bool, ◌==◌, min, List, [], map, replicate, length, Option, None, slice_index_or}
use Rattle.std.specs.Option.{option_map}
use Rattle.std.specs.Int.{bit_at}
use Rattle.osek_base.specs.Lists.{below}
use Rattle.arrival_rules.specs.declared.rule.ArrivalRule.{ArrivalRule}
use Rattle.arrival_rules.specs.Debts.{next_debt}
use Rattle.arrival_rules.specs.Rules.{rule_at}
use Rattle.law_figures.specs.Ages.{ages_next, AreOlder}
use Rattle.law_figures.specs.Blocking.{blocked_next}
use Rattle.law_figures.specs.Holding.{Hold, hold_next, IsLonger}
use Rattle.law_figures.specs.Pending.{pending_next, IsOlder}
use Rattle.seen_ticks.specs.Seen.{Seen}
use Rattle.search_labels.specs.Ticks.{blocked_tick, holder_tick, routine_tick, task_tick}

-- by each rule what its routine's interrupts owe; the ages of each task's jobs that stand ready or
-- run, oldest first, of each pending interrupt, and of the hold of each resource; and for
-- how many ticks each task's oldest job has been blocked
pub record Labels : Type 0 where
  pub debts : List ℕ
  pub ages : List (List ℕ)
  pub pending : List (Option ℕ)
  pub holds : List Hold
  pub blocked : List ℕ

abbrev pub no_hold : Hold
no_hold = record { holder = None; held = 0 }

abbrev pub debt_of : Labels → ℕ → ℕ
debt_of l n = slice_index_or l.debts n 0

abbrev pub ages_of : Labels → ℕ → List ℕ
ages_of l k = slice_index_or l.ages k []

abbrev pub pending_of : Labels → ℕ → Option ℕ
pending_of l i = slice_index_or l.pending i None

abbrev pub hold_of : Labels → ℕ → Hold
hold_of l r = slice_index_or l.holds r no_hold

abbrev pub blocked_of : Labels → ℕ → ℕ
blocked_of l k = slice_index_or l.blocked k 0

-- after boot, of so many rules, tasks, routines and resources that can be held
abbrev pub first_labels : ℕ → ℕ → ℕ → ℕ → Labels
first_labels rules tasks routines held =
    record {
      debts = replicate rules 0;
      ages = replicate tasks [];
      pending = replicate routines None;
      holds = replicate held no_hold;
      blocked = replicate tasks 0;
    }

-- ---- a tick

-- a routine arrives where its bit is set in a set
abbrev pub arrives_in : ℕ → ℕ → Bool
arrives_in set i = bit_at set i == 1

-- the debt by the rule of a number
abbrev pub debt_next : List ArrivalRule → ℕ → Labels → ℕ → ℕ
debt_next rules set l n =
    next_debt (rule_at rules n) (arrives_in set (rule_at rules n).routine) (debt_of l n)

abbrev pub next_ages : ℕ → Seen → Labels → ℕ → List ℕ
next_ages cap seen l k = map (min cap) (ages_next (task_tick seen k) (ages_of l k))

abbrev pub next_pending : ℕ → Seen → Labels → ℕ → Option ℕ
next_pending cap seen l i =
    option_map (min cap) (pending_next (routine_tick seen i) (pending_of l i))

abbrev pub capped_hold : ℕ → Hold → Hold
capped_hold cap hold = record hold { held = min cap hold.held }

abbrev pub next_hold : ℕ → Seen → Labels → ℕ → Hold
next_hold cap seen l r = capped_hold cap (hold_next (holder_tick seen r) (hold_of l r))

abbrev pub next_blocked : (ℕ → Bool) → ℕ → Seen → Labels → ℕ → ℕ
next_blocked lower cap seen l k =
    min cap (blocked_next (blocked_tick lower seen k) (blocked_of l k))

-- the labels behind a tick in which the routines of a set arrive, and a task executes that is lower
-- than some
abbrev pub next_labels : (ℕ → Bool) → ℕ → List ArrivalRule → ℕ → Seen → Labels → Labels
next_labels lower cap rules set seen l =
    record {
      debts = map (debt_next rules set l) (below (length l.debts));
      ages = map (next_ages cap seen l) (below (length l.ages));
      pending = map (next_pending cap seen l) (below (length l.pending));
      holds = map (next_hold cap seen l) (below (length l.holds));
      blocked = map (next_blocked lower cap seen l) (below (length l.blocked));
    }

-- ---- their order

-- of as many things, what may arrive with the other labels may with these, and nothing is older
-- there
pub record IsAtLeast (l m : Labels) : Type 0 where
  pub rules : length l.debts ≡ length m.debts
  pub tasks : length l.ages ≡ length m.ages
  pub interrupts : length l.pending ≡ length m.pending
  pub resources : length l.holds ≡ length m.holds
  pub blockable : length l.blocked ≡ length m.blocked
  pub sooner : (n : ℕ) → debt_of l n ≤ debt_of m n
  pub ages : (k : ℕ) → AreOlder (ages_of l k) (ages_of m k)
  pub pending : (i : ℕ) → IsOlder (pending_of l i) (pending_of m i)
  pub holds : (r : ℕ) → IsLonger (hold_of l r) (hold_of m r)
  pub blocked : (k : ℕ) → blocked_of m k ≤ blocked_of l k
