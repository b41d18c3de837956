-- What is kept of states in a search through all runs of a system whose interrupts keep rules.
use Rattle.std.specs.Prelude.{ℕ, ◌≡◌, ◌<◌, ◌^◌, Bool, false, IsTrue, List, length}
use Rattle.osek_base.specs.declared.arrivals.Arrival.{Arrival}
use Rattle.osek_base.specs.System.{System}
use Rattle.arrival_rules.specs.declared.rule.ArrivalRule.{ArrivalRule}
use Rattle.arrival_rules.specs.Debts.{IsFree}
use Rattle.law_kept.specs.Kept.{Kept}
use Rattle.law_kept.specs.KeptTick.{boot_in, tick_in}
use Rattle.law_future.specs.Need.{Need}
use Rattle.law_future.specs.Alike.{kept_after}
use Rattle.law_future.specs.Shown.{chosen_of}
use Rattle.seen_ticks.specs.Seen.{Seen}
use Rattle.view_figures.specs.FigureSums.{held_count, levels_of, lower_executes}
use Rattle.law_seen.specs.Seen.{executor_in, failure_in, seen_in}
use Rattle.search_keys.specs.Key.{key}
use Rattle.search.specs.Rules.{Rules}
use Rattle.search_labels.specs.Labels.{Labels, IsAtLeast, arrives_in, first_labels, next_labels, debt_of}
use Rattle.search_peaks.specs.Noting.{IsNoted, TickShown}
use Rattle.search_peaks.specs.Peaks.{Peaks}

-- what a search goes by: a system in a mode, which data is needed, the rules by which interrupts
-- come, and up to which age labels tell
pub record Setting : Type 0 where
  pub system : System
  pub mode : ℕ
  pub need : Need
  pub rules : List ArrivalRule
  pub cap : ℕ

-- the key of a state, whether the run is over in it, and its labels
pub record Node : Type 0 where
  pub key : List ℕ
  pub over : Bool
  pub labels : Labels

-- some run comes to a state
pub record Comes (S : System) (o : Kept) : Type 0 where
  pub mode : ℕ
  pub arrivals : List Arrival
  pub ticks : ℕ
  pub same : o ≡ kept_after S mode arrivals ticks

-- a node stands for such a state
pub record StandsFor (s : Setting) (x : Node) (o : Kept) : Type 0 where
  pub comes : Comes s.system o
  pub key : key s.system s.need o ≡ x.key
  pub over : o.over ≡ x.over

-- ---- what comes of a node

-- the routines of a set
abbrev pub routines_of : Setting → ℕ → List ℕ
routines_of s set = chosen_of s.system (arrives_in set)

abbrev pub seen_from : Setting → ℕ → Kept → Seen
seen_from s set o = seen_in s.system (routines_of s set) o

-- than which tasks a lower one executes in such a tick
abbrev pub lower_from : Setting → ℕ → Kept → ℕ → Bool
lower_from s set o =
    lower_executes (levels_of s.system) (executor_in s.system (routines_of s set) o)

-- what it shows
abbrev pub tick_shown_in : System → List ℕ → Kept → TickShown
tick_shown_in S arrived o =
    record {
      executor = executor_in S arrived o;
      seen = seen_in S arrived o;
      failure = failure_in S arrived o;
      over = (tick_in S arrived o).after.over;
    }

abbrev pub tick_shown_from : Setting → ℕ → Kept → TickShown
tick_shown_from s set o = tick_shown_in s.system (routines_of s set) o

abbrev pub labels_at_boot : Setting → Labels
labels_at_boot s =
    first_labels (length s.rules) (length s.system.tasks) (length s.system.routines)
    (held_count s.system)

pub record IsFirst (s : Setting) (y : Node) : Type 0 where
  pub key : key s.system s.need (boot_in s.system s.mode).state ≡ y.key
  pub over : (boot_in s.system s.mode).state.over ≡ y.over
  pub labels : IsAtLeast y.labels (labels_at_boot s)

-- the routines of a set may arrive: the run isn't over, and each of them is free by its rules
pub record May (s : Setting) (x : Node) (set : ℕ) : Type 0 where
  pub going : x.over ≡ false
  pub low : set < 2 ^ length s.system.routines
  pub free : (i : ℕ) → i < length s.system.routines → IsTrue (arrives_in set i)
      → IsFree s.rules (debt_of x.labels) i

-- a node is what comes of each state that another one stands for
pub record IsAfter (s : Setting) (x : Node) (set : ℕ) (y : Node) (o : Kept) : Type 0 where
  pub key : key s.system s.need (tick_in s.system (routines_of s set) o).after ≡ y.key
  pub over : (tick_in s.system (routines_of s set) o).after.over ≡ y.over
  pub labels : IsAtLeast y.labels
      (next_labels (lower_from s set o) s.cap s.rules set (seen_from s set o) x.labels)

abbrev pub IsNext : Setting → Node → ℕ → Node → Type 0
IsNext s x set y = (o : Kept) → StandsFor s x o → IsAfter s x set y o

pub record Covers (x y : Node) : Type 0 where
  pub key : x.key ≡ y.key
  pub over : x.over ≡ y.over
  pub labels : IsAtLeast x.labels y.labels

abbrev pub search_rules : Setting → Rules Node
search_rules s = record { is_first = IsFirst s; may = May s; is_next = IsNext s; covers = Covers }

-- what the tick of each such state shows is noted
abbrev pub AreNoted : Setting → Peaks → Node → ℕ → Type 0
AreNoted s peaks x set =
    (o : Kept) → StandsFor s x o
    → IsNoted (levels_of s.system) s.cap peaks (tick_shown_from s set o) x.labels
