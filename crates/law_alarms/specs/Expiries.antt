-- OSEK/VDX OS: alarms, counters and alarm management. In which ticks of a run an alarm expires.
use Rattle.std.specs.Prelude.{ℕ, ◌%◌, ◌≡◌, Bool, true, not, ◌&&◌, List}
use Rattle.osek_base.specs.declared.arrivals.Arrival.{Arrival}
use Rattle.osek_base.specs.Alarm.{due_alarms}
use Rattle.osek_base.specs.Lists.{is_in}
use Rattle.osek_base.specs.Proper.{IsProper}
use Rattle.osek_base.specs.System.{System, counter_of}
use Rattle.osek_base.specs.Trace.{run}
use Rattle.law_alarms.specs.Spaced.{how_many}

-- whether an alarm expires in tick n of a run: it is due as that tick begins
abbrev pub expires : System → ℕ → List Arrival → ℕ → ℕ → Bool
expires S mode arrivals a n =
    let s = (run S mode arrivals n).state in
    not s.over && is_in a (due_alarms S s)

-- in how many of so many ticks, from one on, it expires
abbrev pub expiries : System → ℕ → List Arrival → ℕ → ℕ → ℕ → ℕ
expiries S mode arrivals a from count = how_many (expires S mode arrivals a) from count

-- the ticks of one count of its counter: TICKSPERBASE
abbrev pub base_of : System → ℕ → ℕ
base_of S a = (counter_of S a).ticks_per_base

-- ---- the law

-- in every run an alarm expires as a count begins: in the first of its ticks and in no other
abbrev pub AlwaysOnTime : Type 0
AlwaysOnTime =
    (S : System) (mode : ℕ) (arrivals : List Arrival) (a n : ℕ) → IsProper S
    → expires S mode arrivals a n ≡ true → n % base_of S a ≡ 0
