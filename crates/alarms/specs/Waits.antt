-- OSEK/VDX OS: counters and alarm management. The running alarms of one counter, the one that expires last first.
use Rattle.std.specs.Prelude.{ℕ, ◌+◌, ◌-◌, ◌≤◌, ◌<◌, ◌≡◌, Bool, true, false, length, not, nat_le, nat_lt, ◌==◌, ◌&&◌, ◌||◌, if◌then◌else◌, List, [], ◌∷◌, Option, Some, None, slice_index_or, slice_set}
use Rattle.std.specs.Int.{bit_at}
use Rattle.std.specs.List.{list_all, list_any}
use Rattle.osek_base.specs.declared.limits.TheConstants.{MAX_ALARMS}
use Rattle.osek_base.specs.State.{Expiry}
use Rattle.alarms.specs.declared.difference_list.Waiting.{Waiting}

-- a running alarm: how many counts are left before it expires, and its cycle
pub record Wait : Type 0 where
  pub alarm : ℕ
  pub left : ℕ
  pub cycle : ℕ

-- the sum of the differences
abbrev pub span : List Waiting → ℕ
span [] = 0
span (e ∷ es) = e.difference + span es

-- an entry that has a list after it
abbrev pub wait_before : ℕ → Waiting → Wait
wait_before n e = record { alarm = e.alarm; left = e.difference + n; cycle = e.cycle }

-- what is left of each wait: its difference and all those after it
abbrev pub waits : List Waiting → List Wait
waits [] = []
waits (e ∷ es) = wait_before (span es) e ∷ waits es

-- what stands for an entry that isn't there
abbrev pub not_waiting : Waiting
not_waiting = record { alarm = 0; difference = 0; cycle = 0 }

-- an entry with a smaller difference, and a list whose entry before a place has one
abbrev pub cut : Waiting → ℕ → Waiting
cut e n = record e { difference = e.difference - n }

abbrev pub cut_at : List Waiting → ℕ → ℕ → List Waiting
cut_at es place n = if place == 0 then es else slice_set es (place - 1) (cut (slice_index_or es (place - 1) not_waiting) n)

-- an entry with a larger difference, and a list whose entry before a place has that of the entry there
abbrev pub grown : Waiting → ℕ → Waiting
grown e n = record e { difference = e.difference + n }

abbrev pub grown_at : List Waiting → ℕ → List Waiting
grown_at es place = if place == 0 then es else slice_set es (place - 1) (grown (slice_index_or es (place - 1) not_waiting) (slice_index_or es place not_waiting).difference)

-- an entry with another difference
abbrev pub recounted : Waiting → ℕ → Waiting
recounted e n = record e { difference = n }

-- whether an entry is of an alarm
abbrev pub is_of : ℕ → Waiting → Bool
is_of a e = e.alarm == a

-- whether a wait ends before another one, or with it and is declared first
abbrev pub is_sooner : Wait → Wait → Bool
is_sooner t w = nat_lt w.left t.left || (w.left == t.left && nat_lt w.alarm t.alarm)

-- a wait before the longest end whose waits are all sooner
abbrev pub inserted : Wait → List Wait → List Wait
inserted t [] = t ∷ []
inserted t (w ∷ ws) = if list_all (is_sooner t) (w ∷ ws) then t ∷ w ∷ ws else w ∷ inserted t ws

-- the waits without that of an alarm
abbrev pub without : ℕ → List Wait → List Wait
without a [] = []
without a (w ∷ ws) = if w.alarm == a then ws else w ∷ without a ws

-- the wait of an alarm
abbrev pub wait_of : ℕ → List Wait → Option Wait
wait_of a [] = None
wait_of a (w ∷ ws) = if w.alarm == a then Some w else wait_of a ws

abbrev pub left_in : Option Wait → Option ℕ
left_in None = None
left_in (Some w) = Some w.left

-- its cycle
abbrev pub cycle_in : Option Wait → Option ℕ
cycle_in None = None
cycle_in (Some w) = Some w.cycle

-- so many counts less
abbrev pub less_by : ℕ → Wait → Wait
less_by n w = record w { left = w.left - n }

-- whether no wait is over
abbrev pub are_ahead : List Wait → Bool
are_ahead ws = list_all (λ w. nat_lt 0 w.left) ws

-- whether none is over after so many counts
abbrev pub are_beyond : ℕ → List Wait → Bool
are_beyond n ws = list_all (λ w. nat_lt n w.left) ws

-- so many counts are left of the wait that is over first
pub record IsSoonest (n : ℕ) (ws : List Wait) : Type 0 where
  pub least : list_all (λ w. nat_le n w.left) ws ≡ true
  pub some : list_any (λ w. w.left == n) ws ≡ true

-- whether an alarm has a wait, and whether each alarm has at most one
abbrev pub has : ℕ → List Wait → Bool
has a ws = list_any (λ w. w.alarm == a) ws

abbrev pub are_apart : List Wait → Bool
are_apart [] = true
are_apart (w ∷ ws) = not (has w.alarm ws) && are_apart ws

-- how many waits are over
abbrev pub overs : List Wait → ℕ
overs [] = 0
overs (w ∷ ws) = if w.left == 0 then overs ws + 1 else overs ws

-- whether a wait is over, and what it becomes then: it starts again with the cycle, or the alarm goes off
abbrev pub is_over : Option Wait → Bool
is_over None = false
is_over (Some w) = w.left == 0

abbrev pub again : Option Wait → Option Wait
again None = None
again (Some w) = if w.left == 0 then (if w.cycle == 0 then None else Some (record w { left = w.cycle })) else Some w

-- whether the bit of an alarm is set
abbrev pub is_raised : ℕ → ℕ → Bool
is_raised a word = bit_at word a == 1

-- no alarm is due from a number on and before another one
abbrev pub AreNoneRaised : ℕ → ℕ → ℕ → Type 0
AreNoneRaised word from to = (a : ℕ) → from ≤ a → a < to → is_raised a word ≡ false

-- an alarm is the first that is due from a number on and before another one
pub record IsFirstRaised (word from to a : ℕ) : Type 0 where
  pub from_on : from ≤ a
  pub before : a < to
  pub raised : is_raised a word ≡ true
  pub none : AreNoneRaised word from a

-- some alarms whose wait was over have started again, and their bits are set
pub record IsLeft (old : List Wait) (before : ℕ) (ws : List Wait) (due : ℕ) : Type 0 where
  pub waits_same : (a : ℕ) → again (wait_of a ws) ≡ again (wait_of a old)
  pub raised_same : (a : ℕ) → (is_raised a due || is_over (wait_of a ws)) ≡ (is_raised a before || is_over (wait_of a old))
  pub apart : are_apart ws ≡ true
  pub few : length ws ≤ MAX_ALARMS

-- a list with an alarm that expired: it starts again with its cycle, if it has one
abbrev pub restarted : ℕ → ℕ → List Wait → List Wait
restarted a cycle ws = if cycle == 0 then ws else inserted (record { alarm = a; left = cycle; cycle = cycle }) ws

-- the wait of the only alarm was over, and it has started again
pub record IsAgainAlone (a cycle : ℕ) (old new : List Wait) : Type 0 where
  pub cyclic : 0 < cycle
  pub over : old ≡ record { alarm = a; left = 0; cycle = cycle } ∷ []
  pub again : new ≡ restarted a cycle []

-- the expiry of an alarm by a count that never wraps: the present count and what is left
abbrev pub expiry_at : ℕ → Option Wait → Option Expiry
expiry_at n None = None
expiry_at n (Some w) = Some (record { count = n + w.left; cycle = w.cycle })

-- whether all alarms have numbers below n
abbrev pub are_low : ℕ → List Wait → Bool
are_low n ws = list_all (λ w. nat_lt w.alarm n) ws
