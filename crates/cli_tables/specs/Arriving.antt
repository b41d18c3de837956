-- OSEK/VDX OS: interrupt processing, category 2. How interrupts come, as a line says it, and the
-- rules that it says.
use Rattle.std.specs.Prelude.{ℕ, zero, suc, ◌+◌, ◌<◌, Bool, List, [], ◌∷◌, ◌++◌, Option, Some, None, is_some, unwrap_or, min, not, nat_lt, bytes_eq, if◌then◌else◌}
use Rattle.std.specs.Option.{option_or}
use Rattle.osek_base.specs.Names.{is_named}
use Rattle.arrival_rules.specs.declared.rule.ArrivalRule.{ArrivalRule}
use Rattle.cli_requests.specs.declared.arriving.RoutineTicks.{RoutineTicks}
use Rattle.cli_requests.specs.declared.arriving.SaidArriving.{SaidArriving}
use Rattle.cli_answers.specs.declared.verdict.ArrivingFault.{ArrivingFault}
use Rattle.cli_answers.specs.declared.verdict.ArrivingWord.{ArrivingWord}

-- the ticks that are said first of a routine of that name
abbrev pub said_of : List RoutineTicks → List ℕ → Option ℕ
said_of [] name = None
said_of (s ∷ said) name =
    if bytes_eq s.routine.now name then Some s.ticks else said_of said name

-- ---- rules

-- none comes of a routine that is said never to come; else the slack is a tick and the jitter
abbrev pub slack_of : SaidArriving → List ℕ → ℕ
slack_of said name =
    if is_some (said_of said.never.now name) then 0
    else min 4294967295 (unwrap_or (said_of said.jitter.now name) 0 + 1)

-- by its period, which is a tick where none is said
abbrev pub period_rule : SaidArriving → ℕ → List ℕ → ArrivalRule
period_rule said i name =
    record {
      routine = i;
      period = unwrap_or (said_of said.apart.now name) 1;
      slack = slack_of said name;
    }

-- by its least distance, where one is said
abbrev pub least_rule : ℕ → Option ℕ → List ArrivalRule
least_rule i None = []
least_rule i (Some ticks) = record { routine = i; period = ticks; slack = 1 } ∷ []

abbrev pub rules_of : SaidArriving → ℕ → List ℕ → List ArrivalRule
rules_of said i name = period_rule said i name ∷ least_rule i (said_of said.least.now name)

-- of routines of these names, numbered from one on
abbrev pub rules_from : SaidArriving → ℕ → List (List ℕ) → List ArrivalRule
rules_from said i [] = []
rules_from said i (name ∷ names) = rules_of said i name ++ rules_from said (i + 1) names

-- ---- what is wrong

-- the first that is of no routine, or of one of which the same was said before
abbrev pub first_fault : ArrivingWord → List (List ℕ) → List RoutineTicks → List RoutineTicks
    → Option ArrivingFault
first_fault word routines before [] = None
first_fault word routines before (s ∷ said) =
    if not (is_named s.routine.now routines) then Some (ArrivingFault.Unknown word s.routine)
    else (if is_some (said_of before s.routine.now)
    then Some (ArrivingFault.Twice word s.routine)
    else first_fault word routines (before ++ s ∷ []) said)

-- the first jitter of a routine of which no period is said
abbrev pub first_lone : List RoutineTicks → List RoutineTicks → Option ArrivingFault
first_lone periods [] = None
first_lone periods (s ∷ said) =
    if is_some (said_of periods s.routine.now) then first_lone periods said
    else Some (ArrivingFault.Lone s.routine)

-- the first least distance that is above the period
abbrev pub first_above : List RoutineTicks → List RoutineTicks → Option ArrivingFault
first_above periods [] = None
first_above periods (s ∷ said) =
    if nat_lt (unwrap_or (said_of periods s.routine.now) s.ticks) s.ticks
    then Some (ArrivingFault.Above s.routine)
    else first_above periods said

abbrev pub arriving_fault : List (List ℕ) → SaidArriving → Option ArrivingFault
arriving_fault routines said =
    option_or (first_fault ArrivingWord.Apart routines [] said.apart.now)
    (option_or (first_fault ArrivingWord.Jitter routines [] said.jitter.now)
    (option_or (first_fault ArrivingWord.Least routines [] said.least.now)
    (option_or (first_fault ArrivingWord.Never routines [] said.never.now)
    (option_or (first_lone said.apart.now said.jitter.now)
    (first_above said.apart.now said.least.now)))))
