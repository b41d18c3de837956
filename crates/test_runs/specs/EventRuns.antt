-- OSEK/VDX OS: event mechanism. Worked runs with events, and classes of systems with extended tasks.
use Rattle.std.specs.Prelude.{◌≡◌, [], ◌∷◌, Some, codes}
use Rattle.osek_base.specs.declared.status.Class.{Class}
use Rattle.osek_base.specs.declared.ids.ResId.TheVariants.{Scheduler}
use Rattle.osek_base.specs.System.{System}
use Rattle.osek_base.specs.Proper.{IsProper}
use Rattle.osek_base.specs.Classes.{class_of}
use Rattle.test_runs.specs.Worked.{task, autostarted, listing_events, activating_from, of_tasks, with_event, with_alarm, IsWorkedRun, act, term, getr, relr, sete, clre, gete, wait}

abbrev pub released_is_newest : System
released_is_newest =
    with_alarm (activating_from 2 0 0)
    (with_event
    (of_tasks (codes "D" ∷ codes "X" ∷ codes "Y" ∷ [])
    (task 2 (act (Some 2) ∷ sete (Some 1) 1 ∷ term ∷ [])
    ∷ listing_events (1 ∷ []) (autostarted (task 1 (wait 1 ∷ term ∷ [])))
    ∷ listing_events (1 ∷ []) (task 1 (term ∷ []))
    ∷ [])))

abbrev pub events : System
events =
    with_event
    (of_tasks (codes "X" ∷ codes "Y" ∷ codes "D" ∷ [])
    (listing_events (1 ∷ []) (autostarted (task 2 (wait 1 ∷ gete (Some 0) ∷ clre 1 ∷ gete (Some 0) ∷ term ∷ [])))
    ∷ task 2 (term ∷ [])
    ∷ autostarted (task 1 (getr (Some Scheduler) ∷ act (Some 1) ∷ sete (Some 0) 1 ∷ relr (Some Scheduler) ∷ term ∷ []))
    ∷ []))

-- an extended task alone at its priority
abbrev pub extended_single : System
extended_single =
    with_alarm (activating_from 2 0 0)
    (with_event
    (of_tasks (codes "D" ∷ codes "X" ∷ [])
    (task 2 (sete (Some 1) 1 ∷ term ∷ [])
    ∷ listing_events (1 ∷ []) (autostarted (task 1 (wait 1 ∷ term ∷ [])))
    ∷ [])))

pub record EventRuns : Type 0 where
  pub run_released_is_newest :
      IsWorkedRun released_is_newest [] 8
      (codes "0 X 0 WAIT 0x00000001 = 0"
      ∷ codes "1 idle"
      ∷ codes "2 D 0 ACT Y = 0"
      ∷ codes "3 D 1 SETE X, 0x00000001 = 0"
      ∷ codes "4 D 2 TERM = 0"
      ∷ codes "5 Y 0 TERM = 0"
      ∷ codes "6 X 1 TERM = 0"
      ∷ codes "7 idle"
      ∷ [])
  pub class_released_is_newest : class_of released_is_newest ≡ Class.Ecc2
  pub run_events :
      IsWorkedRun events [] 11
      (codes "0 X 0 WAIT 0x00000001 = 0"
      ∷ codes "1 D 0 GETR RES_SCHEDULER = 0"
      ∷ codes "2 D 1 ACT Y = 0"
      ∷ codes "3 D 2 SETE X, 0x00000001 = 0"
      ∷ codes "4 D 3 RELR RES_SCHEDULER = 0"
      ∷ codes "5 Y 0 TERM = 0"
      ∷ codes "6 X 1 GETE X = 0 : 1"
      ∷ codes "7 X 2 CLRE 0x00000001 = 0"
      ∷ codes "8 X 3 GETE X = 0 : 0"
      ∷ codes "9 X 4 TERM = 0"
      ∷ codes "10 D 4 TERM = 0"
      ∷ [])
  pub proper_extended_single : IsProper extended_single
  pub class_extended_single : class_of extended_single ≡ Class.Ecc1
