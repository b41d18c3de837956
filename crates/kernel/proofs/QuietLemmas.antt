-- A quiet machine, and ticks that pass in a processor, the words of windows aside.
use Rattle.std.proofs.Common.{◌≡◌, ◌<◌, ◌≤◌, ℕ, List, ap, subst, arith}
use Rattle.law_kept.specs.Quiet.{IsQuiet}
use Rattle.machine.specs.Windows.{word}
use Rattle.services.specs.Objects.{Objects, kept_in, kept_of}
use Rattle.services.specs.Quiet.{HasPassed as PassesByObjects}
use Rattle.kernel.specs.Idle.{Passes, rested}
use Rattle.kernel.specs.Machine.{IsCore, Machine, picture, system_of}
use Rattle.kernel.specs.Watches.{Blocking, Watched}
use Rattle.kernel.proofs.DoesLemmas.{processor_of}
use Rattle.kernel.proofs.WatchLemmas.{watched_of}

pub quiet_by_core : (m : Machine) (o : Objects) → IsCore m o → IsQuiet o.system (kept_in o)
    → IsQuiet (system_of m) (picture m)
quiet_by_core m o is quiet =
    subst (λ (x : Objects). IsQuiet x.system (kept_of (word m.processor.words) x)) is.objects
    (record {
      on = quiet.on;
      nobody_runs = quiet.nobody_runs;
      none_ended = quiet.none_ended;
      none_ready = quiet.none_ready;
      no_routine = quiet.no_routine;
      none_pending = quiet.none_pending;
    })

pub passed_by_objects : (most k : ℕ) (w : Watched) (o n : Objects) (words : List ℕ) (b c : Blocking)
    → watched_of (processor_of o words) b ≡ w → k ≤ most → PassesByObjects k o n → 0 < k → c ≡ rested b
    → Passes most k w (watched_of (processor_of n words) c)
passed_by_objects most k w o n words b c is few passed some rests =
    subst (λ x. Passes most k x (watched_of (processor_of n words) c)) is
    (record {
      few = few;
      passed = record { none = λ i low. passed.none i low; after = ap (λ x. processor_of x words) passed.after };
      rested = λ more. rests;
      same = λ none. absurd (omega (arith, some, none));
    })
