-- What boot leaves is the state that the definitions boot into.
use Rattle.std.proofs.Common.{◌≡◌, ℕ, ◌≤◌, Bool, List, [], ◌++◌, length, refl, sym, ◌∙◌, ap, ap₂, subst, arith}
use Rattle.osek_base.specs.declared.ids.Owner.{Owner}
use Rattle.osek_base.specs.declared.trace_event.TraceEvent.{TraceEvent}
use Rattle.osek_base.specs.Proper.{IsProper}
use Rattle.osek_base.specs.Reschedule.{hooked}
use Rattle.osek_base.specs.System.{System}
use Rattle.osek_base.specs.Trace.{starting_tasks, Run, boot, run, run_begun}
use Rattle.machine.specs.Windows.{word}
use Rattle.law_kept.specs.KeptTick.{all_activated_in, begun_in}
use Rattle.law_kept.specs.Moves.{KeptRecorded, rescheduled}
use Rattle.law_kept.proofs.Ticked.{boots}
use Rattle.services.specs.Objects.{Objects, kept_in, kept_of, no_words}
use Rattle.osek_base.specs.declared.arrivals.Arrival.{Arrival}
use Rattle.law_kept.specs.Kept.{Kept, kept}
use Rattle.law_blockers.proofs.StepLemmas.{tick_zero}
use Rattle.kernel.specs.declared.acted.Acted.{Acted}
use Rattle.kernel.specs.Stamping.{AreBegun}
use Rattle.kernel.specs.Machine.{HasCome, IsBooted, IsMachine, between}
use Rattle.kernel.specs.Processor.{IsStarted, Processor, at_tick, picture}
use Rattle.kernel.specs.Watches.{Blocking, IsFresh}
use Rattle.kernel.proofs.BootStamps.{boot_last, boot_listed}
use Rattle.kernel.proofs.WatchLemmas.{watched_of}
use Rattle.kernel.proofs.DoesLemmas.{processor_of}
use Rattle.kernel.proofs.ExecutionLemmas.{words_equal}
use Rattle.kernel.proofs.StartLemmas.{boot_is}

pub booted : (S : System) (mode : ℕ) (begun o : Objects) (words : List ℕ) (first opening : List TraceEvent) → IsProper S
    → begun.system ≡ S → kept_in begun ≡ all_activated_in S (starting_tasks S mode) (begun_in S mode)
    → first ≡ hooked S.hooks.startup TraceEvent.Startup
    → o.system ≡ begun.system → kept_in o ≡ (rescheduled begun.system (kept_in begun)).state
    → opening ≡ first ++ (rescheduled begun.system (kept_in begun)).events → length opening ≤ 3
    → ((who : Owner) (i : ℕ) → word words who i ≡ 0)
    → IsStarted S mode (processor_of o words) opening
booted S mode begun o words first opening proper begun_of begun_is startup system state told few zero =
    let dispatched : rescheduled begun.system (kept_in begun) ≡ rescheduled S (all_activated_in S (starting_tasks S mode) (begun_in S mode)) =
    ap₂ rescheduled begun_of begun_is in
    record {
      system = system ∙ begun_of;
      proper = proper;
      kept =
          ap (λ w. kept_of w o) (words_equal (word words) no_words zero)
          ∙ state ∙ ap (λ (r : KeptRecorded). r.state) dispatched
          ∙ sym (ap (λ (r : KeptRecorded). r.state) (boot_is S mode))
          ∙ sym (ap (λ (r : KeptRecorded). r.state) (boots S mode proper));
      events =
          told ∙ ap₂ (λ (u v : List TraceEvent). u ++ v) startup (ap (λ (r : KeptRecorded). r.events) dispatched)
          ∙ sym (ap (λ (r : KeptRecorded). r.events) (boot_is S mode))
          ∙ sym (ap (λ (r : KeptRecorded). r.events) (boots S mode proper));
      few = few;
    }

-- ---- a machine that was booted

run_zero : (S : System) (mode : ℕ) (arrivals : List Arrival) → run S mode arrivals 0 ≡ run_begun (boot S mode)
unfolding run
run_zero S mode arrivals = refl

module _ (counted : Bool) (S : System) (mode : ℕ) (p : Processor) (b : Blocking) (opening : List TraceEvent) (acted : Acted) (s : IsStarted S mode p opening)
    (fresh : IsFresh counted p b) where
  of_zero : (arrivals : List Arrival) → picture p ≡ kept S (run S mode arrivals 0).state
  of_zero arrivals = s.kept ∙ sym (ap (λ (r : Run). kept S r.state) (run_zero S mode arrivals))

  clock_zero : p.objects.tick ≡ 0
  clock_zero = ap (λ (k : Kept). k.tick) (of_zero []) ∙ tick_zero S mode []

  same_zero : picture (at_tick p 0) ≡ picture p
  same_zero = ap (λ t. picture (at_tick p t)) (sym clock_zero)

  come_zero : (arrivals : List Arrival) → HasCome counted S mode arrivals 0 (between (watched_of p b) 0 opening acted)
  come_zero arrivals = record {
    at = record {
      system = s.system;
      same = same_zero ∙ of_zero arrivals;
      unwritten = s.events ∙ sym (ap (λ (r : Run). r.unwritten) (run_zero S mode arrivals));
      stamped = λ on.
          boot_listed S mode arrivals (picture p) b.stamps s.proper (ap (λ (k : Kept). k.slots) (of_zero arrivals))
          (subst (λ (T : System). AreBegun (length T.tasks) (picture p) b.stamps) s.system (fresh.stamps on));
      levels = λ on. boot_last S mode arrivals b.told.last fresh.last;
    };
    numbered = λ on later. absurd (omega (arith, later));
    acted = λ later. absurd (omega (arith, later));
  }

  pub machine_begun : IsMachine counted p.objects.tick (between (watched_of p b) 0 opening acted)
  machine_begun = record {
    before = let zero_is = clock_zero in omega (arith, zero_is);
    limit = omega arith;
    few = s.few;
    none_later = λ later. absurd (omega (arith, later));
    of_run = record {
      proper = subst IsProper (sym s.system) s.proper;
      mode = mode;
      arrivals = [];
      arrive = record { known = tt; ordered = refl };
      come = subst (λ T. HasCome counted T mode [] 0 (between (watched_of p b) 0 opening acted)) (sym s.system) (come_zero []);
    };
  }

  pub machine_booted : IsBooted counted S mode (between (watched_of p b) 0 opening acted)
  machine_booted = record {
    system = s.system;
    proper = s.proper;
    first = refl;
    begins = λ arrivals. subst (λ T. HasCome counted T mode arrivals 0 (between (watched_of p b) 0 opening acted)) (sym s.system) (come_zero arrivals);
    of_run = machine_begun.of_run;
  }
