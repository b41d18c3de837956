-- Steps of a tick, one after another, and those that neither read nor change the words of windows.
use Rattle.std.proofs.Common.{◌≡◌, ℕ, ◌+◌, ◌<◌, ◌≤◌, List, ◌++◌, length, refl, sym, ◌∙◌, ap, ap₂, subst, append_assoc}
use Rattle.std.specs.Prelude.{Option, IfSome}
use Rattle.std.proofs.lemmas.List.{append-nil}
use Rattle.osek_base.specs.declared.trace_event.TraceEvent.{TraceEvent}
use Rattle.osek_base.specs.System.{System}
use Rattle.osek_base.specs.Alarm.{alarms_advanced, due_alarms}
use Rattle.law_kept.specs.KeptService.{bare}
use Rattle.osek_base.specs.State.{Words}
use Rattle.machine.specs.Windows.{word}
use Rattle.law_kept.specs.Kept.{Kept}
use Rattle.law_kept.specs.KeptTick.{and_then_in, silent_in, start_phase_in}
use Rattle.law_kept.specs.Moves.{KeptRecorded, contender, rescheduled}
use Rattle.law_kept.proofs.Words.{with_words, recorded_with, rescheduled_words, start_phase_words}
use Rattle.services.specs.Objects.{Objects, kept_in}
use Rattle.kernel.specs.Processor.{Processor, picture, system_of}
use Rattle.kernel.specs.Does.{Advances, Becomes, Does, Reschedules}

abbrev pub Step : Type 0
Step = System → Kept → KeptRecorded

abbrev pub processor_of : Objects → List ℕ → Processor
processor_of o words = record { objects = o; words = words }

-- ---- one after another

pub then_does : (f g : Step) (a b c : Processor) (first second third : List TraceEvent) → Does f a b first second → Does g b c second third
    → Does (λ S o. and_then_in (f S o) (g S)) a c first third
then_does f g a b c first second third x y = record {
  system = y.system ∙ x.system;
  kept = y.kept ∙ ap₂ (λ S o. (g S o).state) x.system x.kept;
  events =
      y.events
      ∙ ap₂ (λ (u v : List TraceEvent). u ++ v) x.events (ap₂ (λ S o. (g S o).events) x.system x.kept)
      ∙ append_assoc first _ _;
}

-- the same step by another name
pub does_same : (f g : Step) (a b : Processor) (before after : List TraceEvent) → f (system_of a) (picture a) ≡ g (system_of a) (picture a)
    → Does f a b before after → Does g a b before after
does_same f g a b before after same x = record {
  system = x.system;
  kept = x.kept ∙ ap (λ (r : KeptRecorded). r.state) same;
  events = x.events ∙ ap (λ (r : KeptRecorded). before ++ r.events) same;
}

-- nothing is done
pub does_nothing : (f : Step) (m : Processor) (before : List TraceEvent) → f (system_of m) (picture m) ≡ silent_in (picture m) → Does f m m before before
does_nothing f m before none = record {
  system = refl;
  kept = sym (ap (λ (r : KeptRecorded). r.state) none);
  events = sym (append-nil before) ∙ sym (ap (λ (r : KeptRecorded). before ++ r.events) none);
}

-- ---- steps of the objects alone

pub record IgnoresWords (f : Step) : Type 0 where
  pub same : (S : System) (w : Words) (o : Kept) → f S (with_words w o) ≡ recorded_with w (f S o)

pub does_by_objects : (f : Step) → IgnoresWords f → (m : Processor) (o n : Objects) (words : List ℕ) (before after : List TraceEvent)
    → processor_of o words ≡ m → n.system ≡ o.system → kept_in n ≡ (f o.system (kept_in o)).state
    → after ≡ before ++ (f o.system (kept_in o)).events
    → Does f m (processor_of n words) before after
does_by_objects f ignores m o n words before after is system kept events =
    let same = ignores.same o.system (word words) (kept_in o) in
    subst (λ x. Does f x (processor_of n words) before after) is
    (record {
      system = system;
      kept = ap (with_words (word words)) kept ∙ sym (ap (λ (r : KeptRecorded). r.state) same);
      events = events ∙ sym (ap (λ (r : KeptRecorded). before ++ r.events) same);
    })

pub rescheduled_ignores : IgnoresWords rescheduled
rescheduled_ignores = record { same = λ S w o. rescheduled_words S w o }

pub rescheduled_by_objects : (m : Processor) (o n : Objects) (words : List ℕ) (before after : List TraceEvent) (ran : Option ℕ)
    → processor_of o words ≡ m → n.system ≡ o.system → kept_in n ≡ (rescheduled o.system (kept_in o)).state
    → after ≡ before ++ (rescheduled o.system (kept_in o)).events → length after ≤ length before + 2
    → ran ≡ contender (kept_in o) → IfSome ran (λ t. t < length o.system.tasks)
    → Reschedules m (processor_of n words) before after ran
rescheduled_by_objects m o n words before after ran is system kept events few runner known = record {
  does = does_by_objects rescheduled rescheduled_ignores m o n words before after is system kept events;
  few = few;
  runner = subst (λ x. ran ≡ contender (picture x)) is runner;
  known = subst (λ x. IfSome ran (λ t. t < length (system_of x).tasks)) is known;
}

-- where objects alone say that a reschedule does nothing
pub nothing_by_objects : (m : Processor) (o : Objects) (words : List ℕ) → processor_of o words ≡ m → rescheduled o.system (kept_in o) ≡ silent_in (kept_in o)
    → rescheduled (system_of m) (picture m) ≡ silent_in (picture m)
nothing_by_objects m o words is none =
    subst (λ x. rescheduled (system_of x) (picture x) ≡ silent_in (picture x)) is
    (rescheduled_words o.system (word words) (kept_in o) ∙ ap (recorded_with (word words)) none)

pub started_by_objects : (m : Processor) (o n : Objects) (words : List ℕ) → processor_of o words ≡ m → n.system ≡ o.system
    → kept_in n ≡ start_phase_in o.system (kept_in o) → Becomes start_phase_in m (processor_of n words)
started_by_objects m o n words is system kept =
    subst (λ x. Becomes start_phase_in x (processor_of n words)) is
    (record {
      system = system;
      kept = ap (with_words (word words)) kept ∙ sym (start_phase_words o.system (word words) (kept_in o));
    })

pub advanced_by_objects : (m : Processor) (o n : Objects) (words due : List ℕ) → processor_of o words ≡ m
    → due ≡ due_alarms o.system (bare (record (kept_in o) { tick = o.tick + 1 }))
    → n ≡ record o { tick = o.tick + 1; alarms = alarms_advanced o.system (bare (record (kept_in o) { tick = o.tick + 1 })) }
    → Advances m (processor_of n words) due
advanced_by_objects m o n words due is due_is advanced =
    subst (λ x. Advances x (processor_of n words) due) is
    (record {
      due = due_is;
      advanced = record { system = ap (λ (x : Objects). x.system) advanced; kept = ap (λ x. picture (processor_of x words)) advanced };
    })
