-- A tick records one instruction at most, and that is of who executes.
use Rattle.std.proofs.Common.{◌≡◌, ℕ, false, List, [], ◌∷◌, ◌++◌, refl, ◌∙◌, ap, arith, true≢false}
use Rattle.std.specs.Prelude.{Option, Some, None, ◌==◌}
use Rattle.std.specs.List.{filter_map}
use Rattle.std.proofs.lemmas.List.Elements.{filter_map-append}
use Rattle.osek_base.specs.declared.executed.Executed.{Executed}
use Rattle.osek_base.specs.declared.ids.Owner.{Owner}
use Rattle.osek_base.specs.declared.instr.Instr.{Instr}
use Rattle.osek_base.specs.declared.trace_event.Outcome.{Outcome}
use Rattle.osek_base.specs.declared.trace_event.Source.{Source}
use Rattle.osek_base.specs.declared.trace_event.TraceEvent.{TraceEvent}
use Rattle.osek_base.specs.Instruction.{Context, plain}
use Rattle.osek_base.specs.Service.{Caller, JobCalls, NobodyCalls, Reply, RoutineCalls, service}
use Rattle.osek_base.specs.State.{State}
use Rattle.osek_base.specs.System.{System, instruction_at}
use Rattle.osek_base.specs.Tick.{at_values, before_execution, caller_executes, error_record, execute_phase, executed, executor, last_phase, shutdown_record, tick}
use Rattle.law_runs.proofs.Records.{NoneExecuted, is_executed, none_append, none_before, none_error, none_last, none_shutdown}
use Rattle.seen_ticks.specs.Observed.{executed_in, is_by}
use Rattle.law_upper.specs.StatesAbove.{executes, is_caller}

-- ---- records with one instruction at most

-- the record of an instruction at its place, or that nobody executes
abbrev pub record_of : System → Option Executed → TraceEvent
record_of S None = TraceEvent.Idle
record_of S (Some e) =
    TraceEvent.Executed e.owner e.place (instruction_at S e.owner e.place) e.outcome

pub record TellsOne (S : System) (events : List TraceEvent) : Type 0 where
  pub told : Option Executed
  pub before : List TraceEvent
  pub behind : List TraceEvent
  pub none_before : NoneExecuted before
  pub none_behind : NoneExecuted behind
  pub shape : events ≡ before ++ record_of S told ∷ behind

-- what goes by the records of instructions alone
abbrev pub GoesByExecuted : {X : Type 0} → (TraceEvent → Option X) → Type 0
GoesByExecuted f = (e : TraceEvent) → is_executed e ≡ false → f e ≡ None

module _ {X : Type 0} (f : TraceEvent → Option X) (only : GoesByExecuted f) where
  tells_none : (events : List TraceEvent) → NoneExecuted events → filter_map f events ≡ []
  tells_none [] none = refl
  tells_none (e ∷ events) none = rw (only e none.0) (tells_none events none.1)

  tells_behind : (before events : List TraceEvent) → NoneExecuted before
      → filter_map f (before ++ events) ≡ filter_map f events
  tells_behind before events none =
      filter_map-append f before events
      ∙ ap (λ (xs : List X). xs ++ filter_map f events) (tells_none before none)

  tells_first : (e : TraceEvent) (behind : List TraceEvent) → NoneExecuted behind
      → filter_map f (e ∷ behind) ≡ filter_map f (e ∷ [])
  tells_first e behind none =
      filter_map-append f (e ∷ []) behind
      ∙ ap (λ (xs : List X). filter_map f (e ∷ []) ++ xs) (tells_none behind none)
      ∙ nothing (filter_map f (e ∷ []))
    where
      nothing : (zs : List X) → zs ++ [] ≡ zs
      nothing [] = refl
      nothing (z ∷ zs) = ap (λ rest. z ∷ rest) (nothing zs)

  pub told_of_one : (S : System) (events : List TraceEvent) (one : TellsOne S events)
      → filter_map f events ≡ filter_map f (record_of S one.told ∷ [])
  told_of_one S events one =
      ap (filter_map f) one.shape
      ∙ tells_behind one.before (record_of S one.told ∷ one.behind) one.none_before
      ∙ tells_first (record_of S one.told) one.behind one.none_behind

executed_behind : (before events : List TraceEvent) → NoneExecuted before
    → executed_in (before ++ events) ≡ executed_in events
executed_behind [] events none = refl
executed_behind (TraceEvent.Executed who place what outcome ∷ before) events none =
    absurd (true≢false none.0)
executed_behind (_ ∷ before) events none = executed_behind before events none.1

none_executed : (events : List TraceEvent) → NoneExecuted events → executed_in events ≡ None
none_executed [] none = refl
none_executed (TraceEvent.Executed who place what outcome ∷ events) none =
    absurd (true≢false none.0)
none_executed (_ ∷ events) none = none_executed events none.1

executed_first : (S : System) (told : Option Executed) (behind : List TraceEvent)
    → NoneExecuted behind → executed_in (record_of S told ∷ behind) ≡ told
executed_first S None behind none = none_executed behind none
executed_first S (Some e) behind none = refl

pub executed_of_one : (S : System) (events : List TraceEvent) (one : TellsOne S events)
    → executed_in events ≡ one.told
executed_of_one S events one =
    ap executed_in one.shape
    ∙ executed_behind one.before (record_of S one.told ∷ one.behind) one.none_before
    ∙ executed_first S one.told one.behind one.none_behind

-- ---- an instruction

record IsOf (S : System) (c : Caller) (events : List TraceEvent) : Type 0 where
  told : Option Executed
  behind : List TraceEvent
  none_behind : NoneExecuted behind
  shape : events ≡ record_of S told ∷ behind
  caller : (who : Owner) → is_by who told ≡ is_caller who c

abbrev IsOfOwner : System → Owner → Caller → Context → Instr → State → Type 0
IsOfOwner S who c x what s =
    what ≡ instruction_at S who x.place
    → ((other : Owner) (place : ℕ) (outcome : Outcome)
    → is_by other (Some (record { owner = who; place = place; outcome = outcome }))
    ≡ is_caller other c)
    → IsOf S c (executed S who c x what s).events

owner_one : (S : System) (who : Owner) (c : Caller) (x : Context) (what : Instr) (s : State)
    → IsOfOwner S who c x what s
owner_one S who c x (Instr.Plain act) s at own = record {
  told = Some (record {
    owner = who;
    place = x.place;
    outcome = Outcome.Plain (plain act x (s.words who)).effect;
  });
  behind = [];
  none_behind = tt;
  shape =
      ap (λ w. TraceEvent.Executed who x.place w
      (Outcome.Plain (plain act x (s.words who)).effect) ∷ []) at;
  caller = λ other. own other x.place (Outcome.Plain (plain act x (s.words who)).effect);
}
owner_one S who c x (Instr.Control control) s at own = record {
  told = Some (record { owner = who; place = x.place; outcome = Outcome.Control });
  behind = shutdown_record S control;
  none_behind = none_shutdown S control;
  shape =
      ap (λ w. TraceEvent.Executed who x.place w Outcome.Control ∷ shutdown_record S control) at;
  caller = λ other. own other x.place Outcome.Control;
}
owner_one S who c x (Instr.Service call) s at own =
    let r : Reply = service S c s (at_values x call) in
    record {
      told = Some (record {
        owner = who;
        place = x.place;
        outcome = Outcome.Answer r.status r.results;
      });
      behind = error_record S (Source.Owner who) (Instr.Service call) r.status;
      none_behind = none_error S (Source.Owner who) (Instr.Service call) r.status;
      shape =
          ap (λ w. TraceEvent.Executed who x.place w (Outcome.Answer r.status r.results)
          ∷ error_record S (Source.Owner who) (Instr.Service call) r.status) at;
      caller = λ other. own other x.place (Outcome.Answer r.status r.results);
    }

same_number : (m n : ℕ) → (m == n) ≡ (n == m)
same_number m n = grind arith

caller_one : (S : System) (c : Caller) (s : State) → IsOf S c (caller_executes S c s).events
caller_one S NobodyCalls s = record {
  told = None;
  behind = [];
  none_behind = tt;
  shape = refl;
  caller = nobody;
}
  where
    nobody : (who : Owner) → false ≡ is_caller who NobodyCalls
    nobody (Owner.Task t) = refl
    nobody (Owner.Routine i) = refl
caller_one S (JobCalls j) s =
    owner_one S (Owner.Task j.id.task) (JobCalls j) j.context
    (instruction_at S (Owner.Task j.id.task) j.context.place) s refl own
  where
    own : (other : Owner) (place : ℕ) (outcome : Outcome)
        → is_by other (Some (record {
          owner = Owner.Task j.id.task;
          place = place;
          outcome = outcome;
        })) ≡ is_caller other (JobCalls j)
    own (Owner.Task t) place outcome = same_number t j.id.task
    own (Owner.Routine i) place outcome = refl
caller_one S (RoutineCalls a) s =
    owner_one S (Owner.Routine a.routine) (RoutineCalls a) a.context
    (instruction_at S (Owner.Routine a.routine) a.context.place) s refl own
  where
    own : (other : Owner) (place : ℕ) (outcome : Outcome)
        → is_by other (Some (record {
          owner = Owner.Routine a.routine;
          place = place;
          outcome = outcome;
        })) ≡ is_caller other (RoutineCalls a)
    own (Owner.Task t) place outcome = refl
    own (Owner.Routine i) place outcome = same_number i a.routine

-- ---- a tick

pub record TickTells (S : System) (arrived : List ℕ) (s : State) : Type 0 where
  pub one : TellsOne S (tick S arrived s).events
  pub caller : (who : Owner) → is_by who one.told ≡ executes (tick S arrived s).executing who

phase_one : (S : System) (s : State) → IsOf S (executor s) (execute_phase S s).events
unfolding execute_phase
phase_one S s = caller_one S (executor s) s

pub tick_tells_one : (S : System) (arrived : List ℕ) (s : State) → TickTells S arrived s
unfolding tick
tick_tells_one S arrived s =
    let ready : State = (before_execution S arrived s).state in
    let here : IsOf S (executor ready) (execute_phase S ready).events = phase_one S ready in
    let last : List TraceEvent =
    (last_phase S (execute_phase S ready).state).events in
    let earlier : List TraceEvent = (before_execution S arrived s).events in
    record {
      one = record {
        told = here.told;
        before = earlier;
        behind = here.behind ++ last;
        none_before = none_before S arrived s;
        none_behind =
            none_append here.behind last here.none_behind
            (none_last S (execute_phase S ready).state);
        shape = ap (λ (xs : List TraceEvent). earlier ++ (xs ++ last)) here.shape;
      };
      caller = here.caller;
    }
