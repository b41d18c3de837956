-- What writing a tick of a run needs, and what it does.
use Rattle.std.specs.Prelude.{◌≡◌, ℕ, ◌+◌, ◌<◌, ◌≤◌, Bool, true, false, List, Option, Ok}
use Rattle.std.specs.declared.result.Result.{Result}
use Rattle.osek_base.specs.declared.arrivals.Arrival.{Arrival}
use Rattle.osek_base.specs.declared.limits.TheConstants.{MAX_TICKS}
use Rattle.osek_base.specs.System.{System}
use Rattle.kernel.specs.Progress.{Progress, run_of}
use Rattle.trace_lines.specs.Lines.{texts_from}
use Rattle.sinks.specs.Sinks.{PutsBehind}
use Rattle.trace_lines.specs.declared.idle_lines.IdleWord.{IdleWord}
use Rattle.tracer.specs.Shown.{is_blocking, tick_text_shown}
use Rattle.tracer.specs.declared.shown.Shown.{Shown}

-- the next tick of a run can be written, if the run isn't over: the system is that of the texts, the digits are the tick's, and
-- blockers are counted where their numbers are shown, and nowhere else
pub record MayPass (V : System) (shown : Shown) (are_counted : Bool) (digits : ℕ) (r : Progress) : Type 0 where
  pub system : r.system ≡ V
  pub counted : digits ≡ r.ticks
  pub blockers : are_counted ≡ is_blocking shown
  pub few : r.ticks < MAX_TICKS

-- the next tick of a run is done, and what is shown of it passed by way of the block to the sink
pub record TickPasses {X T E : Type 0} (taken : X → Option (List ℕ)) (has_failed : X → Bool) (V : System) (shown : Shown)
    (r after : Progress) (old new : X) (waited waits : List ℕ) (answer : Result T E) : Type 0 where
  pub on : (run_of r).state.over ≡ false
  pub puts : PutsBehind taken has_failed old new waited waits (tick_text_shown V shown r.system r.mode r.arrivals r.ticks) answer
  pub next : after ≡ record r { ticks = r.ticks + 1 }

-- the run is over: nothing is done and nothing passed
pub record IsOver {X : Type 0} (r after : Progress) (old new : X) (waited waits : List ℕ) : Type 0 where
  pub over : (run_of r).state.over ≡ true
  pub same : after ≡ r
  pub sink : new ≡ old
  pub block : waits ≡ waited

-- one or the other, and the answer is which
abbrev pub PassesIfOn : {X E : Type 0} → (X → Option (List ℕ)) → (X → Bool) → System → Shown → Progress → Progress → X → X
    → List ℕ → List ℕ → Result Bool E → Type 0
PassesIfOn taken has_failed V shown r after old new waited waits (Ok false) = IsOver r after old new waited waits
PassesIfOn taken has_failed V shown r after old new waited waits answer =
    TickPasses taken has_failed V shown r after old new waited waits answer

-- the ticks that follow can be passed in which nothing happens, up to so many: the digits are those of the next tick
pub record MayPassIdle (digits ticks : ℕ) (r : Progress) : Type 0 where
  pub counted : digits ≡ r.ticks
  pub before : r.ticks ≤ ticks
  pub few : ticks ≤ MAX_TICKS

-- lines go on as they were made: by texts of the same system, and the same is shown
pub record SameLines (V W : System) (shown showing : Shown) : Type 0 where
  pub texts : W ≡ V
  pub shows : showing ≡ shown

-- what the line of a tick says in which nothing happens
abbrev pub idle_word : Shown → IdleWord
idle_word Shown.All = IdleWord.Idle
idle_word Shown.Blocking = IdleWord.Idle
idle_word (Shown.View p) = IdleWord.Other

-- what is written of n ticks of a run, from tick t on
abbrev pub ticks_text_shown : System → Shown → System → ℕ → List Arrival → ℕ → ℕ → List ℕ
ticks_text_shown V shown S mode arrivals = texts_from (tick_text_shown V shown S mode arrivals)

-- some ticks of a run are done, none or more, before each of which it goes on, and what is shown of them passed by way of the
-- block to the sink
pub record IdlePasses {X T E : Type 0} (taken : X → Option (List ℕ)) (has_failed : X → Bool) (V : System) (shown : Shown)
    (r after : Progress) (old new : X) (waited waits : List ℕ) (answer : Result T E) : Type 0 where
  pub count : ℕ
  pub puts : PutsBehind taken has_failed old new waited waits (ticks_text_shown V shown r.system r.mode r.arrivals r.ticks count) answer
  pub going : (k : ℕ) → k < count → (run_of (record r { ticks = r.ticks + k })).state.over ≡ false
  pub next : after ≡ record r { ticks = r.ticks + count }
