-- States that are one but for their ticks and alarms, and what keeps that.
use Rattle.std.proofs.Common.{ℕ, ◌≡◌, ◌<◌, ◌/◌, List, ◌++◌, length, refl, sym, ◌∙◌, ap, ap₂, subst}
use Rattle.std.specs.Prelude.{Bool, true, Option, None, slice_index_or}
use Rattle.osek_base.specs.declared.trace_event.TraceEvent.{TraceEvent}
use Rattle.osek_base.specs.System.{System, counter, counter_of}
use Rattle.osek_base.specs.State.{Expiry}
use Rattle.law_kept.specs.Kept.{Kept}
use Rattle.law_kept.specs.Moves.{KeptRecorded}
use Rattle.law_kept.specs.KeptService.{KeptReply}
use Rattle.law_kept.specs.KeptTick.{and_then_in}
use Rattle.law_future.specs.Alike.{value_at, phase_at, untimed, HaveSameLeft}

-- the same at another tick, with other expiries
abbrev pub retimed : ℕ → List (Option Expiry) → Kept → Kept
retimed u bs o = record o { tick = u; alarms = bs }

abbrev pub recorded_at : ℕ → List (Option Expiry) → KeptRecorded → KeptRecorded
recorded_at u bs r = record r { state = retimed u bs r.state }

abbrev pub reply_at : ℕ → List (Option Expiry) → KeptReply → KeptReply
reply_at u bs r = record r { state = retimed u bs r.state }

-- ticks and tables of alarms, from the first phase of a tick to its end
pub record AreTimed (S : System) (valued : ℕ → Bool) (t : ℕ) (es : List (Option Expiry)) (u : ℕ) (bs : List (Option Expiry)) : Type 0 where
  pub values : (c : ℕ) → c < length S.counters → valued c ≡ true → value_at (counter S c) t ≡ value_at (counter S c) u
  pub phases : (c : ℕ) → c < length S.counters → phase_at (counter S c) t ≡ phase_at (counter S c) u
  pub one : length es ≡ length S.alarms
  pub other : length bs ≡ length S.alarms
  pub left : (a : ℕ) → a < length S.alarms
      → HaveSameLeft (t / (counter_of S a).ticks_per_base) (slice_index_or es a None) (u / (counter_of S a).ticks_per_base) (slice_index_or bs a None)

-- two states within a tick
pub record IsPair (S : System) (valued : ℕ → Bool) (o p : Kept) : Type 0 where
  pub rest : untimed o ≡ untimed p
  pub timed : AreTimed S valued o.tick o.alarms p.tick p.alarms

pub record AreRecorded (S : System) (valued : ℕ → Bool) (r q : KeptRecorded) : Type 0 where
  pub events : r.events ≡ q.events
  pub state : IsPair S valued r.state q.state

pub record AreReplies (S : System) (valued : ℕ → Bool) (r q : KeptReply) : Type 0 where
  pub status : r.status ≡ q.status
  pub results : r.results ≡ q.results
  pub state : IsPair S valued r.state q.state

pub as_retimed : (o p : Kept) → untimed o ≡ untimed p → p ≡ retimed p.tick p.alarms o
as_retimed o p same = ap (λ (x : Kept). retimed p.tick p.alarms x) (sym same)

module _ (S : System) (valued : ℕ → Bool) where
  -- a step that does the same at each tick, with all alarms
  pub keeps : (f : Kept → Kept) → ((u : ℕ) (bs : List (Option Expiry)) (x : Kept) → f (retimed u bs x) ≡ retimed u bs (f x))
      → (o p : Kept) → IsPair S valued o p → IsPair S valued (f o) (f p)
  keeps f commutes o p pair =
      let here : f o ≡ retimed o.tick o.alarms (f o) = commutes o.tick o.alarms o in
      let there : f p ≡ retimed p.tick p.alarms (f o) = ap f (as_retimed o p pair.rest) ∙ commutes p.tick p.alarms o in
      subst (λ (x : Kept). IsPair S valued x (f p)) (sym here)
      (subst (λ (y : Kept). IsPair S valued (retimed o.tick o.alarms (f o)) y) (sym there) (record { rest = refl; timed = pair.timed }))

  pub records_keep : (f : Kept → KeptRecorded) → ((u : ℕ) (bs : List (Option Expiry)) (x : Kept) → f (retimed u bs x) ≡ recorded_at u bs (f x))
      → (o p : Kept) → IsPair S valued o p → AreRecorded S valued (f o) (f p)
  records_keep f commutes o p pair = record {
    events = sym (ap (λ (x : Kept). (f x).events) (as_retimed o p pair.rest) ∙ ap (λ (r : KeptRecorded). r.events) (commutes p.tick p.alarms o));
    state = keeps (λ x. (f x).state) (λ u bs x. ap (λ (r : KeptRecorded). r.state) (commutes u bs x)) o p pair;
  }

  -- one thing after another
  pub joined : (f : Kept → KeptRecorded) → ((o p : Kept) → IsPair S valued o p → AreRecorded S valued (f o) (f p)) → (r q : KeptRecorded)
      → AreRecorded S valued r q → AreRecorded S valued (and_then_in r f) (and_then_in q f)
  joined f each r q same =
      let later : AreRecorded S valued (f r.state) (f q.state) = each r.state q.state same.state in
      record {
        events = ap₂ (λ (x y : List TraceEvent). x ++ y) same.events later.events;
        state = later.state;
      }
