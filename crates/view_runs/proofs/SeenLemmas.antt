-- What is seen of the ticks of a run, one after another.
use Rattle.std.proofs.Common.{◌≡◌, ℕ, zero, suc, ◌+◌, ◌<◌, nat_lt, cond, Bool, true, false, List, [], ◌∷◌, ◌++◌, map, length, refl, sym, ap, ap₂, subst, ◌∙◌, arith}
use Rattle.std.specs.Prelude.{None}
use Rattle.std.specs.Option.{option_map}
use Rattle.std.proofs.lemmas.Bool.{true≢false}
use Rattle.seen_ticks.specs.declared.observation.Observation.{Observation}
use Rattle.osek_base.specs.declared.arrivals.Arrival.{Arrival}
use Rattle.osek_base.specs.Lists.{below}
use Rattle.osek_base.specs.System.{System}
use Rattle.osek_base.specs.Trace.{arriving, run}
use Rattle.seen_ticks.specs.Told.{due_in}
use Rattle.seen_ticks.specs.Observed.{IsObserved, Ticked, alarm_seen, answered, failure_of, holders_seen, is_among, is_pending, lost_of, owner_of, routine_seen, task_seen, tick_at, times}
use Rattle.view_dumps.specs.Lines.{event_line}
use Rattle.seen_ticks.specs.Seen.{alike_ticks, numbered}
use Rattle.view_dumps.specs.Ticks.{events_from, events_text, expiry_text, loss_text}
use Rattle.view_dumps.specs.declared.variable.Variable.{Variable}
use Rattle.view_runs.specs.Seen.{AreSeen}

both : (a b : List ℕ) → a ≡ [] → b ≡ [] → a ++ b ≡ []
both a b p q = ap₂ (λ (x y : List ℕ). x ++ y) p q

-- ---- where no interrupt arrives and no alarm is due, no event fires

no_event_from : {T : Type 0} (text : ℕ → T → List ℕ) (f : ℕ → T) → ((n i : ℕ) → text n (f i) ≡ []) → (n : ℕ) (is : List ℕ)
    → events_from text n (map f is) ≡ []
no_event_from text f none n [] = refl
no_event_from text f none n (i ∷ is) = both _ _ (none n i) (no_event_from text f none (suc n) is)

none_lost : (n : ℕ) (was_pending : Bool) → cond (nat_lt 0 (lost_of was_pending 0)) (event_line (Variable.Lost n)) [] ≡ []
none_lost n true = refl
none_lost n false = refl

module _ (counted : Bool) (S : System) (mode : ℕ) (arrivals : List Arrival) (t : ℕ) where
  no_loss : arriving arrivals t ≡ [] → (n i : ℕ) → loss_text n (routine_seen (tick_at S mode arrivals t) i) ≡ []
  no_loss none n i =
      let was = is_pending (run S mode arrivals t).state i in
      ap (λ arrived. cond (nat_lt 0 (lost_of was (times i arrived))) (event_line (Variable.Lost n)) []) none ∙ none_lost n was

  no_expiry : due_in S mode arrivals t ≡ [] → (n a : ℕ) → expiry_text n (alarm_seen (tick_at S mode arrivals t) a) ≡ []
  no_expiry none n a = ap (λ due. cond (is_among due a) (event_line (Variable.Expiry n)) []) none

  pub no_event : (o : Observation) → IsObserved counted S mode arrivals t o → arriving arrivals t ≡ [] → due_in S mode arrivals t ≡ []
      → events_text o ≡ []
  no_event o is none_arrive none_due =
      let k : Ticked = tick_at S mode arrivals t in
      both _ _
      (ap (events_from loss_text 0) is.seen.routines
      ∙ no_event_from loss_text (routine_seen k) (no_loss none_arrive) 0 (below (length S.routines)))
      (ap (events_from expiry_text 0) is.seen.alarms
      ∙ no_event_from expiry_text (alarm_seen k) (no_expiry none_due) 0 (below (length S.alarms)))

-- ---- ticks in which the same is seen

pub length-alike : (o : Observation) (t n : ℕ) → length (alike_ticks o t n) ≡ n
length-alike o t zero = refl
length-alike o t (suc n) = ap suc (length-alike o (suc t) n)

pub alike_seen : (counted : Bool) (S : System) (mode : ℕ) (arrivals : List Arrival) (o : Observation) (t n : ℕ)
    → ((k : ℕ) → k < n → IsObserved counted S mode arrivals (t + k) (numbered (t + k) o)) → AreSeen counted S mode arrivals t (alike_ticks o t n)
alike_seen counted S mode arrivals o t zero each = tt
alike_seen counted S mode arrivals o t (suc n) each = (
  let here : t + 0 ≡ t = omega arith in
      subst (λ m. IsObserved counted S mode arrivals m (numbered m o)) here (each 0 (omega arith)),
  alike_seen counted S mode arrivals o (suc t) n (λ k low.
      let next : t + suc k ≡ suc t + k = omega arith in
      subst (λ m. IsObserved counted S mode arrivals m (numbered m o)) next (each (suc k) (omega (arith, low)))),
)

-- ---- ticks behind others

pub seen_behind : (counted : Bool) (S : System) (mode : ℕ) (arrivals : List Arrival) (t : ℕ) (seen more : List Observation) → AreSeen counted S mode arrivals t seen
    → AreSeen counted S mode arrivals (t + length seen) more → AreSeen counted S mode arrivals t (seen ++ more)
seen_behind counted S mode arrivals t [] more are and =
    let same : t + 0 ≡ t = omega arith in
    subst (λ m. AreSeen counted S mode arrivals m more) same and
seen_behind counted S mode arrivals t (o ∷ seen) more are and =
    let same : t + suc (length seen) ≡ suc t + length seen = omega arith in
    (are.0, seen_behind counted S mode arrivals (suc t) seen more are.1 (subst (λ m. AreSeen counted S mode arrivals m more) same and))

-- ---- of each tick something is seen

module _ (S : System) (mode : ℕ) (arrivals : List Arrival) where
  abbrev seen_at : ℕ → Observation
  seen_at t =
      let k : Ticked = tick_at S mode arrivals t in
      record {
        tick = t;
        executor = option_map owner_of k.executed;
        answered = answered k.executed;
        failure = failure_of k.executed;
        blockers = None;
        tasks = record { items = map (task_seen S k) (below (length S.tasks)) };
        routines = record { items = map (routine_seen k) (below (length S.routines)) };
        holders = record { items = holders_seen S k.at };
        alarms = record { items = map (alarm_seen k) (below (length S.alarms)) };
      }

  abbrev pub seen_from : ℕ → ℕ → List Observation
  seen_from t zero = []
  seen_from t (suc n) = seen_at t ∷ seen_from (suc t) n

  pub length-seen : (t n : ℕ) → length (seen_from t n) ≡ n
  length-seen t zero = refl
  length-seen t (suc n) = ap suc (length-seen (suc t) n)

  pub are_seen : (t n : ℕ) → AreSeen false S mode arrivals t (seen_from t n)
  are_seen t zero = tt
  are_seen t (suc n) = (
    record {
      number = refl;
      seen = record {
        executor = refl;
        answered = refl;
        failure = refl;
        tasks = refl;
        routines = refl;
        holders = refl;
        alarms = refl;
      };
      blockers = λ never. absurd (true≢false (sym never));
      uncounted = λ _. refl;
    },
    are_seen (suc t) n,
  )
