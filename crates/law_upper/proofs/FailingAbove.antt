-- A service that fails in a tick of a run whose tasks are all upper fails in that of each system
-- that agrees.
use Rattle.std.proofs.Common.{◌≡◌, ℕ, ◌<◌, Bool, true, false, cond, List, length, refl, sym, ◌∙◌, ap}
use Rattle.std.specs.Prelude.{IfSome, Option, Some, None, nat_lt}
use Rattle.osek_base.specs.declared.arrivals.Arrival.{Arrival}
use Rattle.osek_base.specs.declared.executed.Executed.{Executed}
use Rattle.osek_base.specs.declared.ids.Owner.{Owner}
use Rattle.osek_base.specs.declared.status.Status.{Status}
use Rattle.osek_base.specs.Lists.{same_owner}
use Rattle.osek_base.specs.System.{System}
use Rattle.osek_base.specs.Tick.{status_number}
use Rattle.osek_base.specs.Trace.{arriving, run}
use Rattle.osek_base.specs.Upper.{is_upper_owner, is_upper_task}
use Rattle.law_runs.proofs.Foremost.{self_equal}
use Rattle.law_runs.proofs.Lists.{none_some}
use Rattle.seen_ticks.specs.declared.failures.Failure.{Failure}
use Rattle.seen_ticks.specs.Observed.{failure_by, failure_of, is_by, status_of, tick_at}
use Rattle.law_upper.specs.Above.{AreOneAbove}
use Rattle.law_upper.specs.ShownAbove.{TicksShowTheSame, if_upper}
use Rattle.law_upper.proofs.Below.{known}
use Rattle.law_upper.proofs.OneTick.{by_is}
use Rattle.law_upper.proofs.Sides.{run_beside}

own : (who : Owner) → same_owner who who ≡ true
own (Owner.Task t) = self_equal t
own (Owner.Routine i) = self_equal i

-- what of a failure is upper is that failure
told_above : (T : System) (p : ℕ) (x : Failure) (o : Option Failure) → if_upper T p o ≡ Some x
    → o ≡ Some x
told_above T p x None told = absurd (none_some x told)
told_above T p x (Some y) told = by (is_upper_owner T p y.owner) told
  where
    by : (b : Bool) → cond b (Some y) None ≡ Some x → Some y ≡ Some x
    by true is = is
    by false is = absurd (none_some x is)

module _ (S B : System) (p : ℕ) (pair : AreOneAbove S B p) (shown : TicksShowTheSame S B p)
    (all : (t : ℕ) → t < length S.tasks → is_upper_task S p t ≡ true) (mode : ℕ)
    (arrivals : List Arrival) (n : ℕ) (going : (run S mode arrivals n).state.over ≡ false) where
  abbrev executed : Option Executed
  executed = (tick_at S mode arrivals n).executed

  owner_upper : (who : Owner) → is_by who executed ≡ true → is_upper_owner S p who ≡ true
  owner_upper (Owner.Routine i) by = refl
  owner_upper (Owner.Task u) by =
      all u (known S p pair.proper pair.separable (arriving arrivals n)
      (run S mode arrivals n).state
      (run_beside S p pair.proper pair.separable mode arrivals n).layered u
      (sym (by_is S pair.proper mode arrivals n going (Owner.Task u)) ∙ by))

  carried : (x : Failure) → is_upper_owner S p x.owner ≡ true → failure_of executed ≡ Some x
      → failure_of (tick_at B mode arrivals n).executed ≡ Some x
  carried x high fails =
      told_above B p x (failure_of (tick_at B mode arrivals n).executed)
      (sym (shown mode arrivals n going).failures
      ∙ ap (if_upper S p) fails
      ∙ ap (λ (b : Bool). cond b (Some x) None) high)

  abbrev IsThere : Option Failure → Type 0
  IsThere o = IfSome o (λ x. failure_of (tick_at B mode arrivals n).executed ≡ Some x)

  pub failure_there : IfSome (failure_of executed)
      (λ x. failure_of (tick_at B mode arrivals n).executed ≡ Some x)
  failure_there = of executed refl
    where
      fails : (e : Executed) (answer : Status) (b : Bool) → is_by e.owner executed ≡ true
          → failure_of executed
          ≡ cond b (Some (record { owner = e.owner; place = e.place; status = answer })) None
          → IsThere (cond b (Some (record { owner = e.owner; place = e.place; status = answer }))
          None)
      fails e answer true by is =
          carried (record { owner = e.owner; place = e.place; status = answer })
          (owner_upper e.owner by) is
      fails e answer false by is = tt

      answers : (e : Executed) (o : Option Status) → is_by e.owner executed ≡ true
          → failure_of executed ≡ failure_by e o → IsThere (failure_by e o)
      answers e None by is = tt
      answers e (Some answer) by is =
          fails e answer (nat_lt 0 (status_number answer)) by is

      of : (o : Option Executed) → executed ≡ o → IsThere (failure_of o)
      of None e = tt
      of (Some x) e =
          answers x (status_of x.outcome) (ap (is_by x.owner) e ∙ own x.owner) (ap failure_of e)
