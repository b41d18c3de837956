-- Interrupts as jobs find them: on, where jobs may be dispatched and behind a routine.
use Rattle.std.proofs.Common.{ℕ, ◌≡◌, Bool, true, false, cond, not, ◌&&◌, ◌||◌, nat_lt, refl, ap, arith}
use Rattle.std.specs.Prelude.{Option, Some, None, is_some}
use Rattle.std.specs.Option.{option_map}
use Rattle.std.proofs.Math.Path.{fun_ext}
use Rattle.std.proofs.lemmas.Bool.{and_parts, not-true}
use Rattle.osek_base.specs.declared.ids.Owner.{Owner}
use Rattle.osek_base.specs.declared.instr.Control.{Control}
use Rattle.osek_base.specs.declared.instr.Instr.{Instr}
use Rattle.osek_base.specs.Blocker.{is_job}
use Rattle.osek_base.specs.Instruction.{Context, next, plain}
use Rattle.osek_base.specs.Service.{Reply, RoutineCalls, service}
use Rattle.osek_base.specs.State.{Active, Job, State, interrupts_off, may_dispatch}
use Rattle.osek_base.specs.System.{System}
use Rattle.osek_base.specs.Tick.{answered, at_values, executed, moved}
use Rattle.law_runs.proofs.Lists.{clash}
use Rattle.law_costs.specs.Left.{Switch, on, switch_for, switch_of}

none_of : (n : ℕ) → nat_lt 0 n ≡ false → n ≡ 0
none_of n h = grind (arith, h)

pub on_of : (s : State) → interrupts_off s ≡ false → switch_of s ≡ on
on_of s off = go s.disabled (nat_lt 0 s.suspended_all) (nat_lt 0 s.suspended_os) refl refl refl off
  where
    go : (a b d : Bool) → s.disabled ≡ a → nat_lt 0 s.suspended_all ≡ b
        → nat_lt 0 s.suspended_os ≡ d → ((a || b) || d) ≡ false → switch_of s ≡ on
    go true b d x y z h = clash h
    go false true d x y z h = clash h
    go false false true x y z h = clash h
    go false false false x y z h =
        let all = none_of s.suspended_all y in
        let os = none_of s.suspended_os z in
        λ i. record { disabled = x i; suspended_all = all i; suspended_os = os i }

-- where jobs may be dispatched, no routine is active and interrupts are on
pub dispatching : (s : State) → may_dispatch s ≡ true
    → (is_some s.active ≡ false) × (switch_of s ≡ on)
dispatching s may =
    let both = and_parts (not (is_some s.active)) (not (interrupts_off s)) may in
    (not-true (is_some s.active) both.0, on_of s (not-true (interrupts_off s) both.1))

either_on : (b : Bool) (w : Switch) → w ≡ on → cond b w on ≡ on
either_on true w is = is
either_on false w is = refl

-- so each job finds them on
pub all_on : (s : State) → switch_of s ≡ on → switch_for s ≡ (λ j. on)
all_on s is =
    fun_ext (λ j. either_on (not (is_some s.active) && is_job s.running j.id) (switch_of s) is)

-- and so does one that doesn't run
pub idle_on : (s : State) (j : Job) → is_job s.running j.id ≡ false → switch_for s j ≡ on
idle_on s j idle = go (is_some s.active) (is_job s.running j.id) idle
  where
    go : (a b : Bool) → b ≡ false → cond (not a && b) (switch_of s) on ≡ on
    go true b h = refl
    go false true h = clash h
    go false false h = refl

-- ---- behind a routine

-- behind a routine each job finds interrupts on
pub behind_routine : (s : State) → is_some s.active ≡ true → switch_for s ≡ (λ j. on)
behind_routine s is =
    fun_ext (λ j. ap (λ b. cond (not b && is_job s.running j.id) (switch_of s) on) is)

pub some_moved : (x : Context) (o : Option Active) → is_some o ≡ true
    → is_some (option_map (moved x) o) ≡ true
some_moved x None is = is
some_moved x (Some a) is = refl

-- behind an instruction of a routine they find them on, and behind its end too
module _ (S : System) (s : State) (a : Active) (is : s.active ≡ Some a) (who : Owner)
    (x : Context) where
  abbrev there : Instr → State
  there what = (executed S who (RoutineCalls a) x what s).state

  pub find_on : (what : Instr) → switch_for (there what) ≡ (λ j. on)
  unfolding service
  find_on (Instr.Plain what) =
      behind_routine (there (Instr.Plain what))
      (some_moved (plain what x (s.words who)).context s.active (ap is_some is))
  find_on (Instr.Service call) =
      let r : Reply = service S (RoutineCalls a) s (at_values x call) in
      behind_routine (there (Instr.Service call))
      (some_moved (answered r.status r.results x) s.active (ap is_some is))
  find_on (Instr.Control Control.DisableAllInterrupts) =
      behind_routine (there (Instr.Control Control.DisableAllInterrupts))
      (some_moved (next x) s.active (ap is_some is))
  find_on (Instr.Control Control.EnableAllInterrupts) =
      behind_routine (there (Instr.Control Control.EnableAllInterrupts))
      (some_moved (next x) s.active (ap is_some is))
  find_on (Instr.Control Control.SuspendAllInterrupts) =
      behind_routine (there (Instr.Control Control.SuspendAllInterrupts))
      (some_moved (next x) s.active (ap is_some is))
  find_on (Instr.Control Control.ResumeAllInterrupts) =
      behind_routine (there (Instr.Control Control.ResumeAllInterrupts))
      (some_moved (next x) s.active (ap is_some is))
  find_on (Instr.Control Control.SuspendOsInterrupts) =
      behind_routine (there (Instr.Control Control.SuspendOsInterrupts))
      (some_moved (next x) s.active (ap is_some is))
  find_on (Instr.Control Control.ResumeOsInterrupts) =
      behind_routine (there (Instr.Control Control.ResumeOsInterrupts))
      (some_moved (next x) s.active (ap is_some is))
  find_on (Instr.Control (Control.ShutdownOs n)) =
      behind_routine (there (Instr.Control (Control.ShutdownOs n)))
      (some_moved (next x) s.active (ap is_some is))
  find_on (Instr.Control Control.ReturnFromInterrupt) =
      all_on (there (Instr.Control Control.ReturnFromInterrupt)) refl
