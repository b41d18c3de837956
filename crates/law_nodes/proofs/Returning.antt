-- A routine that executes at a node stands at one of its steps behind that, if it hasn't ended.
use Rattle.std.proofs.Common.{◌≡◌, ℕ, true, false, List, [], ◌∷◌, refl, sym, ◌∙◌, subst}
use Rattle.std.specs.Prelude.{Option, Some, None, IfSome, slice_set}
use Rattle.std.specs.Option.{option_map}
use Rattle.osek_base.specs.declared.ids.Owner.{Owner}
use Rattle.osek_base.specs.declared.instr.Control.{Control}
use Rattle.osek_base.specs.declared.instr.Instr.{Instr}
use Rattle.osek_base.specs.declared.status.Status.{Status}
use Rattle.osek_base.specs.declared.trace_event.Results.{Results}
use Rattle.osek_base.specs.Instruction.{Context, next, plain}
use Rattle.osek_base.specs.Service.{RoutineCalls, first_refusal, refusals, reply_to, results, service}
use Rattle.osek_base.specs.State.{Active, State, interrupts_off}
use Rattle.osek_base.specs.System.{System, instruction_at}
use Rattle.osek_base.specs.Tick.{answered, at_values, executed, moved, status_number}
use Rattle.osek_base.specs.Types.{ServiceCall}
use Rattle.law_runs.proofs.Known.{IsCaller, executor_calls}
use Rattle.law_runs.proofs.Lists.{clash}
use Rattle.law_costs.specs.Left.{Switch, is_off, switch_of}
use Rattle.law_costs.specs.Known.{Executes, behind_by}
use Rattle.law_nodes.specs.Nodes.{Node, Table, is_at, is_told, of_routine}
use Rattle.law_nodes.specs.Services.{Nothing, answers, caller_by, refusals_of, replied, results_of, served, with_found}
use Rattle.law_nodes.specs.Steps.{steps, steps_by}
use Rattle.law_nodes.proofs.Answering.{answered_context, answered_is, answered_values, results_told}
use Rattle.law_nodes.proofs.Knowing.{AreValues}
use Rattle.law_nodes.proofs.Refusing.{first_told, refusals_told}
use Rattle.law_nodes.proofs.Standing.{at_is, node_of}
use Rattle.law_nodes.proofs.Stepping.{plain_told, told_first}
use Rattle.law_nodes.proofs.Telling.{routine_tells, routine_tells_running, told_each}

module _ (S : System) (s : State) (a : Active) (calls : s.active ≡ Some a)
    (registers : List (Option ℕ)) (used : ℕ) (all : AreValues registers a.context.registers) where
  abbrev x : Context
  x = a.context

  abbrev who : Owner
  who = Owner.Routine a.routine

  abbrev w : Switch
  w = switch_of s

  abbrev n : Node
  n = node_of (of_routine w a) registers used

  abbrev At : Switch → Table → Active → Type 0
  At v table b = is_told table (of_routine v b) ≡ true

  -- ---- a service

  pub routine_replied : (call : ServiceCall) (o : Option Status)
      → At w (replied S n call o)
      (moved (answered (reply_to S (RoutineCalls a) s (at_values x call) o).status
      (reply_to S (RoutineCalls a) s (at_values x call) o).results x) a)
  routine_replied call (Some refusal) =
      told_first (of_routine w (moved (answered refusal Results.Nothing x) a))
      (slice_set registers 0 (Some (status_number refusal))) used []
      (answered_values refusal Nothing Results.Nothing tt registers x all)
  routine_replied call None =
      subst (λ y. At w (replied S n call None) (moved y a))
      (sym (answered_is Status.Ok (results S s (at_values x call)) x))
      (told_first
      (of_routine w (moved (answered_context Status.Ok (results S s (at_values x call)) x) a))
      (with_found (results_of S who (caller_by who []) call)
      (slice_set registers 0 (Some (status_number Status.Ok)))) used []
      (answered_values Status.Ok (results_of S who (caller_by who []) call)
      (results S s (at_values x call))
      (results_told S s who (caller_by who []) (routine_tells_running S s a) x call) registers x
      all))

  served_told : (call : ServiceCall)
      → At w (served S n call)
      (moved (answered (service S (RoutineCalls a) s (at_values x call)).status
      (service S (RoutineCalls a) s (at_values x call)).results x) a)
  unfolding service
  served_told call =
      told_each (of_routine w there) (replied S n call) (answers S n call)
      ∙ first_told (λ o. is_told (replied S n call o) (of_routine w there))
      ((Some (is_off w), Status.SysDisabled) ∷ refusals_of S (caller_by who []) registers call)
      ((interrupts_off s, Status.SysDisabled) ∷ refusals S (RoutineCalls a) s (at_values x call)) (
        refl,
        refl,
        λ on.
            refusals_told S s (caller_by who []) (RoutineCalls a) (routine_tells S s a) x
            registers all on call,
      )
      (routine_replied call refusal)
    where
      refusal : Option Status
      refusal =
          first_refusal
          ((interrupts_off s, Status.SysDisabled)
          ∷ refusals S (RoutineCalls a) s (at_values x call))

      there : Active
      there =
          moved (answered (reply_to S (RoutineCalls a) s (at_values x call) refusal).status
          (reply_to S (RoutineCalls a) s (at_values x call) refusal).results x) a

  -- ---- an instruction

  abbrev e : Instr → State
  e what = (executed S who (RoutineCalls a) x what s).state

  pub routine_moves : (v : Switch) (table : Table) (y : Context) → At v table (moved y a)
      → IfSome (option_map (moved y) s.active) (At v table)
  routine_moves v table y told =
      subst (λ o. IfSome (option_map (moved y) o) (At v table)) (sym calls) told

  on_moved : (v : Switch)
      → IfSome (option_map (moved (next x)) s.active)
      (At v (node_of (of_routine v (moved (next x) a)) registers used ∷ []))
  on_moved v =
      routine_moves v (node_of (of_routine v (moved (next x) a)) registers used ∷ []) (next x)
      (told_first (of_routine v (moved (next x) a)) registers used [] all)

  pub active_told : (what : Instr) → (e what).over ≡ false
      → IfSome (e what).active (At (switch_of (e what)) (steps_by S what n))
  unfolding service
  active_told (Instr.Plain what) goes_on =
      routine_moves w (steps_by S (Instr.Plain what) n) (plain what x (s.words who)).context
      (plain_told (of_routine w a) registers used all (s.words who) what)
  active_told (Instr.Service call) goes_on =
      routine_moves w (served S n call)
      (answered (service S (RoutineCalls a) s (at_values x call)).status
      (service S (RoutineCalls a) s (at_values x call)).results x)
      (served_told call)
  active_told (Instr.Control Control.DisableAllInterrupts) goes_on =
      on_moved (switch_of (e (Instr.Control Control.DisableAllInterrupts)))
  active_told (Instr.Control Control.EnableAllInterrupts) goes_on =
      on_moved (switch_of (e (Instr.Control Control.EnableAllInterrupts)))
  active_told (Instr.Control Control.SuspendAllInterrupts) goes_on =
      on_moved (switch_of (e (Instr.Control Control.SuspendAllInterrupts)))
  active_told (Instr.Control Control.ResumeAllInterrupts) goes_on =
      on_moved (switch_of (e (Instr.Control Control.ResumeAllInterrupts)))
  active_told (Instr.Control Control.SuspendOsInterrupts) goes_on =
      on_moved (switch_of (e (Instr.Control Control.SuspendOsInterrupts)))
  active_told (Instr.Control Control.ResumeOsInterrupts) goes_on =
      on_moved (switch_of (e (Instr.Control Control.ResumeOsInterrupts)))
  active_told (Instr.Control (Control.ShutdownOs number)) goes_on = clash goes_on
  active_told (Instr.Control Control.ReturnFromInterrupt) goes_on = tt

-- ---- the law

pub routine_sound : (S : System) (s : State) (a : Active) → Executes S (RoutineCalls a) s
    → (n : Node) → is_at n (of_routine (switch_of s) a) ≡ true
    → IfSome (behind_by S (RoutineCalls a) s).active
    (λ b. is_told (steps S n) (of_routine (switch_of (behind_by S (RoutineCalls a) s)) b) ≡ true)
routine_sound S s a executes n at =
    let is = at_is n (of_routine (switch_of s) a) at in
    subst
    (λ m. IfSome (behind_by S (RoutineCalls a) s).active
    (λ b. is_told (steps S m) (of_routine (switch_of (behind_by S (RoutineCalls a) s)) b) ≡ true))
    (sym is.0)
    (active_told S s a (subst (IsCaller s) executes.calls (executor_calls s)) n.registers n.used
    is.1
    (instruction_at S (Owner.Routine a.routine) a.context.place) executes.goes_on)
