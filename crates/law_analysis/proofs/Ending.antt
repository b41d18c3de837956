-- A run is over behind a tick only where who executes is at a node that ends it.
use Rattle.std.proofs.Common.{◌≡◌, ℕ, suc, Bool, true, false, List, refl, sym, ◌∙◌, ap}
use Rattle.osek_base.specs.declared.arrivals.Arrival.{Arrival}
use Rattle.osek_base.specs.declared.ids.Owner.{Owner}
use Rattle.osek_base.specs.declared.instr.Control.{Control}
use Rattle.osek_base.specs.declared.instr.Instr.{Instr}
use Rattle.osek_base.specs.Instruction.{Context}
use Rattle.osek_base.specs.Proper.{IsProper}
use Rattle.osek_base.specs.Service.{Caller, JobCalls, NobodyCalls, RoutineCalls, service}
use Rattle.osek_base.specs.State.{State}
use Rattle.osek_base.specs.System.{System, instruction_at}
use Rattle.osek_base.specs.Tick.{caller_executes, execute_phase, executed, executor, tick}
use Rattle.osek_base.specs.Trace.{arriving, run}
use Rattle.law_runs.proofs.Lists.{clash}
use Rattle.law_runs.proofs.RankedTick.{over_before}
use Rattle.law_runs.proofs.RunSteps.{run_tick, state_more}
use Rattle.law_windows.proofs.Routines.{behind_over}
use Rattle.law_costs.specs.Known.{IsKnownCaller, at_instruction}
use Rattle.law_costs.specs.Left.{switch_of}
use Rattle.law_costs.proofs.InTicks.{at_is}
use Rattle.law_nodes.specs.Closed.{is_closed, known_by}
use Rattle.law_nodes.specs.Nodes.{Node, Standing, Table, is_at, is_told, of_job, of_routine}
use Rattle.law_nodes.proofs.Closing.{runs_are_told}
use Rattle.law_nodes.proofs.Standing.{at_is as is_node}
use Rattle.law_nodes.proofs.Tests.{any_weaker}
use Rattle.law_analysis.specs.Told.{is_shutdown, may_end}

-- ---- an instruction

ends_by : (S : System) (who : Owner) (c : Caller) (x : Context) (what : Instr) (s : State)
    → s.over ≡ false → (executed S who c x what s).state.over ≡ true → is_shutdown what ≡ true
unfolding service
ends_by S who c x (Instr.Plain act) s going over = clash (sym over ∙ going)
ends_by S who c x (Instr.Service call) s going over = clash (sym over ∙ going)
ends_by S who c x (Instr.Control Control.DisableAllInterrupts) s going over =
    clash (sym over ∙ going)
ends_by S who c x (Instr.Control Control.EnableAllInterrupts) s going over =
    clash (sym over ∙ going)
ends_by S who c x (Instr.Control Control.SuspendAllInterrupts) s going over =
    clash (sym over ∙ going)
ends_by S who c x (Instr.Control Control.ResumeAllInterrupts) s going over =
    clash (sym over ∙ going)
ends_by S who c x (Instr.Control Control.SuspendOsInterrupts) s going over =
    clash (sym over ∙ going)
ends_by S who c x (Instr.Control Control.ResumeOsInterrupts) s going over =
    clash (sym over ∙ going)
ends_by S who c x (Instr.Control (Control.ShutdownOs number)) s going over = refl
ends_by S who c x (Instr.Control Control.ReturnFromInterrupt) s going over =
    clash (sym over ∙ going)

-- who stands at a node of a table executes the node's instruction
node_ends : (S : System) (table : Table) (x : Standing) → is_told table x ≡ true
    → is_shutdown (instruction_at S x.owner x.context.place) ≡ true → may_end S table ≡ true
node_ends S table x told ends =
    any_weaker (λ n. is_at n x) (λ n. is_shutdown (instruction_at S n.owner n.place)) table
    (λ n at.
    ap (λ (m : Node). is_shutdown (instruction_at S m.owner m.place)) (is_node n x at).0 ∙ ends)
    told

module _ (S : System) (table : Table) (s : State) (going : s.over ≡ false) where
  caller_ends : (c : Caller) → IsKnownCaller (known_by table) (switch_of s) c
      → (caller_executes S c s).state.over ≡ true → may_end S table ≡ true
  caller_ends (JobCalls j) told over =
      node_ends S table (of_job (switch_of s) j) told
      (ends_by S (Owner.Task j.id.task) (JobCalls j) j.context
      (instruction_at S (Owner.Task j.id.task) j.context.place) s going over)
  caller_ends (RoutineCalls a) told over =
      node_ends S table (of_routine (switch_of s) a) told
      (ends_by S (Owner.Routine a.routine) (RoutineCalls a) a.context
      (instruction_at S (Owner.Routine a.routine) a.context.place) s going over)
  caller_ends NobodyCalls told over = clash (sym over ∙ going)

  phase_ends : IsKnownCaller (known_by table) (switch_of s) (executor s)
      → (execute_phase S s).state.over ≡ true → may_end S table ≡ true
  unfolding execute_phase
  phase_ends told over = caller_ends (executor s) told over

-- ---- a tick of a run

module _ (S : System) (mode : ℕ) (arrivals : List Arrival) (proper : IsProper S) (table : Table)
    (closed : is_closed S table ≡ true) (n : ℕ)
    (going : (run S mode arrivals n).state.over ≡ false) where
  abbrev here : State
  here = (run S mode arrivals n).state

  abbrev at : State
  at = at_instruction S mode arrivals n

  at_goes : at.over ≡ false
  at_goes =
      ap (λ (s : State). s.over) (sym (at_is S proper mode arrivals n going))
      ∙ over_before S (arriving arrivals n) here ∙ going

  pub ends_at : (run S mode arrivals (suc n)).state.over ≡ true → may_end S table ≡ true
  ends_at over =
      phase_ends S table at at_goes (runs_are_told S mode arrivals table proper closed n going)
      (ap (λ t. (execute_phase S (tick S (arriving arrivals t) here).executing).state.over)
      (run_tick S mode arrivals n going)
      ∙ sym (behind_over S (arriving arrivals n) here)
      ∙ sym (ap (λ (s : State). s.over) (state_more S mode arrivals n going)) ∙ over)

  -- where no node does, the run goes on
  pub goes_on : may_end S table ≡ false → (run S mode arrivals (suc n)).state.over ≡ false
  goes_on none = go (run S mode arrivals (suc n)).state.over refl
    where
      go : (b : Bool) → (run S mode arrivals (suc n)).state.over ≡ b → b ≡ false
      go false is = refl
      go true is = clash (sym (ends_at is) ∙ none)
