-- What passes of each outcome at a node passes of that of a routine's instruction.
use Rattle.std.proofs.Common.{◌≡◌, ℕ, Bool, true, false, List, [], ◌∷◌, refl, ◌∙◌, ap}
use Rattle.std.specs.Prelude.{Option, Some, IfSome}
use Rattle.osek_base.specs.declared.ids.Owner.{Owner}
use Rattle.osek_base.specs.declared.instr.Instr.{Instr}
use Rattle.osek_base.specs.declared.status.Status.{Status}
use Rattle.osek_base.specs.Instruction.{Context}
use Rattle.osek_base.specs.Service.{RoutineCalls, answer, first_refusal, refusals, reply_to, service}
use Rattle.osek_base.specs.State.{Active, State, interrupts_off}
use Rattle.osek_base.specs.System.{System}
use Rattle.osek_base.specs.Tick.{answered, at_values, executed}
use Rattle.osek_base.specs.Types.{ServiceCall}
use Rattle.law_alarms.specs.Setting.{call_in}
use Rattle.law_costs.specs.Left.{Switch, Weights, is_off, switch_of}
use Rattle.law_costs.specs.Routines.{set_by, set_where, started_by, started_where}
use Rattle.law_nodes.specs.Nodes.{Node, Table, is_told, of_routine}
use Rattle.law_nodes.specs.Prices.{all_outcomes}
use Rattle.law_nodes.specs.Services.{caller_by, refusals_of, replied}
use Rattle.law_nodes.specs.Steps.{steps_by}
use Rattle.law_nodes.proofs.Knowing.{AreValues}
use Rattle.law_nodes.proofs.Refusing.{refusals_told}
use Rattle.law_nodes.proofs.Returning.{active_told, routine_moves, routine_replied}
use Rattle.law_nodes.proofs.Standing.{node_of}
use Rattle.law_nodes.proofs.Telling.{routine_tells}
use Rattle.law_nodes.proofs.Starting.{all_first, set_same, started_same}

pub record RoutineOutcome (pays : Table → ℕ → ℕ → Bool) (v : Switch) (started set : ℕ)
    (active : Option Active) : Type 0 where
  pub next : Table
  pub paid : pays next started set ≡ true
  pub own : IfSome active (λ b. is_told next (of_routine v b) ≡ true)

module _ (S : System) (s : State) (a : Active) (calls : s.active ≡ Some a)
    (registers : List (Option ℕ)) (used : ℕ) (all : AreValues registers a.context.registers)
    (c : Weights) (pays : Table → ℕ → ℕ → Bool) where
  abbrev x : Context
  x = a.context

  abbrev who : Owner
  who = Owner.Routine a.routine

  abbrev n : Node
  n = node_of (of_routine (switch_of s) a) registers used

  abbrev e : Instr → State
  e what = (executed S who (RoutineCalls a) x what s).state

  abbrev Outcome : Instr → Type 0
  Outcome what =
      RoutineOutcome pays (switch_of (e what))
      (started_by S c (RoutineCalls a) s (call_in x what))
      (set_by S c (RoutineCalls a) s (call_in x what)) (e what).active

  service_outcome : (call : ServiceCall) → all_outcomes S c pays (Instr.Service call) n ≡ true
      → Outcome (Instr.Service call)
  unfolding service
  service_outcome call passes = record {
    next = replied S n call refusal;
    paid =
        ap
        (λ k. pays (replied S n call refusal) k (set_where c (answer refusal) (at_values x call)))
        (started_same c x call (answer refusal))
        ∙ ap (pays (replied S n call refusal) (started_where c (answer refusal) call))
        (set_same c x call (answer refusal))
        ∙ all_first
        (λ o. pays (replied S n call o) (started_where c (answer o) call)
        (set_where c (answer o) call))
        ((Some (is_off (switch_of s)), Status.SysDisabled)
        ∷ refusals_of S (caller_by who []) registers call)
        ((interrupts_off s, Status.SysDisabled)
        ∷ refusals S (RoutineCalls a) s (at_values x call)) (
          refl,
          refl,
          λ on.
              refusals_told S s (caller_by who []) (RoutineCalls a) (routine_tells S s a) x
              registers all on call,
        )
        passes;
    own =
        routine_moves S s a calls registers used all (switch_of s) (replied S n call refusal)
        (answered (reply_to S (RoutineCalls a) s (at_values x call) refusal).status
        (reply_to S (RoutineCalls a) s (at_values x call) refusal).results x)
        (routine_replied S s a calls registers used all call refusal);
  }
    where
      refusal : Option Status
      refusal =
          first_refusal
          ((interrupts_off s, Status.SysDisabled)
          ∷ refusals S (RoutineCalls a) s (at_values x call))

  pub routine_outcome : (what : Instr) → (e what).over ≡ false
      → all_outcomes S c pays what n ≡ true → Outcome what
  routine_outcome (Instr.Plain what) goes_on passes = record {
    next = steps_by S (Instr.Plain what) n;
    paid = passes;
    own = active_told S s a calls registers used all (Instr.Plain what) goes_on;
  }
  routine_outcome (Instr.Service call) goes_on passes = service_outcome call passes
  routine_outcome (Instr.Control control) goes_on passes = record {
    next = steps_by S (Instr.Control control) n;
    paid = passes;
    own = active_told S s a calls registers used all (Instr.Control control) goes_on;
  }
