-- Costs of nodes pay for the instructions of routines that are at them; so for all instructions.
use Rattle.std.proofs.Common.{◌≡◌, ℕ, ◌+◌, ◌≤◌, Bool, true, false, ◌&&◌, ◌||◌, nat_le, List, sym, ◌∙◌, ap, subst, arith}
use Rattle.std.specs.Prelude.{Option, Some, None, IfSome, is_some}
use Rattle.std.specs.List.{list_all}
use Rattle.std.proofs.lemmas.Bool.{and_parts, leb-true}
use Rattle.osek_base.specs.declared.ids.Owner.{Owner}
use Rattle.osek_base.specs.declared.instr.Instr.{Instr}
use Rattle.osek_base.specs.Service.{RoutineCalls}
use Rattle.osek_base.specs.State.{Active, State}
use Rattle.osek_base.specs.System.{System, instruction_at}
use Rattle.law_alarms.specs.Setting.{call_by}
use Rattle.law_runs.proofs.Known.{IsCaller, executor_calls}
use Rattle.law_windows.specs.Work.{goes_at}
use Rattle.law_costs.specs.Known.{Executes, behind_by}
use Rattle.law_costs.specs.Left.{Switch, Weights, left_of_active, of_all_alarms, switch_of}
use Rattle.law_costs.specs.Routines.{RoutinePaysIn, left_behind_routine, set_by, started_by}
use Rattle.law_nodes.specs.Nodes.{Node, Standing, Table, covers, is_at, is_told, of_routine}
use Rattle.law_nodes.specs.Prices.{NodesPay, Priced, all_outcomes, alone, cost_of, is_paid, node_pays, nodes_pay, pays_by, priced_by, routine_fits, table_of}
use Rattle.law_nodes.proofs.Paying.{job_pays}
use Rattle.law_nodes.proofs.Pricing.{paid_within, told_from, told_priced}
use Rattle.law_nodes.proofs.RoutineOutcomes.{RoutineOutcome, routine_outcome}
use Rattle.law_nodes.proofs.Standing.{at_is, covered_at}
use Rattle.law_nodes.proofs.Tests.{by_any, each_passing}

module _ (S : System) (p : ℕ) (c : Weights) (held : ℕ → ℕ → ℕ) (prices : List Priced) where
  abbrev costs : Weights
  costs = priced_by S p c held prices

  module _ (s : State) (a : Active) (executes : Executes S (RoutineCalls a) s) where
    abbrev there : State
    there = behind_by S (RoutineCalls a) s

    abbrev starts : ℕ
    starts = started_by S costs (RoutineCalls a) s (call_by S (RoutineCalls a))

    abbrev sets : ℕ
    sets = set_by S costs (RoutineCalls a) s (call_by S (RoutineCalls a))

    abbrev there_is : Instr
    there_is = instruction_at S (Owner.Routine a.routine) a.context.place

    routine_within : (x : Standing) (more most : ℕ) (n : Node)
        → is_paid prices more most n ≡ true → is_at n x ≡ true
        → cost_of alone prices x + more ≤ most
    routine_within x more most n paid at =
        paid_within alone x prices more most
        (λ q. covers q.node n && nat_le (q.cost + more) most)
        (λ q both.
        (let parts = and_parts (covers q.node n) (nat_le (q.cost + more) most) both in
        (covered_at q.node n x parts.0 at, leb-true (q.cost + more) most parts.1)))
        paid

    active_fits : (more most : ℕ) (next : Table) (o : Option Active) (v : Switch)
        → routine_fits prices more most next ≡ true
        → IfSome o (λ b. is_told next (of_routine v b) ≡ true)
        → left_of_active costs v o + more ≤ most
    active_fits more most next None v fits own =
        let both = and_parts (list_all (is_paid prices more most) next) (nat_le more most) fits in
        let less = leb-true more most both.1 in
        omega (arith, less)
    active_fits more most next (Some b) v fits own =
        by_any (cost_of alone prices (of_routine v b) + more ≤ most) (λ m. is_at m (of_routine v b))
        (is_paid prices more most) next
        (λ m at paid. routine_within (of_routine v b) more most m paid at) own
        (and_parts (list_all (is_paid prices more most) next) (nat_le more most) fits).0

    abbrev pays_routine : Priced → Table → ℕ → ℕ → Bool
    pays_routine q = pays_by (Owner.Routine a.routine) S p c held there_is prices q

    outcome_of : (q : Priced) → is_at q.node (of_routine (switch_of s) a) ≡ true
        → node_pays S p c held prices q ≡ true
        → RoutineOutcome (pays_routine q) (switch_of there) starts sets there.active
    outcome_of q at pays =
        let is = at_is q.node (of_routine (switch_of s) a) at in
        routine_outcome S s a (subst (IsCaller s) executes.calls (executor_calls s))
        q.node.registers q.node.used is.1 costs (pays_routine q) there_is executes.goes_on
        (subst
        (λ m. (is_some m.waits_for || all_outcomes S c
        (pays_by m.owner S p c held (instruction_at S m.owner m.place) prices q)
        (instruction_at S m.owner m.place) m) ≡ true)
        is.0 pays)

    -- beside the routine, where it is lower, no more is left than the section and all alarms
    abbrev beside : ℕ
    beside = c.of_section + of_all_alarms S c

    parts_of : (q : Priced)
        (got : RoutineOutcome (pays_routine q) (switch_of there) starts sets there.active)
        → (routine_fits prices (starts + (sets + 1)) q.cost got.next ≡ true)
        × ((goes_at S p a.routine || routine_fits prices beside c.costs.at_begin got.next) ≡ true)
    parts_of q got =
        and_parts (routine_fits prices (starts + (sets + 1)) q.cost got.next)
        (goes_at S p a.routine || routine_fits prices beside c.costs.at_begin got.next) got.paid

    taken_of : (q : Priced) → is_at q.node (of_routine (switch_of s) a) ≡ true
        → node_pays S p c held prices q ≡ true
        → left_behind_routine S costs s a + (starts + (sets + 1)) ≤ q.cost
    taken_of q at pays =
        let got = outcome_of q at pays in
        active_fits (starts + (sets + 1)) q.cost got.next there.active (switch_of there)
        (parts_of q got).0 got.own

    begins_of : (q : Priced) → is_at q.node (of_routine (switch_of s) a) ≡ true
        → node_pays S p c held prices q ≡ true → goes_at S p a.routine ≡ false
        → left_behind_routine S costs s a + beside ≤ c.costs.at_begin
    begins_of q at pays lower =
        let got = outcome_of q at pays in
        active_fits beside c.costs.at_begin got.next there.active (switch_of there)
        (sym (ap (λ b. b || routine_fits prices beside c.costs.at_begin got.next) lower)
        ∙ (parts_of q got).1)
        got.own

    pub routine_pays : nodes_pay S p c held prices ≡ true
        → is_told (table_of prices) (of_routine (switch_of s) a) ≡ true
        → RoutinePaysIn S p costs s a
    routine_pays pay told = record {
      takes =
          told_from alone (of_routine (switch_of s) a)
          (left_behind_routine S costs s a + (starts + (sets + 1))) prices told
          (each_passing
          (λ q. is_at q.node (of_routine (switch_of s) a) ≡ true
          → left_behind_routine S costs s a + (starts + (sets + 1)) ≤ q.cost)
          (node_pays S p c held prices) prices (λ q pays at. taken_of q at pays) pay);
      begins = λ lower.
          by_any (left_behind_routine S costs s a + beside ≤ c.costs.at_begin)
          (λ q. is_at q.node (of_routine (switch_of s) a)) (node_pays S p c held prices) prices
          (λ q at pays. begins_of q at pays lower)
          (told_priced (of_routine (switch_of s) a) prices told) pay;
    }

pub nodes_pay_for_all : NodesPay
nodes_pay_for_all S p c held prices pay = record {
  jobs = λ s j executes told. job_pays S p c held prices s j executes pay told;
  routines = λ s a executes told. routine_pays S p c held prices s a executes pay told;
}
