-- A routine at a node with a length executes so many instructions.
use Rattle.std.proofs.Common.{◌≡◌, ℕ, zero, suc, ◌+◌, ◌≤◌, Bool, true, false, not, ◌&&◌, ◌||◌, nat_le, List, sym, ◌∙◌, ap, subst, arith}
use Rattle.std.specs.Prelude.{Option, Some, None, is_some}
use Rattle.std.specs.List.{list_all}
use Rattle.std.proofs.lemmas.Bool.{and_from, and_parts, le-leb, leb-true}
use Rattle.osek_base.specs.declared.ids.Owner.{Owner}
use Rattle.osek_base.specs.declared.instr.Control.{Control}
use Rattle.osek_base.specs.declared.instr.Instr.{Instr}
use Rattle.osek_base.specs.Instruction.{next, plain}
use Rattle.osek_base.specs.Lists.{is_empty}
use Rattle.osek_base.specs.Service.{Reply, RoutineCalls, service}
use Rattle.osek_base.specs.State.{Active, State}
use Rattle.osek_base.specs.System.{System, instruction_at}
use Rattle.osek_base.specs.Tick.{answered, at_values, executed}
use Rattle.law_runs.proofs.Known.{IsCaller, executor_calls}
use Rattle.law_runs.proofs.Lists.{clash}
use Rattle.law_windows.specs.Routines.{begun}
use Rattle.law_costs.specs.Known.{Executes, behind_by}
use Rattle.law_costs.specs.Left.{Switch, on, switch_of}
use Rattle.law_costs.proofs.Switches.{some_moved}
use Rattle.law_nodes.specs.Nodes.{Node, Standing, Table, covers, is_at, is_told, of_routine}
use Rattle.law_nodes.specs.Prices.{all_outcomes}
use Rattle.law_nodes.proofs.Knowing.{AreValues}
use Rattle.law_nodes.proofs.RoutineOutcomes.{RoutineOutcome, routine_outcome}
use Rattle.law_nodes.proofs.Standing.{at_is, covered_at, node_of}
use Rattle.law_nodes.proofs.Tests.{any_weaker, by_any}
use Rattle.law_analysis.specs.Lengths.{IsActiveAs, Lasts, LengthsLast, Long, are_followed, free, has_count, is_followed, is_long_at, lengths_hold}

-- ---- nodes

module _ (longs : List Long) where
  -- who is at a node that is followed is at one of the list
  at_followed : (m : Node) (x : Standing) (most count : ℕ) → suc count ≤ most
      → is_at m x ≡ true → is_followed longs most m ≡ true → has_count longs count x ≡ true
  at_followed m x most count few at followed =
      any_weaker (λ q. covers q.node m && nat_le most (q.count + 1))
      (λ q. is_at q.node x && nat_le count q.count) longs
      (λ q both.
      let parts = and_parts (covers q.node m) (nat_le most (q.count + 1)) both in
      let more = leb-true most (q.count + 1) parts.1 in
      and_from (is_at q.node x) (nat_le count q.count) (covered_at q.node m x parts.0 at)
      (le-leb count q.count (omega (arith, few, more))))
      followed

  all_followed : (next : Table) (x : Standing) (most count : ℕ) → suc count ≤ most
      → is_told next x ≡ true → are_followed longs most next ≡ true
      → has_count longs count x ≡ true
  all_followed next x most count few told followed =
      by_any (has_count longs count x ≡ true) (λ m. is_at m x) (is_followed longs most) next
      (λ m at one. at_followed m x most count few at one)
      told
      (and_parts (not (is_empty next)) (list_all (is_followed longs most) next) followed).1

-- ---- an instruction

module _ (S : System) (longs : List Long) (s : State) (a : Active) (calls : s.active ≡ Some a)
    (registers : List (Option ℕ)) (used most : ℕ) where
  abbrev n : Node
  n = node_of (of_routine (switch_of s) a) registers used

  abbrev e : Instr → State
  e what = (executed S (Owner.Routine a.routine) (RoutineCalls a) a.context what s).state

  abbrev follows : Table → ℕ → ℕ → Bool
  follows after start set = are_followed longs most after

  abbrev Stays : Instr → Type 0
  Stays what =
      all_outcomes S free follows what n ≡ true → is_some (e what).active ≡ true

  -- where something becomes of it in any case, it doesn't return
  still_active : (what : Instr) → Stays what
  unfolding service
  still_active (Instr.Plain what) passes =
      some_moved (plain what a.context (s.words (Owner.Routine a.routine))).context s.active
      (ap is_some calls)
  still_active (Instr.Service call) passes =
      let r : Reply = service S (RoutineCalls a) s (at_values a.context call) in
      some_moved (answered r.status r.results a.context) s.active (ap is_some calls)
  still_active (Instr.Control Control.DisableAllInterrupts) passes =
      some_moved (next a.context) s.active (ap is_some calls)
  still_active (Instr.Control Control.EnableAllInterrupts) passes =
      some_moved (next a.context) s.active (ap is_some calls)
  still_active (Instr.Control Control.SuspendAllInterrupts) passes =
      some_moved (next a.context) s.active (ap is_some calls)
  still_active (Instr.Control Control.ResumeAllInterrupts) passes =
      some_moved (next a.context) s.active (ap is_some calls)
  still_active (Instr.Control Control.SuspendOsInterrupts) passes =
      some_moved (next a.context) s.active (ap is_some calls)
  still_active (Instr.Control Control.ResumeOsInterrupts) passes =
      some_moved (next a.context) s.active (ap is_some calls)
  still_active (Instr.Control (Control.ShutdownOs number)) passes =
      some_moved (next a.context) s.active (ap is_some calls)
  still_active (Instr.Control Control.ReturnFromInterrupt) passes = clash (sym passes)

  -- so it goes on at a node of the list
  goes_on : (all : AreValues registers a.context.registers) (what : Instr) (count : ℕ)
      → suc count ≤ most → (e what).over ≡ false → all_outcomes S free follows what n ≡ true
      → IsActiveAs (e what).active
      (λ b. has_count longs count (of_routine (switch_of (e what)) b) ≡ true)
  goes_on all what count few going passes =
      go _ _ (e what).active
      (routine_outcome S s a calls registers used all free follows what going passes)
      (still_active what passes)
    where
      v : Switch
      v = switch_of (e what)

      go : (started set : ℕ) (o : Option Active) → RoutineOutcome follows v started set o
          → is_some o ≡ true
          → IsActiveAs o (λ b. has_count longs count (of_routine v b) ≡ true)
      go started set None outcome some = clash (sym some)
      go started set (Some b) outcome some =
          all_followed longs outcome.next (of_routine v b) most count few outcome.own outcome.paid

-- ---- a routine

more_than_one : (most count : ℕ) → suc count ≤ most → 1 ≤ count → nat_le most 1 ≡ false
more_than_one most count few some = grind (arith, few, some)

module _ (S : System) (longs : List Long) (hold : lengths_hold S longs ≡ true) where
  abbrev Goes : ℕ → State → Active → Type 0
  Goes count s a =
      IsActiveAs (behind_by S (RoutineCalls a) s).active
      (λ b. has_count longs count (of_routine (switch_of (behind_by S (RoutineCalls a) s)) b)
      ≡ true)

  at_node : (s : State) (a : Active) → Executes S (RoutineCalls a) s → (count : ℕ) → 1 ≤ count
      → (q : Long) → is_at q.node (of_routine (switch_of s) a) ≡ true → suc count ≤ q.count
      → is_long_at S longs q.count q.node ≡ true → Goes count s a
  at_node s a executes count some q at few long =
      goes_on S longs s a (subst (IsCaller s) executes.calls (executor_calls s)) q.node.registers
      q.node.used q.count is.1 what count few executes.goes_on
      (sym
      (ap (λ b. b || passes) (more_than_one q.count count few some))
      ∙ sym (ap (is_long_at S longs q.count) is.0) ∙ long)
    where
      is : (q.node ≡ node_of (of_routine (switch_of s) a) q.node.registers q.node.used)
          × AreValues q.node.registers a.context.registers
      is = at_is q.node (of_routine (switch_of s) a) at

      there : Node
      there = node_of (of_routine (switch_of s) a) q.node.registers q.node.used

      what : Instr
      what = instruction_at S (Owner.Routine a.routine) a.context.place

      passes : Bool
      passes =
          all_outcomes S free (λ after start set. are_followed longs q.count after) what there

  next_count : (s : State) (a : Active) → Executes S (RoutineCalls a) s → (count : ℕ)
      → 1 ≤ count → has_count longs (suc count) (of_routine (switch_of s) a) ≡ true
      → Goes count s a
  next_count s a executes count some has =
      by_any (Goes count s a)
      (λ q. is_at q.node (of_routine (switch_of s) a) && nat_le (suc count) q.count)
      (λ q. is_long_at S longs q.count q.node) longs
      (λ q both long.
      let parts =
      and_parts (is_at q.node (of_routine (switch_of s) a)) (nat_le (suc count) q.count) both in
      at_node s a executes count some q parts.0 (leb-true (suc count) q.count parts.1) long)
      has hold

  each_lasts : (count : ℕ) (o : Option Active) (v : Switch)
      → IsActiveAs o (λ b. has_count longs count (of_routine v b) ≡ true)
      → ((b : Active) → has_count longs count (of_routine v b) ≡ true → Lasts S count v b)
      → IsActiveAs o (Lasts S count v)
  each_lasts count None v none each = absurd none
  each_lasts count (Some b) v has each = each b has

  lasts : (count : ℕ) (w : Switch) (a : Active) → has_count longs count (of_routine w a) ≡ true
      → Lasts S count w a
  lasts zero w a has = tt
  lasts (suc count) w a has = λ s executes finds some.
      each_lasts count (behind_by S (RoutineCalls a) s).active
      (switch_of (behind_by S (RoutineCalls a) s))
      (next_count s a executes count some
      (subst (λ v. has_count longs (suc count) (of_routine v a) ≡ true) (sym finds) has))
      (lasts count (switch_of (behind_by S (RoutineCalls a) s)))

pub lengths_last : LengthsLast
lengths_last S longs i count hold has = lasts S longs hold count on (begun i) has
