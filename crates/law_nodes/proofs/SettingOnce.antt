-- Who is at the nodes of a table sets alarms once where these do.
use Rattle.std.proofs.Common.{◌≡◌, ℕ, Bool, true, not, ◌||◌, nat_le, List, length, sym, ◌∙◌, ap, subst}
use Rattle.std.specs.Prelude.{Option, Some, None, IfSome, ◌==◌}
use Rattle.std.specs.List.{list_all}
use Rattle.std.proofs.lemmas.Bool.{and_parts, le-leb}
use Rattle.osek_base.specs.declared.instr.Instr.{Instr}
use Rattle.osek_base.specs.declared.instr.Service.{Service}
use Rattle.osek_base.specs.Instruction.{Context, value}
use Rattle.osek_base.specs.Service.{Caller, JobCalls, NobodyCalls, RoutineCalls}
use Rattle.osek_base.specs.System.{System, alarm_start_in, instruction_at}
use Rattle.osek_base.specs.Tick.{at_values, executor}
use Rattle.osek_base.specs.Types.{ServiceCall}
use Rattle.law_alarms.specs.Setting.{call_by, call_in}
use Rattle.law_costs.specs.Known.{IsKnownCaller}
use Rattle.law_costs.specs.Left.{Switch, Weights, switch_of}
use Rattle.law_costs.specs.Setting.{AreKnownOnce, IsKnownOnce, SetsOnce}
use Rattle.law_runs.proofs.Foremost.{equal, self_equal}
use Rattle.law_runs.proofs.Lists.{clash, none_some, some_inside}
use Rattle.law_nodes.specs.Closed.{known_by}
use Rattle.law_nodes.specs.Nodes.{Node, Standing, Table, is_at, is_told, of_job, of_routine}
use Rattle.law_nodes.specs.Setting.{are_set_once, is_set_once, is_zero, sets_once, starts_once}
use Rattle.law_nodes.specs.Values.{known}
use Rattle.law_nodes.proofs.Knowing.{AreValues, IsValue, value_known}
use Rattle.law_nodes.proofs.Standing.{at_is}
use Rattle.law_nodes.proofs.Tests.{by_any, one_below, unless}

start_once : (o : Option (ℕ × ℕ)) → starts_once o ≡ true → IfSome o (λ start. start.1 ≡ 0)
start_once None h = tt
start_once (Some start) h = equal start.1 0 h

zero_is : (o : Option ℕ) (v : ℕ) → IsValue o v → is_zero o ≡ true → v ≡ 0
zero_is None v is h = clash (sym h)
zero_is (Some u) v is h = sym is ∙ equal u 0 h

-- ---- what an instruction calls

module _ (a : ℕ) (x : Context) (registers : List (Option ℕ))
    (all : AreValues registers x.registers) where
  no_cycle : (b cycle : ℕ) → (not (b == a) || is_zero (known registers cycle)) ≡ true → b ≡ a
      → value x cycle ≡ 0
  no_cycle b cycle h same =
      zero_is (known registers cycle) (value x cycle)
      (value_known registers x.registers all cycle)
      (unless (b == a) (is_zero (known registers cycle))
      (ap (λ n. n == a) same ∙ self_equal a) h)

  call_once : (call : ServiceCall) → sets_once a registers (Instr.Service call) ≡ true
      → SetsOnce a (at_values x call)
  call_once (Service.SetRelAlarm (Some b) increment cycle) h = no_cycle b cycle h
  call_once (Service.SetAbsAlarm (Some b) start cycle) h = no_cycle b cycle h
  call_once _ h = tt

  instruction_once : (what : Instr) (call : ServiceCall)
      → sets_once a registers what ≡ true → call_in x what ≡ Some call → SetsOnce a call
  instruction_once (Instr.Plain plain) call h is = absurd (none_some call is)
  instruction_once (Instr.Service made) call h is =
      subst (SetsOnce a) (some_inside (at_values x made) call is) (call_once made h)
  instruction_once (Instr.Control control) call h is = absurd (none_some call is)

-- ---- who is at a node

module _ (S : System) (a : ℕ) (table : Table) where
  abbrev node_sets : Node → Bool
  node_sets n = sets_once a n.registers (instruction_at S n.owner n.place)

  module _ (once : list_all node_sets table ≡ true) where
    standing_once : (x : Standing) (call : ServiceCall) → is_told table x ≡ true
        → call_in x.context (instruction_at S x.owner x.context.place) ≡ Some call
        → SetsOnce a call
    standing_once x call told calls =
        by_any (SetsOnce a call) (λ n. is_at n x) node_sets table
        (λ n at h.
        (let is = at_is n x at in
        instruction_once a x.context n.registers is.1
        (instruction_at S x.owner x.context.place) call
        (subst (λ (m : Node). sets_once a n.registers (instruction_at S m.owner m.place) ≡ true)
        is.0 h)
        calls))
        told once

    caller_once : (w : Switch) (who : Caller) (call : ServiceCall)
        → IsKnownCaller (known_by table) w who → call_by S who ≡ Some call → SetsOnce a call
    caller_once w (JobCalls j) call told calls = standing_once (of_job w j) call told calls
    caller_once w (RoutineCalls r) call told calls = standing_once (of_routine w r) call told calls
    caller_once w NobodyCalls call told calls = absurd (none_some call calls)

-- ---- alarms

module _ (S : System) (mode : ℕ) (table : Table) where
  alarm_once : (a : ℕ) → is_set_once S mode table a ≡ true
      → IsKnownOnce S mode (known_by table) a
  alarm_once a h =
      let both =
      and_parts (starts_once (alarm_start_in S mode a)) (list_all (node_sets S a table) table) h in
      record {
        boot = start_once (alarm_start_in S mode a) both.0;
        calls = λ s call good shaped told served.
            caller_once S a table both.1 (switch_of s) (executor s) call told served.called;
      }

  pub alarms_once : (c : Weights) → are_set_once S mode c table ≡ true
      → AreKnownOnce S mode c (known_by table)
  alarms_once c h a inside pays =
      alarm_once a
      (unless (nat_le 1 (c.of_alarm a)) (is_set_once S mode table a)
      (le-leb 1 (c.of_alarm a) pays)
      (one_below (λ b. not (nat_le 1 (c.of_alarm b)) || is_set_once S mode table b)
      (length S.alarms) a inside h))
