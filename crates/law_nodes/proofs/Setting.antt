-- Who is at the nodes of a table sets alarms no sooner than these do.
use Rattle.std.proofs.Common.{◌≡◌, inl, inr, ℕ, ◌<◌, ◌≤◌, Bool, true, false, not, ◌&&◌, ◌||◌, nat_le, List, length, refl, sym, ◌∙◌, ap, subst}
use Rattle.std.specs.Prelude.{Option, Some, None, IfSome, ◌==◌}
use Rattle.std.specs.List.{list_all}
use Rattle.std.proofs.lemmas.Bool.{and_parts, le-leb, leb-true, lt-leb}
use Rattle.osek_base.specs.declared.instr.Instr.{Instr}
use Rattle.osek_base.specs.declared.instr.Service.{Service}
use Rattle.osek_base.specs.Instruction.{Context, value}
use Rattle.osek_base.specs.Service.{Caller, JobCalls, NobodyCalls, RoutineCalls}
use Rattle.osek_base.specs.System.{System, alarm_start_in, instruction_at}
use Rattle.osek_base.specs.Tick.{at_values, executor}
use Rattle.osek_base.specs.Types.{ServiceCall}
use Rattle.law_alarms.specs.Setting.{IsNoSooner, IsSlow, call_by, call_in, is_never_set}
use Rattle.law_costs.specs.Known.{IsKnownCaller}
use Rattle.law_costs.specs.Left.{Switch, switch_of}
use Rattle.law_costs.specs.Setting.{AreKnownNoSooner, IsKnownNoSooner}
use Rattle.law_runs.proofs.Foremost.{equal, self_equal}
use Rattle.law_runs.proofs.Lists.{clash, none_some, some_inside}
use Rattle.law_windows.specs.Coming.{Costs}
use Rattle.law_nodes.specs.Closed.{known_by}
use Rattle.law_nodes.specs.Nodes.{Node, Standing, Table, is_at, is_told, of_job, of_routine}
use Rattle.law_nodes.specs.Setting.{are_set_slowly, is_set_slowly, is_slow, is_sure, node_sets_slowly, sets_slowly, starts_slowly}
use Rattle.law_nodes.specs.Values.{known, of_known}
use Rattle.law_nodes.proofs.Knowing.{AreValues, IsValue, of_known_is, value_known}
use Rattle.law_nodes.proofs.Standing.{at_is}
use Rattle.law_nodes.proofs.Tests.{by_any, one_below, second, unless}

slow_is : (least cycle : ℕ) → is_slow least cycle ≡ true → IsSlow least cycle
slow_is least cycle h = go (cycle == 0) refl h
  where
    go : (b : Bool) → (cycle == 0) ≡ b → (b || nat_le least cycle) ≡ true → IsSlow least cycle
    go true is k = inl (equal cycle 0 is)
    go false is k = inr (leb-true least cycle k)

start_is : (least : ℕ) (o : Option (ℕ × ℕ)) → starts_slowly least o ≡ true
    → IfSome o (λ start. IsSlow least start.1)
start_is least None h = tt
start_is least (Some start) h = slow_is least start.1 h

sure_is : (o : Option Bool) (b : Bool) → IsValue o b → is_sure o ≡ true → b ≡ true
sure_is None b is h = clash (sym h)
sure_is (Some c) b is h = sym is ∙ h

-- ---- what an instruction calls

module _ (a least : ℕ) (more : 1 < least) (x : Context) (registers : List (Option ℕ))
    (all : AreValues registers x.registers) where
  same_alarm : (b : ℕ) → b ≡ a → not (b == a) ≡ true → ⊥
  same_alarm b same h =
      clash (sym h ∙ ap (λ n. not (n == a)) same ∙ ap not (self_equal a))

  relative : (b increment cycle : ℕ)
      → sets_slowly a least registers (Instr.Service (Service.SetRelAlarm (Some b) increment cycle))
      ≡ true
      → b ≡ a → (least ≤ value x increment) × IsSlow least (value x cycle)
  relative b increment cycle h same =
      let both =
      and_parts (nat_le least (value x increment)) (is_slow least (value x cycle))
      (sure_is
      (of_known (λ i c. nat_le least i && is_slow least c) (known registers increment)
      (known registers cycle))
      (nat_le least (value x increment) && is_slow least (value x cycle))
      (of_known_is (λ i c. nat_le least i && is_slow least c) (known registers increment)
      (known registers cycle) (value x increment) (value x cycle)
      (value_known registers x.registers all increment)
      (value_known registers x.registers all cycle))
      (unless (b == a)
      (is_sure (of_known (λ i c. nat_le least i && is_slow least c) (known registers increment)
      (known registers cycle)))
      (ap (λ n. n == a) same ∙ self_equal a) h)) in
      (leb-true least (value x increment) both.0, slow_is least (value x cycle) both.1)

  call_slow : (call : ServiceCall)
      → sets_slowly a least registers (Instr.Service call) ≡ true
      → IsNoSooner a least (at_values x call)
  call_slow (Service.ActivateTask o) h = tt
  call_slow Service.TerminateTask h = tt
  call_slow (Service.ChainTask o) h = tt
  call_slow Service.Schedule h = tt
  call_slow Service.GetTaskId h = tt
  call_slow (Service.GetTaskState o) h = tt
  call_slow (Service.GetResource o) h = tt
  call_slow (Service.ReleaseResource o) h = tt
  call_slow (Service.LoadShared o i) h = tt
  call_slow (Service.StoreShared o i v) h = tt
  call_slow (Service.SetEvent o m) h = tt
  call_slow (Service.ClearEvent m) h = tt
  call_slow (Service.GetEvent o) h = tt
  call_slow (Service.WaitEvent m) h = tt
  call_slow (Service.SetRelAlarm None increment cycle) h = tt
  call_slow (Service.SetRelAlarm (Some b) increment cycle) h = relative b increment cycle h
  call_slow (Service.SetAbsAlarm None start cycle) h = tt
  call_slow (Service.SetAbsAlarm (Some b) start cycle) h = λ same. absurd (same_alarm b same h)
  call_slow (Service.CancelAlarm o) h = tt
  call_slow (Service.GetAlarm o) h = tt
  call_slow (Service.GetAlarmBase o) h = tt

  instruction_slow : (what : Instr) (call : ServiceCall)
      → sets_slowly a least registers what ≡ true → call_in x what ≡ Some call
      → IsNoSooner a least call
  instruction_slow (Instr.Plain plain) call h is = absurd (none_some call is)
  instruction_slow (Instr.Service made) call h is =
      subst (IsNoSooner a least) (some_inside (at_values x made) call is) (call_slow made h)
  instruction_slow (Instr.Control control) call h is = absurd (none_some call is)

-- ---- who is at a node

module _ (S : System) (a least : ℕ) (more : 1 < least) (table : Table)
    (slow : list_all (node_sets_slowly S a least) table ≡ true) where
  standing_slow : (x : Standing) (call : ServiceCall) → is_told table x ≡ true
      → call_in x.context (instruction_at S x.owner x.context.place) ≡ Some call
      → IsNoSooner a least call
  standing_slow x call told calls =
      by_any (IsNoSooner a least call) (λ n. is_at n x) (node_sets_slowly S a least) table
      (λ n at h.
      (let is = at_is n x at in
      instruction_slow a least more x.context n.registers is.1
      (instruction_at S x.owner x.context.place) call
      (subst (λ (m : Node). sets_slowly a least n.registers (instruction_at S m.owner m.place)
      ≡ true) is.0 h)
      calls))
      told slow

  caller_slow : (w : Switch) (who : Caller) (call : ServiceCall)
      → IsKnownCaller (known_by table) w who → call_by S who ≡ Some call
      → IsNoSooner a least call
  caller_slow w (JobCalls j) call told calls = standing_slow (of_job w j) call told calls
  caller_slow w (RoutineCalls r) call told calls = standing_slow (of_routine w r) call told calls
  caller_slow w NobodyCalls call told calls = absurd (none_some call calls)

-- ---- alarms

module _ (S : System) (mode : ℕ) (table : Table) where
  alarm_slow : (a least : ℕ) → is_set_slowly S mode table a least ≡ true
      → IsKnownNoSooner S mode (known_by table) a least
  alarm_slow a least h =
      let parts =
      and_parts (nat_le 1 least)
      (nat_le least 1
      || (starts_slowly least (alarm_start_in S mode a)
      && list_all (node_sets_slowly S a least) table)) h in
      record {
        some = leb-true 1 least parts.0;
        boot = λ more.
            start_is least (alarm_start_in S mode a) (and_parts
            (starts_slowly least (alarm_start_in S mode a))
            (list_all (node_sets_slowly S a least) table) (later more parts.1)).0;
        calls = λ more s call good shaped told served.
            caller_slow S a least more table (and_parts
            (starts_slowly least (alarm_start_in S mode a))
            (list_all (node_sets_slowly S a least) table) (later more parts.1)).1
            (switch_of s) (executor s) call told served.called;
      }
    where
      later : 1 < least
          → (nat_le least 1
          || (starts_slowly least (alarm_start_in S mode a)
          && list_all (node_sets_slowly S a least) table)) ≡ true
          → (starts_slowly least (alarm_start_in S mode a)
          && list_all (node_sets_slowly S a least) table) ≡ true
      later more k =
          second (nat_le least 1)
          (starts_slowly least (alarm_start_in S mode a)
          && list_all (node_sets_slowly S a least) table) (lt-leb least 1 more) k

  pub alarms_slow : (costs : Costs) (least : ℕ → ℕ)
      → are_set_slowly S mode costs table least ≡ true
      → AreKnownNoSooner S mode costs (known_by table) least
  alarms_slow costs least h a inside costly set =
      alarm_slow a (least a)
      (second (not (nat_le 1 (costs.of_expiry a)) || is_never_set S a)
      (is_set_slowly S mode table a (least a))
      (neither (nat_le 1 (costs.of_expiry a)) (is_never_set S a)
      (le-leb 1 (costs.of_expiry a) costly) set)
      (one_below
      (λ b. not (nat_le 1 (costs.of_expiry b)) || is_never_set S b
      || is_set_slowly S mode table b (least b))
      (length S.alarms) a inside h))
    where
      neither : (b c : Bool) → b ≡ true → c ≡ false → (not b || c) ≡ false
      neither true c is none = none
      neither false c is none = clash (sym is)
