-- OSEK/VDX OS: resource management. What one job holds, as the list of its resources in the order got.
use Rattle.std.specs.Prelude.{ℕ, ◌<◌, Bool, true, IsFalse, List, [], ◌∷◌, None}
use Rattle.std.specs.List.{list_any}
use Rattle.osek_base.specs.declared.limits.TheConstants.{MAX_RESOURCES}
use Rattle.osek_base.specs.declared.ids.ResId.{ResId}
use Rattle.osek_base.specs.Lists.{same_resource, last_of}
use Rattle.osek_base.specs.System.{System}
use Rattle.osek_base.specs.State.{Job, fresh_context}
use Rattle.osek_base.specs.Priority.{dynamic_priority}
use Rattle.osek_base.specs.Service.{is_resource}

-- whether a resource is held
abbrev pub is_held : ResId → List ResId → Bool
is_held r held = list_any (same_resource r) held

-- a number for each resource, which tells it apart
abbrev pub number_of : ResId → ℕ
number_of (ResId.Declared n) = n
number_of ResId.Scheduler = MAX_RESOURCES

-- a declared resource's number is within the limit
abbrev pub IsLow : ResId → Type 0
IsLow (ResId.Declared n) = n < MAX_RESOURCES
IsLow ResId.Scheduler = Unit {0}

-- no resource stands twice
abbrev pub IsEachOnce : List ResId → Type 0
IsEachOnce [] = Unit {0}
IsEachOnce (r ∷ rs) = IsLow r × (IsFalse (is_held r rs) × IsEachOnce rs)

-- whether a resource is the last that was got
abbrev pub is_last : ResId → List ResId → Bool
is_last r held = is_resource (last_of held) r

-- a job of a task that holds these resources, and has its internal resource or not
abbrev pub job_with : ℕ → List ResId → Bool → Job
job_with t held taken =
    record { id = record { task = t; serial = 0 }; held = held; taken = taken; begun = true; waits_for = None; context = fresh_context }

-- the dynamic priority of such a job
abbrev pub priority_with : System → ℕ → List ResId → Bool → ℕ
priority_with S t held taken = dynamic_priority S (job_with t held taken)
