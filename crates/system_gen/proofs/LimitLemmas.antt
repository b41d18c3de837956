-- No more objects than allowed: what the numbers of a file's objects may be.
use Rattle.std.proofs.Common.{◌≡◌, Bool, true, false, length, map, Option, Some, None, refl, arith}
use Rattle.std.specs.Prelude.{if◌then◌else◌}
use Rattle.std.proofs.lemmas.Bool.{ltb-false}
use Rattle.std.proofs.lemmas.List.{length-map}
use Rattle.osek_base.specs.declared.limits.TheConstants.{MAX_MODES, MAX_TASKS, MAX_RESOURCES, MAX_COUNTERS, MAX_ALARMS}
use Rattle.oil_reader.specs.Configuration.{Configuration}
use Rattle.system_gen.specs.Checks.{beyond_limit}
use Rattle.system_gen.specs.ObjectNames.{order_of, task_name}
use Rattle.system_gen.specs.DeclaredNames.{declared_in}
use Rattle.system_gen.specs.Generated.{IsWithinLimits}
use Rattle.system_gen.proofs.OrderLemmas.{order_short}

pub split_limit : {X : Type 0} (b : Bool) (k : X) (rest : Option X) → (if b then Some k else rest) ≡ None → (b ≡ false) × (rest ≡ None)
split_limit true k rest e = grind arith
split_limit false k rest e = (refl, e)

pub within_limits : (f : Configuration) → beyond_limit f ≡ None → IsWithinLimits (declared_in f)
within_limits f e =
    let modes = split_limit _ _ _ e in
    let tasks = split_limit _ _ _ modes.1 in
    let routines = split_limit _ _ _ tasks.1 in
    let resources = split_limit _ _ _ routines.1 in
    let events = split_limit _ _ _ resources.1 in
    let counters = split_limit _ _ _ events.1 in
    let alarms = split_limit _ _ _ counters.1 in
    record {
      modes = ltb-false MAX_MODES (length f.app_modes) modes.0;
      tasks = omega (arith, length-map (order_of f.tasks) (task_name f.tasks), order_short (map (λ t. t.priority) f.tasks), length-map f.tasks (λ t. t.priority), ltb-false MAX_TASKS (length f.tasks) tasks.0);
      resources = omega (arith, length-map f.resources (λ r. r.name), ltb-false MAX_RESOURCES (length f.resources) resources.0);
      counters = omega (arith, length-map f.counters (λ r. r.name), ltb-false MAX_COUNTERS (length f.counters) counters.0);
      alarms = omega (arith, length-map f.alarms (λ r. r.name), ltb-false MAX_ALARMS (length f.alarms) alarms.0);
    }
