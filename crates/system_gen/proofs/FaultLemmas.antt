-- No fault at all is none of each number.
use Rattle.std.proofs.Common.{◌≡◌, List, Option, Some, None, Result, Ok, Err, refl, arith}
use Rattle.std.specs.Option.{option_or, option_map}
use Rattle.std.specs.Result.{result_err, result_unwrap_or}
use Rattle.oil_reader.specs.Configuration.{Configuration}
use Rattle.task_asm.specs.Programs.{Program}
use Rattle.system_gen.specs.declared.fault.GenFault.{GenFault}
use Rattle.system_gen.specs.declared.fault.ObjectKind.{ObjectKind}
use Rattle.system_gen.specs.Masks.{all_masks}
use Rattle.system_gen.specs.DeclaredNames.{declared_in}
use Rattle.system_gen.specs.References.{reference_fault}
use Rattle.system_gen.specs.Generated.{masks_of}
use Rattle.system_gen.specs.Faults.{generation_fault}
use Rattle.system_gen.specs.Passes.{Passes}

pub none_of : (a b : Option GenFault) → option_or a b ≡ None → (a ≡ None) × (b ≡ None)
none_of None b e = (refl, e)
none_of (Some x) b e = grind (arith, e)

no_limit : (o : Option ObjectKind) → option_map GenFault.Limit o ≡ None → o ≡ None
no_limit None e = refl
no_limit (Some x) e = grind (arith, e)

has_masks : {X : Type 0} (r : Result (List X) GenFault) (d : List X) → result_err r ≡ None → r ≡ Ok (result_unwrap_or r d)
has_masks (Ok x) d e = refl
has_masks (Err x) d e = grind (arith, e)

module _ (f : Configuration) (programs : List Program) where
  pub none_passes : generation_fault f programs ≡ None → Passes f programs
  unfolding generation_fault
  none_passes e =
      let declarations = none_of _ _ e in
      let others = none_of _ _ declarations.1 in
      let values = none_of _ _ others.1 in
      let references = none_of _ _ declarations.0 in
      let limits = none_of _ _ references.1 in
      let activations = none_of _ _ limits.1 in
      let resources = none_of _ _ activations.1 in
      let tasks = none_of _ _ others.0 in
      let routines = none_of _ _ tasks.1 in
      let ends = none_of _ _ routines.1 in
      let returns = none_of _ _ ends.1 in
      let masks = none_of _ _ values.0 in
      let counters = none_of _ _ masks.1 in
      let alarms = none_of _ _ counters.1 in
      record {
        limits = no_limit _ limits.0;
        activations = activations.0;
        resources = resources.0;
        task_programs = tasks.0;
        routine_programs = routines.0;
        ends = ends.0;
        returns = returns.0;
        counters = counters.0;
        alarms = alarms.0;
      }

  pub none_masks : generation_fault f programs ≡ None → all_masks f.events ≡ Ok (masks_of f.events)
  unfolding generation_fault
  none_masks e =
      let declarations = none_of _ _ e in
      let others = none_of _ _ declarations.1 in
      let values = none_of _ _ others.1 in
      let masks = none_of _ _ values.0 in
      has_masks _ _ masks.0

  pub none_references : generation_fault f programs ≡ None → reference_fault f (declared_in f) programs ≡ None
  unfolding generation_fault
  none_references e =
      let declarations = none_of _ _ e in
      (none_of _ _ declarations.0).0
