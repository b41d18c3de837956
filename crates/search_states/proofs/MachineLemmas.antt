-- What the keys of machines tell.
use Rattle.std.proofs.Common.{Bool, sym, subst}
use Rattle.osek_base.specs.System.{System}
use Rattle.law_future.specs.Need.{Need}
use Rattle.kernel.specs.Machine.{IsOfRun, Machine, next_tick, picture, system_of}
use Rattle.search_needs.specs.Within.{IsWithin}
use Rattle.search_keys.specs.InRange.{IsInRange, KeysTell, NeedsOwnWords, RunsAreInRange}
use Rattle.search_states.specs.Told.{MachineKeysTell}

in_range : RunsAreInRange → (counted : Bool) (m : Machine) → IsOfRun counted m
    → IsInRange (system_of m) (picture m)
in_range runs counted m k =
    subst (IsInRange (system_of m)) (sym k.come.at.same)
    (runs (system_of m) k.mode k.arrivals (next_tick m) k.proper)

own_words : (S : System) (need : Need) → IsWithin S need → NeedsOwnWords S need
own_words S need within who i is_needed = within.words who i is_needed

pub machines_tell : KeysTell → RunsAreInRange → MachineKeysTell
machines_tell tell runs counted need m n of_run of_run_too same within equal =
    tell (system_of m) need (picture m) (picture n) (own_words (system_of m) need within)
    (in_range runs counted m of_run)
    (subst (λ (S : System). IsInRange S (picture n)) same
    (in_range runs counted n of_run_too)) equal
