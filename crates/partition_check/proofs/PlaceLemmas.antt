-- The places of a program of a proper system.
use Rattle.std.proofs.Common.{ℕ, ◌<◌, length, arith}
use Rattle.osek_base.specs.declared.limits.TheConstants.{MAX_INSTRUCTIONS}
use Rattle.osek_base.specs.declared.ids.Owner.{Owner}
use Rattle.osek_base.specs.System.{System, program}
use Rattle.osek_base.specs.Separable.{IsOwner}
use Rattle.osek_base.specs.Proper.{IsProper}
use Rattle.osek_base.proofs.PlaceLemmas.{known_place, KnownPlace}

pub place_short : (S : System) (owner : Owner) (place : ℕ) → IsProper S → IsOwner S owner → place < length (program S owner) → place < MAX_INSTRUCTIONS
place_short S owner place proper known below =
    let k : KnownPlace S owner place = known_place S owner place proper known below in
    omega (arith, below, k.short)
