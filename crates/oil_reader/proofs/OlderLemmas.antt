-- A text that had a meaning when the PRIORITY of a task ended at 31 has the same meaning, and no fault.
use Rattle.std.proofs.Common.{◌≡◌, ℕ, List, Result, Ok, Err, inl, refl}
use Rattle.std.specs.Prelude.{IfOk, IfErr}
use Rattle.oil_reader.specs.declared.fault.OilFault.{OilFault}
use Rattle.oil_reader.specs.declared.fault.OilFault.TheVariants as fault
use Rattle.oil_reader.specs.Configuration.{Configuration}
use Rattle.oil_reader.specs.Faults.{Means, HasFault}
use Rattle.oil_reader.specs.Older.{MeantThen}
use Rattle.oil_reader.proofs.TextMeaning.{meaning_unique, meaning_apart}

still_means : (text : List ℕ) (c : Configuration) → MeantThen text c → Means text c
still_means text c m = record { tree = m.tree; is_tree = m.is_tree; sound = λ e stands. m.sound e (inl stands); content = m.content }

same_as_then : (text : List ℕ) (c d : Configuration) → MeantThen text c → Means text d → d ≡ c
same_as_then text c d m now = meaning_unique text d c now (still_means text c m)

no_fault_then : (text : List ℕ) (c : Configuration) (e : OilFault) → MeantThen text c → HasFault text e → e ≡ fault.Memory
no_fault_then text c fault.Memory m h = refl
no_fault_then text c (fault.Token p) m h = absurd (meaning_apart text c (fault.Token p) (λ same. cc) (still_means text c m) h)
no_fault_then text c (fault.Syntax p) m h = absurd (meaning_apart text c (fault.Syntax p) (λ same. cc) (still_means text c m) h)
no_fault_then text c (fault.UnknownAttribute p) m h = absurd (meaning_apart text c (fault.UnknownAttribute p) (λ same. cc) (still_means text c m) h)
no_fault_then text c (fault.Missing p) m h = absurd (meaning_apart text c (fault.Missing p) (λ same. cc) (still_means text c m) h)
no_fault_then text c (fault.Twice p) m h = absurd (meaning_apart text c (fault.Twice p) (λ same. cc) (still_means text c m) h)
no_fault_then text c (fault.Range p) m h = absurd (meaning_apart text c (fault.Range p) (λ same. cc) (still_means text c m) h)

-- ---- what is answered

pub read_as_then : (text : List ℕ) (c : Configuration) (r : Result Configuration OilFault) → IfOk r (λ file. Means text file) → MeantThen text c
    → IfOk r (λ file. file ≡ c)
read_as_then text c (Ok d) h m = same_as_then text c d m h
read_as_then text c (Err e) h m = tt

pub refused_then : (text : List ℕ) (c : Configuration) (r : Result Configuration OilFault) → IfErr r (λ e. HasFault text e) → MeantThen text c
    → IfErr r (λ e. e ≡ fault.Memory)
refused_then text c (Ok d) h m = tt
refused_then text c (Err e) h m = no_fault_then text c e m h
