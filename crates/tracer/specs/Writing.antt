-- What a run answers that writes to a sink.
use Rattle.std.specs.Prelude.{◌≡◌, ℕ, Bool, true, List, Option, Ok, Err}
use Rattle.std.specs.Io.KnownBytes.{Appends}
use Rattle.std.specs.declared.result.Result.{Result}
use Rattle.sinks.specs.Sinks.{AppendsSome}
use Rattle.tracer.specs.declared.run_fault.RunFault.{RunFault}

-- Ok: the sink took a text that is asked for, and no write failed.
-- Write: the sink took a beginning of such a text, and a write failed.
-- Any other fault: the sink is as it was, and the fault is a refusal.
abbrev pub Writes : {X T : Type 0} → (X → Option (List ℕ)) → (X → Bool) → (List ℕ → Type 0) → (RunFault → Type 0)
    → X → X → Result T RunFault → Type 0
Writes taken has_failed IsAsked Refuses old new (Ok x) =
    ((bytes : List ℕ) × IsAsked bytes × Appends (taken old) (taken new) bytes) × (has_failed new ≡ has_failed old)
Writes taken has_failed IsAsked Refuses old new (Err RunFault.Write) =
    ((bytes : List ℕ) × IsAsked bytes × AppendsSome (taken old) (taken new) bytes) × (has_failed new ≡ true)
Writes taken has_failed IsAsked Refuses old new (Err fault) = (new ≡ old) × Refuses fault
