-- What a run answers that writes to a sink: refusals, and one text that is another.
use Rattle.std.proofs.Common.{◌≡◌, ◌≢◌, ℕ, Bool, List, Option, Result, Ok, Err, refl}
use Rattle.tracer.specs.Writing.{Writes}
use Rattle.tracer.specs.declared.run_fault.RunFault.{RunFault}

module _ {X : Type 0} (taken : X → Option (List ℕ)) (has_failed : X → Bool) (P : List ℕ → Type 0) (R : RunFault → Type 0) where
  refuses : (T : Type 0) (same : X) (fault : RunFault) → fault ≢ RunFault.Write → R fault
      → Writes {X = X} {T = T} taken has_failed P R same same (Err fault)
  refuses T same (RunFault.Oil fault) other h = (refl, h)
  refuses T same (RunFault.Asm fault) other h = (refl, h)
  refuses T same (RunFault.Gen fault) other h = (refl, h)
  refuses T same (RunFault.Denied told) other h = (refl, h)
  refuses T same (RunFault.Irq fault) other h = (refl, h)
  refuses T same (RunFault.Boot fault) other h = (refl, h)
  refuses T same RunFault.Memory other h = (refl, h)
  refuses T same RunFault.Write other h = absurd (other refl)

  -- where a refusal is the answer
  pub refused : {T : Type 0} (same : X) (fault : RunFault) (r : Result T RunFault) → r ≡ Err fault → fault ≢ RunFault.Write → R fault
      → Writes taken has_failed P R same same r
  refused {T = T} same fault r e other h = rw e (refuses T same fault other h)

  -- where each text of P is one of Q, and each refusal of R one of U
  pub as_asked : {T : Type 0} (Q : List ℕ → Type 0) (U : RunFault → Type 0) (old new : X) (r : Result T RunFault)
      → ((bytes : List ℕ) → P bytes → Q bytes) → ((fault : RunFault) → R fault → U fault)
      → Writes taken has_failed P R old new r → Writes taken has_failed Q U old new r
  as_asked Q U old new (Ok x) f g h = ((h.0.0, f h.0.0 h.0.1, h.0.2), h.1)
  as_asked Q U old new (Err RunFault.Write) f g h = ((h.0.0, f h.0.0 h.0.1, h.0.2), h.1)
  as_asked Q U old new (Err (RunFault.Oil fault)) f g h = (h.0, g _ h.1)
  as_asked Q U old new (Err (RunFault.Asm fault)) f g h = (h.0, g _ h.1)
  as_asked Q U old new (Err (RunFault.Gen fault)) f g h = (h.0, g _ h.1)
  as_asked Q U old new (Err (RunFault.Denied told)) f g h = (h.0, g _ h.1)
  as_asked Q U old new (Err (RunFault.Irq fault)) f g h = (h.0, g _ h.1)
  as_asked Q U old new (Err (RunFault.Boot fault)) f g h = (h.0, g _ h.1)
  as_asked Q U old new (Err RunFault.Memory) f g h = (h.0, g _ h.1)
