-- OSEK/VDX OS: system services. Services in a program text.
use Rattle.std.specs.Prelude.{ℕ, List, Option}
use Rattle.osek_base.specs.declared.instr.Service.{Service}

-- a service whose operands are names, events a list of them; None is INVALID
abbrev pub NamedService : Type 0
NamedService = Service ℕ (Option (List ℕ)) (Option (List ℕ)) (Option (List ℕ)) (List (List ℕ))
