-- Value change dumps: which values are written. A viewer shows of a variable what was written last.
use Rattle.std.specs.Prelude.{Bool, Option, Some, None, if◌then◌else◌}

-- what is written of a variable at a tick in which it has the value v: v where nothing was written yet or v isn't equal to what
-- was written last, and else nothing
abbrev pub written : {V : Type 0} → (V → V → Bool) → Option V → V → Option V
written equal None v = Some v
written equal (Some last) v = if equal last v then None else Some v

-- what a viewer shows of a variable behind a tick: what is written in it, and else what it showed before
abbrev pub shown : {V : Type 0} → Option V → Option V → Option V
shown before None = before
shown before (Some v) = Some v
