-- The modelled processor. A plain instruction of a task or routine, on its registers, its place
-- and its window.
use Rattle.std.specs.Prelude.{ℕ, ◌≡◌, true, List}
use Rattle.osek_base.specs.declared.ids.Owner.{Owner}
use Rattle.osek_base.specs.declared.trace_event.Effect.{Effect}
use Rattle.osek_base.specs.Instruction.{Context, plain}
use Rattle.osek_base.specs.State.{words_after}
use Rattle.law_kept.specs.KeptTick.{with_context_in}
use Rattle.services.specs.Calls.{caller_as, context_in}
use Rattle.services.specs.Objects.{Objects, kept_in}
use Rattle.machine.specs.declared.packed_instr.PackedInstr.{PackedInstr}
use Rattle.machine.specs.Execution.{HasNext}
use Rattle.machine.specs.Packed.{instr_of, is_plain, plain_of}
use Rattle.machine.specs.Windows.{word}

-- the word tells a plain instruction, and there is a place behind it, or one to which it goes
pub record IsPlainAt (packed : PackedInstr) (x : Context) : Type 0 where
  pub tells : is_plain (instr_of packed) ≡ true
  pub next : HasNext (plain_of (instr_of packed)) x

-- the registers and the place after it
abbrev pub plain_context : PackedInstr → Context → List ℕ → Owner → Context
plain_context packed x windows owner = (plain (plain_of (instr_of packed)) x (word windows owner)).context

-- who executes goes on so, and all else that is kept stays
pub record ExecutesPlain (packed : PackedInstr) (owner : Owner) (old new : Objects) (before after : List ℕ) (told : Effect) : Type 0 where
  pub system : new.system ≡ old.system
  pub effect : told ≡ (plain (plain_of (instr_of packed)) (context_in (kept_in old) owner) (word before owner)).effect
  pub words : (o : Owner) (i : ℕ) → word after o i ≡ words_after (word before) owner told o i
  pub kept : kept_in new
      ≡ with_context_in (caller_as owner) (plain_context packed (context_in (kept_in old) owner) before owner) (kept_in old)
