-- OSEK/VDX OS: task state model. What is left where registers and a place are lent to be changed.
use Rattle.std.specs.Prelude.{[], slice_set}
use Rattle.std.specs.Option.{option_map}
use Rattle.std.specs.Borrow.{Lends, MutBor, Fml, RattleType}
use mir.Syntax.{named}
use Rattle.osek_base.specs.declared.ids.Owner.{Owner}
use Rattle.osek_base.specs.Instruction.{Context}
use Rattle.osek_base.specs.State.{Active}
use Rattle.osek_base.specs.Tick.{moved}
use Rattle.ready_queues.specs.declared.ready_queues.ReadyQueues.{Ghosts}
use Rattle.law_kept.specs.Kept.{Slot}
use Rattle.law_kept.specs.KeptService.{slot_moved}
use Rattle.machine.specs.contracts.cpu.Cpu.{the_row as cpu_row}
use Rattle.services.specs.Objects.{Objects, by_task}
use Rattle.services.specs.contracts.slot.Slot.{the_row as slot_row}
use Rattle.services.specs.contracts.interrupts.Active.{the_row as active_row}
use Rattle.services.specs.contracts.objects.Objects.{the_row as objects_row}

-- once the borrow ends, a task's oldest job has the registers and the place that it was left
abbrev pub LendsOfSlot : MutBor Slot → MutBor Context → Fml
LendsOfSlot s r = Lends slot_row cpu_row s r (λ x. slot_moved x s.now)

-- so has a routine
abbrev pub LendsOfActive : MutBor Active → MutBor Context → Fml
LendsOfActive a r = Lends active_row cpu_row a r (λ x. moved x a.now)

-- who executes has these registers and this place, and all else stays
abbrev pub with_context : Owner → Objects → Context → Objects
with_context (Owner.Task t) o x =
    record o { slots = slice_set o.slots t (slot_moved x (by_task o.slots t)) }
with_context (Owner.Routine i) o x =
    record o { active = option_map (moved x) o.active }

module _ (Q : RattleType) (queues : Ghosts Q.Denot) where
  -- and so has who executes
  abbrev pub LendsContext : Owner → MutBor Objects → MutBor Context → Fml
  LendsContext who o r =
      Lends (objects_row (record { mir = named 1; lft = [] }) Q queues) cpu_row o r
      (with_context who o.now)
