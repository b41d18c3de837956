-- What comes next, the words of windows aside.
use Rattle.std.proofs.Common.{◌≡◌, ℕ, List, refl, sym, ◌∙◌, ap, subst}
use Rattle.osek_base.specs.declared.ids.Owner.{Owner}
use Rattle.osek_base.specs.declared.instr.Instr.{Instr}
use Rattle.osek_base.specs.System.{System, instruction_at, instruction_in}
use Rattle.osek_base.specs.Instruction.{Context}
use Rattle.osek_base.specs.State.{Words}
use Rattle.osek_base.proofs.PlaceLemmas.{KnownPlace}
use Rattle.law_runs.proofs.Formed.{IsPlaced}
use Rattle.kernel.proofs.PlaceLemmas.{placed_known}
use Rattle.machine.specs.Windows.{word}
use Rattle.machine.specs.Code.{Programs, program_in}
use Rattle.machine.specs.Packed.{instr_of}
use Rattle.machine.proofs.CodeLemmas.{program_there}
use Rattle.services.specs.Objects.{Objects, kept_in, kept_of}
use Rattle.services.specs.Calls.{IsExecuting, context_in}
use Rattle.kernel.specs.Processor.{Processor, IsNext, IsProcessor, picture, system_of}
use Rattle.kernel.specs.declared.next.Next.{Next}
use Rattle.kernel.proofs.DoesLemmas.{processor_of}

-- the words of windows aside
pub context_with : (w : Words) (o : Objects) (who : Owner) → context_in (kept_in o) who ≡ context_in (kept_of w o) who
context_with w o (Owner.Task t) = refl
context_with w o (Owner.Routine i) = refl

pub executing_alone : (w : Words) (o : Objects) (who : Owner) → IsExecuting (kept_of w o) who → IsExecuting (kept_in o) who
executing_alone w o (Owner.Task t) h = h
executing_alone w o (Owner.Routine i) h = h

-- what is fetched is what comes next
pub next_is : (m : Processor) (S : System) (o : Objects) (words : List ℕ) (code : Programs) → processor_of o words ≡ m → IsProcessor S o code
    → (next : Next) (cpu : Context) → IsExecuting (picture m) next.owner
    → IsPlaced (system_of m) next.owner (context_in (picture m) next.owner)
    → cpu ≡ context_in (kept_in o) next.owner → next.place ≡ cpu.place
    → instr_of next.packed ≡ instruction_in (program_in code next.owner) next.place
    → IsNext m next
next_is m S o words code is h next cpu who placed cpu_is place_is fetched =
    let same : cpu ≡ context_in (picture m) next.owner =
    cpu_is ∙ context_with (word words) o next.owner ∙ ap (λ x. context_in (picture x) next.owner) is in
    let place : next.place ≡ (context_in (picture m) next.owner).place = place_is ∙ ap (λ (x : Context). x.place) same in
    let system : system_of m ≡ S = sym (ap system_of is) ∙ h.system in
    record {
      who = who;
      place = place;
      placed = placed;
      known =
          subst (λ (T : System). KnownPlace T next.owner (context_in (picture m) next.owner).place) (sym system)
          (placed_known S next.owner (context_in (picture m) next.owner) h.proper
          (subst (λ (T : System). IsPlaced T next.owner (context_in (picture m) next.owner)) system placed));
      instruction =
          ap (λ n. instruction_at (system_of m) next.owner n) (sym place)
          ∙ ap (λ (T : System). instruction_at T next.owner next.place) system
          ∙ sym (ap (λ (p : List Instr). instruction_in p next.place) (program_there S code next.owner h.programs))
          ∙ sym fetched;
    }
