-- What comes next, as the objects alone have it, and what it does to the machine.
use Rattle.std.proofs.Common.{◌≡◌, ℕ, List, [], ◌∷◌, sym, ◌∙◌, ap, ap₂, subst}
use Rattle.osek_base.specs.declared.instr.Instr.{Instr}
use Rattle.osek_base.specs.declared.trace_event.Outcome.{Outcome}
use Rattle.osek_base.specs.declared.trace_event.TraceEvent.{TraceEvent}
use Rattle.osek_base.specs.System.{System, instruction_at}
use Rattle.osek_base.specs.Proper.{IsProper}
use Rattle.osek_base.specs.Instruction.{Context}
use Rattle.osek_base.proofs.PlaceLemmas.{KnownPlace}
use Rattle.law_runs.proofs.Formed.{IsPlaced}
use Rattle.machine.specs.Windows.{word}
use Rattle.machine.specs.Code.{Programs}
use Rattle.machine.specs.Packed.{instr_of}
use Rattle.law_kept.specs.Moves.{KeptRecorded}
use Rattle.law_kept.specs.KeptTick.{execute_phase_in}
use Rattle.services.specs.Objects.{Objects, kept_in, kept_of}
use Rattle.services.specs.Calls.{IsExecuting, MayGoOn, context_in}
use Rattle.kernel.specs.Processor.{Processor, IsNext, IsProcessor}
use Rattle.kernel.specs.Does.{Does}
use Rattle.kernel.specs.declared.next.Next.{Next}
use Rattle.kernel.proofs.DoesLemmas.{processor_of}
use Rattle.kernel.proofs.Execution.{Execution, executing, executed_by}
use Rattle.kernel.proofs.ExecutionLemmas.{execute_phase-some, may_go_on}
use Rattle.kernel.proofs.PhaseLemmas.{context_with, executing_alone}
use Rattle.kernel.proofs.PlaceLemmas.{placed_known}

-- who executes, and the instruction at its place, of the objects
pub record IsFetched (o : Objects) (next : Next) : Type 0 where
  pub proper : IsProper o.system
  pub who : IsExecuting (kept_in o) next.owner
  pub place : next.place ≡ (executing o next.owner).cpu.place
  pub placed : IsPlaced o.system next.owner (executing o next.owner).cpu
  pub known : KnownPlace o.system next.owner (executing o next.owner).cpu.place
  pub instruction : instruction_at o.system next.owner (executing o next.owner).cpu.place ≡ instr_of next.packed

pub fetched : (m : Processor) (S : System) (o : Objects) (words : List ℕ) (code : Programs) (next : Next) → processor_of o words ≡ m → IsProcessor S o code
    → IsNext m next → IsFetched o next
fetched m S o words code next is h there =
    let n : IsNext (processor_of o words) next = subst (λ x. IsNext x next) (sym is) there in
    let same : context_in (kept_of (word words) o) next.owner ≡ context_in (kept_in o) next.owner = sym (context_with (word words) o next.owner) in
    let placed : IsPlaced o.system next.owner (context_in (kept_in o) next.owner) = subst (λ x. IsPlaced o.system next.owner x) same n.placed in
    record {
      proper = subst IsProper (sym h.system) h.proper;
      who = executing_alone (word words) o next.owner n.who;
      place = n.place ∙ ap (λ (x : Context). x.place) same;
      placed = placed;
      known = subst (λ T. KnownPlace T next.owner (context_in (kept_in o) next.owner).place) (sym h.system)
          (placed_known S next.owner (context_in (kept_in o) next.owner) h.proper (subst (λ T. IsPlaced T next.owner (context_in (kept_in o) next.owner)) h.system placed));
      instruction = ap (λ (x : Context). instruction_at o.system next.owner x.place) (sym same) ∙ n.instruction;
    }

pub goes_on_there : (o : Objects) (next : Next) → IsFetched o next → MayGoOn o next.owner
goes_on_there o next f = may_go_on o next.owner (executing o next.owner).cpu f.who

-- what it does, and what is told of it
pub executed_does : (m : Processor) (o n : Objects) (words after : List ℕ) (next : Next) → processor_of o words ≡ m → IsFetched o next
    → (i : Instr) → instr_of next.packed ≡ i → (outcome : Outcome) (behind : List TraceEvent) → n.system ≡ o.system
    → kept_of (word after) n ≡ (executed_by o.system (executing o next.owner) i (word words) o).state
    → TraceEvent.Executed next.owner (executing o next.owner).cpu.place i outcome ∷ behind ≡ (executed_by o.system (executing o next.owner) i (word words) o).events
    → Does execute_phase_in m (processor_of n after) [] (TraceEvent.Executed next.owner next.place (instr_of next.packed) outcome ∷ behind)
executed_does m o n words after next is f i instr_is outcome behind system state told =
    let e : Execution = executing o next.owner in
    let done : execute_phase_in o.system (kept_of (word words) o) ≡ executed_by o.system e i (word words) o =
    execute_phase-some o.system (word words) o e f.who
    ∙ ap (λ j. executed_by o.system e j (word words) o) (f.instruction ∙ instr_is) in
    subst (λ x. Does execute_phase_in x (processor_of n after) [] (TraceEvent.Executed next.owner next.place (instr_of next.packed) outcome ∷ behind)) is
    (record {
      system = system;
      kept = state ∙ sym (ap (λ (r : KeptRecorded). r.state) done);
      events =
          ap₂ (λ (p : ℕ) (j : Instr). TraceEvent.Executed next.owner p j outcome ∷ behind) f.place instr_is
          ∙ told ∙ sym (ap (λ (r : KeptRecorded). r.events) done);
    })
