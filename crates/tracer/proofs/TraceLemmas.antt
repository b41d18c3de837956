-- What is written of a run that was begun: the trace, or the view. Faults that are no failed write.
use Rattle.std.proofs.Common.{◌≡◌, ◌≢◌, ℕ, List, Result, Err, subst, ap, ◌∙◌}
use Rattle.std.specs.Prelude.{IfErr}
use Rattle.osek_base.specs.declared.arrivals.Arrival.{Arrival}
use Rattle.osek_base.specs.System.{System}
use Rattle.osek_base.specs.Trace.{run}
use Rattle.kernel.specs.Progress.{Progress}
use Rattle.osek_base.specs.Text.{text}
use Rattle.tracer.specs.Shown.{numbers_shown, text_shown, view_text}
use Rattle.tracer.specs.UpperRuns.{RefusesPartition}
use Rattle.tracer.specs.WholeRuns.{Input, IsBegun, IsTextOf, IsShown, RefusesSystem, RefusesStart}
use Rattle.tracer.specs.declared.run_fault.RunFault.{RunFault}
use Rattle.tracer.specs.declared.shown.Shown.{Shown}
use Rattle.tracer.proofs.RunTextLemmas.{all_shown, view_shown}

-- what is shown of a run that was begun, by texts of its system, in the ticks that are asked for
pub shown_of : (i : Input) (shown : Shown) (S V : System) (r : Progress) (ticks : ℕ) → V ≡ S → ticks ≡ i.ticks → IsBegun S i.irqs i.mode r
    → IsShown S shown i (text_shown V shown (numbers_shown shown r.system r.mode r.arrivals) (run r.system r.mode r.arrivals ticks))
shown_of i shown S V r ticks same asked begun =
    record {
      number = r.mode;
      arrivals = r.arrivals;
      listed = begun.listed;
      started = begun.started;
      spelled =
          ap (λ (s : System). text_shown V shown (numbers_shown shown s r.mode r.arrivals) (run s r.mode r.arrivals ticks)) begun.system
          ∙ ap (λ (v : System). text_shown v shown (numbers_shown shown S r.mode r.arrivals) (run S r.mode r.arrivals ticks)) same
          ∙ ap (λ t. text_shown S shown (numbers_shown shown S r.mode r.arrivals) (run S r.mode r.arrivals t)) asked;
    }

-- one text spelled in another way
pub spelled_as : (S : System) (f g : ℕ → List Arrival → List ℕ) (irqs mode bytes : List ℕ)
    → ((number : ℕ) (arrivals : List Arrival) → f number arrivals ≡ g number arrivals)
    → IsTextOf S f irqs mode bytes → IsTextOf S g irqs mode bytes
spelled_as S f g irqs mode bytes same h =
    record {
      number = h.number;
      arrivals = h.arrivals;
      listed = h.listed;
      started = h.started;
      spelled = h.spelled ∙ same h.number h.arrivals;
    }

-- all of it is the trace
pub trace_of : (i : Input) (S : System) (bytes : List ℕ) → IsShown S Shown.All i bytes
    → IsTextOf S (λ number arrivals. text S.names (run S number arrivals i.ticks)) i.irqs i.mode bytes
trace_of i S bytes = spelled_as S _ _ i.irqs i.mode bytes (λ number arrivals. all_shown S (run S number arrivals i.ticks))

-- the view at p is its text
pub view_of : (i : Input) (p : ℕ) (S : System) (bytes : List ℕ) → IsShown S (Shown.View p) i bytes
    → IsTextOf S (λ number arrivals. view_text S p (run S number arrivals i.ticks)) i.irqs i.mode bytes
view_of i p S bytes = spelled_as S _ _ i.irqs i.mode bytes (λ number arrivals. view_shown S p (run S number arrivals i.ticks))

-- ---- faults

pub if_err : {T E : Type 0} (r : Result T E) (fault : E) (P : E → Type 0) → r ≡ Err fault → P fault → IfErr r P
if_err r fault P e p = rw e p

pub no_write_of_system : (oil asm : List ℕ) (fault : RunFault) → RefusesSystem oil asm fault → fault ≢ RunFault.Write
no_write_of_system oil asm fault h e = subst (RefusesSystem oil asm) e h

pub no_write_of_start : (S : System) (irqs mode : List ℕ) (fault : RunFault) → RefusesStart S irqs mode fault → fault ≢ RunFault.Write
no_write_of_start S irqs mode fault h e = subst (RefusesStart S irqs mode) e h

pub no_write_of_partition : (S : System) (p : ℕ) (fault : RunFault) → RefusesPartition S p fault → fault ≢ RunFault.Write
no_write_of_partition S p fault h e = subst (RefusesPartition S p) e h
