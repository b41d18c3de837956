-- What is shown of the upper part by itself is what is shown of the system.
use Rattle.std.proofs.Common.{◌≡◌, ℕ, List, Some, sym, ap, subst, ◌∙◌}
use Rattle.std.specs.List.{flat_map}
use Rattle.osek_base.specs.Names.{number_of}
use Rattle.osek_base.specs.System.{System}
use Rattle.osek_base.specs.Trace.{run}
use Rattle.osek_base.specs.Agree.{upper_part}
use Rattle.osek_base.specs.Laws.{HaveOneView}
use Rattle.osek_base.specs.View.{Sight}
use Rattle.kernel.specs.declared.boot.BootFault.{BootFault}
use Rattle.trace_lines.specs.Lines.{ended}
use Rattle.arrival_reader.specs.ArrivalText.{lines_of}
use Rattle.tracer.specs.WholeRuns.{Input, IsShown, RefusesStart}
use Rattle.tracer.specs.declared.run_fault.RunFault.{RunFault}
use Rattle.tracer.specs.declared.shown.Shown.{Shown}
use Rattle.tracer.proofs.RunTextLemmas.{view_shown}
use Rattle.arrival_reader.proofs.ArrivalLemmas.{number_below, are_read_same, first_fault_same}

module _ (S : System) (p : ℕ) (i : Input) where
  -- the same is shown
  pub shown_alone : (T : System) → T ≡ upper_part S p → HaveOneView S T p → (bytes : List ℕ)
      → IsShown T (Shown.View p) i bytes → IsShown S (Shown.View p) i bytes
  shown_alone T same one_view bytes shown =
      let routines : T.names.routines ≡ S.names.routines = ap (λ (R : System). R.names.routines) same in
      let modes : T.names.modes ≡ S.names.modes = ap (λ (R : System). R.names.modes) same in
      let started = subst (λ names. number_of i.mode names ≡ Some shown.number) modes shown.started in
      let views = one_view shown.number shown.arrivals i.ticks (number_below i.mode S.names.modes shown.number started) in
      record {
        number = shown.number;
        arrivals = shown.arrivals;
        listed = are_read_same T.names S.names routines 1 0 (lines_of i.irqs) shown.arrivals shown.listed;
        started = started;
        spelled =
            shown.spelled ∙ view_shown T p (run T shown.number shown.arrivals i.ticks)
            ∙ ap (λ seen. flat_map ended (flat_map (λ (s : Sight). s.lines) seen)) (sym views)
            ∙ sym (view_shown S p (run S shown.number shown.arrivals i.ticks));
      }

  -- the same is refused
  pub refused_alone : (T : System) → T ≡ upper_part S p → (fault : RunFault) → RefusesStart T i.irqs i.mode fault → RefusesStart S i.irqs i.mode fault
  refused_alone T same (RunFault.Irq fault) h =
      first_fault_same T.names S.names (ap (λ (R : System). R.names.routines) same) 1 0 (lines_of i.irqs) fault h
  refused_alone T same (RunFault.Boot BootFault.Memory) h = h
  refused_alone T same (RunFault.Boot BootFault.UnknownMode) h = (
    h.0,
    are_read_same T.names S.names (ap (λ (R : System). R.names.routines) same) 1 0 (lines_of i.irqs) h.0 h.1,
    ap (λ (R : System). number_of i.mode R.names.modes) (sym same) ∙ h.2,
  )
  refused_alone T same RunFault.Memory h = h
  refused_alone T same (RunFault.Oil fault) h = h
  refused_alone T same (RunFault.Asm fault) h = h
  refused_alone T same (RunFault.Gen fault) h = h
  refused_alone T same (RunFault.Denied told) h = h
  refused_alone T same RunFault.Write h = h
