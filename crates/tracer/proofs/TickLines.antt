-- What is written of a tick all of whose records are shown.
use Rattle.std.proofs.Common.{◌≡◌, ℕ, ◌+◌, ◌-◌, ◌≤◌, Bool, true, false, true≢false, List, ◌∷◌, ◌++◌, Option, None, refl, arith, ap, sym, subst, ◌∙◌}
use Rattle.std.specs.List.{AllByRecursion}
use Rattle.std.specs.Prelude.{IfSome}
use Rattle.osek_base.specs.declared.executed.Executed.{Executed}
use Rattle.osek_base.specs.declared.trace_event.TraceEvent.{TraceEvent}
use Rattle.osek_base.specs.BlockingText.{blockers_at}
use Rattle.osek_base.specs.Executed.{StandsIn, idle_or_executed}
use Rattle.osek_base.specs.System.{System}
use Rattle.osek_base.specs.View.{view_records}
use Rattle.kernel.specs.Progress.{HasRunApart, Progress}
use Rattle.kernel.specs.Stamping.{IsNumber}
use Rattle.law_blockers.specs.Steps.{record_at}
use Rattle.trace_lines.specs.Lines.{tick_text}
use Rattle.trace_lines.specs.Programs.{IsOfProgram}
use Rattle.trace_lines.proofs.EachLemmas.{all_split}
use Rattle.tracer.specs.Shown.{is_blocking, is_view, number_by, numbers_shown, records_shown, tick_text_shown}
use Rattle.tracer.specs.Ticks.{MayPass}
use Rattle.tracer.specs.declared.shown.Shown.{Shown}
use Rattle.tracer.proofs.ProgramRecords.{all_of_program}
use Rattle.tracer.proofs.RunTextLemmas.{same_tick_text}

-- the number that a kernel tells
pub number_told : (counted : Bool) (k : Progress) (told : Option ℕ)
    → IsNumber counted (blockers_at k.system k.mode k.arrivals (k.ticks - 1)) told → told ≡ number_by counted k
number_told true k told h = h.counted refl
number_told false k told h = h.uncounted refl

number_shown : (shown : Shown) (k : Progress) → number_by (is_blocking shown) k ≡ numbers_shown shown k.system k.mode k.arrivals (k.ticks - 1)
number_shown Shown.All k = refl
number_shown Shown.Blocking k = refl
number_shown (Shown.View p) k = refl

-- the number of the last tick
number_of_last : (shown : Shown) (counted : Bool) (k new : Progress) → counted ≡ is_blocking shown → new ≡ record k { ticks = k.ticks + 1 }
    → number_by counted new ≡ numbers_shown shown k.system k.mode k.arrivals k.ticks
number_of_last shown counted k new is next =
    let last : k.ticks + 1 - 1 ≡ k.ticks = omega arith in
    ap (λ b. number_by b new) is ∙ number_shown shown new
    ∙ ap (λ (r : Progress). numbers_shown shown r.system r.mode r.arrivals (r.ticks - 1)) next
    ∙ ap (numbers_shown shown k.system k.mode k.arrivals) last

-- where no view is shown all is
all_shown : (V : System) (shown : Shown) (told : List TraceEvent) → is_view shown ≡ false → records_shown V shown told ≡ told
all_shown V Shown.All told h = refl
all_shown V Shown.Blocking told h = refl
all_shown V (Shown.View p) told h = absurd (true≢false h)

-- where a view is, a tick's text is that of the records in it
pub view_text_of : (T W : System) (p digits : ℕ) (k : Progress) (told seen : List TraceEvent) → W ≡ T → digits ≡ k.ticks
    → told ≡ record_at k.system k.mode k.arrivals k.ticks → seen ≡ view_records W p told
    → tick_text T.names digits None seen ≡ tick_text_shown T (Shown.View p) k.system k.mode k.arrivals k.ticks
view_text_of T W p digits k told seen system counted is_told is_seen =
    ap (λ n. tick_text T.names n None seen) counted
    ∙ same_tick_text T.names T.names k.ticks None None _ _ refl refl
    (is_seen ∙ ap (λ (U : System). view_records U p told) system ∙ ap (view_records T p) is_told)

-- the records of a tick are of the programs
pub record AreListed (T : System) (before : List TraceEvent) (executed : Option Executed) (behind : List TraceEvent) : Type 0 where
  pub front : AllByRecursion (IsOfProgram T) before
  pub placed : IfSome executed (StandsIn T)
  pub rest : AllByRecursion (IsOfProgram T) behind

module _ (T : System) (shown : Shown) (counted : Bool) (digits : ℕ) (k after : Progress) (before : List TraceEvent)
    (executed : Option Executed) (behind : List TraceEvent) (may : MayPass T shown counted digits k)
    (ran : HasRunApart k after before executed behind) where
  pub done : 1 ≤ after.ticks
  done =
      let more : after.ticks ≡ k.ticks + 1 = ap (λ (r : Progress). r.ticks) ran.next in
      omega (arith, more)

  pub listed : AreListed T before executed behind
  listed =
      let own = idle_or_executed k.system executed in
      let parts =
      all_split (IsOfProgram T) before (own ∷ behind)
      (subst (λ (U : System). AllByRecursion (IsOfProgram U) (before ++ own ∷ behind)) may.system
      (subst (AllByRecursion (IsOfProgram k.system)) (sym ran.records) (all_of_program k.system k.mode k.arrivals k.ticks))) in
      record { front = parts.0; placed = subst (λ (U : System). IfSome executed (StandsIn U)) may.system ran.there; rest = parts.1.1 }

  -- where all is shown, a tick's text is that of its records
  pub whole_text : is_view shown ≡ false
      → tick_text T.names digits (number_by counted after) (before ++ idle_or_executed T executed ∷ behind)
      ≡ tick_text_shown T shown k.system k.mode k.arrivals k.ticks
  whole_text whole =
      let told = record_at k.system k.mode k.arrivals k.ticks in
      let as_told = ap (λ (U : System). before ++ idle_or_executed U executed ∷ behind) (sym may.system) ∙ ran.records in
      ap (λ n. tick_text T.names n (number_by counted after) (before ++ idle_or_executed T executed ∷ behind)) may.counted
      ∙ same_tick_text T.names T.names k.ticks _ _ _ _ refl (number_of_last shown counted k after may.blockers ran.next)
      (as_told ∙ sym (all_shown T shown told whole))
