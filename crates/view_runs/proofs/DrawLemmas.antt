-- The picture of a run, tick by tick.
use Rattle.std.proofs.Common.{◌≡◌, ℕ, ◌-◌, ◌+◌, ◌<◌, ◌≤◌, Bool, List, [], ◌∷◌, length, sym, ap, subst, ◌∙◌, arith}
use Rattle.law_blockers.specs.Steps.{record_at}
use Rattle.kernel.specs.Progress.{Progress}
use Rattle.seen_ticks.specs.declared.observation.Observation.{Observation}
use Rattle.osek_base.specs.declared.trace_event.TraceEvent.{TraceEvent}
use Rattle.osek_base.specs.System.{System}
use Rattle.view_timelines.specs.Marks.{AreMarks, LeaveNothing, Records}
use Rattle.view_timelines.specs.Rows.{AreRows, Picture}
use Rattle.view_runs.specs.Seen.{DoesNext, IsLast, PassesSome}
use Rattle.view_runs.proofs.TickLemmas.{Made}

-- the rows and marks of a picture of the ticks from one on and before another are those of these ticks
pub record AreDrawn (S : System) (told : Records) (from to : ℕ) (picture : Picture) (seen : List Observation) : Type 0 where
  pub rows : AreRows S seen picture
  pub marks : AreMarks S told seen picture
  pub first : picture.from ≡ from
  pub end : picture.to ≡ to

-- the records of each tick of a run
abbrev pub told : Progress → Records
told r = record_at r.system r.mode r.arrivals

module _ (counted : Bool) (ticks : ℕ) (r : Progress) (Is : List Observation → Type 0) (s : Progress) (m : Made counted ticks r s Is)
    (w : Progress) where
  -- those of the tick that was done last
  pub told_last : (o : Observation) (records : List TraceEvent) → DoesNext counted ticks s w → (1 ≤ w.ticks → IsLast counted w o)
      → (1 ≤ w.ticks → records ≡ record_at w.system w.mode w.arrivals (w.ticks - 1)) → told r o.tick ≡ records
  told_last o records p last are =
      let further = p.further in
      let some : 1 ≤ w.ticks = omega (arith, further) in
      let is = last some in
      let behind : w ≡ record r { ticks = s.ticks + length (o ∷ []) } =
      (p.sees o is).next ∙ ap (λ (x : Progress). record x { ticks = s.ticks + length (o ∷ []) }) m.sees.next in
      sym (are some ∙ ap (λ (x : Progress). record_at x.system x.mode x.arrivals (w.ticks - 1)) behind ∙ ap (told r) (sym is.number))

  -- those of ticks in which the same is seen
  pub told_nothing : (first end : ℕ) → PassesSome counted ticks s w first → end ≡ w.ticks
      → (t : ℕ) → first ≤ t → t < end → LeaveNothing (told r t)
  told_nothing first end p end_is t from before =
      subst (λ (x : Progress). LeaveNothing (record_at x.system x.mode x.arrivals t)) m.sees.next
      (p.unmarked t from (omega (arith, before, end_is)))
