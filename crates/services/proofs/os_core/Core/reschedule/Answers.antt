use Rattle.std.proofs.Common.{◌≡◌, ◌<◌, ◌||◌, Bool, true, false, length, refl, subst, sym, ◌∙◌, ap}
use Rattle.std.proofs.lemmas.Bool.{false≢true}
use Rattle.law_kept.specs.Kept.{Kept}
use Rattle.std.specs.Prelude.{ℕ, Option, IfSome}
use Rattle.services.specs.Objects.{Objects, kept_in}
use Rattle.services.proofs.BoundLemmas.{contender_known}
use Rattle.services.proofs.StandsLemmas.{fit_where_stands, stands_rescheduled}
use Rattle.services.proofs.RescheduledLemmas.{core_rescheduled, no_routine_behind}
use Rattle.services.proofs.os_core.Core.reschedule.Goals as goal
use Rattle.services.proofs.os_core.Core.reschedule.Goals.{then-could, else-could}

pub reschedule-could-requires-clause-fit : goal.reschedule-could-requires-clause-fit
reschedule-could-requires-clause-fit g c = fit_where_stands c.self.inside.objects c.self.invariant.stands

or_true : (b : Bool) → (b || true) ≡ true
or_true true = refl
or_true false = refl

pub is_settled-self-inside-requires : goal.is_settled-self-inside-requires
is_settled-self-inside-requires g c =
    let o : Objects = c.self.inside.objects in
    ap (λ (k : Kept). k.active) c.reschedule-could.ensures.does.kept
    ∙ no_routine_behind o.system (kept_in o) (sym c.reschedule-could.ensures.could ∙ c.if-could.true)

pub returns-clause-known : goal.returns-clause-known
returns-clause-known g c =
    let o : Objects = c.self.inside.objects in
    subst (λ (x : Objects). IfSome c.contender-runner.result (λ t. t < length x.system.tasks)) c.self.view_is
    (subst (λ (r : Option ℕ). IfSome r (λ t. t < length o.system.tasks)) (sym c.contender-runner.ensures)
    (contender_known o.system (kept_in o) (fit_where_stands o c.self.invariant.stands)))

pub invariant_of-self : goal.invariant_of-self
invariant_of-self g c =
    let was = c.self.inside.is_dispatched in
    record {
      stands =
          stands_rescheduled c.self.inside.objects c.reschedule-could.new.self c.reschedule-could.ensures.does.system c.self.invariant.stands c.reschedule-could.ensures.does.kept;
      dispatched = λ known.
          core_rescheduled c.self.inside.objects c.reschedule-could.new.self was c.self.inside.is_settled c.reschedule-could.ensures.does.system c.self.invariant c.reschedule-could.ensures.does.kept
          (sym (ap (λ b. was || b) c.reschedule-could.ensures.could) ∙ sym c.becomes_known.ensures ∙ known);
      settled = λ known.
          elim c.if-could.branch [
            | then-could w ↦ w.is_settled-self-inside.ensures (sym w.self-is ∙ known)
            | else-could w ↦ absurd (false≢true (sym w.if-could.false ∙ sym w.self-is ∙ known))
          ];
      both = λ known.
          elim c.if-could.branch [
            | then-could w ↦ c.becomes_known.ensures ∙ ap (λ b. was || b) w.if-could.true ∙ or_true was
            | else-could w ↦ absurd (false≢true (sym w.if-could.false ∙ sym w.self-is ∙ known))
          ];
    }
