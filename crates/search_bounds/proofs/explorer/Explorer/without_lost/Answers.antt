use Rattle.std.proofs.Common.{length, arith, sym, subst}
use Rattle.kernel.specs.Machine.{picture}
use Rattle.view_measures.specs.declared.measure.Measure.{Measure}
use Rattle.view_measures.specs.Measures.{figure}
use Rattle.search_peaks.specs.Peaks.{told}
use Rattle.law_bounds.specs.Nodes.{AreNoted, May, Node, search_rules}
use Rattle.search.specs.Rules.{Repeats}
use Rattle.search_bounds.specs.Exploring.{Explorer, explorer_of, setting_of}
use Rattle.search_bounds.proofs.Exploring.{is_in_of, stays_noted}
use Rattle.search_bounds.proofs.Losing.{few_routines, losses_noted, repeats_it, without_lost}
use Rattle.search_bounds.proofs.explorer.Explorer.without_lost.Goals as goal

pub returns-in_err-note_losses-clause-notes : goal.returns-in_err-note_losses-clause-notes
returns-in_err-note_losses-clause-notes g c =
    stays_noted c.self.inside.ruling c.self.inside.noted.peaks c.note_losses.new.self.peaks
    c.args.self.now c.notes_stay.ensures c.self.view_is c.note_losses.ensures.rises

pub returns-clause-notes : goal.returns-clause-notes
returns-clause-notes g c =
    stays_noted c.self.inside.ruling c.self.inside.noted.peaks c.note_losses.new.self.peaks
    c.args.self.now c.notes_stay.ensures c.self.view_is c.note_losses.ensures.rises

pub returns-clause-repeats : goal.returns-clause-repeats
returns-clause-repeats g c =
    let e : Explorer = explorer_of c.self.inside.ruling c.self.inside.noted.peaks in
    let peaks = c.note_losses.new.self.peaks in
    let x : Node = c.args.node.now in
    let m = c.in-Some.machine.now in
    let set = c.args.set in
    let pending = c.pending_routines-pending.result in
    let fewer = c.without-fewer.result in
    let low = few_routines e.ground.system c.self.invariant.ground.proper in
    let may : May (setting_of e) x set =
    subst (λ (h : Explorer). May (setting_of h) x set) (sym c.self.view_is) c.requires in
    let is = is_in_of e.ground c.self.inside.states x.key c.key.result.now m
    c.self.invariant.machines c.key.ensures c.in-Some.ensures in
    let others = without_lost (setting_of e) set pending fewer (picture m)
    (omega (arith, low)) c.pending_routines-pending.ensures c.without-fewer.ensures.less
    c.without-fewer.ensures.others in
    subst (λ (h : Explorer).
    Repeats (search_rules (setting_of h)) (AreNoted (setting_of e) peaks) x set fewer)
    c.self.view_is
    (repeats_it e x set fewer m c.one_state_tells.ensures c.lost_change_nothing.ensures
    c.self.invariant.ground may is others c.if-set-fewer.false peaks
    (losses_noted (λ i. told peaks (figure Measure.Loss i)) (length e.ground.system.routines) set
    pending fewer c.common.result (omega (arith, low)) c.without-fewer.ensures.others c.common.ensures
    c.note_losses.ensures.losses))
