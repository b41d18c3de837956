use Rattle.std.proofs.Common.{sym, ◌∙◌, ap₂, subst}
use Rattle.kernel.specs.Machine.{picture}
use Rattle.search_peaks.specs.Noting.{shown_by}
use Rattle.law_bounds.specs.Nodes.{IsNext, Node}
use Rattle.search_bounds.specs.Exploring.{Explorer, IsBehind, explorer_of, setting_of}
use Rattle.search_bounds.proofs.Exploring.{are_noted, if_some, is_in_of, is_next, stays_noted, tells_all}
use Rattle.search_bounds.proofs.explorer.ExplorerSteps.next.Goals as goal

pub returns-clause-next : goal.returns-clause-next
returns-clause-next g c =
    let e : Explorer = explorer_of c.self.inside.ruling c.self.inside.noted.peaks in
    let x : Node = c.args.from.now in
    let m = c.in-Some-at.machine.now in
    let y = c.in-Some-made.node in
    let set = c.args.choice in
    let l = c.in-Some.labels.now in
    subst (λ (f : Explorer). IsNext (setting_of f) x set y) c.self.view_is
    (is_next e x y set m l
    (tells_all e x set m c.one_state_tells.ensures c.self.invariant.ground c.requires.going
    (is_in_of e.ground c.self.inside.states x.key c.key.result.now m c.self.invariant.machines
    c.key.ensures c.in-Some-at.ensures))
    (sym c.in-Some.ensures ∙ c.packed-2.ensures)
    (if_some (IsBehind (setting_of e) set (picture m) l) c.in_ok-made.made y c.in-Some-made.is
    c.in_ok-made.ensures.made))

pub returns-clause-noted : goal.returns-clause-noted
returns-clause-noted g c =
    let e : Explorer = explorer_of c.self.inside.ruling c.self.inside.noted.peaks in
    let x : Node = c.args.from.now in
    let m = c.in-Some-at.machine.now in
    let set = c.args.choice in
    are_noted e x set m c.note.new.self.peaks
    (shown_by c.seen-seen.result.now c.is_shut_down-is_over.result) c.in-Some.labels.now
    (tells_all e x set m c.one_state_tells.ensures c.self.invariant.ground c.requires.going
    (is_in_of e.ground c.self.inside.states x.key c.key.result.now m c.self.invariant.machines
    c.key.ensures c.in-Some-at.ensures))
    (ap₂ shown_by c.seen-seen.ensures c.is_shut_down-is_over.ensures ∙ c.in_ok-made.ensures.shown)
    (sym c.in-Some.ensures ∙ c.packed-2.ensures)
    c.in_ok-note.ensures.noted

pub returns-clause-notes : goal.returns-clause-notes
returns-clause-notes g c =
    stays_noted c.self.inside.ruling c.self.inside.noted.peaks c.note.new.self.peaks
    c.args.self.now c.notes_stay.ensures c.self.view_is c.note.ensures.rises

pub returns-in_err-note-clause-notes : goal.returns-in_err-note-clause-notes
returns-in_err-note-clause-notes g c =
    stays_noted c.self.inside.ruling c.self.inside.noted.peaks c.note.new.self.peaks
    c.args.self.now c.notes_stay.ensures c.self.view_is c.note.ensures.rises
