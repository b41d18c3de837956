use Rattle.std.proofs.Common.{not, sym, ◌∙◌, ap}
use Rattle.std.specs.Prelude.{is_none}
use Rattle.std.proofs.lemmas.Bool.{false≢true}
use Rattle.kernel_stamps.specs.Stamps.{stamp_of_oldest}
use Rattle.law_blockers.specs.Restamping.{stamps_at}
use Rattle.kernel.specs.Watches.{Watched}
use Rattle.kernel.proofs.WatchLemmas.{watched_of}
use Rattle.kernel.proofs.WorkRuns.{works_so}
use Rattle.kernel.proofs.watched.Watched.works_next.Goals as goal

pub returns-then-not-are_counted : goal.returns-then-not-are_counted
returns-then-not-are_counted g c = λ none.
    let same = (λ i. watched_of (c.self-inside.view_is i).processor (c.self-inside.view_is i).blocking) ∙ c.self.view_is in
    works_so g.B.Blockers.are_counted _ c.args.self.now c.args.task c.next_of-next.result same
    c.requires.executes c.next_of-next.ensures (sym c.is_plain.ensures ∙ c.if-is_plain.true)
    (λ counting. absurd (false≢true (sym (ap not (c.are_counted.ensures ∙ counting)) ∙ none)))

pub returns-else-not-are_counted : goal.returns-else-not-are_counted
returns-else-not-are_counted g c = λ is.
    let same = (λ i. watched_of (c.self-inside.view_is i).processor (c.self-inside.view_is i).blocking) ∙ c.self.view_is in
    works_so g.B.Blockers.are_counted _ c.args.self.now c.args.task c.next_of-next.result same
    c.requires.executes c.next_of-next.ensures (sym c.is_plain.ensures ∙ c.if-is_plain.true)
    (λ counting.
    sym (ap (λ (w : Watched). is_none (stamp_of_oldest (stamps_at w.blocking.stamps c.args.task))) same)
    ∙ sym c.is_spent.ensures ∙ is)
