use Rattle.std.proofs.Common.{ℕ, ◌≡◌, Bool, true, false, List, set, get_or, subst, sym, ◌∙◌}
use Rattle.search.specs.Numbers.{AreMarked}
use Rattle.search.proofs.AgendaLemmas.{put_marked, same_marks}
use Rattle.search.proofs.agenda.Agenda.put.Goals as goal

pub invariant_of-self-then-not-index : goal.invariant_of-self-then-not-index
invariant_of-self-then-not-index c =
    let numbers = c.self.inside.queue.items in
    let marks = c.make_room.new.marks.items in
    let are : AreMarked numbers marks = same_marks numbers c.self.inside.queued.items marks c.self.invariant c.make_room.ensures.same in
    let unmarked : get_or marks c.args.number false ≡ false =
    subst (λ (b : Bool). get_or marks c.args.number b ≡ b) c.if-not-index.true (sym {A = Bool} c.index.ensures) in
    subst (λ (xs : List ℕ). AreMarked xs (set marks c.args.number true)) (sym {A = List ℕ} c.in_ok-push_back.ensures.items)
    (put_marked numbers marks c.args.number are c.in_ok-make_room.ensures.room (sym {A = Bool} (are.marked c.args.number) ∙ unmarked))
