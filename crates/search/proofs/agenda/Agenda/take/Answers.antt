use Rattle.std.proofs.Common.{ℕ, ◌<◌, ◌≤◌, Bool, List, ◌∷◌, length, arith, ◌⊎◌, inl, inr, subst}
use Rattle.std.proofs.lemmas.Bool.{cases_lt}
use Rattle.search.specs.Numbers.{AreMarked}
use Rattle.search.proofs.AgendaLemmas.{taken_marked, has_mark}
use Rattle.search.proofs.agenda.Agenda.take.Goals as goal

within : (number : ℕ) (numbers : List ℕ) (marks : List Bool) → AreMarked (number ∷ numbers) marks → number < length marks
within number numbers marks are = go (cases_lt number (length marks))
  where
    go : (number < length marks) ⊎ (length marks ≤ number) → number < length marks
    go (inl low) = low
    go (inr high) = absurd (has_mark number numbers marks are high)

pub index_mut-requires : goal.index_mut-requires
index_mut-requires c =
    let low = within c.in_ok-number.number c.pop_front.new.self.items c.self.inside.queued.items
    (subst (λ v. AreMarked v c.self.inside.queued.items) c.in_ok-number.ensures.items c.self.invariant) in
    omega (arith, c.self.inside.queued.ok.0)

pub invariant_of-self-2 : goal.invariant_of-self-2
invariant_of-self-2 c =
    let are = subst (λ v. AreMarked v c.self.inside.queued.items) c.in_ok-number.ensures.items c.self.invariant in
    taken_marked c.in_ok-number.number c.pop_front.new.self.items c.self.inside.queued.items are
    (within c.in_ok-number.number c.pop_front.new.self.items c.self.inside.queued.items are)
