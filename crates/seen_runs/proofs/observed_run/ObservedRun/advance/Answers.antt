use Rattle.std.proofs.Common.{◌≡◌, ◌+◌, Bool, true, false, refl, sym, ◌∙◌, ap, subst}
use Rattle.std.specs.Prelude.{not}
use Rattle.std.proofs.lemmas.Bool.{true≢false}
use Rattle.kernel.specs.Progress.{Progress, run_of}
use Rattle.kernel.proofs.RunLemmas.{going}
use Rattle.seen_ticks.specs.Observed.{holders_seen, tick_at}
use Rattle.seen_runs.specs.Keeping.{HasGoneSteadily, IsBefore, coming}
use Rattle.seen_runs.proofs.Alike.{steady_jobs, steady_standing}
use Rattle.seen_runs.proofs.Resting.{rested}
use Rattle.seen_runs.proofs.Seeing.{held_on, one_on, state_more}
use Rattle.seen_ticks.proofs.Staying.{holders_stay}
use Rattle.seen_runs.proofs.observed_run.ObservedRun.advance.Goals as goal

none_moved : (is_any is : Bool) → is_any ≡ is → not is_any ≡ true → is ≡ false
none_moved is_any true same h = absurd (true≢false (sym h ∙ ap not same))
none_moved is_any false same h = refl

pub see_steady-requires-clause-holders : goal.see_steady-requires-clause-holders
see_steady-requires-clause-holders g c =
    let k : Progress = c.self.inside.told in
    let new : Progress = c.advance_steady.new.self in
    let gone : HasGoneSteadily k new = c.if-advance_steady.ensures.gone (λ i. true) in
    one_on k new (λ S mode arrivals n. c.see_holders_once.new.holders.items ≡ holders_seen S (tick_at S mode arrivals n).at) gone.next
    (c.see_holders_once.ensures.holders ∙ holders_stay k.system c.see_holders_once.ensures.proper k.mode k.arrivals k.ticks)

pub see_steady-requires-clause-each : goal.see_steady-requires-clause-each
see_steady-requires-clause-each g c =
    let k : Progress = c.self.inside.told in
    let new : Progress = c.advance_steady.new.self in
    let gone : HasGoneSteadily k new = c.if-advance_steady.ensures.gone (λ i. true) in
    let on = (going k.system k.mode k.arrivals k.ticks (sym c.if-is_over.ensures)).on in
    steady_standing k new c.see_holders_once.ensures.proper on gone c.self.inside.at (c.self.invariant.standing gone.not_first)

pub see_steady-requires-clause-none_made : goal.see_steady-requires-clause-none_made
see_steady-requires-clause-none_made g c =
    steady_jobs c.self.inside.told c.advance_steady.new.self (c.if-advance_steady.ensures.gone (λ i. true))

pub invariant_of-self : goal.invariant_of-self
invariant_of-self g c =
    let k : Progress = c.self.inside.told in
    let new : Progress = c.advance_steady.new.self in
    let gone : HasGoneSteadily k new = c.if-advance_steady.ensures.gone (λ i. true) in
    let behind =
    one_on k new (λ S mode arrivals n. (run_of new).state ≡ (tick_at S mode arrivals n).after) gone.next
    (state_more k new gone.next (sym c.if-is_over.ensures)) in
    record {
      known = c.see_steady.ensures.next;
      standing = λ begun. c.see_steady.ensures.each;
      observed = λ begun. c.see_steady.ensures.seen;
      held = λ h.
          c.see_steady.ensures.seen.seen.holders
          ∙ held_on k new gone.next (sym c.if-is_over.ensures) c.see_holders_once.ensures.proper (none_moved _ _ c.is_any_moved.ensures h);
      resting = λ _. rested new c.see_steady.new.seen gone.rest c.see_steady.ensures.seen.seen behind;
    }

pub see-requires-clause-holders : goal.see-requires-clause-holders
see-requires-clause-holders g c =
    let k : Progress = c.self.inside.told in
    let m : Progress = c.advance_steady.new.self in
    let same : m ≡ k = c.if-advance_steady.ensures.same (λ i. false) in
    let holders = c.see_holders_once.new.holders.items in
    one_on m c.advance.new.self (λ S mode arrivals n. holders ≡ holders_seen S (tick_at S mode arrivals n).at) c.advance.ensures.next
    (subst (λ (r : Progress). holders ≡ holders_seen r.system (coming r).at) (sym same)
    (c.see_holders_once.ensures.holders ∙ holders_stay k.system c.see_holders_once.ensures.proper k.mode k.arrivals k.ticks))

pub see-requires-clause-known : goal.see-requires-clause-known
see-requires-clause-known g c =
    let m : Progress = c.advance_steady.new.self in
    let before = c.self.inside.before in
    one_on m c.advance.new.self (λ S mode arrivals n. IsBefore S (tick_at S mode arrivals n) before) c.advance.ensures.next
    (subst (λ (r : Progress). IsBefore r.system (coming r) before) (sym (c.if-advance_steady.ensures.same (λ i. false)))
    c.self.invariant.known)

pub invariant_of-self-2 : goal.invariant_of-self-2
invariant_of-self-2 g c =
    let k : Progress = c.self.inside.told in
    let m : Progress = c.advance_steady.new.self in
    let new : Progress = c.advance.new.self in
    let same : m ≡ k = c.if-advance_steady.ensures.same (λ i. false) in
    let next : new ≡ record k { ticks = k.ticks + 1 } =
    c.advance.ensures.next ∙ ap (λ (r : Progress). record r { ticks = r.ticks + 1 }) same in
    record {
      known = c.see.ensures.next;
      standing = λ begun. c.see.ensures.each;
      observed = λ begun. c.see.ensures.seen;
      held = λ h.
          c.see.ensures.seen.seen.holders
          ∙ held_on k new next (sym c.if-is_over.ensures) c.see_holders_once.ensures.proper (none_moved _ _ c.is_any_moved-2.ensures h);
      resting = λ h. absurd (true≢false (sym h));
    }
