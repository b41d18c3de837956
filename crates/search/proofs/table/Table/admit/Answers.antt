use Rattle.std.proofs.Common.{ℕ, ◌≡◌, ◌<◌, List, ◌++◌, [], ◌∷◌, take, drop, length, sym, ap, ◌∙◌, subst}
use Rattle.std.proofs.Math.ListN.{length-set}
use Rattle.std.proofs.lemmas.Option.{slice_get_within}
use Rattle.search.specs.declared.joining.Joined.TheVariants.{Apart}
use Rattle.search.specs.Rules.{Rules}
use Rattle.search.specs.Numbers.{AreBelow, put_in}
use Rattle.search.specs.Admitted.{Admits, IsJoined, IsJoinedAt}
use Rattle.search.proofs.NumberLemmas.{below_result}
use Rattle.search.proofs.AdmitLemmas.{written, joined, added}
use Rattle.search.proofs.table.Table.admit.Goals as goal

-- the nodes are lent, and what is left of them is written back
module _ {N : Type 0} (r : Rules N) (n : ℕ) (nodes lent after : List N) (y : N) (k : ℕ) (is : IsJoinedAt r lent after y k)
    (same : lent ≡ nodes) (all : n ≡ length nodes) where
  as_many : length after ≡ length nodes
  as_many = ap length is.set_here ∙ length-set lent k is.new ∙ ap length same

  back : take n (after ++ drop (length after) nodes) ≡ after
  back = written n nodes after all as_many

  low : k < length (take n (after ++ drop (length after) nodes))
  low =
      subst (λ m. k < m) (sym (ap length back ∙ ap length is.set_here ∙ length-set lent k is.new))
      (slice_get_within lent k is.old is.here)

  below : (numbers : List ℕ) → AreBelow (length nodes) numbers → AreBelow (length (take n (after ++ drop (length after) nodes))) numbers
  below numbers are = subst (λ m. AreBelow m numbers) (sym (ap length back ∙ as_many)) are

  admits : (numbers more : List ℕ) → more ≡ put_in k numbers → Admits r nodes numbers (take n (after ++ drop (length after) nodes)) more y
  admits numbers more put =
      subst (λ (v : List N). Admits r nodes numbers v more y) (sym back)
      (subst (λ (v : List ℕ). Admits r nodes numbers after v y) (sym put)
      (subst (λ (v : List N). Admits r v numbers after (put_in k numbers) y) same
      (joined r lent after numbers y k is)))

module _ {N : Type 0} (r : Rules N) (n : ℕ) (nodes lent after : List N) (y apart : N) (is : IsJoined r lent after y (Apart apart))
    (same : lent ≡ nodes) (all : n ≡ length nodes) where
  as_before : take n (after ++ drop (length after) nodes) ≡ nodes
  as_before = written n nodes after all (ap length (is.1 ∙ same)) ∙ is.1 ∙ same

  adds : (more : List N) (numbers others : List ℕ) → more ≡ take n (after ++ drop (length after) nodes) ++ apart ∷ []
      → others ≡ put_in (length (take n (after ++ drop (length after) nodes))) numbers → Admits r nodes numbers more others y
  adds more numbers others is_more is_others =
      subst (λ (v : List N). Admits r nodes numbers v others y)
      (sym (is_more ∙ ap (λ (v : List N). v ++ apart ∷ []) as_before ∙ ap (λ (x : N). nodes ++ x ∷ []) is.0))
      (subst (λ (v : List ℕ). Admits r nodes numbers (nodes ++ y ∷ []) v y)
      (sym (is_others ∙ ap (λ (v : List N). put_in (length v) numbers) as_before))
      (added r nodes numbers y))

pub invariant_of-self-in-At : goal.invariant_of-self-in-At
invariant_of-self-in-At g c =
    let nodes = c.args.self.now.nodes in
    let r = g.S.Steps.rules (g.S.Steps.setting c.args.steps.now) in
    let is = subst (IsJoined r c.deref_mut.result.now c.join_among.new.nodes c.args.node) c.in-At.is c.in_ok-number.ensures in
    record {
      inside =
          below_result c.put.result _ c.in-At.number c.args.self.now.agenda c.put.new.self
          (low r nodes.len nodes.items c.deref_mut.result.now c.join_among.new.nodes c.args.node c.in-At.number is c.deref_mut.ensures.value nodes.ok.0)
          (below r nodes.len nodes.items c.deref_mut.result.now c.join_among.new.nodes c.args.node c.in-At.number is c.deref_mut.ensures.value nodes.ok.0
          c.args.self.now.agenda c.args.self.now.inside)
          c.put.ensures.ok c.put.ensures.err;
    }

pub returns-in_ok-put-in-At-clause-admits : goal.returns-in_ok-put-in-At-clause-admits
returns-in_ok-put-in-At-clause-admits g c =
    let nodes = c.args.self.now.nodes in
    let r = g.S.Steps.rules (g.S.Steps.setting c.args.steps.now) in
    let is = subst (IsJoined r c.deref_mut.result.now c.join_among.new.nodes c.args.node) c.in-At.is c.in_ok-number.ensures in
    λ _. admits r nodes.len nodes.items c.deref_mut.result.now c.join_among.new.nodes c.args.node c.in-At.number is c.deref_mut.ensures.value nodes.ok.0
    c.args.self.now.agenda c.put.new.self c.in_ok-put-in-At.ensures.ok

pub returns-in_ok-add-in-Apart-clause-admits : goal.returns-in_ok-add-in-Apart-clause-admits
returns-in_ok-add-in-Apart-clause-admits g c =
    let nodes = c.args.self.now.nodes in
    let r = g.S.Steps.rules (g.S.Steps.setting c.args.steps.now) in
    let is = subst (IsJoined r c.deref_mut.result.now c.join_among.new.nodes c.args.node) c.in-Apart.is c.in_ok-number.ensures in
    λ _. adds r nodes.len nodes.items c.deref_mut.result.now c.join_among.new.nodes c.args.node c.in-Apart.apart is c.deref_mut.ensures.value nodes.ok.0
    c.add.new.self.nodes.items c.args.self.now.agenda c.add.new.self.agenda c.in_ok-add-in-Apart.ensures.nodes c.in_ok-add-in-Apart.ensures.agenda
