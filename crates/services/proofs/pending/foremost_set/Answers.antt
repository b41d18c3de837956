use Rattle.std.proofs.Common.{◌≡◌, ◌≤◌, ◌<◌, ◌-◌, ℕ, true, false, [], ◌∷◌, drop, length, slice_index_or, sym, ◌∙◌, ap, subst, arith}
use Rattle.std.specs.Prelude.{Some, None}
use Rattle.osek_base.specs.Lists.{below}
use Rattle.osek_base.specs.System.{routine}
use Rattle.services.proofs.RoutineLemmas.{IsBest, best_none, best_same, best_worse, best_better, best_all, drop_before, below_none}
use Rattle.services.proofs.pending.foremost_set.Goals as goal

pub loop-number-init : goal.loop-number-init
loop-number-init c =
    let S = c.args.system.now in
    let test = λ (i : ℕ). slice_index_or c.args.flags.now i false in
    let rank = λ (i : ℕ). (routine S i).priority in
    let n = length S.routines in
    let all : drop c.routine_count-number.result (below n) ≡ [] =
    ap (λ k. drop k (below n)) c.routine_count-number.ensures.value ∙ below_none n in
    record {
      best = subst (λ v. IsBest test rank v None 0) (sym all) (best_none test rank);
      known = tt;
    }

pub loop-number-preserved-then-greatest-priority : goal.loop-number-preserved-then-greatest-priority
loop-number-preserved-then-greatest-priority c =
    let S = c.args.system.now in
    let test = λ (i : ℕ). slice_index_or c.args.flags.now i false in
    let rank = λ (i : ℕ). (routine S i).priority in
    let n = length S.routines in
    let k = c.loop-number.number in
    let r = c.new-routine.result in
    let passes : test r ≡ true = ap test c.new-routine.ensures ∙ c.if-flags-number.true in
    let rest = drop k (below n) in
    let above : c.loop-number.greatest ≤ rank r =
    omega (arith, c.if-greatest-priority.true, c.routine_priority-priority.ensures) in
    let all : drop (k - 1) (below n) ≡ r ∷ rest =
    drop_before n k (omega arith) (omega (arith, c.routine_count-number.ensures.value))
    ∙ ap (λ v. v ∷ rest) (sym c.new-routine.ensures) in
    let one : IsBest test rank (r ∷ rest) (Some r) (rank r) =
    best_better test rank r rest c.loop-number.best c.loop-number.greatest c.loop-number.invariant.best passes above in
    record {
      best = subst (λ v. IsBest test rank v (Some r) c.routine_priority-priority.result) (sym all)
          (subst (λ g. IsBest test rank (r ∷ rest) (Some r) g) (sym c.routine_priority-priority.ensures) one);
      known = omega (arith, c.new-routine.ensures, c.routine_count-number.ensures.value);
    }

pub loop-number-preserved-else-greatest-priority : goal.loop-number-preserved-else-greatest-priority
loop-number-preserved-else-greatest-priority c =
    let S = c.args.system.now in
    let test = λ (i : ℕ). slice_index_or c.args.flags.now i false in
    let rank = λ (i : ℕ). (routine S i).priority in
    let n = length S.routines in
    let k = c.loop-number.number in
    let r = c.new-routine.result in
    let rest = drop k (below n) in
    let low : rank r < c.loop-number.greatest =
    omega (arith, c.if-greatest-priority.false, c.routine_priority-priority.ensures) in
    let all : drop (k - 1) (below n) ≡ r ∷ rest =
    drop_before n k (omega arith) (omega (arith, c.routine_count-number.ensures.value))
    ∙ ap (λ v. v ∷ rest) (sym c.new-routine.ensures) in
    record {
      best = subst (λ v. IsBest test rank v c.loop-number.best c.loop-number.greatest) (sym all)
          (best_worse test rank r rest c.loop-number.best c.loop-number.greatest c.loop-number.invariant.best low);
      known = c.loop-number.invariant.known;
    }

pub loop-number-preserved : goal.loop-number-preserved
loop-number-preserved c =
    let S = c.args.system.now in
    let test = λ (i : ℕ). slice_index_or c.args.flags.now i false in
    let rank = λ (i : ℕ). (routine S i).priority in
    let n = length S.routines in
    let k = c.loop-number.number in
    let rest = drop k (below n) in
    let all : drop (k - 1) (below n) ≡ (k - 1) ∷ rest =
    drop_before n k (omega arith) (omega (arith, c.routine_count-number.ensures.value)) in
    record {
      best = subst (λ v. IsBest test rank v c.loop-number.best c.loop-number.greatest) (sym all)
          (best_same test rank (k - 1) rest c.loop-number.best c.loop-number.greatest c.loop-number.invariant.best
          c.if-flags-number.false);
      known = c.loop-number.invariant.known;
    }

pub returns : goal.returns
returns c =
    let S = c.args.system.now in
    let test = λ (i : ℕ). slice_index_or c.args.flags.now i false in
    let rank = λ (i : ℕ). (routine S i).priority in
    let n = length S.routines in
    let none : c.loop-number.number ≡ 0 = omega arith in
    record {
      choice = best_all test rank (below n) c.loop-number.best c.loop-number.greatest
          (subst (λ k. IsBest test rank (drop k (below n)) c.loop-number.best c.loop-number.greatest) none
          c.loop-number.invariant.best);
      known = c.loop-number.invariant.known;
    }
