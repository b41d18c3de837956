use Rattle.std.proofs.Common.{ℕ, ◌≡◌, ◌<◌, ◌≤◌, List, length, get_or, take, refl, ◌∙◌, ap, max, arith}
use Rattle.std.proofs.lemmas.Grind.{get_or_default_zero}
use Rattle.search_labels.proofs.AgeLemmas.{merged_grows, merged_set_at, merged_push_at}
use Rattle.search_labels.proofs.ages.join_one.Goals.{then-job-len, else-job-len+in_ok-push}
use Rattle.search_labels.proofs.ages.join_one.Goals as goal

pub loop-job-preserved : goal.loop-job-preserved
loop-job-preserved c =
    let i = c.loop-job.job in
    let old = c.args.ages.now.items in
    let others = c.args.others.now in
    let ages = c.loop-job.ages.items in
    elim c.if-job-len.branch [
      | then-job-len w ↦
          let long : i < length ages = omega (arith, w.if-job-len.true, c.len.ensures) in
          let read : w.index.result.now ≡ get_or ages i 0 =
          w.index.ensures ∙ get_or_default_zero ages i w.index.result.now long in
          let greater : w.max.result ≡ max (get_or ages i 0) (get_or others i 0) =
          w.max.ensures ∙ ap (λ n. max n (get_or others i 0)) read in
          rw w.ages-is (merged_set_at old others ages i w.max.result
          c.loop-job-test.true long c.loop-job.invariant greater)
      | else-job-len+in_ok-push w ↦
          let short : length ages ≤ i = omega (arith, w.if-job-len.false, c.len.ensures) in
          let more = merged_push_at old others ages i (get_or others i 0) c.loop-job-test.true short
          c.loop-job.invariant refl in
          rw w.ages-is (w.in_ok-push.ensures.items ∙ more)
    ]

pub returns-clause-grows : goal.returns-clause-grows
returns-clause-grows c =
    let more = merged_grows c.args.ages.now.items (take c.loop-job.job c.args.others.now) in
    let e = ap (λ (v : List ℕ). length v) c.loop-job.invariant in
    omega (arith, more, e)

pub returns-in_err-push-clause-grows : goal.returns-in_err-push-clause-grows
returns-in_err-push-clause-grows c =
    let more = merged_grows c.args.ages.now.items (take c.loop-job.job c.args.others.now) in
    let e = ap (λ (v : List ℕ). length v) c.loop-job.invariant in
    let stays = ap (λ (v : List ℕ). length v) c.in_err-push.ensures.items in
    omega (arith, more, e, stays)
