-- Of the ticks of a run, those that are counted.
use Rattle.std.proofs.Common.{◌≡◌, ℕ, zero, suc, ◌+◌, ◌-◌, ◌<◌, ◌≤◌, List, [], ◌∷◌, ◌++◌, length, drop, append_assoc, refl, sym, ap, ◌∙◌, arith}
use Rattle.std.specs.Prelude.{max, reverse}
use Rattle.std.proofs.lemmas.List.{reverse-append}
use Rattle.std.proofs.Math.Seq.{drop-nil}
use Rattle.seen_ticks.specs.declared.observation.Observation.{Observation}
use Rattle.seen_ticks.specs.Seen.{alike_ticks, numbered}
use Rattle.view_figures.specs.FigureSums.{alike}

drop_behind : (n : ℕ) (seen more : List Observation) → drop n (seen ++ more) ≡ drop n seen ++ drop (n - length seen) more
drop_behind zero seen more =
    let none : 0 ≡ 0 - length seen = omega arith in
    ap (λ m. seen ++ drop m more) none
drop_behind (suc n) [] more =
    let all : suc n ≡ suc n - 0 = omega arith in
    ap (λ m. drop m more) all
drop_behind (suc n) (o ∷ seen) more =
    let same : n - length seen ≡ suc n - suc (length seen) = omega arith in
    drop_behind n seen more ∙ ap (λ m. drop n seen ++ drop m more) same

pub reverse_first : (o : Observation) (seen before : List Observation) → reverse (o ∷ seen) ++ before ≡ reverse seen ++ (o ∷ before)
reverse_first o seen before =
    ap (λ x. x ++ before) (reverse-append (o ∷ []) seen) ∙ append_assoc (reverse seen) (o ∷ []) before

counted_behind : (from : ℕ) (seen more : List Observation)
    → reverse (drop from (seen ++ more)) ≡ reverse (drop (from - length seen) more) ++ reverse (drop from seen)
counted_behind from seen more =
    ap reverse (drop_behind from seen more) ∙ reverse-append (drop from seen) (drop (from - length seen) more)

-- ---- one tick

pub late : (from : ℕ) (o : Observation) (seen : List Observation) → from ≤ length seen
    → reverse (drop from (seen ++ o ∷ [])) ≡ o ∷ reverse (drop from seen)
late from o seen high =
    let none : from - length seen ≡ 0 = omega (arith, high) in
    counted_behind from seen (o ∷ []) ∙ ap (λ n. reverse (drop n (o ∷ [])) ++ reverse (drop from seen)) none

pub early : (from : ℕ) (o : Observation) (seen : List Observation) → length seen < from
    → reverse (drop from (seen ++ o ∷ [])) ≡ reverse (drop from seen)
early from o seen low =
    let more : from - length seen ≡ suc (from - length seen - 1) = omega (arith, low) in
    counted_behind from seen (o ∷ []) ∙ ap (λ n. reverse (drop n (o ∷ [])) ++ reverse (drop from seen)) more
    ∙ ap (λ x. reverse x ++ reverse (drop from seen)) (drop-nil (from - length seen - 1))

-- ---- those in which the same is seen

first_alike : (o : Observation) (t n : ℕ) (before : List Observation) → alike o (suc t) n (numbered t o ∷ before) ≡ alike o t (suc n) before
first_alike o t zero before =
    let same : t + 0 ≡ t = omega arith in
    ap (λ m. numbered m o ∷ before) (sym same)
first_alike o t (suc n) before =
    let same : suc t + n ≡ t + suc n = omega arith in
    ap (λ m. numbered m o ∷ alike o (suc t) n (numbered t o ∷ before)) same
    ∙ ap (λ x. numbered (t + suc n) o ∷ x) (first_alike o t n before)

reverse_alike : (o : Observation) (t n : ℕ) (before : List Observation) → reverse (alike_ticks o t n) ++ before ≡ alike o t n before
reverse_alike o t zero before = refl
reverse_alike o t (suc n) before =
    reverse_first (numbered t o) (alike_ticks o (suc t) n) before
    ∙ reverse_alike o (suc t) n (numbered t o ∷ before) ∙ first_alike o t n before

drop_alike : (o : Observation) (k t n : ℕ) → drop k (alike_ticks o t n) ≡ alike_ticks o (t + k) (n - k)
drop_alike o zero t n =
    let same : t ≡ t + 0 = omega arith in
    let all : n ≡ n - 0 = omega arith in
    ap (λ m. alike_ticks o m n) same ∙ ap (alike_ticks o (t + 0)) all
drop_alike o (suc k) t zero =
    let none : 0 ≡ 0 - suc k = omega arith in
    ap (alike_ticks o (t + suc k)) none
drop_alike o (suc k) t (suc n) =
    let same : suc t + k ≡ t + suc k = omega arith in
    let left : n - k ≡ suc n - suc k = omega arith in
    drop_alike o k (suc t) n ∙ ap (λ m. alike_ticks o m (n - k)) same ∙ ap (alike_ticks o (t + suc k)) left

pub alike_counted : (from first end : ℕ) (o : Observation) (seen : List Observation) → length seen ≡ first → first ≤ end
    → reverse (drop from (seen ++ alike_ticks o first (end - first)))
    ≡ alike o (max first from) (end - max first from) (reverse (drop from seen))
alike_counted from first end o seen count later =
    let before = reverse (drop from seen) in
    let k = from - length seen in
    let begins : first + k ≡ max first from = omega (arith, count) in
    let many : end - first - k ≡ end - max first from = omega (arith, count, later) in
    counted_behind from seen (alike_ticks o first (end - first))
    ∙ ap (λ x. reverse x ++ before) (drop_alike o k first (end - first))
    ∙ reverse_alike o (first + k) (end - first - k) before
    ∙ ap (λ m. alike o m (end - first - k) before) begins ∙ ap (λ m. alike o (max first from) m before) many
