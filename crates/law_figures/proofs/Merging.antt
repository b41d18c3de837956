-- A merged label is the least that is at least both.
use Rattle.std.proofs.Common.{ℕ, suc, ◌≡◌, Bool, true, false, cond, max, List, [], ◌∷◌, Option, Some, None, refl, ◌∙◌, ap, arith}
use Rattle.std.specs.Prelude.{◌==◌}
use Rattle.view_figures.specs.ResourceSums.{is_same}
use Rattle.law_figures.specs.Ages.{AreOlder}
use Rattle.law_figures.specs.Pending.{IsOlder}
use Rattle.law_figures.specs.Holding.{Hold, held_by, held_in, IsLonger}
use Rattle.law_figures.specs.Merging.{merged_ages, merged_age, merged_hold, hold_of, IsMerged, LabelsMerge}
use Rattle.law_figures.proofs.AgeOrder.{older_itself}
use Rattle.law_figures.proofs.Pending.{older_itself as age_itself}

ages_one : (xs ys : List ℕ) → AreOlder (merged_ages xs ys) xs
ages_one [] ys = tt
ages_one (x ∷ xs) [] = older_itself (x ∷ xs)
ages_one (x ∷ xs) (y ∷ ys) = (omega arith, ages_one xs ys)

ages_other : (xs ys : List ℕ) → AreOlder (merged_ages xs ys) ys
ages_other [] ys = older_itself ys
ages_other (x ∷ xs) [] = tt
ages_other (x ∷ xs) (y ∷ ys) = (omega arith, ages_other xs ys)

ages_least : (xs ys zs : List ℕ) → AreOlder zs xs → AreOlder zs ys → AreOlder zs (merged_ages xs ys)
ages_least [] ys zs h k = k
ages_least (x ∷ xs) [] zs h k = h
ages_least (x ∷ xs) (y ∷ ys) [] h k = absurd h
ages_least (x ∷ xs) (y ∷ ys) (z ∷ zs) h k = (omega (arith, h.0, k.0), ages_least xs ys zs h.1 k.1)

age_one : (x y : Option ℕ) → IsOlder (merged_age x y) x
age_one None y = tt
age_one (Some n) None = age_itself (Some n)
age_one (Some n) (Some k) = omega arith

age_other : (x y : Option ℕ) → IsOlder (merged_age x y) y
age_other None y = age_itself y
age_other (Some n) None = tt
age_other (Some n) (Some k) = omega arith

age_least : (x y z : Option ℕ) → IsOlder z x → IsOlder z y → IsOlder z (merged_age x y)
age_least None y z h k = k
age_least (Some n) None z h k = h
age_least (Some n) (Some j) None h k = absurd h
age_least (Some n) (Some j) (Some m) h k = omega (arith, h, k)

-- ---- holds

same_max : (b : Bool) (m n : ℕ) → cond b (max m n) 0 ≡ max (cond b m 0) (cond b n 0)
same_max true m n = refl
same_max false m n = omega arith

hold_merged : (x y : Hold) → x.holder ≡ y.holder → (t : ℕ)
    → held_by t (merged_hold x y) ≡ max (held_by t x) (held_by t y)
hold_merged x y same t =
    same_max (is_same (Some t) x.holder) x.held y.held
    ∙ ap (λ h. max (held_by t x) (cond (is_same (Some t) h) y.held 0)) same

holds_merge : (x y : Hold) → x.holder ≡ y.holder → IsMerged IsLonger x y (merged_hold x y)
holds_merge x y same = record {
  one = λ t. omega (arith, hold_merged x y same t);
  other = λ t. omega (arith, hold_merged x y same t);
  least = λ z h k t. omega (arith, hold_merged x y same t, h t, k t);
}

counted_once : (b : Bool) (n : ℕ) → b ≡ true → suc (cond b n 0) ≡ suc n
counted_once b n e = ap (λ c. suc (cond c n 0)) e

others_forgotten : (h : Option ℕ) (hold : Hold) → held_in h (hold_of h hold) ≡ held_in h hold
others_forgotten None hold = refl
others_forgotten (Some t) hold =
    let itself : (t == t) ≡ true = grind arith in
    counted_once (t == t) (held_by t hold) itself

pub labels_merge : LabelsMerge
labels_merge = record {
  ages = λ xs ys. record {
    one = ages_one xs ys;
    other = ages_other xs ys;
    least =
        ages_least xs ys;
  };
  pending = λ x y. record { one = age_one x y; other = age_other x y; least = age_least x y };
  holds = holds_merge;
  others = λ h hold. ap (λ n. record { holder = h.holder; held = n })
      (others_forgotten h.holder hold);
}
