-- A node is admitted: joined with another one, or added.
use Rattle.std.proofs.Common.{ℕ, zero, suc, ◌≡◌, ◌<◌, List, [], ◌∷◌, ◌++◌, set, take, drop, length, refl, sym, ap, ◌∙◌, arith, ◌⊎◌, inl, inr, subst}
use Rattle.std.specs.Prelude.{Some, slice_get}
use Rattle.std.proofs.lemmas.Bool.{cases_eq, false≢true}
use Rattle.std.proofs.lemmas.List.{length_push, append-nil, take_all}
use Rattle.std.proofs.lemmas.List.Quantifiers.{any-set, Any-push}
use Rattle.std.proofs.lemmas.Option.{slice_get_within, same_Some}
use Rattle.std.proofs.Math.ListN.{length-set, drop_of_length-le}
use Rattle.search.specs.Rules.{Rules}
use Rattle.search.specs.Numbers.{is_in, put_in}
use Rattle.search.specs.Admitted.{IsCovered, IsCoveredAt, IsClosed, Admits, IsJoinedAt}
use Rattle.search.proofs.NumberLemmas.{is_put, was_out, put_more, none_more}

-- ---- lists

slice_get_other : {X : Type 0} (xs : List X) (k j : ℕ) (y : X) → (j ≡ k → ⊥) → slice_get (set xs k y) j ≡ slice_get xs j
slice_get_other [] k j y other = refl
slice_get_other (x ∷ xs) zero zero y other = absurd (other refl)
slice_get_other (x ∷ xs) zero (suc j) y other = refl
slice_get_other (x ∷ xs) (suc k) zero y other = refl
slice_get_other (x ∷ xs) (suc k) (suc j) y other = slice_get_other xs k j y (λ same. other (ap suc same))

slice_get_front : {X : Type 0} (xs : List X) (j : ℕ) (x y : X) → (j ≡ length xs → ⊥) → slice_get (xs ++ y ∷ []) j ≡ Some x → slice_get xs j ≡ Some x
slice_get_front [] zero x y other is = absurd (other refl)
slice_get_front [] (suc j) x y other is = is
slice_get_front (z ∷ xs) zero x y other is = is
slice_get_front (z ∷ xs) (suc j) x y other is = slice_get_front xs j x y (λ same. other (ap suc same)) is

pub slice_get_more : {X : Type 0} (xs : List X) (j : ℕ) (x y : X) → slice_get xs j ≡ Some x → slice_get (xs ++ y ∷ []) j ≡ Some x
slice_get_more [] j x y is = absurd (let low = slice_get_within [] j x is in omega (arith, low))
slice_get_more (z ∷ xs) zero x y is = is
slice_get_more (z ∷ xs) (suc j) x y is = slice_get_more xs j x y is

slice_get_same : {X : Type 0} (xs : List X) (k : ℕ) (y : X) → k < length xs → slice_get (set xs k y) k ≡ Some y
slice_get_same [] k y low = absurd (omega (arith, low))
slice_get_same (x ∷ xs) zero y low = refl
slice_get_same (x ∷ xs) (suc k) y low = slice_get_same xs k y (omega (arith, low))

-- what a slice of a vector becomes
pub written : {X : Type 0} (n : ℕ) (xs ys : List X) → n ≡ length xs → length ys ≡ length xs → take n (ys ++ drop (length ys) xs) ≡ ys
written n xs ys all same =
    ap (λ d. take n (ys ++ d)) (drop_of_length-le xs (omega (arith, same))) ∙ ap (take n) (append-nil ys) ∙ take_all n ys (omega (arith, all, same))

-- ---- no node is added

module _ {N : Type 0} (r : Rules N) where
  pub covered : (nodes : List N) (numbers : List ℕ) (y : N) → IsCovered r nodes y → Admits r nodes numbers nodes numbers y
  covered nodes numbers y is = record {
    more = omega arith;
    covered = is;
    grows = λ number x here. record { node = x; here = here; above = inl refl };
    stays = λ number x at. at;
    last = none_more numbers;
  }

-- ---- two nodes are joined

module _ {N : Type 0} (r : Rules N) where
  pub joined : (before after : List N) (numbers : List ℕ) (y : N) (k : ℕ) → IsJoinedAt r before after y k
      → Admits r before numbers after (put_in k numbers) y
  joined before after numbers y k is =
      subst (λ (nodes : List N). Admits r before numbers nodes (put_in k numbers) y) (sym is.set_here)
      (record {
        more = (let same = length-set before k is.new in omega (arith, same));
        covered = any-set (λ z. (z ≡ y) ⊎ r.covers z y) before k is.new low (inr is.others);
        grows = λ number x there. still x number there (cases_eq number k);
        stays = λ number x at. record {
          here = sym (slice_get_other before k number is.new (apart number x at)) ∙ at.here;
          closed = was_out number k numbers at.closed;
        };
        last = put_more k numbers;
      })
    where
      low : k < length before
      low = slice_get_within before k is.old is.here

      still : (x : N) (j : ℕ) → slice_get before j ≡ Some x → (j ≡ k) ⊎ (j ≡ k → ⊥) → IsCoveredAt r (set before k is.new) j x
      still x j there (inl same) =
          let old_is_x : is.old ≡ x = same_Some is.old x (sym is.here ∙ ap (slice_get before) (sym same) ∙ there) in
          record {
            node = is.new;
            here = ap (slice_get (set before k is.new)) same ∙ slice_get_same before k is.new low;
            above = inr (subst (λ (z : N). r.covers is.new z) old_is_x is.mine);
          }
      still x j there (inr other) = record {
        node = x;
        here = slice_get_other before k j is.new other ∙ there;
        above = inl refl;
      }

      apart : (number : ℕ) (x : N) → IsClosed (set before k is.new) (put_in k numbers) number x → number ≡ k → ⊥
      apart number x at same = false≢true (sym at.closed ∙ ap (λ n. is_in n (put_in k numbers)) same ∙ is_put k numbers)

  -- ---- a node is added

  pub added : (nodes : List N) (numbers : List ℕ) (y : N) → Admits r nodes numbers (nodes ++ y ∷ []) (put_in (length nodes) numbers) y
  added nodes numbers y = record {
    more = (let longer = length_push nodes y in omega (arith, longer));
    covered = Any-push (λ z. (z ≡ y) ⊎ r.covers z y) nodes y (inl refl);
    grows = λ number x there. record { node = x; here = slice_get_more nodes number x y there; above = inl refl };
    stays = λ number x at. record {
      here = slice_get_front nodes number x y (apart number x at) at.here;
      closed = was_out number (length nodes) numbers at.closed;
    };
    last = put_more (length nodes) numbers;
  }
    where
      apart : (number : ℕ) (x : N) → IsClosed (nodes ++ y ∷ []) (put_in (length nodes) numbers) number x → number ≡ length nodes → ⊥
      apart number x at same = false≢true (sym at.closed ∙ ap (λ n. is_in n (put_in (length nodes) numbers)) same ∙ is_put (length nodes) numbers)
