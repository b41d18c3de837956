-- Of ticks that lie apart the last one lies behind all gaps.
use Rattle.std.proofs.Common.{ℕ, zero, suc, ◌≡◌, ◌<◌, ◌≤◌, ◌+◌, ◌-◌, ◌*◌, ◌⊎◌, inl, inr, Bool, true, false, refl, ap, arith}
use Rattle.std.proofs.lemmas.Nat.{le-div}
use Rattle.law_runs.specs.Jobs.{one_if}
use Rattle.law_alarms.specs.Spaced.{IsSpaced, SpacedAreFew, how_many, most_in}

module _ (passes : ℕ → Bool) (gap last from : ℕ) (spaced : IsSpaced passes gap last) where
  -- some pass, and the last of them lies behind the gaps between them
  record HasLast (count : ℕ) : Type 0 where
    at : ℕ
    gaps : ℕ
    inside : at < count
    is : passes (from + at) ≡ true
    many : how_many passes from count ≡ suc gaps
    behind : gaps * gap ≤ at

  abbrev IsCounted : ℕ → Type 0
  IsCounted count = (how_many passes from count ≡ 0) ⊎ HasLast count

  one_more : (count : ℕ) → from + suc count ≤ last + 1 → IsCounted count → (b : Bool)
      → passes (from + count) ≡ b
      → IsCounted (suc count)
  one_more count low before false here =
      let none : one_if (passes (from + count)) ≡ 0 = ap one_if here in
      elim before [
        | inl zero_of ↦ inl (omega (arith, none, zero_of))
        | inr l ↦
            let many = l.many in
            let inside = l.inside in
            inr (record {
              at = l.at;
              gaps = l.gaps;
              inside = omega (arith, inside);
              is = l.is;
              many = omega (arith, none, many);
              behind = l.behind;
            })
      ]
  one_more count low before true here =
      let one : one_if (passes (from + count)) ≡ 1 = ap one_if here in
      elim before [
        | inl zero_of ↦
            inr (record {
              at = count;
              gaps = 0;
              inside = omega arith;
              is = here;
              many = omega (arith, one, zero_of);
              behind = omega arith;
            })
        | inr l ↦
            let many = l.many in
            let inside = l.inside in
            let behind = l.behind in
            let apart = spaced (from + l.at) (from + count) (omega (arith, inside))
            (omega (arith, low)) l.is here in
            inr (record {
              at = count;
              gaps = suc l.gaps;
              inside = omega arith;
              is = here;
              many = omega (arith, one, many);
              behind = omega (arith, behind, apart);
            })
      ]

  counted : (count : ℕ) → from + count ≤ last + 1 → IsCounted count
  counted zero low = inl refl
  counted (suc count) low =
      one_more count low (counted count (omega (arith, low))) (passes (from + count)) refl

  pub few : (count : ℕ) → 0 < gap → 0 < count → from + count ≤ last + 1
      → how_many passes from count ≤ most_in gap count
  few count some long low = elim (counted count low) [
    | inl none ↦ omega (arith, none)
    | inr l ↦
        let many = l.many in
        let inside = l.inside in
        let behind = l.behind in
        let most = le-div l.gaps (count - 1) gap some (omega (arith, behind, inside)) in
        omega (arith, many, most)
  ]

pub spaced_are_few : SpacedAreFew
spaced_are_few passes gap last from count some long low spaced =
    few passes gap last from spaced count some long low
