-- Bytes without the zeros at their end.
use Rattle.std.proofs.Common.{ℕ, zero, suc, ◌≡◌, ◌<◌, ◌≤◌, ◌+◌, ◌-◌, List, [], ◌∷◌, ◌++◌, drop, get_or, length, take, arith, refl, sym, ◌∙◌, ap}
use Rattle.std.proofs.Math.Seq.{take-add}
use Rattle.std.proofs.lemmas.List.{take_all, take_more}
use Rattle.search_packed.specs.Packed.{bare, put_bare}

put_more : (n b : ℕ) (bytes : List ℕ) → put_bare n (b ∷ bytes) ≡ n ∷ b ∷ bytes
put_more zero b bytes = refl
put_more (suc n) b bytes = refl

-- before bytes that have one that isn't 0
put_before : (n m : ℕ) (bytes : List ℕ)
    → put_bare n (bytes ++ suc m ∷ []) ≡ n ∷ (bytes ++ suc m ∷ [])
put_before n m [] = put_more n (suc m) []
put_before n m (x ∷ bytes) = put_more n x (bytes ++ suc m ∷ [])

-- a zero at the end goes
zero_goes : (bytes : List ℕ) → bare (bytes ++ 0 ∷ []) ≡ bare bytes
unfolding bare
zero_goes [] = refl
zero_goes (b ∷ bytes) = ap (put_bare b) (zero_goes bytes)

-- what ends otherwise stays
other_stays : (bytes : List ℕ) (m : ℕ) → bare (bytes ++ suc m ∷ []) ≡ bytes ++ suc m ∷ []
unfolding bare
other_stays [] m = refl
other_stays (b ∷ bytes) m = ap (put_bare b) (other_stays bytes m) ∙ put_before b m bytes

none_left : bare [] ≡ []
unfolding bare
none_left = refl

-- ---- byte by byte from the end

module _ (bytes : List ℕ) where
  -- so many of them are the same without zeros
  pub record IsEnough (end : ℕ) : Type 0 where
    pub within : end ≤ length bytes
    pub same : bare (take end bytes) ≡ bare bytes

  pub all_there : (end : ℕ) → end ≡ length bytes → IsEnough end
  all_there end all = record {
    within = omega (arith, all);
    same = ap bare (take_all end bytes (omega (arith, all)));
  }

  last_of : (end : ℕ) → end < length bytes
      → take (end + 1) bytes ≡ take end bytes ++ get_or bytes end 0 ∷ []
  last_of end inside = take_more bytes end 0 inside

  pub one_less : (end : ℕ) → 0 < end → get_or bytes (end - 1) 0 ≤ 0 → IsEnough end
      → IsEnough (end - 1)
  one_less end some is_zero enough =
      let before = end - 1 in
      let next : before + 1 ≡ end = omega (arith, some) in
      let none : get_or bytes before 0 ≡ 0 = omega (arith, is_zero) in
      let inside : before < length bytes = omega (arith, enough.within, some) in
      record {
        within = omega (arith, inside);
        same = sym (zero_goes (take before bytes))
            ∙ ap (λ b. bare (take before bytes ++ b ∷ [])) (sym none)
            ∙ ap bare (sym (last_of before inside))
            ∙ ap (λ n. bare (take n bytes)) next
            ∙ enough.same;
      }

  pub none_there : (end : ℕ) → end ≤ 0 → IsEnough end → take 0 bytes ≡ bare bytes
  none_there end none enough =
      let e : 0 ≡ end = omega (arith, none) in
      sym none_left ∙ ap (λ n. bare (take n bytes)) e ∙ enough.same

  pub ends_there : (end : ℕ) → 0 < end → 0 < get_or bytes (end - 1) 0 → IsEnough end
      → take end bytes ≡ bare bytes
  ends_there end some not_zero enough =
      let before = end - 1 in
      let last = get_or bytes before 0 in
      let next : before + 1 ≡ end = omega (arith, some) in
      let is : last ≡ suc (last - 1) = omega (arith, not_zero) in
      let inside : before < length bytes = omega (arith, enough.within, some) in
      let whole = ap (λ n. take n bytes) (sym next) ∙ last_of before inside
      ∙ ap (λ b. take before bytes ++ b ∷ []) is in
      whole ∙ sym (other_stays (take before bytes) (last - 1))
      ∙ ap bare (sym whole) ∙ enough.same

pub ruleset bare_laws = (
  all_there,
  one_less,
  none_there,
  ends_there,
)

-- ---- behind others

pub zeros_dropped : (bytes added : List ℕ) (begin many : ℕ) → added ≡ drop begin bytes
    → take many added ≡ bare added
    → take (begin + many) bytes ≡ take begin bytes ++ bare (drop begin bytes)
zeros_dropped bytes added begin many is enough =
    take-add begin many bytes
    ∙ ap (λ v. take begin bytes ++ take many v) (sym is)
    ∙ ap (λ v. take begin bytes ++ v) enough
    ∙ ap (λ v. take begin bytes ++ bare v) is
