-- Sums over events of masks.
use Rattle.std.proofs.Common.{◌≡◌, ℕ, ◌+◌, ◌≤◌, ◌⊎◌, inl, inr, Bool, true, false, cond, not, ◌&&◌, ◌||◌, List, [], ◌∷◌, refl, sym, ◌∙◌, ap, subst, arith}
use Rattle.std.specs.Prelude.{Option, Some, None, unwrap_or, ◌==◌, bit_and, bit_or}
use Rattle.std.specs.List.{filter, sum_by}
use Rattle.std.proofs.lemmas.Bool.{and_from, and_parts}
use Rattle.std.proofs.lemmas.List.Sums.{sum_by-cons}
use Rattle.osek_base.specs.Lists.{is_in}
use Rattle.osek_base.specs.Service.{meets}
use Rattle.law_runs.proofs.Foremost.{equal}
use Rattle.law_runs.proofs.Lists.{all_any, clash}
use Rattle.law_costs.proofs.Totals.{sum_either, sum_within}
use Rattle.law_nodes.specs.Early.{bits, freed_by, freed_shown, is_mask, is_set, least_in, least_of, lesser, sum_besides, sum_but, sum_of}
use Rattle.law_nodes.specs.Nodes.{is_within}
use Rattle.law_nodes.proofs.Masks.{apart, meeting, none_set, set_or, set_within}

-- one less
pub sum_without : (f : ℕ → ℕ) (few all : ℕ → Bool) (b : ℕ) (xs : List ℕ)
    → ((x : ℕ) → few x ≡ true → all x ≡ true) → all b ≡ true → few b ≡ false
    → is_in b xs ≡ true → sum_by f (filter few xs) + f b ≤ sum_by f (filter all xs)
sum_without f few all b [] fewer here gone among = clash (sym among)
sum_without f few all b (x ∷ xs) fewer here gone among =
    go (x == b) refl among (few x) (all x) (ap few) (ap all) (fewer x)
    (λ later. sum_without f few all b xs fewer here gone later)
  where
    less : sum_by f (filter few xs) ≤ sum_by f (filter all xs)
    less =
        sum_within f few all xs
        (all_any (λ y. few y ≡ true → all y ≡ true) xs (λ y. fewer y))

    go : (c : Bool) → (x == b) ≡ c → (c || is_in b xs) ≡ true → (u v : Bool)
        → (x ≡ b → u ≡ few b) → (x ≡ b → v ≡ all b) → (u ≡ true → v ≡ true)
        → (is_in b xs ≡ true → sum_by f (filter few xs) + f b ≤ sum_by f (filter all xs))
        → sum_by f (cond u (x ∷ filter few xs) (filter few xs)) + f b
        ≤ sum_by f (cond v (x ∷ filter all xs) (filter all xs))
    go true is among u v fewest alls both rest =
        let same : x ≡ b = equal x b is in
        let whole = sum_by-cons f x (filter all xs) in
        let cost = ap f same in
        let low = less in
        subst
        (λ c. sum_by f (cond c (x ∷ filter few xs) (filter few xs)) + f b
        ≤ sum_by f (cond v (x ∷ filter all xs) (filter all xs)))
        (sym (fewest same ∙ gone))
        (subst
        (λ c. sum_by f (filter few xs) + f b
        ≤ sum_by f (cond c (x ∷ filter all xs) (filter all xs)))
        (sym (alls same ∙ here)) (omega (arith, whole, cost, low)))
    go false is among true true fewest alls both rest =
        let one = sum_by-cons f x (filter few xs) in
        let other = sum_by-cons f x (filter all xs) in
        let later = rest among in
        omega (arith, one, other, later)
    go false is among true false fewest alls both rest = clash (sym (both refl))
    go false is among false true fewest alls both rest =
        let other = sum_by-cons f x (filter all xs) in
        let later = rest among in
        omega (arith, other, later)
    go false is among false false fewest alls both rest = rest among

kept_in : (test : ℕ → Bool) (b : ℕ) (xs : List ℕ) → is_in b xs ≡ true → test b ≡ true
    → is_in b (filter test xs) ≡ true
kept_in test b [] among passes = among
kept_in test b (x ∷ xs) among passes =
    go (x == b) refl among (test x) (ap test) (λ later. kept_in test b xs later passes)
  where
    go : (c : Bool) → (x == b) ≡ c → (c || is_in b xs) ≡ true → (d : Bool)
        → (x ≡ b → d ≡ test b) → (is_in b xs ≡ true → is_in b (filter test xs) ≡ true)
        → is_in b (cond d (x ∷ filter test xs) (filter test xs)) ≡ true
    go true is among true here rest = ap (λ c. c || is_in b (filter test xs)) is
    go true is among false here rest =
        clash (sym passes ∙ sym (here (equal x b is)))
    go false is among true here rest = ap (λ c. c || is_in b (filter test xs)) is ∙ rest among
    go false is among false here rest = rest among

none_sum : (f : ℕ → ℕ) (q : ℕ → Bool) (xs : List ℕ) → ((x : ℕ) → q x ≡ false)
    → sum_by f (filter q xs) ≡ 0
none_sum f q [] none = refl
none_sum f q (x ∷ xs) none = go (q x) (none x) (none_sum f q xs none)
  where
    go : (c : Bool) → c ≡ false → sum_by f (filter q xs) ≡ 0
        → sum_by f (cond c (x ∷ filter q xs) (filter q xs)) ≡ 0
    go true is rest = clash is
    go false is rest = rest

module _ (f : ℕ → ℕ) where
  -- events that are among others
  pub but_within : (m used n more : ℕ)
      → ((b : ℕ) → is_set m b ≡ true → is_set used b ≡ false
      → (is_set n b ≡ true) × (is_set more b ≡ false))
      → sum_but f m used ≤ sum_but f n more
  but_within m used n more each =
      sum_within f (λ b. is_set m b && not (is_set used b)) (λ b. is_set n b && not (is_set more b))
      bits
      (all_any
      (λ b. (is_set m b && not (is_set used b)) ≡ true
      → (is_set n b && not (is_set more b)) ≡ true)
      bits
      (λ b h.
      (let both = and_parts (is_set m b) (not (is_set used b)) h in
      let here = each b both.0 (not_not (is_set used b) both.1) in
      and_from (is_set n b) (not (is_set more b)) here.0 (ap not here.1))))
    where
      not_not : (c : Bool) → not c ≡ true → c ≡ false
      not_not true h = clash (sym h)
      not_not false h = refl

  -- where more is used, less is left
  pub but_used : (m used more : ℕ) → is_within used more ≡ true
      → sum_but f m more ≤ sum_but f m used
  but_used m used more within =
      but_within m more m used
      (λ b set free.
      (set, unused (is_set used b) (λ here. set_within used more b within here) free))
    where
      unused : {u : Bool} (c : Bool) → (c ≡ true → u ≡ true) → u ≡ false → c ≡ false
      unused true h free = clash (sym (h refl) ∙ free)
      unused false h free = refl

  -- events of none
  pub none_but : (used n more : ℕ) → sum_but f 0 used ≤ sum_but f n more
  none_but used n more =
      but_within 0 used n more (λ b set free. clash (sym set ∙ none_set b))

  pub none_but_any : (used : ℕ) → sum_but f 0 used ≡ 0
  none_but_any used =
      none_sum f (λ b. is_set 0 b && not (is_set used b)) bits
      (λ b. ap (λ c. c && not (is_set used b)) (none_set b))

  -- no more than all
  pub but_besides : (m used : ℕ) → sum_but f m used ≤ sum_besides f used
  but_besides m used =
      sum_within f (λ b. is_set m b && not (is_set used b)) (λ b. not (is_set used b)) bits
      (all_any
      (λ b. (is_set m b && not (is_set used b)) ≡ true → not (is_set used b) ≡ true) bits
      (λ b h. (and_parts (is_set m b) (not (is_set used b)) h).1))

  -- events that are set besides
  pub but_more : (m x used : ℕ) → sum_but f (bit_or m x) used ≤ sum_but f m used + sum_of f x
  but_more m x used =
      sum_either f (λ b. is_set (bit_or m x) b && not (is_set used b))
      (λ b. is_set m b && not (is_set used b)) (is_set x) bits
      (λ b h.
      (let both = and_parts (is_set (bit_or m x) b) (not (is_set used b)) h in
      split b (is_set m b) refl (sym (set_or m x b) ∙ both.0) both.1))
    where
      split : (b : ℕ) (c : Bool) → is_set m b ≡ c → (is_set m b || is_set x b) ≡ true
          → not (is_set used b) ≡ true
          → ((is_set m b && not (is_set used b)) ≡ true) ⊎ (is_set x b ≡ true)
      split b true is either free = inl (and_from (is_set m b) (not (is_set used b)) is free)
      split b false is either free = inr (sym (ap (λ c. c || is_set x b) is) ∙ either)

  -- one of them costs no more than all
  pub one_within : (m b : ℕ) → is_in b bits ≡ true → is_set m b ≡ true → f b ≤ sum_of f m
  one_within m b among set =
      let low =
      sum_without f (λ k. false) (is_set m) b bits (λ k h. clash (sym h)) set refl among in
      omega (arith, low)

  -- the least costs no more than each
  abbrev IsLow : ℕ → Option ℕ → Type 0
  IsLow most None = ⊥
  IsLow most (Some v) = v ≤ most

  least_low : (b : ℕ) (xs : List ℕ) → is_in b xs ≡ true → IsLow (f b) (least_of f xs)
  least_low b [] among = clash (sym among)
  least_low b (x ∷ xs) among =
      go (x == b) refl among (least_of f xs) (λ later. least_low b xs later)
    where
      go : (c : Bool) → (x == b) ≡ c → (c || is_in b xs) ≡ true → (o : Option ℕ)
          → (is_in b xs ≡ true → IsLow (f b) o) → lesser (f x) o ≤ f b
      go true is among None rest = let same = ap f (equal x b is) in omega (arith, same)
      go true is among (Some v) rest = let same = ap f (equal x b is) in omega (arith, same)
      go false is among None rest = absurd (rest among)
      go false is among (Some v) rest = let low = rest among in omega (arith, low)

  pub least_within : (m b : ℕ) → is_in b bits ≡ true → is_set m b ≡ true → least_in f m ≤ f b
  least_within m b among set =
      go (least_of f (filter (is_set m) bits))
      (least_low b (filter (is_set m) bits)
      (kept_in (is_set m) b bits among set))
    where
      go : (o : Option ℕ) → IsLow (f b) o → unwrap_or o 0 ≤ f b
      go None low = absurd low
      go (Some v) low = low

  -- ---- a wait

  -- one that goes on by events that are set: where none of them was used, one is freed
  pub gone_on : (w m used : ℕ) → meets w m ≡ true
      → sum_but f m (bit_or used w) + freed_by f (Some w) used (bit_or used w)
      ≤ sum_but f m used
  gone_on w m used meet =
      go (is_mask w && bit_and w used == 0 && is_within w (bit_or used w)) refl
    where
      stays : (b : ℕ) → (is_set m b && not (is_set (bit_or used w) b)) ≡ true
          → (is_set m b && not (is_set used b)) ≡ true
      stays b h =
          let both = and_parts (is_set m b) (not (is_set (bit_or used w) b)) h in
          and_from (is_set m b) (not (is_set used b)) both.0
          (neither (is_set used b) (is_set w b) (sym (ap not (set_or used w b)) ∙ both.1))
        where
          neither : (c d : Bool) → not (c || d) ≡ true → not c ≡ true
          neither true d h = h
          neither false d h = refl

      fewer : sum_but f m (bit_or used w) ≤ sum_but f m used
      fewer =
          sum_within f (λ b. is_set m b && not (is_set (bit_or used w) b))
          (λ b. is_set m b && not (is_set used b)) bits
          (all_any
          (λ b. (is_set m b && not (is_set (bit_or used w) b)) ≡ true
          → (is_set m b && not (is_set used b)) ≡ true) bits stays)

      go : (c : Bool)
          → (is_mask w && bit_and w used == 0 && is_within w (bit_or used w)) ≡ c
          → sum_but f m (bit_or used w) + cond c (least_in f w) 0 ≤ sum_but f m used
      go false is = let low = fewer in omega (arith, low)
      go true is =
          let first =
          and_parts (is_mask w && bit_and w used == 0) (is_within w (bit_or used w)) is in
          let two = and_parts (is_mask w) (bit_and w used == 0) first.0 in
          let one = meeting w m two.0 meet in
          let free = apart w used one.event two.1 one.first in
          let less =
          sum_without f (λ b. is_set m b && not (is_set (bit_or used w) b))
          (λ b. is_set m b && not (is_set used b)) one.event bits stays
          (and_from (is_set m one.event) (not (is_set used one.event)) one.second (ap not free))
          (last (is_set m one.event)
          (ap not (set_or used w one.event ∙ or_last (is_set used one.event) one.first)))
          one.there in
          let low = least_within w one.event one.there one.first in
          omega (arith, less, low)
        where
          or_last : {d : Bool} (c : Bool) → d ≡ true → (c || d) ≡ true
          or_last true h = refl
          or_last false h = h

          last : {d : Bool} (c : Bool) → d ≡ false → (c && d) ≡ false
          last true h = h
          last false h = refl

  -- one that is refused frees none
  pub refused_on : (o : Option ℕ) (used : ℕ) → freed_by f o used used ≡ 0
  refused_on None used = refl
  refused_on (Some w) used = go (is_mask w && bit_and w used == 0 && is_within w used) refl
    where
      go : (c : Bool) → (is_mask w && bit_and w used == 0 && is_within w used) ≡ c
          → cond c (least_in f w) 0 ≡ 0
      go false is = refl
      go true is =
          let first = and_parts (is_mask w && bit_and w used == 0) (is_within w used) is in
          let two = and_parts (is_mask w) (bit_and w used == 0) first.0 in
          let none : w ≡ 0 =
          sym (equal (bit_and w used) w first.1) ∙ equal (bit_and w used) 0 two.1 in
          ap (least_in f) none

  -- ---- events that are shown

  pub used_free : (m : ℕ) → sum_but f m m ≡ 0
  used_free m =
      none_sum f (λ b. is_set m b && not (is_set m b)) bits (λ b. neither (is_set m b))
    where
      neither : (c : Bool) → (c && not c) ≡ false
      neither true = refl
      neither false = refl

  pub same_shown : (shown : Bool) (used : ℕ) → freed_shown f shown used used ≡ 0
  same_shown true used = used_free used
  same_shown false used = refl
