-- The least cost of the nodes at which who executes is.
use Rattle.std.proofs.Common.{◌≡◌, ℕ, ◌+◌, ◌≤◌, Bool, true, false, cond, ◌&&◌, ◌||◌, nat_le, List, [], ◌∷◌, refl, sym, arith}
use Rattle.std.specs.Prelude.{Option, Some, None, is_some, unwrap_or}
use Rattle.std.specs.List.{AllByRecursion, list_any}
use Rattle.std.proofs.lemmas.Bool.{and_from, le-leb, leb-true}
use Rattle.law_runs.proofs.Lists.{clash}
use Rattle.law_nodes.specs.Nodes.{Standing, is_at, is_told}
use Rattle.law_nodes.specs.Early.{lesser}
use Rattle.law_nodes.specs.Prices.{Priced, cost_of, least, table_of}
use Rattle.law_nodes.proofs.Tests.{any_weaker}

module _ (cost : Priced → ℕ) (x : Standing) where
  -- ---- at most what any of them costs

  abbrev IsWithin : ℕ → ℕ → Option ℕ → Type 0
  IsWithin more most None = ⊥
  IsWithin more most (Some v) = v + more ≤ most

  lesser_here : (more most n : ℕ) (o : Option ℕ) → n + more ≤ most
      → lesser n o + more ≤ most
  lesser_here more most n None h = h
  lesser_here more most n (Some v) h = omega (arith, h)

  lesser_later : (more most n : ℕ) (o : Option ℕ) → IsWithin more most o
      → lesser n o + more ≤ most
  lesser_later more most n None h = absurd h
  lesser_later more most n (Some v) h = omega (arith, h)

  abbrev passes : ℕ → ℕ → Priced → Bool
  passes more most q = is_at q.node x && nat_le (cost q + more) most

  some_within : (more most : ℕ) (prices : List Priced)
      → list_any (passes more most) prices ≡ true → IsWithin more most (least cost prices x)
  some_within more most [] any = clash (sym any)
  some_within more most (q ∷ prices) any =
      go (is_at q.node x) (nat_le (cost q + more) most) refl any (some_within more most prices)
    where
      go : (a b : Bool) → nat_le (cost q + more) most ≡ b
          → ((a && b) || list_any (passes more most) prices) ≡ true
          → (list_any (passes more most) prices ≡ true → IsWithin more most (least cost prices x))
          → IsWithin more most
          (cond a (Some (lesser (cost q) (least cost prices x))) (least cost prices x))
      go true true is some rest =
          lesser_here more most (cost q) (least cost prices x) (leb-true (cost q + more) most is)
      go true false is some rest = lesser_later more most (cost q) (least cost prices x) (rest some)
      go false b is some rest = rest some

  within_is : (more most : ℕ) (o : Option ℕ) → IsWithin more most o
      → unwrap_or o 0 + more ≤ most
  within_is more most None h = absurd h
  within_is more most (Some v) h = h

  -- who is at a node that costs no more does so
  pub paid_within : (prices : List Priced) (more most : ℕ) (p : Priced → Bool)
      → ((q : Priced) → p q ≡ true → (is_at q.node x ≡ true) × (cost q + more ≤ most))
      → list_any p prices ≡ true → cost_of cost prices x + more ≤ most
  paid_within prices more most p each some =
      within_is more most (least cost prices x)
      (some_within more most prices
      (any_weaker p (passes more most) prices
      (λ q passing.
      (let both = each q passing in
      and_from (is_at q.node x) (nat_le (cost q + more) most) both.0
      (le-leb (cost q + more) most both.1)))
      some))

  -- ---- and at least what all of them do

  abbrev IsFrom : ℕ → Option ℕ → Type 0
  IsFrom few None = Unit {0}
  IsFrom few (Some v) = few ≤ v

  lesser_from : (few n : ℕ) (o : Option ℕ) → few ≤ n → IsFrom few o → few ≤ lesser n o
  lesser_from few n None h k = h
  lesser_from few n (Some v) h k = omega (arith, h, k)

  all_from : (few : ℕ) (prices : List Priced)
      → AllByRecursion (λ q. is_at q.node x ≡ true → few ≤ cost q) prices
      → IsFrom few (least cost prices x)
  all_from few [] all = tt
  all_from few (q ∷ prices) all = go (is_at q.node x) all.0 (all_from few prices all.1)
    where
      go : (b : Bool) → (b ≡ true → few ≤ cost q) → IsFrom few (least cost prices x)
          → IsFrom few (cond b (Some (lesser (cost q) (least cost prices x))) (least cost prices x))
      go true here rest = lesser_from few (cost q) (least cost prices x) (here refl) rest
      go false here rest = rest

  some_least : (prices : List Priced) → is_told (table_of prices) x ≡ true
      → is_some (least cost prices x) ≡ true
  some_least [] told = clash (sym told)
  some_least (q ∷ prices) told = go (is_at q.node x) told (some_least prices)
    where
      go : (b : Bool) → (b || is_told (table_of prices) x) ≡ true
          → (is_told (table_of prices) x ≡ true → is_some (least cost prices x) ≡ true)
          → is_some (cond b (Some (lesser (cost q) (least cost prices x))) (least cost prices x))
          ≡ true
      go true h rest = refl
      go false h rest = rest h

  from_is : (few : ℕ) (o : Option ℕ) → is_some o ≡ true → IsFrom few o → few ≤ unwrap_or o 0
  from_is few None some h = clash (sym some)
  from_is few (Some v) some h = h

  pub told_from : (few : ℕ) (prices : List Priced) → is_told (table_of prices) x ≡ true
      → AllByRecursion (λ q. is_at q.node x ≡ true → few ≤ cost q) prices
      → few ≤ cost_of cost prices x
  told_from few prices told all =
      from_is few (least cost prices x) (some_least prices told) (all_from few prices all)

  -- ---- and at most what each does

  abbrev IsUpTo : ℕ → Option ℕ → Type 0
  IsUpTo most None = Unit {0}
  IsUpTo most (Some v) = v ≤ most

  lesser_to : (most n : ℕ) (o : Option ℕ) → n ≤ most → lesser n o ≤ most
  lesser_to most n None h = h
  lesser_to most n (Some v) h = omega (arith, h)

  all_to : (most : ℕ) (prices : List Priced)
      → AllByRecursion (λ q. is_at q.node x ≡ true → cost q ≤ most) prices
      → IsUpTo most (least cost prices x)
  all_to most [] all = tt
  all_to most (q ∷ prices) all = go (is_at q.node x) all.0 (all_to most prices all.1)
    where
      go : (b : Bool) → (b ≡ true → cost q ≤ most) → IsUpTo most (least cost prices x)
          → IsUpTo most
          (cond b (Some (lesser (cost q) (least cost prices x))) (least cost prices x))
      go true here rest = lesser_to most (cost q) (least cost prices x) (here refl)
      go false here rest = rest

  to_is : (most : ℕ) (o : Option ℕ) → IsUpTo most o → unwrap_or o 0 ≤ most
  to_is most None h = omega arith
  to_is most (Some v) h = h

  -- where it is at none it costs nothing
  pub none_above : (most : ℕ) (prices : List Priced)
      → AllByRecursion (λ q. is_at q.node x ≡ true → cost q ≤ most) prices
      → cost_of cost prices x ≤ most
  none_above most prices all = to_is most (least cost prices x) (all_to most prices all)

-- who is at a node of the table is at that of a price
pub told_priced : (x : Standing) (prices : List Priced) → is_told (table_of prices) x ≡ true
    → list_any (λ q. is_at q.node x) prices ≡ true
told_priced x [] told = told
told_priced x (q ∷ prices) told = go (is_at q.node x) told (told_priced x prices)
  where
    go : (b : Bool) → (b || is_told (table_of prices) x) ≡ true
        → (is_told (table_of prices) x ≡ true → list_any (λ r. is_at r.node x) prices ≡ true)
        → (b || list_any (λ r. is_at r.node x) prices) ≡ true
    go true h rest = refl
    go false h rest = rest h

-- where each node costs no more by one count and what is added, who is at some does not
pub cost_raised : (before after : Priced → ℕ) (d : ℕ) (x : Standing) (prices : List Priced)
    → AllByRecursion (λ q. is_at q.node x ≡ true → after q ≤ before q + d) prices
    → cost_of after prices x ≤ cost_of before prices x + d
cost_raised before after d x prices all =
    rise (least after prices x) (least before prices x) (both prices all)
  where
    AreRaised : Option ℕ → Option ℕ → Type 0
    AreRaised None None = Unit {0}
    AreRaised (Some u) (Some v) = u ≤ v + d
    AreRaised _ _ = ⊥

    rise : (o q : Option ℕ) → AreRaised o q → unwrap_or o 0 ≤ unwrap_or q 0 + d
    rise None None h = omega arith
    rise None (Some v) h = absurd h
    rise (Some u) None h = absurd h
    rise (Some u) (Some v) h = h

    lesser_raised : (m n : ℕ) (o q : Option ℕ) → m ≤ n + d → AreRaised o q
        → lesser m o ≤ lesser n q + d
    lesser_raised m n None None h rest = h
    lesser_raised m n None (Some v) h rest = absurd rest
    lesser_raised m n (Some u) None h rest = absurd rest
    lesser_raised m n (Some u) (Some v) h rest = omega (arith, h, rest)

    both : (qs : List Priced)
        → AllByRecursion (λ q. is_at q.node x ≡ true → after q ≤ before q + d) qs
        → AreRaised (least after qs x) (least before qs x)
    both [] each = tt
    both (q ∷ qs) each = go (is_at q.node x) each.0 (both qs each.1)
      where
        go : (b : Bool) → (b ≡ true → after q ≤ before q + d)
            → AreRaised (least after qs x) (least before qs x)
            → AreRaised (cond b (Some (lesser (after q) (least after qs x))) (least after qs x))
            (cond b (Some (lesser (before q) (least before qs x))) (least before qs x))
        go true here rest =
            lesser_raised (after q) (before q) (least after qs x) (least before qs x) (here refl)
            rest
        go false here rest = rest
