-- What holds of each element of a list, and of each two elements by their order.
use Rattle.std.proofs.Common.{◌≡◌, ◌⊎◌, inl, inr, Bool, true, false, cond, ◌||◌, List, [], ◌∷◌, ◌++◌, map, refl, subst, arith}
use Rattle.std.specs.Prelude.{Some, None}
use Rattle.std.specs.List.{filter, find, list_any, AllByRecursion}

pub clash : {Y : Type 0} → true ≡ false → Y
clash e = absurd (grind arith)

pub some_inside : {X : Type 0} (a b : X) → Some a ≡ Some b → a ≡ b
some_inside a b h = grind arith

pub none_some : {X : Type 0} (x : X) → None ≡ Some x → ⊥
none_some x h = grind arith

module _ {X : Type 0} (P : X → Type 0) where
  -- what holds of both holds of either
  pub cond_both : (b : Bool) (x y : X) → P x → P y → P (cond b x y)
  cond_both true x y f g = f
  cond_both false x y f g = g

  -- it has to hold of each in its own case alone
  pub cond_case : (b : Bool) (x y : X) → (b ≡ true → P x) → (b ≡ false → P y) → P (cond b x y)
  cond_case true x y f g = f refl
  cond_case false x y f g = g refl

-- what holds of each pair, the first of which is before the second
abbrev pub Pairs : {X : Type 0} → (X → X → Type 0) → List X → Type 0
Pairs R [] = Unit {0}
Pairs R (x ∷ xs) = AllByRecursion (R x) xs × Pairs R xs

module _ {X : Type 0} where
  pub all_weaker : (P Q : X → Type 0) (xs : List X) → ((x : X) → P x → Q x) → AllByRecursion P xs → AllByRecursion Q xs
  all_weaker P Q [] f all = tt
  all_weaker P Q (x ∷ xs) f all = (f x all.0, all_weaker P Q xs f all.1)

  pub all_both : (P Q : X → Type 0) (xs : List X) → AllByRecursion P xs → AllByRecursion Q xs → AllByRecursion (λ x. P x × Q x) xs
  all_both P Q [] p q = tt
  all_both P Q (x ∷ xs) p q = ((p.0, q.0), all_both P Q xs p.1 q.1)

  pub all_any : (P : X → Type 0) (xs : List X) → ((x : X) → P x) → AllByRecursion P xs
  all_any P [] f = tt
  all_any P (x ∷ xs) f = (f x, all_any P xs f)

  pub all_filter : (P : X → Type 0) (test : X → Bool) (xs : List X) → AllByRecursion P xs → AllByRecursion (λ x. P x × (test x ≡ true)) (filter test xs)
  all_filter P test [] all = tt
  all_filter P test (x ∷ xs) all = go (test x) refl (all_filter P test xs all.1)
    where
      go : (b : Bool) → test x ≡ b → AllByRecursion (λ x. P x × (test x ≡ true)) (filter test xs)
          → AllByRecursion (λ x. P x × (test x ≡ true)) (cond b (x ∷ filter test xs) (filter test xs))
      go true e rest = ((all.0, e), rest)
      go false e rest = rest

  pub all_kept : (P : X → Type 0) (test : X → Bool) (xs : List X) → AllByRecursion P xs → AllByRecursion P (filter test xs)
  all_kept P test xs all = all_weaker (λ x. P x × (test x ≡ true)) P (filter test xs) (λ x h. h.0) (all_filter P test xs all)

  pub all_append : (P : X → Type 0) (xs ys : List X) → AllByRecursion P xs → AllByRecursion P ys → AllByRecursion P (xs ++ ys)
  all_append P [] ys all more = more
  all_append P (x ∷ xs) ys all more = (all.0, all_append P xs ys all.1 more)

  pub all_map : (P Q : X → Type 0) (g : X → X) (xs : List X) → ((x : X) → P x → Q (g x)) → AllByRecursion P xs → AllByRecursion Q (map g xs)
  all_map P Q g [] f all = tt
  all_map P Q g (x ∷ xs) f all = (f x all.0, all_map P Q g xs f all.1)

  -- what is found is an element that passes
  pub found : (P : X → Type 0) (test : X → Bool) (xs : List X) (x : X) → AllByRecursion P xs → find test xs ≡ Some x
      → P x × (test x ≡ true)
  found P test [] x all h = absurd (grind arith)
  found P test (y ∷ xs) x all h = go (test y) refl h (found P test xs x all.1)
    where
      go : (b : Bool) → test y ≡ b → cond b (Some y) (find test xs) ≡ Some x → (find test xs ≡ Some x → P x × (test x ≡ true)) → P x × (test x ≡ true)
      go true e k rest =
          let same : y ≡ x = grind arith in
          (subst P same all.0, subst (λ z. test z ≡ true) same e)
      go false e k rest = rest k

  -- ---- pairs

  pub pairs_weaker : (R Q : X → X → Type 0) (xs : List X) → ((x y : X) → R x y → Q x y) → Pairs R xs → Pairs Q xs
  pairs_weaker R Q [] f all = tt
  pairs_weaker R Q (x ∷ xs) f all = (all_weaker (R x) (Q x) xs (f x) all.0, pairs_weaker R Q xs f all.1)

  pub pairs_both : (R Q : X → X → Type 0) (xs : List X) → Pairs R xs → Pairs Q xs → Pairs (λ x y. R x y × Q x y) xs
  pairs_both R Q [] p q = tt
  pairs_both R Q (x ∷ xs) p q = (all_both (R x) (Q x) xs p.0 q.0, pairs_both R Q xs p.1 q.1)

  -- of each pair both have what each element has
  pub pairs_of_all : (P : X → Type 0) (xs : List X) → AllByRecursion P xs → Pairs (λ x y. P x × P y) xs
  pairs_of_all P [] all = tt
  pairs_of_all P (x ∷ xs) all = (all_weaker P (λ y. P x × P y) xs (λ y h. (all.0, h)) all.1, pairs_of_all P xs all.1)

  pub pairs_kept : (R : X → X → Type 0) (test : X → Bool) (xs : List X) → Pairs R xs → Pairs R (filter test xs)
  pairs_kept R test [] all = tt
  pairs_kept R test (x ∷ xs) all = go (test x) (pairs_kept R test xs all.1)
    where
      go : (b : Bool) → Pairs R (filter test xs) → Pairs R (cond b (x ∷ filter test xs) (filter test xs))
      go true rest = (all_kept (R x) test xs all.0, rest)
      go false rest = rest

  pub pairs_map : (R Q : X → X → Type 0) (g : X → X) (xs : List X) → ((x y : X) → R x y → Q (g x) (g y)) → Pairs R xs → Pairs Q (map g xs)
  pairs_map R Q g [] f all = tt
  pairs_map R Q g (x ∷ xs) f all = (all_map (R x) (Q (g x)) g xs (f x) all.0, pairs_map R Q g xs f all.1)

  -- each of xs with each of ys
  pub pairs_append : (R : X → X → Type 0) (xs ys : List X) → Pairs R xs → Pairs R ys → AllByRecursion (λ x. AllByRecursion (R x) ys) xs
      → Pairs R (xs ++ ys)
  pairs_append R [] ys p q cross = q
  pairs_append R (x ∷ xs) ys p q cross = (all_append (R x) xs ys p.0 cross.0, pairs_append R xs ys p.1 q cross.1)

  -- two elements stand one before the other, or are one
  abbrev pub EitherWay : (X → X → Type 0) → X → X → Type 0
  EitherWay R x y = R x y ⊎ (R y x ⊎ (x ≡ y))

  pub either_way : (R : X → X → Type 0) (xs : List X) → Pairs R xs → AllByRecursion (λ x. AllByRecursion (EitherWay R x) xs) xs
  either_way R [] all = tt
  either_way R (x ∷ xs) all = (
    (inr (inr refl), all_weaker (R x) (EitherWay R x) xs (λ y h. inl h) all.0),
    all_weaker (λ y. R x y × AllByRecursion (EitherWay R y) xs) (λ y. AllByRecursion (EitherWay R y) (x ∷ xs)) xs
        (λ y h. (inr (inl h.0), h.1))
        (all_both (R x) (λ y. AllByRecursion (EitherWay R y) xs) xs all.0 (either_way R xs all.1)),
  )

  -- ---- what is found first

  -- of two elements that are apart, where the later one is what was found, the earlier one doesn't pass
  pub before_found : (R : X → X → Type 0) (test : X → Bool) (xs : List X) (c : X) → Pairs R xs → find test xs ≡ Some c
      → Pairs (λ x y. (y ≡ c → R c c) ⊎ (test x ≡ false)) xs
  before_found R test [] c all h = tt
  before_found R test (x ∷ xs) c all h = go (test x) refl h (before_found R test xs c all.1)
    where
      go : (b : Bool) → test x ≡ b → cond b (Some x) (find test xs) ≡ Some c
          → (find test xs ≡ Some c → Pairs (λ x y. (y ≡ c → R c c) ⊎ (test x ≡ false)) xs)
          → Pairs (λ x y. (y ≡ c → R c c) ⊎ (test x ≡ false)) (x ∷ xs)
      go true e k rest =
          let same : x ≡ c = grind arith in
          let later : AllByRecursion (R c) xs = subst (λ z. AllByRecursion (R z) xs) same all.0 in
          let each : AllByRecursion (λ y. y ≡ c → R c c) xs = all_weaker (R c) (λ y. y ≡ c → R c c) xs (λ y r e. subst (R c) e r) later in (
            all_weaker (λ y. y ≡ c → R c c) (λ y. (y ≡ c → R c c) ⊎ (test x ≡ false)) xs (λ y r. inl r) each,
            pairs_weaker (λ y z. (y ≡ c → R c c) × (z ≡ c → R c c)) (λ y z. (z ≡ c → R c c) ⊎ (test y ≡ false)) xs (λ y z r. inl r.1)
                (pairs_of_all (λ y. y ≡ c → R c c) xs each),
          )
      go false e k rest = (all_any (λ y. (y ≡ c → R c c) ⊎ (test x ≡ false)) xs (λ y. inr e), rest k)

-- each fails where none passes
pub any_none : {X : Type 0} (p : X → Bool) (xs : List X) → list_any p xs ≡ false → AllByRecursion (λ x. p x ≡ false) xs
any_none p [] h = tt
any_none p (x ∷ xs) h = go (p x) refl h (any_none p xs)
  where
    go : (b : Bool) → p x ≡ b → (b || list_any p xs) ≡ false → (list_any p xs ≡ false → AllByRecursion (λ y. p y ≡ false) xs)
        → AllByRecursion (λ y. p y ≡ false) (x ∷ xs)
    go true e k rest = clash k
    go false e k rest = (e, rest k)
