-- Lists under a test, a map and a change at a place, as the upper part of a state is made of them.
use Rattle.std.proofs.Common.{◌≡◌, ℕ, zero, suc, ◌<◌, Bool, true, false, cond, ◌||◌, List, [], ◌∷◌, ◌++◌, map, take, set, length, refl, sym, ◌∙◌, ap, ap₂, arith}
use Rattle.std.specs.Prelude.{Option, Some, ◌==◌}
use Rattle.std.specs.List.{filter, find, list_any, AllByRecursion}
use Rattle.std.specs.Option.{option_map}
use Rattle.osek_base.specs.Lists.{below, is_empty}

-- ---- a choice moved

pub false≢true : false ≡ true → ⊥
false≢true e = cc

pub true≢false : true ≡ false → ⊥
true≢false e = cc

-- what holds of both holds of either
pub cond_both : {X : Type 0} (P : X → Type 0) (b : Bool) (x y : X) → P x → P y → P (cond b x y)
cond_both P true x y f g = f
cond_both P false x y f g = g

-- numbers that a test tells apart differ
pub differ : (f : ℕ → Bool) (a b : ℕ) → f a ≡ true → f b ≡ false → (a == b) ≡ false
differ f a b h k = grind arith

any_step : (a b l : Bool) → (a ≡ true → b ≡ true) → cond b (a || l) l ≡ (a || l)
any_step true true l h = refl
any_step true false l h = absurd (false≢true (h refl))
any_step false true l h = refl
any_step false false l h = refl

module _ {X : Type 0} where
  filter_cond : (q : X → Bool) (u : Bool) (x : X) (xs : List X)
      → filter q (cond u (x ∷ xs) xs) ≡ cond u (cond (q x) (x ∷ filter q xs) (filter q xs)) (filter q xs)
  filter_cond q true x xs = refl
  filter_cond q false x xs = refl

  swap_step : (a b : Bool) (x : X) (l : List X) → cond a (cond b (x ∷ l) l) l ≡ cond b (cond a (x ∷ l) l) l
  swap_step true true x l = refl
  swap_step true false x l = refl
  swap_step false true x l = refl
  swap_step false false x l = refl

  -- two tests, in either order
  pub filter_swap : (q u : X → Bool) (xs : List X) → filter q (filter u xs) ≡ filter u (filter q xs)
  filter_swap q u [] = refl
  filter_swap q u (x ∷ xs) =
      filter_cond q (u x) x (filter u xs)
      ∙ ap (λ l. cond (u x) (cond (q x) (x ∷ l) l) l) (filter_swap q u xs)
      ∙ swap_step (u x) (q x) x (filter u (filter q xs))
      ∙ sym (filter_cond u (q x) x (filter q xs))

  weaker_step : (a b : Bool) (x : X) (l : List X) → (a ≡ true → b ≡ true) → cond b (cond a (x ∷ l) l) l ≡ cond a (x ∷ l) l
  weaker_step true true x l h = refl
  weaker_step true false x l h = absurd (false≢true (h refl))
  weaker_step false true x l h = refl
  weaker_step false false x l h = refl

  -- a weaker test first takes nothing away
  pub filter_weaker : (q u : X → Bool) (xs : List X) → ((x : X) → q x ≡ true → u x ≡ true) → filter q (filter u xs) ≡ filter q xs
  filter_weaker q u [] h = refl
  filter_weaker q u (x ∷ xs) h =
      filter_cond q (u x) x (filter u xs)
      ∙ ap (λ l. cond (u x) (cond (q x) (x ∷ l) l) l) (filter_weaker q u xs h)
      ∙ weaker_step (q x) (u x) x (filter q xs) (h x)

  none_step : (a b : Bool) (x : X) → (a ≡ true → b ≡ false) → cond b (cond a (x ∷ []) []) [] ≡ []
  none_step true true x h = absurd (true≢false (h refl))
  none_step true false x h = refl
  none_step false true x h = refl
  none_step false false x h = refl

  -- what passes one test passes the other not
  pub filter_none : (q u : X → Bool) (xs : List X) → ((x : X) → q x ≡ true → u x ≡ false) → filter q (filter u xs) ≡ []
  filter_none q u [] h = refl
  filter_none q u (x ∷ xs) h =
      filter_cond q (u x) x (filter u xs)
      ∙ ap (λ l. cond (u x) (cond (q x) (x ∷ l) l) l) (filter_none q u xs h)
      ∙ none_step (q x) (u x) x (h x)

  find_cond : (q : X → Bool) (u : Bool) (x : X) (xs : List X)
      → find q (cond u (x ∷ xs) xs) ≡ cond u (cond (q x) (Some x) (find q xs)) (find q xs)
  find_cond q true x xs = refl
  find_cond q false x xs = refl

  find_step : (a b : Bool) (o l : Option X) → (a ≡ true → b ≡ true) → cond b (cond a o l) l ≡ cond a o l
  find_step true true o l h = refl
  find_step true false o l h = absurd (false≢true (h refl))
  find_step false true o l h = refl
  find_step false false o l h = refl

  pub find_weaker : (q u : X → Bool) (xs : List X) → ((x : X) → q x ≡ true → u x ≡ true) → find q (filter u xs) ≡ find q xs
  find_weaker q u [] h = refl
  find_weaker q u (x ∷ xs) h =
      find_cond q (u x) x (filter u xs)
      ∙ ap (λ l. cond (u x) (cond (q x) (Some x) l) l) (find_weaker q u xs h)
      ∙ find_step (q x) (u x) (Some x) (find q xs) (h x)

  any_cond : (q : X → Bool) (u : Bool) (x : X) (xs : List X) → list_any q (cond u (x ∷ xs) xs) ≡ cond u (q x || list_any q xs) (list_any q xs)
  any_cond q true x xs = refl
  any_cond q false x xs = refl

  -- a test that only elements of the filter pass
  pub any_weaker : (q u : X → Bool) (xs : List X) → AllByRecursion (λ x. q x ≡ true → u x ≡ true) xs → list_any q (filter u xs) ≡ list_any q xs
  any_weaker q u [] all = refl
  any_weaker q u (x ∷ xs) all =
      any_cond q (u x) x (filter u xs)
      ∙ ap (λ l. cond (u x) (q x || l) l) (any_weaker q u xs all.1)
      ∙ any_step (q x) (u x) (list_any q xs) all.0

module _ {X Y : Type 0} where
  map_cond : (f : X → Y) (u : Bool) (x : X) (xs : List X) → map f (cond u (x ∷ xs) xs) ≡ cond u (f x ∷ map f xs) (map f xs)
  map_cond f true x xs = refl
  map_cond f false x xs = refl

  -- a test behind a map
  pub filter_map_is : (f : X → Y) (q : Y → Bool) (xs : List X) → filter q (map f xs) ≡ map f (filter (λ x. q (f x)) xs)
  filter_map_is f q [] = refl
  filter_map_is f q (x ∷ xs) =
      ap (λ l. cond (q (f x)) (f x ∷ l) l) (filter_map_is f q xs)
      ∙ sym (map_cond f (q (f x)) x (filter (λ z. q (f z)) xs))

  find_map_step : (f : X → Y) (u : Bool) (x : X) (o : Option X) → cond u (Some (f x)) (option_map f o) ≡ option_map f (cond u (Some x) o)
  find_map_step f true x o = refl
  find_map_step f false x o = refl

  pub find_map_is : (f : X → Y) (q : Y → Bool) (xs : List X) → find q (map f xs) ≡ option_map f (find (λ x. q (f x)) xs)
  find_map_is f q [] = refl
  find_map_is f q (x ∷ xs) =
      ap (cond (q (f x)) (Some (f x))) (find_map_is f q xs) ∙ find_map_step f (q (f x)) x (find (λ z. q (f z)) xs)

  pub any_map_is : (f : X → Y) (q : Y → Bool) (xs : List X) → list_any q (map f xs) ≡ list_any (λ x. q (f x)) xs
  any_map_is f q [] = refl
  any_map_is f q (x ∷ xs) = ap (λ b. q (f x) || b) (any_map_is f q xs)

  pub length_map : (f : X → Y) (xs : List X) → length (map f xs) ≡ length xs
  length_map f [] = refl
  length_map f (x ∷ xs) = ap suc (length_map f xs)

  pub map_same : (f g : X → Y) (xs : List X) → AllByRecursion (λ x. f x ≡ g x) xs → map f xs ≡ map g xs
  map_same f g [] all = refl
  map_same f g (x ∷ xs) all = ap₂ (λ y ys. y ∷ ys) all.0 (map_same f g xs all.1)

-- a map that keeps the test, before the test and behind it
pub filter_after_map : {X : Type 0} (h : X → X) (u : X → Bool) (xs : List X) → ((x : X) → u (h x) ≡ u x)
    → filter u (map h xs) ≡ map h (filter u xs)
filter_after_map h u [] same = refl
filter_after_map h u (x ∷ xs) same =
    ap (λ b. cond b (h x ∷ filter u (map h xs)) (filter u (map h xs))) (same x)
    ∙ ap (λ l. cond (u x) (h x ∷ l) l) (filter_after_map h u xs same)
    ∙ sym (map_cond h (u x) x (filter u xs))

-- two maps that swap
pub map_swap : {X Y : Type 0} (f : X → Y) (g : X → X) (h : Y → Y) (xs : List X) → ((x : X) → f (g x) ≡ h (f x))
    → map f (map g xs) ≡ map h (map f xs)
map_swap f g h [] same = refl
map_swap f g h (x ∷ xs) same = ap₂ (λ y ys. y ∷ ys) (same x) (map_swap f g h xs same)

-- a map that changes only what doesn't pass
pub filter_unseen : {X : Type 0} (h : X → X) (u : X → Bool) (xs : List X) → ((x : X) → u x ≡ true → h x ≡ x) → ((x : X) → u (h x) ≡ u x)
    → filter u (map h xs) ≡ filter u xs
filter_unseen h u [] kept same = refl
filter_unseen {X} h u (x ∷ xs) kept same =
    ap (λ b. cond b (h x ∷ filter u (map h xs)) (filter u (map h xs))) (same x)
    ∙ ap (λ l. cond (u x) (h x ∷ l) l) (filter_unseen h u xs kept same)
    ∙ go (u x) refl
  where
    go : (b : Bool) → u x ≡ b → cond b (h x ∷ filter u xs) (filter u xs) ≡ cond b (x ∷ filter u xs) (filter u xs)
    go true e = ap (λ y. y ∷ filter u xs) (kept x e)
    go false e = refl

-- ---- what holds of each element

module _ {X : Type 0} (P : X → Type 0) where
  pub all_append : (xs ys : List X) → AllByRecursion P xs → AllByRecursion P ys → AllByRecursion P (xs ++ ys)
  all_append [] ys a b = b
  all_append (x ∷ xs) ys a b = (a.0, all_append xs ys a.1 b)

  pub all_filter : (q : X → Bool) (xs : List X) → AllByRecursion P xs → AllByRecursion P (filter q xs)
  all_filter q [] all = tt
  all_filter q (x ∷ xs) all = go (q x) (all_filter q xs all.1)
    where
      go : (b : Bool) → AllByRecursion P (filter q xs) → AllByRecursion P (cond b (x ∷ filter q xs) (filter q xs))
      go true rest = (all.0, rest)
      go false rest = rest

  pub all_map : (f : X → X) (xs : List X) → ((x : X) → P x → P (f x)) → AllByRecursion P xs → AllByRecursion P (map f xs)
  all_map f [] keeps all = tt
  all_map f (x ∷ xs) keeps all = (keeps x all.0, all_map f xs keeps all.1)

-- what passes a test passes it
pub all_pass : {X : Type 0} (q : X → Bool) (xs : List X) → AllByRecursion (λ x. q x ≡ true) (filter q xs)
all_pass q [] = tt
all_pass q (x ∷ xs) = go (q x) refl (all_pass q xs)
  where
    go : (b : Bool) → q x ≡ b → AllByRecursion (λ z. q z ≡ true) (filter q xs)
        → AllByRecursion (λ z. q z ≡ true) (cond b (x ∷ filter q xs) (filter q xs))
    go true e rest = (e, rest)
    go false e rest = rest

pub all_weaken : {X : Type 0} (P Q : X → Type 0) (xs : List X) → ((x : X) → P x → Q x) → AllByRecursion P xs → AllByRecursion Q xs
all_weaken P Q [] h all = tt
all_weaken P Q (x ∷ xs) h all = (h x all.0, all_weaken P Q xs h all.1)

pub all_both : {X : Type 0} (P Q : X → Type 0) (xs : List X) → AllByRecursion P xs → AllByRecursion Q xs
    → AllByRecursion (λ x. P x × Q x) xs
all_both P Q [] a b = tt
all_both P Q (x ∷ xs) a b = ((a.0, b.0), all_both P Q xs a.1 b.1)

-- ---- a place

module _ {X : Type 0} where
  -- a change within the part that is taken
  pub take_set : (k : ℕ) (xs : List X) (i : ℕ) (v : X) → take k (set xs i v) ≡ set (take k xs) i v
  take_set zero xs i v = refl
  take_set (suc k) [] i v = refl
  take_set (suc k) (x ∷ xs) zero v = refl
  take_set (suc k) (x ∷ xs) (suc i) v = ap (λ l. x ∷ l) (take_set k xs i v)

pub each_below : (P : ℕ → Type 0) (n : ℕ) → ((k : ℕ) → k < n → P k) → AllByRecursion P (below n)
each_below P zero each = tt
each_below P (suc n) each = all_append P (below n) (n ∷ []) (each_below P n (λ k h. each k (omega (arith, h)))) (each n (omega arith), tt)

-- ---- lists without elements

pub is_empty_map : {X Y : Type 0} (f : X → Y) (xs : List X) → is_empty (map f xs) ≡ is_empty xs
is_empty_map f [] = refl
is_empty_map f (x ∷ xs) = refl
