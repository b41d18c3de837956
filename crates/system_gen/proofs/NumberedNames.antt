-- The number of a declared name: it is low enough, and what stands at it has that name.
use Rattle.std.proofs.Common.{◌≡◌, ℕ, suc, ◌<◌, Bool, true, false, not, ◌&&◌, ◌||◌, cond, eqb, List, [], ◌∷◌, map, length, refl, sym, ◌∙◌, ap, ap₂, arith}
use Rattle.std.specs.Prelude.{Some, nat_lt, slice_index_or, bytes_eq}
use Rattle.std.specs.List.{list_any, list_all, AllByRecursion}
use Rattle.std.specs.Option.{option_map, unwrap_or}
use Rattle.std.proofs.lemmas.Bool.{lt-ltb, eq-eqb, ne_eqb, and_parts, not-true, or_parts, or_from, and_from, false≢true}
use Rattle.std.proofs.lemmas.Slice.Eq.{bytes_eq-Decides}
use Rattle.osek_base.specs.Lists.{is_in}
use Rattle.osek_base.specs.Names.{number_of, is_named, are_distinct_names}
use Rattle.osek_base.specs.Classes.{are_distinct}
use Rattle.osek_base.specs.Proper.{has_two}
use Rattle.system_gen.specs.DeclaredNames.{number}

-- ---- names that are equal

pub equal_names : (a b : List ℕ) → bytes_eq a b ≡ true → a ≡ b
equal_names a b h = (bytes_eq-Decides a b).0 h

pub names_equal : (a b : List ℕ) → a ≡ b → bytes_eq a b ≡ true
names_equal a b e = (bytes_eq-Decides a b).1 e

pub equal_turned : (a b : List ℕ) → bytes_eq a b ≡ bytes_eq b a
equal_turned a b = go (bytes_eq a b) (bytes_eq b a) refl refl
  where
    go : (p q : Bool) → bytes_eq a b ≡ p → bytes_eq b a ≡ q → p ≡ q
    go true true e f = refl
    go true false e f = absurd (false≢true (sym f ∙ names_equal b a (sym (equal_names a b e))))
    go false true e f = absurd (false≢true (sym e ∙ names_equal a b (sym (equal_names b a f))))
    go false false e f = refl

-- ---- a declared name has a number

pub record HasNumber (names : List (List ℕ)) (name : List ℕ) : Type 0 where
  pub place : ℕ
  pub found : number_of name names ≡ Some place
  pub low : place < length names
  pub stands : slice_index_or names place [] ≡ name

pub has_number : (names : List (List ℕ)) (name : List ℕ) → is_named name names ≡ true → HasNumber names name
has_number [] name h = absurd (false≢true h)
has_number (first ∷ rest) name h = go (λ k. has_number rest name k) (bytes_eq first name) refl
  where
    later : bytes_eq first name ≡ false → is_named name rest ≡ true
    later e = ap (λ b. b || is_named name rest) (sym e ∙ equal_turned first name) ∙ h

    go : (is_named name rest ≡ true → HasNumber rest name) → (b : Bool) → bytes_eq first name ≡ b → HasNumber (first ∷ rest) name
    go more true e = record {
      place = 0;
      found = ap (λ b. cond b (Some 0) (option_map suc (number_of name rest))) e;
      low = omega arith;
      stands = equal_names first name e;
    }
    go more false e =
        let r = more (later e) in
        let low : r.place < length rest = r.low in
        record {
          place = suc r.place;
          found = ap (λ b. cond b (Some 0) (option_map suc (number_of name rest))) e ∙ ap (option_map suc) r.found;
          low = omega (arith, low);
          stands = r.stands;
        }

module _ (names : List (List ℕ)) (name : List ℕ) (declared : is_named name names ≡ true) where
  place_is : number names name ≡ (has_number names name declared).place
  place_is = ap (λ o. unwrap_or o 0) (has_number names name declared).found

  pub number_low : number names name < length names
  number_low = omega (arith, place_is, (has_number names name declared).low)

  pub number_below : nat_lt (number names name) (length names) ≡ true
  number_below = lt-ltb _ _ number_low

  pub name_stands : slice_index_or names (number names name) [] ≡ name
  name_stands = ap (λ n. slice_index_or names n []) place_is ∙ (has_number names name declared).stands

-- different names have different numbers
pub same_number : (names : List (List ℕ)) (a b : List ℕ) → is_named a names ≡ true → is_named b names ≡ true
    → eqb (number names a) (number names b) ≡ bytes_eq a b
same_number names a b da db = go (bytes_eq a b) refl
  where
    names_same : number names a ≡ number names b → a ≡ b
    names_same e = sym (name_stands names a da) ∙ ap (λ n. slice_index_or names n []) e ∙ name_stands names b db

    go : (t : Bool) → bytes_eq a b ≡ t → eqb (number names a) (number names b) ≡ t
    go true e = eq-eqb _ _ (ap (number names) (equal_names a b e))
    go false e = ne_eqb _ _ (λ f. false≢true (sym e ∙ names_equal a b (names_same f)))

-- ---- a list of declared names

abbrev pub AreNamed : List (List ℕ) → List (List ℕ) → Type 0
AreNamed names some = AllByRecursion (λ name. is_named name names ≡ true) some

module _ (names : List (List ℕ)) where
  pub numbers_below : (some : List (List ℕ)) (n : ℕ) → length names ≡ n → AreNamed names some
      → list_all (λ k. nat_lt k n) (map (number names) some) ≡ true
  numbers_below [] n e all = refl
  numbers_below (name ∷ some) n e all =
      and_from _ _ (ap (nat_lt (number names name)) (sym e) ∙ number_below names name all.0) (numbers_below some n e all.1)

  in_numbers : (some : List (List ℕ)) (name : List ℕ) → is_named name names ≡ true → AreNamed names some
      → is_in (number names name) (map (number names) some) ≡ is_named name some
  in_numbers [] name h all = refl
  in_numbers (first ∷ some) name h all =
      ap₂ (λ a b. a || b) (same_number names first name all.0 h ∙ equal_turned first name) (in_numbers some name h all.1)

  -- no number stands twice where no name does
  pub distinct_numbers : (some : List (List ℕ)) → AreNamed names some
      → are_distinct (map (number names) some) ≡ are_distinct_names some
  distinct_numbers [] all = refl
  distinct_numbers (first ∷ some) all =
      ap₂ (λ a b. not a && b) (in_numbers some first all.0 all.1) (distinct_numbers some all.1)

-- ---- tests by number and by name

module _ (f : List ℕ → ℕ) (by_number : ℕ → Bool) (by_name : List ℕ → Bool) where
  abbrev pub AreSame : List (List ℕ) → Type 0
  AreSame some = AllByRecursion (λ name. by_number (f name) ≡ by_name name) some

  pub any_number : (some : List (List ℕ)) → AreSame some → list_any by_number (map f some) ≡ list_any by_name some
  any_number [] same = refl
  any_number (name ∷ some) same = ap₂ (λ a b. a || b) same.0 (any_number some same.1)

  pub two_numbers : (some : List (List ℕ)) → AreSame some → has_two by_number (map f some) ≡ has_two by_name some
  two_numbers [] same = refl
  two_numbers (name ∷ some) same =
      ap (λ b. cond b (list_any by_number (map f some)) (has_two by_number (map f some))) same.0
      ∙ ap₂ (λ a b. cond (by_name name) a b) (any_number some same.1) (two_numbers some same.1)

-- ---- what stands at the number of a name, where no name stands twice

later_number : (first : List ℕ) (rest : List (List ℕ)) (name : List ℕ) → bytes_eq first name ≡ false → is_named name rest ≡ true
    → number (first ∷ rest) name ≡ suc (number rest name)
later_number first rest name e h =
    let r = has_number rest name h in
    ap (λ b. unwrap_or (cond b (Some 0) (option_map suc (number_of name rest))) 0) e
    ∙ ap (λ o. unwrap_or (option_map suc o) 0) r.found
    ∙ ap suc (sym (place_is rest name h))

module _ {X Y : Type 0} (name : X → List ℕ) (g : X → Y) (d : Y) (wanted : List ℕ) (has : X → Bool) (test : Y → Bool)
    (mine : (x : X) → bytes_eq (name x) wanted ≡ true → has x ≡ test (g x))
    (others : (x : X) → bytes_eq (name x) wanted ≡ false → has x ≡ false) where
  none_has : (xs : List X) → is_named wanted (map name xs) ≡ false → list_any has xs ≡ false
  none_has [] h = refl
  none_has (x ∷ xs) h =
      let parts = or_parts _ _ h in
      or_from _ _ (others x (equal_turned (name x) wanted ∙ parts.0)) (none_has xs parts.1)

  or_none : (b : Bool) → (b || false) ≡ b
  or_none true = refl
  or_none false = refl

  pub at_number : (xs : List X) → are_distinct_names (map name xs) ≡ true → is_named wanted (map name xs) ≡ true
      → list_any has xs ≡ test (slice_index_or (map g xs) (number (map name xs) wanted) d)
  at_number [] distinct declared = absurd (false≢true declared)
  at_number (x ∷ xs) distinct declared =
      go (λ k. at_number xs (and_parts _ _ distinct).1 k) (bytes_eq (name x) wanted) refl
    where
      go : (is_named wanted (map name xs) ≡ true → list_any has xs ≡ test (slice_index_or (map g xs) (number (map name xs) wanted) d))
          → (b : Bool) → bytes_eq (name x) wanted ≡ b
          → list_any has (x ∷ xs) ≡ test (slice_index_or (map g (x ∷ xs)) (number (map name (x ∷ xs)) wanted) d)
      go more true e =
          let fresh : is_named wanted (map name xs) ≡ false =
          ap (λ w. is_named w (map name xs)) (sym (equal_names (name x) wanted e)) ∙ not-true _ (and_parts _ _ distinct).0 in
          let first : number (map name (x ∷ xs)) wanted ≡ 0 = ap (λ b. unwrap_or (cond b (Some 0) (option_map suc (number_of wanted (map name xs)))) 0) e in
          ap₂ (λ a b. a || b) (mine x e) (none_has xs fresh)
          ∙ or_none (test (g x))
          ∙ sym (ap (λ n. test (slice_index_or (map g (x ∷ xs)) n d)) first)
      go more false e =
          let declared_later : is_named wanted (map name xs) ≡ true =
          ap (λ b. b || is_named wanted (map name xs)) (sym (sym (equal_turned (name x) wanted) ∙ e)) ∙ declared in
          let later : number (map name (x ∷ xs)) wanted ≡ suc (number (map name xs) wanted) = later_number (name x) (map name xs) wanted e declared_later in
          ap (λ b. b || list_any has xs) (others x e)
          ∙ more declared_later
          ∙ sym (ap (λ n. test (slice_index_or (map g (x ∷ xs)) n d)) later)
