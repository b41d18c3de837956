-- A set of names in their order: which names it has, where they stand, and that a new one goes last.
use Rattle.std.proofs.Common.{◌≡◌, ℕ, suc, ◌+◌, ◌<◌, List, [], ◌∷◌, ◌++◌, map, length, drop, get_or, Bool, true, false, not, cond, ◌||◌, Option, Some, None, refl, sym, ap, ◌∙◌, nat_lt, append_assoc, Bor, arith}
use Rattle.std.specs.List.{list_any, position, position_or_len}
use Rattle.std.specs.Map.Iter.{deref}
use Rattle.std.specs.Option.{option_map}
use Rattle.std.specs.Str.{bytes_eq}
use Rattle.std.proofs.lemmas.Cmp.{nat_list_eq_equiv}
use Rattle.std.proofs.lemmas.Bool.{and_parts, not-true, or_parts, or_from, lt-ltb}
use Rattle.std.proofs.lemmas.Bool.Decides.{nat_tests}
use Rattle.std.proofs.lemmas.List.{map-append, drop_more}
use Rattle.std.proofs.lemmas.List.Folds.{list_any-append}
use Rattle.indexmap.specs.IndexSet.{insert_key}
use Rattle.osek_base.specs.Names.{is_named, number_of, are_distinct_names}

abbrev pub Key : Type 0
Key = Bor (List ℕ)

abbrev pub same_key : Key → Key → Bool
same_key a b = bytes_eq a.now b.now

-- a name is among keys where a key has its bytes
pub named : (name : List ℕ) (keys : List Key) → list_any (λ k. bytes_eq name k.now) keys ≡ is_named name (map deref keys)
named name [] = refl
named name (k ∷ keys) = ap (λ (b : Bool). bytes_eq name k.now || b) (named name keys)

-- the first place that passes a test, one element at a time
placed : {X : Type 0} (p : X → Bool) (x : X) (xs : List X) → position p (x ∷ xs) ≡ cond (p x) (Some 0) (option_map suc (position p xs))
placed {X} p x xs = go (p x) refl
  where
    step : (n m : ℕ) → nat_lt (suc n) (suc m) ≡ nat_lt n m
    step n m = grind (arith, nat_tests)

    past : (n : ℕ) (b : Bool) → cond b (Some (suc n)) None ≡ option_map suc (cond b (Some n) None)
    past n true = refl
    past n false = refl

    go : (b : Bool) → p x ≡ b → position p (x ∷ xs) ≡ cond b (Some 0) (option_map suc (position p xs))
    go true e = rw e (ap (λ (b : Bool). cond b (Some 0) None) (lt-ltb 0 (suc (length xs)) (omega arith)))
    go false e =
        let n = position_or_len p xs in
        let next : 1 + n ≡ suc n = omega arith in
        let place : position_or_len p (x ∷ xs) ≡ suc n = ap (λ (c : Bool). cond (not c) (1 + n) 0) e ∙ next in
        ap (λ (m : ℕ). cond (nat_lt m (length (x ∷ xs))) (Some m) None) place
        ∙ ap (λ (b : Bool). cond b (Some (suc n)) None) (step n (length xs))
        ∙ past n (nat_lt n (length xs))

-- a name's number is the place of its key
pub numbered : (name : List ℕ) (keys : List Key) → position (λ k. bytes_eq name k.now) keys ≡ number_of name (map deref keys)
numbered name [] = refl
numbered name (k ∷ keys) =
    placed (λ (j : Key). bytes_eq name j.now) k keys
    ∙ ap (λ (b : Bool). cond b (Some 0) (option_map suc (position (λ (j : Key). bytes_eq name j.now) keys))) (nat_list_eq_equiv.symm name k.now)
    ∙ ap (λ (o : Option ℕ). cond (bytes_eq k.now name) (Some 0) (option_map suc o)) (numbered name keys)

-- where no name stands twice, none stands before itself
fresh : (before : List (List ℕ)) (name : List ℕ) (rest : List (List ℕ)) → are_distinct_names (before ++ name ∷ rest) ≡ true → is_named name before ≡ false
fresh [] name rest all = refl
fresh (b ∷ before) name rest all =
    let parts = and_parts (not (is_named b (before ++ name ∷ rest))) (are_distinct_names (before ++ name ∷ rest)) all in
    let behind : (is_named b before || (bytes_eq b name || is_named b rest)) ≡ false = sym (list_any-append (bytes_eq b) before (name ∷ rest)) ∙ not-true (is_named b (before ++ name ∷ rest)) parts.0 in
    let other : bytes_eq b name ≡ false = (or_parts (bytes_eq b name) (is_named b rest) (or_parts (is_named b before) (bytes_eq b name || is_named b rest) behind).1).0 in
    or_from (bytes_eq name b) (is_named name before) (nat_list_eq_equiv.symm name b ∙ other) (fresh before name rest parts.1)

-- the names of the keys and those that are left, one name on
pub one_more : (names : List (List ℕ)) (keys : List Key) (k : Key) (i : ℕ) (name : List ℕ) → i < length names → k.now ≡ name → name ≡ get_or names i name
    → are_distinct_names names ≡ true → map deref keys ++ drop i names ≡ names → map deref (insert_key same_key keys k) ++ drop (i + 1) names ≡ names
one_more names keys k i name inside same at distinct so_far =
    let before = map deref keys in
    let rest = drop (i + 1) names in
    let here : drop i names ≡ k.now ∷ rest = drop_more names i name inside ∙ ap (λ (n : List ℕ). n ∷ rest) (sym at ∙ sym same) in
    let whole : before ++ k.now ∷ rest ≡ names = ap (λ (l : List (List ℕ)). before ++ l) (sym here) ∙ so_far in
    let new : list_any (same_key k) keys ≡ false = named k.now keys ∙ fresh before k.now rest (ap are_distinct_names whole ∙ distinct) in
    let last : insert_key same_key keys k ≡ keys ++ k ∷ [] = ap (λ (b : Bool). cond b keys (keys ++ k ∷ [])) new in
    ap (λ (l : List Key). map deref l ++ rest) last
    ∙ ap (λ (l : List (List ℕ)). l ++ rest) (map-append deref keys (k ∷ []))
    ∙ append_assoc before (k.now ∷ []) rest
    ∙ whole
