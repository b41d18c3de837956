-- Event names that are joined by +, read one after the other.
use Rattle.std.proofs.Common.{◌≡◌, ℕ, true, List, [], ◌∷◌, ◌++◌, Option, Some, None, refl, sym, ap, ◌∙◌, append_assoc}
use Rattle.std.specs.Option.{option_map}
use Rattle.std.specs.Prelude.{is_some}
use Rattle.osek_base.specs.Tokens.{Lexeme}
use Rattle.task_asm.specs.declared.tokens.Sign.TheVariants as sign
use Rattle.task_asm.specs.Tokens.{Symbol}
use Rattle.task_asm.specs.Lines.{Tokens, Taken, a_mark, mark_of, a_name, name_of, is_plus, more_names, with_name}

taken_same : {X : Type 0} (a b : Taken X) → Some a ≡ Some b → a ≡ b
taken_same a b h = cc

-- ---- a +

record PlusFirst (t : Lexeme Symbol) (us mid : Tokens) : Type 0 where
  plus : is_plus t ≡ true
  behind : us ≡ mid

plus_by : (t : Lexeme Symbol) (us mid : Tokens) (o : Option (Unit {0})) → mark_of sign.Plus t ≡ o
    → option_map (λ x. let r : Taken (Unit {0}) = record { value = x; rest = us } in r) o ≡ Some (record { value = tt; rest = mid }) → PlusFirst t us mid
plus_by t us mid None e h = absurd cc
plus_by t us mid (Some u) e h =
    let same = taken_same (record { value = u; rest = us }) (record { value = tt; rest = mid }) h in
    record { plus = ap (λ (o : Option (Unit {0})). is_some o) e; behind = ap (λ (r : Taken (Unit {0})). r.rest) same }

plus_first : (t : Lexeme Symbol) (us mid : Tokens) → a_mark sign.Plus (t ∷ us) ≡ Some (record { value = tt; rest = mid }) → PlusFirst t us mid
plus_first t us mid h = plus_by t us mid (mark_of sign.Plus t) refl h

-- ---- the names behind it

record NameFirst (u : Lexeme Symbol) (ts : Tokens) (n : List ℕ) (last : Tokens) : Type 0 where
  name : name_of u ≡ Some n
  behind : ts ≡ last

name_first : (u : Lexeme Symbol) (ts : Tokens) (n : List ℕ) (last : Tokens) (o : Option (List ℕ)) → name_of u ≡ o
    → option_map (λ x. let r : Taken (List ℕ) = record { value = x; rest = ts } in r) o ≡ Some (record { value = n; rest = last }) → NameFirst u ts n last
name_first u ts n last None e h = absurd cc
name_first u ts n last (Some m) e h =
    let same = taken_same (record { value = m; rest = ts }) (record { value = n; rest = last }) h in
    record { name = e ∙ ap (λ (r : Taken (List ℕ)). Some r.value) same; behind = ap (λ (r : Taken (List ℕ)). r.rest) same }

some_at : (t : Lexeme Symbol) (us : Tokens) (n : List ℕ) (last : Tokens) → is_plus t ≡ true → a_name us ≡ Some (record { value = n; rest = last })
    → more_names (t ∷ us) ≡ option_map (with_name n) (more_names last)
some_at t [] n last p h = absurd cc
some_at t (u ∷ ts) n last p h =
    let e = name_first u ts n last (name_of u) refl h in
    let name = e.name in
    let b = e.behind in
    rw (p, name) (ap (λ (xs : Tokens). option_map (with_name n) (more_names xs)) b)

pub more_some : (ts mid : Tokens) (n : List ℕ) (last : Tokens) → a_mark sign.Plus ts ≡ Some (record { value = tt; rest = mid })
    → a_name mid ≡ Some (record { value = n; rest = last }) → more_names ts ≡ option_map (with_name n) (more_names last)
more_some [] mid n last p h = absurd cc
more_some (t ∷ us) mid n last p h =
    let f = plus_first t us mid p in
    some_at t us n last f.plus (ap a_name f.behind ∙ h)

-- ---- the loop

-- names before others
abbrev pub behind : List (List ℕ) → Taken (List (List ℕ)) → Taken (List (List ℕ))
behind names t = record { value = names ++ t.value; rest = t.rest }

pub behind_with : (names : List (List ℕ)) (n : List ℕ) (o : Option (Taken (List (List ℕ)))) → option_map (behind names) (option_map (with_name n) o) ≡ option_map (behind (names ++ n ∷ [])) o
behind_with names n None = refl
behind_with names n (Some t) =
    ap (λ (xs : List (List ℕ)). Some (record { value = xs; rest = t.rest })) (sym (append_assoc names (n ∷ []) t.value))
