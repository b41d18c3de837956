-- What is known of values is what they are.
use Rattle.std.proofs.Common.{◌≡◌, ℕ, zero, suc, true, List, [], ◌∷◌, refl, sym, ◌∙◌, ap}
use Rattle.std.specs.Prelude.{Option, Some, None, ◌==◌, slice_index, slice_set}
use Rattle.std.proofs.lemmas.Bool.{and_from, and_parts}
use Rattle.law_runs.proofs.Foremost.{equal, self_equal}
use Rattle.law_runs.proofs.Lists.{clash}
use Rattle.law_nodes.specs.Values.{know_no_more, known, knows_no_more, may_be, may_have, of_known}

-- in words of types
abbrev pub IsValue : {X : Type 0} → Option X → X → Type 0
IsValue None v = Unit {0}
IsValue (Some u) v = u ≡ v

abbrev pub AreValues : List (Option ℕ) → List ℕ → Type 0
AreValues [] [] = Unit {0}
AreValues (o ∷ os) (v ∷ vs) = IsValue o v × AreValues os vs
AreValues _ _ = ⊥

value_of : (o : Option ℕ) (v : ℕ) → may_be o v ≡ true → IsValue o v
value_of None v h = tt
value_of (Some u) v h = equal u v h

may_be_of : (o : Option ℕ) (v : ℕ) → IsValue o v → may_be o v ≡ true
may_be_of None v h = refl
may_be_of (Some u) v h = ap (λ w. u == w) (sym h) ∙ self_equal u

pub values_of : (os : List (Option ℕ)) (vs : List ℕ) → may_have os vs ≡ true → AreValues os vs
values_of [] [] h = tt
values_of [] (v ∷ vs) h = clash (sym h)
values_of (o ∷ os) [] h = clash (sym h)
values_of (o ∷ os) (v ∷ vs) h =
    let both = and_parts (may_be o v) (may_have os vs) h in
    (value_of o v both.0, values_of os vs both.1)

pub may_have_of : (os : List (Option ℕ)) (vs : List ℕ) → AreValues os vs → may_have os vs ≡ true
may_have_of [] [] h = refl
may_have_of [] (v ∷ vs) h = absurd h
may_have_of (o ∷ os) [] h = absurd h
may_have_of (o ∷ os) (v ∷ vs) h =
    and_from (may_be o v) (may_have os vs) (may_be_of o v h.0) (may_have_of os vs h.1)

-- ---- registers are read and written

pub value_known : (os : List (Option ℕ)) (vs : List ℕ) → AreValues os vs → (r : ℕ)
    → IsValue (known os r) (slice_index vs r)
value_known [] [] h r = tt
value_known [] (v ∷ vs) h r = absurd h
value_known (o ∷ os) [] h r = absurd h
value_known (o ∷ os) (v ∷ vs) h zero = h.0
value_known (o ∷ os) (v ∷ vs) h (suc r) = value_known os vs h.1 r

pub values_set : (os : List (Option ℕ)) (vs : List ℕ) → AreValues os vs → (r : ℕ)
    → (o : Option ℕ) (v : ℕ) → IsValue o v → AreValues (slice_set os r o) (slice_set vs r v)
values_set [] [] h r p w is = tt
values_set [] (v ∷ vs) h r p w is = absurd h
values_set (o ∷ os) [] h r p w is = absurd h
values_set (o ∷ os) (v ∷ vs) h zero p w is = (is, h.1)
values_set (o ∷ os) (v ∷ vs) h (suc r) p w is = (h.0, values_set os vs h.1 r p w is)

-- what a function of known values comes to
pub of_known_is : {X : Type 0} (f : ℕ → ℕ → X) (o p : Option ℕ) (u v : ℕ) → IsValue o u
    → IsValue p v → IsValue (of_known f o p) (f u v)
of_known_is f None p u v h k = tt
of_known_is f (Some a) None u v h k = tt
of_known_is f (Some a) (Some b) u v h k = ap (λ c. f c b) h ∙ ap (f u) k

-- ---- who knows no more

fewer_value : (o p : Option ℕ) (v : ℕ) → knows_no_more o p ≡ true → IsValue p v → IsValue o v
fewer_value None p v less is = tt
fewer_value (Some u) None v less is = clash (sym less)
fewer_value (Some u) (Some w) v less is = equal u w less ∙ is

pub fewer_values : (os ps : List (Option ℕ)) (vs : List ℕ) → know_no_more os ps ≡ true
    → AreValues ps vs → AreValues os vs
fewer_values [] [] vs less all = all
fewer_values [] (p ∷ ps) vs less all = clash (sym less)
fewer_values (o ∷ os) [] vs less all = clash (sym less)
fewer_values (o ∷ os) (p ∷ ps) [] less all = absurd all
fewer_values (o ∷ os) (p ∷ ps) (v ∷ vs) less all =
    let both = and_parts (knows_no_more o p) (know_no_more os ps) less in
    (fewer_value o p v both.0 all.0, fewer_values os ps vs both.1 all.1)
