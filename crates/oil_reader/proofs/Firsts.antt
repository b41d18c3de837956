-- The first fault of a list is the first of all faults that stand.
use Rattle.std.proofs.Common.{◌≡◌, ℕ, ◌+◌, ◌<◌, ◌≤◌, ◌⊎◌, length, take, map, get_or, List, [], ◌∷◌, ◌++◌, Option, Some, None, Result, Ok, Err, IfOk, refl, sym, ap, ◌∙◌, subst, arith, inl, inr}
use Rattle.std.proofs.lemmas.List.{take_more, take_all, map_push}
use Rattle.std.proofs.lemmas.Bool.{cases_lt, lt-ltb, le-ltb, eq-eqb, le-leb, lt-leb, ne_eqb, cases_eq}
use Rattle.osek_base.proofs.FirstFaultLemmas.{no_later_trans, no_later_self}
use Rattle.oil_reader.specs.declared.fault.OilFault.{OilFault}
use Rattle.oil_reader.specs.Order.{place_of, number_of, rank, IsNoLater, IsFirstFault, earlier, earlier_of, first_of_all}
use Rattle.oil_reader.specs.Attributes.{Among, Finds, SomeFault}

-- the earlier of two is one of them, and no later than the other
earlier_is : (f g : OilFault) → ((earlier (Some f) g ≡ f) × IsNoLater f g) ⊎ ((earlier (Some f) g ≡ g) × IsNoLater g f)
earlier_is f g =
    elim (cases_lt (place_of f) (place_of g)) [
      | inl lt ↦ inl (rw (lt-ltb _ _ lt) refl, inl lt)
      | inr le ↦ elim (cases_eq (place_of f) (place_of g)) [
        | inl same ↦ elim (cases_lt (number_of g) (number_of f)) [
          | inl below ↦ inr (rw (le-ltb _ _ le, eq-eqb _ _ same, lt-leb _ _ below) refl, inr (sym same, omega arith))
          | inr above ↦ inl (rw (le-ltb _ _ le, eq-eqb _ _ same, le-leb _ _ above) refl, inr (same, above))
        ]
        | inr other ↦ inr (rw (le-ltb _ _ le, ne_eqb _ _ other) refl, inl (omega arith))
      ]
    ]

pub Finds_map : (P Q : OilFault → Type 0) → ((e : OilFault) → P e → Q e) → ((e : OilFault) → Q e → P e) → (o : Option OilFault) → Finds P o → Finds Q o
Finds_map P Q to from None h = λ g q. h g (from g q)
Finds_map P Q to from (Some e) h = record { stands = to e h.stands; first = λ g q. h.first g (from g q) }

-- one more fault
Finds_more : (P : OilFault → Type 0) (o : Option OilFault) (g : OilFault) → Finds P o → Finds (λ e. P e ⊎ (g ≡ e)) (Some (earlier o g))
Finds_more P None g h = record {
  stands = inr refl;
  first = λ e q. elim q [ inl a ↦ absurd (h e a) | inr b ↦ subst (IsNoLater g) b (no_later_self rank g) ];
}
Finds_more P (Some f) g h =
    elim (earlier_is f g) [
      | inl a ↦ subst (λ (x : OilFault). IsFirstFault (λ e. P e ⊎ (g ≡ e)) x) (sym a.0) (record {
        stands = inl h.stands;
        first = λ e q. elim q [ inl x ↦ h.first e x | inr y ↦ subst (IsNoLater f) y a.1 ];
      })
      | inr b ↦ subst (λ (x : OilFault). IsFirstFault (λ e. P e ⊎ (g ≡ e)) x) (sym b.0) (record {
        stands = inr refl;
        first = λ e q. elim q [ inl x ↦ no_later_trans rank g f e b.1 (h.first e x) | inr y ↦ subst (IsNoLater g) y (no_later_self rank g) ];
      })
    ]

-- the first of a list, and of what was found before
pub Finds_all : (P : OilFault → Type 0) (o : Option OilFault) (gs : List OilFault) → Finds P o → Finds (λ e. P e ⊎ Among gs e) (first_of_all o gs)
Finds_all P o [] h = Finds_map P (λ e. P e ⊎ ⊥) (λ e p. inl p) (λ e q. elim q [ inl p ↦ p | inr x ↦ absurd x ]) o h
Finds_all P o (g ∷ gs) h =
    Finds_map (λ e. (P e ⊎ (g ≡ e)) ⊎ Among gs e) (λ e. P e ⊎ ((g ≡ e) ⊎ Among gs e))
    (λ e q. elim q [ inl a ↦ elim a [ inl p ↦ inl p | inr x ↦ inr (inl x) ] | inr b ↦ inr (inr b) ])
    (λ e q. elim q [ inl p ↦ inl (inl p) | inr b ↦ elim b [ inl x ↦ inl (inr x) | inr y ↦ inr y ] ])
    (first_of_all (Some (earlier o g)) gs)
    (Finds_all (λ e. P e ⊎ (g ≡ e)) (Some (earlier o g)) gs (Finds_more P o g h))

-- the first of a list that has just the faults of P
pub Finds_listed : (P : OilFault → Type 0) (gs : List OilFault) → ((e : OilFault) → Among gs e → P e) → ((e : OilFault) → P e → Among gs e) → Finds P (first_of_all None gs)
Finds_listed P gs to from =
    Finds_map (λ e. ⊥ ⊎ Among gs e) P (λ e q. elim q [ inl x ↦ absurd x | inr a ↦ to e a ]) (λ e p. inr (from e p)) (first_of_all None gs)
    (Finds_all (λ e. ⊥) None gs (λ g x. x))

-- ---- lists

pub among_left : {X : Type 0} (xs ys : List X) (x : X) → Among xs x → Among (xs ++ ys) x
among_left [] ys x h = absurd h
among_left (y ∷ xs) ys x (inl e) = inl e
among_left (y ∷ xs) ys x (inr h) = inr (among_left xs ys x h)

pub among_right : {X : Type 0} (xs ys : List X) (x : X) → Among ys x → Among (xs ++ ys) x
among_right [] ys x h = h
among_right (y ∷ xs) ys x h = inr (among_right xs ys x h)

pub among_either : {X : Type 0} (xs ys : List X) (x : X) → Among (xs ++ ys) x → Among xs x ⊎ Among ys x
among_either [] ys x h = inr h
among_either (y ∷ xs) ys x (inl e) = inl (inl e)
among_either (y ∷ xs) ys x (inr h) = elim (among_either xs ys x h) [ inl a ↦ inl (inr a) | inr b ↦ inr b ]

-- ---- sets of faults together

pub Finds_both : (P Q : OilFault → Type 0) (a b : Option OilFault) → Finds P a → Finds Q b → Finds (λ e. P e ⊎ Q e) (earlier_of a b)
Finds_both P Q a None p q = Finds_map P (λ e. P e ⊎ Q e) (λ e x. inl x) (λ e x. elim x [ inl y ↦ y | inr y ↦ absurd (q e y) ]) a p
Finds_both P Q a (Some g) p q =
    let more = Finds_more P a g p in
    record {
      stands = elim more.stands [ inl x ↦ inl x | inr y ↦ inr (subst Q y q.stands) ];
      first = λ e x. elim x [ inl y ↦ more.first e (inl y) | inr y ↦ no_later_trans rank (earlier a g) g e (more.first g (inr refl)) (q.first e y) ];
    }

-- one more thing of a list
pub Finds_some_more : {X : Type 0} (F : X → OilFault → Type 0) (xs : List X) (x : X) (a b : Option OilFault) → Finds (SomeFault F xs) a → Finds (F x) b → Finds (SomeFault F (xs ++ x ∷ [])) (earlier_of a b)
Finds_some_more {X} F xs x a b p q =
    Finds_map (λ e. SomeFault F xs e ⊎ F x e) (SomeFault F (xs ++ x ∷ []))
    (λ e h. elim h [ inl s ↦ (s.0, among_left xs (x ∷ []) s.0 s.1, s.2) | inr f ↦ (x, among_right xs (x ∷ []) x (inl refl), f) ])
    (λ e h. elim (among_either xs (x ∷ []) h.0 h.1) [ inl y ↦ inl (h.0, y, h.2) | inr z ↦ elim z [ inl same ↦ inr (subst (λ (y : X). F y e) (sym same) h.2) | inr none ↦ absurd none ] ])
    (earlier_of a b) (Finds_both (SomeFault F xs) (F x) a b p q)

-- ---- a loop over things, by their views

pub some_at : {X Y : Type 0} (f : X → Y) (F : Y → OilFault → Type 0) (xs : List X) (i : ℕ) (x : X) (a b next : Option OilFault) → i < length xs → x ≡ get_or xs i x → next ≡ earlier_of a b → Finds (SomeFault F (map f (take i xs))) a → Finds (F (f x)) b → Finds (SomeFault F (map f (take (i + 1) xs))) next
some_at {X} {Y} f F xs i x a b next inside is e so_far one =
    let taken : map f (take (i + 1) xs) ≡ map f (take i xs) ++ f x ∷ [] = ap (map f) (take_more xs i x inside ∙ ap (λ (y : X). take i xs ++ y ∷ []) (sym is)) ∙ map_push f (take i xs) x in
    rw (taken, e) (Finds_some_more F (map f (take i xs)) (f x) a b so_far one)

pub some_done : {X Y : Type 0} (f : X → Y) (F : Y → OilFault → Type 0) (xs : List X) (i : ℕ) (a : Option OilFault) → length xs ≤ i → Finds (SomeFault F (map f (take i xs))) a → Finds (SomeFault F (map f xs)) a
some_done {X} f F xs i a over h = subst (λ (ys : List X). Finds (SomeFault F (map f ys)) a) (take_all i xs over) h

-- what holds of a result where there is one
pub ok_map : {X E : Type 0} (P Q : X → Type 0) → ((x : X) → P x → Q x) → (r : Result X E) → IfOk r P → IfOk r Q
ok_map P Q to (Ok x) h = to x h
ok_map P Q to (Err e) h = tt
