-- The first denial of what is left: of tasks, of routines and of places from a number on.
use Rattle.std.proofs.Common.{◌≡◌, ℕ, zero, suc, ◌+◌, ◌<◌, ◌≤◌, Bool, true, false, ◌&&◌, cond, List, [], ◌∷◌, ◌++◌, map, drop, length, refl, sym, ◌∙◌, ap, subst, arith, inl, inr, ◌⊎◌}
use Rattle.std.specs.Prelude.{IfSome, Option, Some, None}
use Rattle.std.specs.List.{filter, flat_map}
use Rattle.std.specs.Option.{option_or}
use Rattle.std.proofs.lemmas.Bool.{cases_lt}
use Rattle.osek_base.specs.declared.ids.Owner.{Owner}
use Rattle.osek_base.specs.Lists.{below}
use Rattle.osek_base.specs.System.{System}
use Rattle.osek_base.specs.Separable.{Denial, task_denial, broken_places, first_of_list}
use Rattle.partition_check.specs.declared.denial.Rule.{Rule}
use Rattle.partition_check.specs.Partition.{Told, told, rule_number, forbids, first_breaking, first_broken}

pub first_append : (xs ys : List Denial) → first_of_list (xs ++ ys) ≡ option_or (first_of_list xs) (first_of_list ys)
first_append [] ys = refl
first_append (x ∷ xs) ys = refl

-- ---- numbers below a limit, from one on

length_below : (n : ℕ) → length (below n) ≡ n
length_below zero = refl
length_below (suc n) = length_more (below n) n ∙ ap suc (length_below n)
  where
    length_more : (xs : List ℕ) (x : ℕ) → length (xs ++ x ∷ []) ≡ suc (length xs)
    length_more [] x = refl
    length_more (y ∷ xs) x = ap suc (length_more xs x)

drop_last : (xs : List ℕ) (x i : ℕ) → i ≤ length xs → drop i (xs ++ x ∷ []) ≡ drop i xs ++ x ∷ []
drop_last xs x zero h = refl
drop_last [] x (suc i) h = absurd (omega (arith, h))
drop_last (y ∷ xs) x (suc i) h = drop_last xs x i (omega (arith, h))

drop_all : {X : Type 0} (xs : List X) (i : ℕ) → length xs ≤ i → drop i xs ≡ []
drop_all [] zero h = refl
drop_all [] (suc i) h = refl
drop_all (x ∷ xs) zero h = absurd (omega (arith, h))
drop_all (x ∷ xs) (suc i) h = drop_all xs i (omega (arith, h))

pub below_end : (n i : ℕ) → n ≤ i → drop i (below n) ≡ []
below_end n i h = drop_all (below n) i (omega (arith, h, length_below n))

pub below_step : (n i : ℕ) → i < n → drop i (below n) ≡ i ∷ drop (i + 1) (below n)
below_step zero i h = absurd (omega (arith, h))
below_step (suc n) i h = go (cases_lt i n) (below_step n i)
  where
    go : (i < n) ⊎ (n ≤ i) → (i < n → drop i (below n) ≡ i ∷ drop (i + 1) (below n)) → drop i (below n ++ n ∷ []) ≡ i ∷ drop (i + 1) (below n ++ n ∷ [])
    go (inl less) earlier =
        drop_last (below n) n i (omega (arith, less, length_below n))
        ∙ ap (λ xs. xs ++ n ∷ []) (earlier less)
        ∙ ap (λ xs. i ∷ xs) (sym (drop_last (below n) n (i + 1) (omega (arith, less, length_below n))))
    go (inr last) earlier =
        let same : i ≡ n = omega (arith, last, h) in
        drop_last (below n) n i (omega (arith, h, length_below n))
        ∙ ap (λ xs. xs ++ n ∷ []) (below_end n i last)
        ∙ ap (λ m. m ∷ []) (sym same)
        ∙ ap (λ xs. i ∷ xs) (sym (drop_all (below n ++ n ∷ []) (i + 1) (omega (arith, last, length_below (suc n)))))

-- ---- rules on tasks

module _ (rule : ℕ) (breaks among : ℕ → Bool) where
  step_at : (i : ℕ) (xs : List ℕ) → first_breaking rule breaks (filter among (i ∷ xs))
      ≡ cond (among i && breaks i) (Some (task_denial rule i)) (first_breaking rule breaks (filter among xs))
  step_at i xs = go (among i) (breaks i) refl
    where
      go : (a b : Bool) → breaks i ≡ b
          → first_of_list (map (task_denial rule) (filter breaks (cond a (i ∷ filter among xs) (filter among xs))))
          ≡ cond (a && b) (Some (task_denial rule i)) (first_breaking rule breaks (filter among xs))
      go false b h = refl
      go true true h = rw h refl
      go true false h = rw h refl

  pub task_step : (n i : ℕ) → i < n → first_breaking rule breaks (filter among (drop i (below n)))
      ≡ cond (among i && breaks i) (Some (task_denial rule i)) (first_breaking rule breaks (filter among (drop (i + 1) (below n))))
  task_step n i h = ap (λ xs. first_breaking rule breaks (filter among xs)) (below_step n i h) ∙ step_at i (drop (i + 1) (below n))

  -- the task of that number breaks the rule, or doesn't
  pub task_here : (n i t : ℕ) → t ≡ i → i < n → (among t && breaks t) ≡ true
      → first_breaking rule breaks (filter among (drop i (below n))) ≡ Some (task_denial rule t)
  task_here n i t same h broken =
      subst (λ k. (among k && breaks k) ≡ true → first_breaking rule breaks (filter among (drop i (below n))) ≡ Some (task_denial rule k)) (sym same)
      (λ b. task_step n i h ∙ ap (λ c. cond c (Some (task_denial rule i)) (first_breaking rule breaks (filter among (drop (i + 1) (below n))))) b) broken

  pub task_later : (n i t : ℕ) → t ≡ i → i < n → (among t && breaks t) ≡ false
      → first_breaking rule breaks (filter among (drop i (below n))) ≡ first_breaking rule breaks (filter among (drop (i + 1) (below n)))
  task_later n i t same h whole =
      subst (λ k. (among k && breaks k) ≡ false → first_breaking rule breaks (filter among (drop i (below n))) ≡ first_breaking rule breaks (filter among (drop (i + 1) (below n)))) (sym same)
      (λ b. task_step n i h ∙ ap (λ c. cond c (Some (task_denial rule i)) (first_breaking rule breaks (filter among (drop (i + 1) (below n))))) b) whole

  pub task_end : (n i : ℕ) → n ≤ i → first_breaking rule breaks (filter among (drop i (below n))) ≡ None
  task_end n i h = ap (λ xs. first_breaking rule breaks (filter among xs)) (below_end n i h)

-- ---- rules on programs

module _ (S : System) (p : ℕ) (r : Rule) where
  abbrev pub first_of_owner : Owner → Option Denial
  first_of_owner owner = first_of_list (broken_places S (rule_number r) (forbids S p r) owner)

  pub owner_step : (owner : Owner) (owners : List Owner) → first_broken S p r (owner ∷ owners)
      ≡ option_or (first_of_owner owner) (first_broken S p r owners)
  owner_step owner owners =
      first_append (broken_places S (rule_number r) (forbids S p r) owner) (flat_map (broken_places S (rule_number r) (forbids S p r)) owners)

  module _ (made : ℕ → Owner) (among : ℕ → Bool) where
    among_at : (i : ℕ) (xs : List ℕ) → first_broken S p r (map made (filter among (i ∷ xs)))
        ≡ cond (among i) (option_or (first_of_owner (made i)) (first_broken S p r (map made (filter among xs)))) (first_broken S p r (map made (filter among xs)))
    among_at i xs = go (among i)
      where
        go : (a : Bool) → first_broken S p r (map made (cond a (i ∷ filter among xs) (filter among xs)))
            ≡ cond a (option_or (first_of_owner (made i)) (first_broken S p r (map made (filter among xs)))) (first_broken S p r (map made (filter among xs)))
        go true = owner_step (made i) (map made (filter among xs))
        go false = refl

    pub program_step : (n i : ℕ) → i < n → first_broken S p r (map made (filter among (drop i (below n))))
        ≡ cond (among i) (option_or (first_of_owner (made i)) (first_broken S p r (map made (filter among (drop (i + 1) (below n))))))
        (first_broken S p r (map made (filter among (drop (i + 1) (below n)))))
    program_step n i h =
        ap (λ xs. first_broken S p r (map made (filter among xs))) (below_step n i h) ∙ among_at i (drop (i + 1) (below n))

    pub program_end : (n i : ℕ) → n ≤ i → first_broken S p r (map made (filter among (drop i (below n)))) ≡ None
    program_end n i h = ap (λ xs. first_broken S p r (map made (filter among xs))) (below_end n i h)

  pub routine_step : (n i : ℕ) → i < n → first_broken S p r (map Owner.Routine (drop i (below n)))
      ≡ option_or (first_of_owner (Owner.Routine i)) (first_broken S p r (map Owner.Routine (drop (i + 1) (below n))))
  routine_step n i h =
      ap (λ xs. first_broken S p r (map Owner.Routine xs)) (below_step n i h)
      ∙ owner_step (Owner.Routine i) (map Owner.Routine (drop (i + 1) (below n)))

  pub routine_end : (n i : ℕ) → n ≤ i → first_broken S p r (map Owner.Routine (drop i (below n))) ≡ None
  routine_end n i h = ap (λ xs. first_broken S p r (map Owner.Routine xs)) (below_end n i h)

-- ---- answers of the code

pub told_or : (a b : Option Told) → told (option_or a b) ≡ option_or (told a) (told b)
told_or None b = refl
told_or (Some a) b = refl

-- one answer or else another, of which each is known
pub joined : (r a b : Option Told) (A B : Option Denial) → r ≡ option_or a b → told a ≡ A → told b ≡ B → told r ≡ option_or A B
joined r a b A B e ea eb = ap told e ∙ told_or a b ∙ ap (λ x. option_or x (told b)) ea ∙ ap (option_or A) eb

pub where_subject : (m : Bool) (a b : Option Denial) → option_or (cond m a None) b ≡ cond m (option_or a b) b
where_subject true a b = refl
where_subject false a b = refl

or_assoc : (a b c : Option Denial) → option_or a (option_or b c) ≡ option_or (option_or a b) c
or_assoc None b c = refl
or_assoc (Some a) b c = refl

-- the first of lists one behind the other
first_two : (a : Option Denial) (xs ys : List Denial) → option_or a (first_of_list (xs ++ ys)) ≡ option_or (option_or a (first_of_list xs)) (first_of_list ys)
first_two a xs ys = ap (option_or a) (first_append xs ys) ∙ or_assoc a (first_of_list xs) (first_of_list ys)

-- the first of two lists, where that of the one before is known
first_behind : (xs ys : List Denial) (a : Option Denial) → first_of_list xs ≡ a → first_of_list (xs ++ ys) ≡ option_or a (first_of_list ys)
first_behind xs ys a e = first_append xs ys ∙ ap (λ x. option_or x (first_of_list ys)) e

pub first_of_eight : (a b c d e f g h : List Denial) → first_of_list (a ++ b ++ c ++ d ++ e ++ (f ++ g) ++ h)
    ≡ option_or (option_or (option_or (option_or (option_or (option_or (option_or (first_of_list a) (first_of_list b)) (first_of_list c)) (first_of_list d)) (first_of_list e)) (first_of_list f)) (first_of_list g)) (first_of_list h)
first_of_eight a b c d e f g h =
    first_behind (a ++ b ++ c ++ d ++ e ++ (f ++ g)) h _
    (first_behind (a ++ b ++ c ++ d ++ e) (f ++ g) _
    (first_behind (a ++ b ++ c ++ d) e _ (first_behind (a ++ b ++ c) d _ (first_behind (a ++ b) c _ (first_append a b))))
    ∙ first_two _ f g)

-- what holds of both holds of the one that is answered
pub of_either : (P : Told → Type 0) (r a b : Option Told) → r ≡ option_or a b → IfSome a P → IfSome b P → IfSome r P
of_either P r a b e pa pb = subst (λ o. IfSome o P) (sym e) (go a pa)
  where
    go : (o : Option Told) → IfSome o P → IfSome (option_or o b) P
    go None h = pb
    go (Some d) h = h
