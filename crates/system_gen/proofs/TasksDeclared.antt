-- Tasks by their numbers: each is one of those declared, they stand by falling priority, and a task stands at the number of its name.
use Rattle.std.proofs.Common.{◌≡◌, ℕ, zero, suc, ◌+◌, ◌<◌, ◌≤◌, Bool, true, false, cond, not, ◌&&◌, eqb, leb, List, [], ◌∷◌, ◌++◌, length, map, get_or, Option, Some, refl, sym, ap, subst, ◌∙◌, arith, inl, inr}
use Rattle.std.specs.Prelude.{slice_get}
use Rattle.std.specs.List.{filter, list_all, AllByRecursion}
use Rattle.std.specs.Option.{option_map_or}
use Rattle.std.specs.Str.{bytes_eq}
use Rattle.std.proofs.lemmas.Bool.{and_parts, and_from, or_cases, or_left, or_right, cases_Bool, not_from_false, false≢true, leb-true, le-leb, eqb-true, eq-eqb}
use Rattle.std.proofs.lemmas.List.{length-map, map-append, get_or-map}
use Rattle.osek_base.specs.declared.limits.TheConstants.{MAX_TASK_PRIORITY}
use Rattle.osek_base.specs.Lists.{below, is_in}
use Rattle.osek_base.specs.Classes.{are_distinct}
use Rattle.osek_base.specs.Names.{name_at, is_named, is_proper_name, are_distinct_names}
use Rattle.osek_base.specs.Numbering.{places_of, order_below, task_order}
use Rattle.osek_base.specs.Proper.{are_falling, are_proper_names}
use Rattle.osek_base.specs.System.{Task, no_task}
use Rattle.oil_reader.specs.Checked.{is_checked_task, are_checked_tasks}
use Rattle.oil_reader.specs.Configuration.{TaskRecord}
use Rattle.task_asm.specs.Programs.{Program}
use Rattle.system_gen.specs.ObjectNames.{task_name, order_of}
use Rattle.system_gen.specs.DeclaredNames.{number}
use Rattle.system_gen.specs.Generated.{Known, resolved_task, task_declared}
use Rattle.system_gen.proofs.Places.{order_each, order_places}
use Rattle.system_gen.proofs.OrderLemmas.{order_distinct, order_has}
use Rattle.system_gen.proofs.NumberedNames.{equal_names, names_equal, number_low, name_stands}
use Rattle.system_gen.proofs.NamePlaces.{apart}

abbrev pub priorities : List TaskRecord → List ℕ
priorities tasks = map (λ t. t.priority) tasks

abbrev pub names : List TaskRecord → List (List ℕ)
names tasks = map (λ t. t.name) tasks

-- the names of tasks by number
abbrev pub numbered : List TaskRecord → List (List ℕ)
numbered tasks = map (task_name tasks) (order_of tasks)

-- the tasks by number
abbrev pub tasks_of : Known → List Program → List TaskRecord → List Task
tasks_of k programs tasks = map (task_declared k programs tasks) (order_of tasks)

-- ---- what is at a place

place_name : (tasks : List TaskRecord) (i : ℕ) → task_name tasks i ≡ name_at (names tasks) i
place_name [] i = refl
place_name (t ∷ tasks) zero = refl
place_name (t ∷ tasks) (suc i) = place_name tasks i

place_priority : (k : Known) (programs : List Program) (tasks : List TaskRecord) (i : ℕ) → (task_declared k programs tasks i).priority ≡ get_or (priorities tasks) i 0
place_priority k programs [] i = refl
place_priority k programs (t ∷ tasks) zero = refl
place_priority k programs (t ∷ tasks) (suc i) = place_priority k programs tasks i

-- the record at a place of the list
pub record At (tasks : List TaskRecord) (i : ℕ) : Type 0 where
  pub here : TaskRecord
  pub is : slice_get tasks i ≡ Some here

at_place : (tasks : List TaskRecord) (i : ℕ) → i < length tasks → At tasks i
at_place [] i lt = absurd (omega arith)
at_place (t ∷ tasks) zero lt = record { here = t; is = refl }
at_place (t ∷ tasks) (suc i) lt = let more = at_place tasks i (omega arith) in record { here = more.here; is = more.is }

same_some : (a b : TaskRecord) → Some a ≡ Some b → a ≡ b
same_some a b e = cc

-- what holds of all records holds of the one at a place
all_there : (P : TaskRecord → Type 0) (tasks : List TaskRecord) (i : ℕ) (t : TaskRecord) → AllByRecursion P tasks → slice_get tasks i ≡ Some t → P t
all_there P [] i t all is = absurd cc
all_there P (first ∷ tasks) zero t all is = subst P (same_some first t is) all.0
all_there P (first ∷ tasks) (suc i) t all is = all_there P tasks i t all.1 is

-- ---- lists over places

all_over : {X : Type 0} (test : X → Bool) (g : ℕ → X) (n : ℕ) (xs : List ℕ) → ((i : ℕ) → i < n → test (g i) ≡ true) → AllByRecursion (λ i. i < n) xs → list_all test (map g xs) ≡ true
all_over test g n [] h each = refl
all_over test g n (x ∷ xs) h each = and_from (test (g x)) (list_all test (map g xs)) (h x each.0) (all_over test g n xs h each.1)

all_names : (test : List ℕ → Bool) (some : List (List ℕ)) (i : ℕ) → i < length some → list_all test some ≡ true → test (name_at some i) ≡ true
all_names test [] i lt h = absurd (omega arith)
all_names test (name ∷ some) zero lt h = (and_parts (test name) (list_all test some) h).0
all_names test (name ∷ some) (suc i) lt h = all_names test some i (omega arith) (and_parts (test name) (list_all test some) h).1

named_over : (g : ℕ → List ℕ) (x : ℕ) (xs : List ℕ) → is_in x xs ≡ true → is_named (g x) (map g xs) ≡ true
named_over g x [] h = absurd cc
named_over g x (y ∷ ys) h =
    elim (or_cases (eqb y x) (is_in x ys) h) [
      | inl here ↦ or_left (bytes_eq (g x) (g y)) (is_named (g x) (map g ys)) (names_equal (g x) (g y) (ap g (sym (eqb-true y x here))))
      | inr there ↦ or_right (bytes_eq (g x) (g y)) (is_named (g x) (map g ys)) (named_over g x ys there)
    ]

-- where g tells places apart, a name is that of a place which is in the list
was_over : (g : ℕ → List ℕ) (n x : ℕ) (xs : List ℕ) → ((i j : ℕ) → i < n → j < n → g i ≡ g j → i ≡ j) → x < n → AllByRecursion (λ i. i < n) xs
    → is_named (g x) (map g xs) ≡ true → is_in x xs ≡ true
was_over g n x [] tells low each h = absurd cc
was_over g n x (y ∷ ys) tells low each h =
    elim (or_cases (bytes_eq (g x) (g y)) (is_named (g x) (map g ys)) h) [
      | inl here ↦ or_left (eqb y x) (is_in x ys) (eq-eqb y x (sym (tells x y low each.0 (equal_names (g x) (g y) here))))
      | inr there ↦ or_right (eqb y x) (is_in x ys) (was_over g n x ys tells low each.1 there)
    ]

not_named : (name : List ℕ) (some : List (List ℕ)) → (is_named name some ≡ true → ⊥) → not (is_named name some) ≡ true
not_named name some h = elim (cases_Bool (is_named name some)) [ inl t ↦ absurd (h t) | inr f ↦ not_from_false (is_named name some) f ]

distinct_over : (g : ℕ → List ℕ) (n : ℕ) (xs : List ℕ) → ((i j : ℕ) → i < n → j < n → g i ≡ g j → i ≡ j) → AllByRecursion (λ i. i < n) xs
    → are_distinct xs ≡ true → are_distinct_names (map g xs) ≡ true
distinct_over g n [] tells each h = refl
distinct_over g n (x ∷ xs) tells each h =
    let parts = and_parts (not (is_in x xs)) (are_distinct xs) h in
    and_from (not (is_named (g x) (map g xs))) (are_distinct_names (map g xs))
    (not_named (g x) (map g xs) (λ t. false≢true (ap not (sym (was_over g n x xs tells each.0 each.1 t)) ∙ parts.0)))
    (distinct_over g n xs tells each.1 parts.1)

-- ---- falling priorities

falling_weaker : (a b : ℕ) (tasks : List Task) → a ≤ b → are_falling a tasks ≡ true → are_falling b tasks ≡ true
falling_weaker a b [] le h = refl
falling_weaker a b (t ∷ tasks) le h =
    let parts = and_parts (leb t.priority a) (are_falling t.priority tasks) h in
    and_from (leb t.priority b) (are_falling t.priority tasks) (le-leb t.priority b (omega (arith, leb-true t.priority a parts.0))) parts.1

falling_block : (g : ℕ → Task) (p limit : ℕ) (xs : List ℕ) (rest : List Task) → AllByRecursion (λ i. (g i).priority ≡ p) xs → p ≤ limit → are_falling p rest ≡ true
    → are_falling limit (map g xs ++ rest) ≡ true
falling_block g p limit [] rest each le h = falling_weaker p limit rest le h
falling_block g p limit (x ∷ xs) rest each le h =
    and_from (leb (g x).priority limit) (are_falling (g x).priority (map g xs ++ rest))
    (le-leb (g x).priority limit (omega (arith, each.0)))
    (subst (λ q. are_falling q (map g xs ++ rest) ≡ true) (sym each.0) (falling_block g p p xs rest each.1 (omega arith) h))

kept_each : (P : ℕ → Type 0) (x : ℕ) (xs : List ℕ) (b : Bool) → (b ≡ true → P x) → AllByRecursion P xs → AllByRecursion P (cond b (x ∷ xs) xs)
kept_each P x xs true h each = (h refl, each)
kept_each P x xs false h each = each

each_of : (g : ℕ → Task) (ps : List ℕ) (p : ℕ) (xs : List ℕ) → ((i : ℕ) → (g i).priority ≡ get_or ps i 0) → AllByRecursion (λ i. (g i).priority ≡ p) (filter (λ i. eqb (get_or ps i 0) p) xs)
each_of g ps p [] is = tt
each_of g ps p (x ∷ xs) is =
    kept_each (λ i. (g i).priority ≡ p) x (filter (λ i. eqb (get_or ps i 0) p) xs) (eqb (get_or ps x 0) p)
    (λ t. is x ∙ eqb-true (get_or ps x 0) p t) (each_of g ps p xs is)

falling_below : (g : ℕ → Task) (ps : List ℕ) (p limit : ℕ) → ((i : ℕ) → (g i).priority ≡ get_or ps i 0) → p ≤ limit + 1 → are_falling limit (map g (order_below ps p)) ≡ true
falling_below g ps zero limit is le = refl
falling_below g ps (suc p) limit is le =
    rw (map-append g (places_of ps p) (order_below ps p))
    (falling_block g p limit (places_of ps p) (map g (order_below ps p)) (each_of g ps p (below (length ps)) is) (omega arith) (falling_below g ps p p is (omega arith)))

falling_order : (g : ℕ → Task) (ps : List ℕ) → ((i : ℕ) → (g i).priority ≡ get_or ps i 0) → are_falling MAX_TASK_PRIORITY (map g (task_order ps)) ≡ true
unfolding task_order
falling_order g ps is = falling_below g ps (MAX_TASK_PRIORITY + 1) MAX_TASK_PRIORITY is (omega arith)

-- ---- checked tasks

second : (a b c d e f g h i j : Bool) → (a && b && c && d && e && f && g && h && i && j) ≡ true → b ≡ true
second a true c d e f g h i j all = refl
second true false c d e f g h i j all = all
second false false c d e f g h i j all = all

-- a priority is within the limit, and so is what stands for one past the end
low_priority : (tasks : List TaskRecord) (i : ℕ) → list_all is_checked_task tasks ≡ true → get_or (priorities tasks) i 0 ≤ MAX_TASK_PRIORITY
low_priority [] i h = omega arith
low_priority (t ∷ tasks) zero h =
    leb-true t.priority MAX_TASK_PRIORITY (second _ _ _ _ _ _ _ _ _ _ (and_parts (is_checked_task t) (list_all is_checked_task tasks) h).0)
low_priority (t ∷ tasks) (suc i) h = low_priority tasks i (and_parts (is_checked_task t) (list_all is_checked_task tasks) h).1

module _ (tasks : List TaskRecord) where
  -- each place in the order is one of the list
  order_low : AllByRecursion (λ i. i < length tasks) (order_of tasks)
  order_low =
      subst (λ n. AllByRecursion (λ i. i < n) (order_of tasks)) (length-map tasks (λ t. t.priority)) (order_each (priorities tasks))

  module _ (checked : are_checked_tasks tasks ≡ true) where
    each_checked : list_all is_checked_task tasks ≡ true
    each_checked = (and_parts (list_all is_checked_task tasks) (are_proper_names (names tasks)) checked).0

    names_checked : are_proper_names (names tasks) ≡ true
    names_checked = (and_parts (list_all is_checked_task tasks) (are_proper_names (names tasks)) checked).1

    distinct : are_distinct_names (names tasks) ≡ true
    distinct = (and_parts (list_all is_proper_name (names tasks)) (are_distinct_names (names tasks)) names_checked).1

    tells : (i j : ℕ) → i < length tasks → j < length tasks → task_name tasks i ≡ task_name tasks j → i ≡ j
    tells i j li lj e =
        let n = length-map tasks (λ t. t.name) in
        apart (names tasks) i j (omega arith) (omega arith) distinct (sym (place_name tasks i) ∙ e ∙ place_name tasks j)

    -- the names of tasks by number are proper
    pub numbered_proper : are_proper_names (numbered tasks) ≡ true
    numbered_proper =
        let all = (and_parts (list_all is_proper_name (names tasks)) (are_distinct_names (names tasks)) names_checked).0 in
        and_from (list_all is_proper_name (numbered tasks)) (are_distinct_names (numbered tasks))
        (all_over is_proper_name (task_name tasks) (length tasks) (order_of tasks)
        (λ i lt. rw (place_name tasks i) (all_names is_proper_name (names tasks) i (omega (arith, length-map tasks (λ t. t.name))) all)) order_low)
        (distinct_over (task_name tasks) (length tasks) (order_of tasks) tells order_low (order_distinct (priorities tasks)))

    -- each declared name has a number
    pub numbered_has : (i : ℕ) → i < length tasks → is_named (task_name tasks i) (numbered tasks) ≡ true
    numbered_has i lt =
        named_over (task_name tasks) i (order_of tasks) (order_has (priorities tasks) i (omega (arith, length-map tasks (λ t. t.priority))) (low_priority tasks i each_checked))

    -- the task of that name has the number of its name
    pub number_place : (i : ℕ) → i < length tasks → get_or (order_of tasks) (number (numbered tasks) (task_name tasks i)) 0 ≡ i
    number_place i lt =
        let there = numbered_has i lt in
        let n = number (numbered tasks) (task_name tasks i) in
        let low : n < length (numbered tasks) = number_low (numbered tasks) (task_name tasks i) there in
        let lm = length-map (order_of tasks) (task_name tasks) in
        let inside : n < length (order_of tasks) = omega arith in
        let place_low : get_or (order_of tasks) n 0 < length tasks = omega (arith, order_places (priorities tasks) n inside, length-map tasks (λ t. t.priority)) in
        tells (get_or (order_of tasks) n 0) i place_low lt
        (sym (get_or-map (task_name tasks) (order_of tasks) n 0 [] inside) ∙ name_stands (numbered tasks) (task_name tasks i) there)

  module _ (k : Known) (programs : List Program) where
    pub tasks_fall : are_falling MAX_TASK_PRIORITY (tasks_of k programs tasks) ≡ true
    tasks_fall = falling_order (task_declared k programs tasks) (priorities tasks) (place_priority k programs tasks)

    -- what holds of the task that each record gives holds of each task
    pub each_at : (test : Task → Bool) → ((i : ℕ) (t : TaskRecord) → slice_get tasks i ≡ Some t → test (resolved_task k programs t) ≡ true)
        → list_all test (tasks_of k programs tasks) ≡ true
    each_at test h =
        all_over test (task_declared k programs tasks) (length tasks) (order_of tasks)
        (λ i lt.
        let a = at_place tasks i lt in
        let e : task_declared k programs tasks i ≡ resolved_task k programs a.here = ap (λ (o : Option TaskRecord). option_map_or (resolved_task k programs) o no_task) a.is in
        ap test e ∙ h i a.here a.is)
        order_low

    -- the same, where it is known of each record
    pub each_of_all : (test : Task → Bool) → AllByRecursion (λ t. test (resolved_task k programs t) ≡ true) tasks → list_all test (tasks_of k programs tasks) ≡ true
    each_of_all test h = each_at test (λ i t is. all_there (λ r. test (resolved_task k programs r) ≡ true) tasks i t h is)

    -- the task of the record at a place stands at the number of its name
    pub task_at_number : are_checked_tasks tasks ≡ true → (i : ℕ) (t : TaskRecord) → slice_get tasks i ≡ Some t → i < length tasks
        → get_or (tasks_of k programs tasks) (number (numbered tasks) t.name) no_task ≡ resolved_task k programs t
    task_at_number checked i t is lt =
        let name : task_name tasks i ≡ t.name = ap (λ (o : Option TaskRecord). option_map_or (λ (r : TaskRecord). r.name) o []) is in
        let n = number (numbered tasks) (task_name tasks i) in
        let low : n < length (numbered tasks) = number_low (numbered tasks) (task_name tasks i) (numbered_has checked i lt) in
        let lm = length-map (order_of tasks) (task_name tasks) in
        let inside : n < length (order_of tasks) = omega arith in
        let there : get_or (tasks_of k programs tasks) n no_task ≡ task_declared k programs tasks i =
        get_or-map (task_declared k programs tasks) (order_of tasks) n 0 no_task inside ∙ ap (task_declared k programs tasks) (number_place checked i lt) in
        ap (λ (m : List ℕ). get_or (tasks_of k programs tasks) (number (numbered tasks) m) no_task) (sym name) ∙ there
        ∙ ap (λ (o : Option TaskRecord). option_map_or (resolved_task k programs) o no_task) is
