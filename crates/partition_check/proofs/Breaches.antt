-- A denial exists exactly where a rule is broken.
use Rattle.std.proofs.Common.{◌≡◌, ℕ, zero, suc, ◌+◌, ◌<◌, ◌≤◌, Bool, true, false, not, ◌||◌, cond, nat_le, List, [], ◌∷◌, ◌++◌, map, length, refl, sym, ◌∙◌, ap, subst, arith, inl, inr, ◌⊎◌}
use Rattle.std.specs.Prelude.{Some, None, slice_get}
use Rattle.std.specs.List.{filter, list_any, flat_map, enumerate_from, Contains, AllByRecursion}
use Rattle.std.proofs.lemmas.Bool.{false≢true, true≢false, cases_lt, leb-false, lt-leb, or_right, not_from_false, not-true}
use Rattle.std.proofs.lemmas.Grind.{flat_map-append}
use Rattle.std.proofs.lemmas.List.Elements.{filter-append}
use Rattle.osek_base.specs.declared.ids.Owner.{Owner}
use Rattle.osek_base.specs.declared.instr.Instr.{Instr}
use Rattle.osek_base.specs.declared.task.Schedule.{Schedule}
use Rattle.osek_base.specs.Lists.{below}
use Rattle.osek_base.specs.System.{System, task, program}
use Rattle.osek_base.specs.Ceiling.{declared_ceiling}
use Rattle.osek_base.specs.Upper.{is_upper_task, is_upper_owner}
use Rattle.osek_base.specs.Separable.{Denial, Separable, IsOwner, NoInstruction, is_full_schedule, lists_upper, lower_tasks, all_owners, task_denial, place_denial, broken_places, first_of_list, first_denial, denials, names_scheduler, is_reserved, names_upper, names_lower, asks_task_id}
use Rattle.partition_check.proofs.ListsUp.{each_below}

-- ---- empty lists

none_empty : (xs : List Denial) → first_of_list xs ≡ None → xs ≡ []
none_empty [] h = refl
none_empty (x ∷ xs) h = absurd (grind arith)

append_empty : {X : Type 0} (xs ys : List X) → xs ++ ys ≡ [] → (xs ≡ []) × (ys ≡ [])
append_empty [] ys h = (refl, h)
append_empty (x ∷ xs) ys h = absurd (let none : suc (length (xs ++ ys)) ≡ 0 = ap length h in omega (arith, none))

-- ---- what holds of each number below a limit

each_front : (P : ℕ → Type 0) (xs : List ℕ) (x : ℕ) → AllByRecursion P (xs ++ x ∷ []) → AllByRecursion P xs × P x
each_front P [] x all = (tt, all.0)
each_front P (y ∷ xs) x all = let rest = each_front P xs x all.1 in ((all.0, rest.0), rest.1)

at_below : (P : ℕ → Type 0) (n : ℕ) → AllByRecursion P (below n) → (t : ℕ) → t < n → P t
at_below P zero all t h = absurd (omega (arith, h))
at_below P (suc n) all t h =
    let parts = each_front P (below n) n all in
    go (cases_lt t n) parts.1 (at_below P n parts.0)
  where
    go : (t < n) ⊎ (n ≤ t) → P n → ((u : ℕ) → u < n → P u) → P t
    go (inl less) here rest = rest t less
    go (inr last) here rest = let same : n ≡ t = omega (arith, last, h) in subst P same here

-- ---- rules on tasks

module _ (f : ℕ → Denial) (b : ℕ → Bool) where
  module _ (a : ℕ → Bool) where
    quiet_tasks : (xs : List ℕ) → AllByRecursion (λ t. a t ≡ true → b t ≡ false) xs → map f (filter b (filter a xs)) ≡ []
    quiet_tasks [] all = refl
    quiet_tasks (x ∷ xs) all = go (a x) refl (b x) refl (quiet_tasks xs all.1)
      where
        go : (u : Bool) → a x ≡ u → (v : Bool) → b x ≡ v → map f (filter b (filter a xs)) ≡ []
            → map f (filter b (cond u (x ∷ filter a xs) (filter a xs))) ≡ []
        go false h v k rest = rest
        go true h false k rest = rw k rest
        go true h true k rest = absurd (false≢true (sym (all.0 h) ∙ k))

    tasks_quiet : (xs : List ℕ) → map f (filter b (filter a xs)) ≡ [] → AllByRecursion (λ t. a t ≡ true → b t ≡ false) xs
    tasks_quiet [] h = tt
    tasks_quiet (x ∷ xs) h = go (a x) refl (b x) refl h (tasks_quiet xs)
      where
        go : (u : Bool) → a x ≡ u → (v : Bool) → b x ≡ v → map f (filter b (cond u (x ∷ filter a xs) (filter a xs))) ≡ []
            → (map f (filter b (filter a xs)) ≡ [] → AllByRecursion (λ t. a t ≡ true → b t ≡ false) xs)
            → AllByRecursion (λ t. a t ≡ true → b t ≡ false) (x ∷ xs)
        go false k v l e rest = ((λ t. absurd (false≢true (sym k ∙ t))), rest e)
        go true k false l e rest = ((λ t. l), rest (subst (λ c. map f (cond c (x ∷ filter b (filter a xs)) (filter b (filter a xs))) ≡ []) l e))
        go true k true l e rest =
            let more : map f (x ∷ filter b (filter a xs)) ≡ [] = subst (λ c. map f (cond c (x ∷ filter b (filter a xs)) (filter b (filter a xs))) ≡ []) l e in
            absurd (let none : suc (length (map f (filter b (filter a xs)))) ≡ 0 = ap length more in omega (arith, none))

-- ---- rules on programs

module _ (f : Owner → List Denial) where
  quiet_owners : (xs : List Owner) → AllByRecursion (λ o. f o ≡ []) xs → flat_map f xs ≡ []
  quiet_owners [] all = refl
  quiet_owners (x ∷ xs) all = ap (λ here. here ++ flat_map f xs) all.0 ∙ quiet_owners xs all.1

  owners_quiet : (xs : List Owner) → flat_map f xs ≡ [] → AllByRecursion (λ o. f o ≡ []) xs
  owners_quiet [] h = tt
  owners_quiet (x ∷ xs) h = let parts = append_empty (f x) (flat_map f xs) h in (parts.0, owners_quiet xs parts.1)

  -- of what is made of the numbers that pass
  made_quiet : (made : ℕ → Owner) (a : ℕ → Bool) (xs : List ℕ) → AllByRecursion (λ o. f o ≡ []) (map made (filter a xs))
      → AllByRecursion (λ t. a t ≡ true → f (made t) ≡ []) xs
  made_quiet made a [] all = tt
  made_quiet made a (x ∷ xs) all = go (a x) refl all (made_quiet made a xs)
    where
      go : (u : Bool) → a x ≡ u → AllByRecursion (λ o. f o ≡ []) (map made (cond u (x ∷ filter a xs) (filter a xs)))
          → (AllByRecursion (λ o. f o ≡ []) (map made (filter a xs)) → AllByRecursion (λ t. a t ≡ true → f (made t) ≡ []) xs)
          → AllByRecursion (λ t. a t ≡ true → f (made t) ≡ []) (x ∷ xs)
      go true h e rest = ((λ t. e.0), rest e.1)
      go false h e rest = ((λ t. absurd (false≢true (sym h ∙ t))), rest e)

  quiet_made : (made : ℕ → Owner) (a : ℕ → Bool) (xs : List ℕ) → AllByRecursion (λ t. a t ≡ true → f (made t) ≡ []) xs
      → AllByRecursion (λ o. f o ≡ []) (map made (filter a xs))
  quiet_made made a [] all = tt
  quiet_made made a (x ∷ xs) all = go (a x) refl (quiet_made made a xs all.1)
    where
      go : (u : Bool) → a x ≡ u → AllByRecursion (λ o. f o ≡ []) (map made (filter a xs))
          → AllByRecursion (λ o. f o ≡ []) (map made (cond u (x ∷ filter a xs) (filter a xs)))
      go true h rest = (all.0 h, rest)
      go false h rest = rest

-- ---- places of one program

abbrev pub IsQuiet : List Instr → (Instr → Bool) → Type 0
IsQuiet xs test = (place : ℕ) (x : Instr) → slice_get xs place ≡ Some x → test x ≡ false

module _ (rule : ℕ) (owner : Owner) (test : Instr → Bool) where
  quiet_places : (n : ℕ) (xs : List Instr) → IsQuiet xs test → flat_map (place_denial rule owner test) (enumerate_from n xs) ≡ []
  quiet_places n [] quiet = refl
  quiet_places n (x ∷ xs) quiet = go (test x) (quiet zero x refl) (quiet_places (n + 1) xs (λ place y h. quiet (suc place) y h))
    where
      rest : List Denial
      rest = flat_map (place_denial rule owner test) (enumerate_from (n + 1) xs)

      go : (b : Bool) → b ≡ false → rest ≡ []
          → (cond b (record { rule = rule; subject = owner; place = Some n } ∷ []) []) ++ rest ≡ []
      go false h e = e
      go true h e = absurd (true≢false h)

  places_quiet : (n : ℕ) (xs : List Instr) → flat_map (place_denial rule owner test) (enumerate_from n xs) ≡ [] → IsQuiet xs test
  places_quiet n [] h zero x e = absurd (grind arith)
  places_quiet n [] h (suc place) x e = absurd (grind arith)
  places_quiet n (y ∷ ys) h zero x e =
      let parts = append_empty (place_denial rule owner test (n, y)) (flat_map (place_denial rule owner test) (enumerate_from (n + 1) ys)) h in
      let same : y ≡ x = grind arith in
      ap test (sym same) ∙ go (test y) parts.0
    where
      go : (b : Bool) → cond {A = List Denial} b (record { rule = rule; subject = owner; place = Some n } ∷ []) [] ≡ [] → b ≡ false
      go false k = refl
      go true k = absurd (let none : suc 0 ≡ 0 = ap length k in omega (arith, none))
  places_quiet n (y ∷ ys) h (suc place) x e =
      let parts = append_empty (place_denial rule owner test (n, y)) (flat_map (place_denial rule owner test) (enumerate_from (n + 1) ys)) h in
      places_quiet (n + 1) ys parts.1 place x e

-- ---- the rules one by one

full_is : (x : Schedule) → not (is_full_schedule x) ≡ false → x ≡ Schedule.Full
full_is Schedule.Full h = refl
full_is Schedule.Non h = absurd (true≢false h)

contains_passes : (q : ℕ → Bool) (ns : List ℕ) (r : ℕ) → Contains ns r → q r ≡ true → list_any q ns ≡ true
contains_passes q [] r (k, h, e) passes = absurd (omega (arith, h))
contains_passes q (n ∷ ns) r (zero, h, e) passes =
    let same : n ≡ r = grind (arith, e) in
    ap (λ b. b || list_any q ns) (ap q same ∙ passes)
contains_passes q (n ∷ ns) r (suc k, h, e) passes = or_right (q n) (list_any q ns) (contains_passes q ns r (k, omega (arith, h), e) passes)

any_contained : (q : ℕ → Bool) (ns : List ℕ) → ((r : ℕ) → Contains ns r → q r ≡ false) → list_any q ns ≡ false
any_contained q [] none = refl
any_contained q (n ∷ ns) none =
    ap (λ b. b || list_any q ns) (none n (zero, omega arith, grind arith))
    ∙ any_contained q ns (λ r c. none r (suc c.0, omega (arith, c.1), c.2))

-- a rule on the programs of tasks that pass
module _ (S : System) (rule : ℕ) (test : Instr → Bool) (among : ℕ → Bool) where
  task_rule : flat_map (broken_places S rule test) (map Owner.Task (filter among (below (length S.tasks)))) ≡ []
      → (t : ℕ) → t < length S.tasks → among t ≡ true → NoInstruction S (Owner.Task t) test
  task_rule h t inside passes =
      places_quiet rule (Owner.Task t) test 0 (program S (Owner.Task t))
      (at_below (λ k. among k ≡ true → broken_places S rule test (Owner.Task k) ≡ []) (length S.tasks)
      (made_quiet (broken_places S rule test) Owner.Task among (below (length S.tasks))
      (owners_quiet (broken_places S rule test) (map Owner.Task (filter among (below (length S.tasks)))) h)) t inside passes)

  rule_task : ((t : ℕ) → t < length S.tasks → among t ≡ true → NoInstruction S (Owner.Task t) test)
      → flat_map (broken_places S rule test) (map Owner.Task (filter among (below (length S.tasks)))) ≡ []
  rule_task each =
      quiet_owners (broken_places S rule test) (map Owner.Task (filter among (below (length S.tasks))))
      (quiet_made (broken_places S rule test) Owner.Task among (below (length S.tasks))
      (each_below (λ k. among k ≡ true → broken_places S rule test (Owner.Task k) ≡ []) (length S.tasks)
      (λ t inside passes. quiet_places rule (Owner.Task t) test 0 (program S (Owner.Task t)) (each t inside passes))))

-- a rule on the programs of routines
map_each : (f : Owner → List Denial) (xs : List ℕ) → AllByRecursion (λ o. f o ≡ []) (map Owner.Routine xs) → AllByRecursion (λ i. f (Owner.Routine i) ≡ []) xs
map_each f [] all = tt
map_each f (x ∷ xs) all = (all.0, map_each f xs all.1)

each_map : (f : Owner → List Denial) (xs : List ℕ) → AllByRecursion (λ i. f (Owner.Routine i) ≡ []) xs → AllByRecursion (λ o. f o ≡ []) (map Owner.Routine xs)
each_map f [] all = tt
each_map f (x ∷ xs) all = (all.0, each_map f xs all.1)

module _ (S : System) (rule : ℕ) (test : Instr → Bool) where
  routine_rule : flat_map (broken_places S rule test) (map Owner.Routine (below (length S.routines))) ≡ []
      → (i : ℕ) → i < length S.routines → NoInstruction S (Owner.Routine i) test
  routine_rule h i inside =
      places_quiet rule (Owner.Routine i) test 0 (program S (Owner.Routine i))
      (at_below (λ k. broken_places S rule test (Owner.Routine k) ≡ []) (length S.routines)
      (map_each (broken_places S rule test) (below (length S.routines))
      (owners_quiet (broken_places S rule test) (map Owner.Routine (below (length S.routines))) h)) i inside)

  rule_routine : ((i : ℕ) → i < length S.routines → NoInstruction S (Owner.Routine i) test)
      → flat_map (broken_places S rule test) (map Owner.Routine (below (length S.routines))) ≡ []
  rule_routine each =
      quiet_owners (broken_places S rule test) (map Owner.Routine (below (length S.routines)))
      (each_map (broken_places S rule test) (below (length S.routines))
      (each_below (λ k. broken_places S rule test (Owner.Routine k) ≡ []) (length S.routines)
      (λ i inside. quiet_places rule (Owner.Routine i) test 0 (program S (Owner.Routine i)) (each i inside))))

-- ---- upper owners: upper tasks, then all routines

upper_of_tasks : (S : System) (p : ℕ) (xs : List ℕ) → filter (is_upper_owner S p) (map Owner.Task xs) ≡ map Owner.Task (filter (is_upper_task S p) xs)
upper_of_tasks S p [] = refl
upper_of_tasks S p (x ∷ xs) = go (is_upper_task S p x) (upper_of_tasks S p xs)
  where
    go : (b : Bool) → filter (is_upper_owner S p) (map Owner.Task xs) ≡ map Owner.Task (filter (is_upper_task S p) xs)
        → cond b (Owner.Task x ∷ filter (is_upper_owner S p) (map Owner.Task xs)) (filter (is_upper_owner S p) (map Owner.Task xs))
        ≡ map Owner.Task (cond b (x ∷ filter (is_upper_task S p) xs) (filter (is_upper_task S p) xs))
    go true e = ap (λ v. Owner.Task x ∷ v) e
    go false e = e

upper_of_routines : (S : System) (p : ℕ) (xs : List ℕ) → filter (is_upper_owner S p) (map Owner.Routine xs) ≡ map Owner.Routine xs
upper_of_routines S p [] = refl
upper_of_routines S p (x ∷ xs) = ap (λ v. Owner.Routine x ∷ v) (upper_of_routines S p xs)

pub upper_owners_split : (S : System) (p : ℕ) → filter (is_upper_owner S p) (all_owners S)
    ≡ map Owner.Task (filter (is_upper_task S p) (below (length S.tasks))) ++ map Owner.Routine (below (length S.routines))
upper_owners_split S p =
    filter-append (is_upper_owner S p) (map Owner.Task (below (length S.tasks))) (map Owner.Routine (below (length S.routines)))
    ∙ ap (λ xs. xs ++ filter (is_upper_owner S p) (map Owner.Routine (below (length S.routines)))) (upper_of_tasks S p (below (length S.tasks)))
    ∙ ap (λ xs. map Owner.Task (filter (is_upper_task S p) (below (length S.tasks))) ++ xs) (upper_of_routines S p (below (length S.routines)))

pub upper_places_split : (S : System) (p : ℕ) (f : Owner → List Denial) → flat_map f (filter (is_upper_owner S p) (all_owners S))
    ≡ flat_map f (map Owner.Task (filter (is_upper_task S p) (below (length S.tasks)))) ++ flat_map f (map Owner.Routine (below (length S.routines)))
upper_places_split S p f =
    ap (flat_map f) (upper_owners_split S p)
    ∙ flat_map-append f (map Owner.Task (filter (is_upper_task S p) (below (length S.tasks)))) (map Owner.Routine (below (length S.routines)))

-- ---- all rules

-- no denial of any rule
record AreQuiet (S : System) (p : ℕ) : Type 0 where
  pub one : map (task_denial 1) (filter (λ t. not (is_full_schedule (task S t).schedule)) (lower_tasks S p)) ≡ []
  pub two : map (task_denial 2) (filter (lists_upper S p) (lower_tasks S p)) ≡ []
  pub three : flat_map (broken_places S 3 names_scheduler) (map Owner.Task (lower_tasks S p)) ≡ []
  pub four : flat_map (broken_places S 4 is_reserved) (map Owner.Task (lower_tasks S p)) ≡ []
  pub five : flat_map (broken_places S 5 (names_upper S p)) (map Owner.Task (lower_tasks S p)) ≡ []
  pub six_tasks : flat_map (broken_places S 6 (names_lower S p)) (map Owner.Task (filter (is_upper_task S p) (below (length S.tasks)))) ≡ []
  pub six_routines : flat_map (broken_places S 6 (names_lower S p)) (map Owner.Routine (below (length S.routines))) ≡ []
  pub seven : flat_map (broken_places S 7 asks_task_id) (map Owner.Routine (below (length S.routines))) ≡ []

quiet_from_none : (S : System) (p : ℕ) → first_denial S p ≡ None → AreQuiet S p
unfolding first_denial
quiet_from_none S p h =
    let behind_six = append_empty _ _ (none_empty (denials S p) h) in
    let behind_five = append_empty _ _ behind_six.0 in
    let behind_four = append_empty _ _ behind_five.0 in
    let behind_three = append_empty _ _ behind_four.0 in
    let behind_two = append_empty _ _ behind_three.0 in
    let behind_one = append_empty _ _ behind_two.0 in
    let upper = append_empty _ _ (sym (upper_places_split S p (broken_places S 6 (names_lower S p))) ∙ behind_five.1) in
    record {
      one = behind_one.0;
      two = behind_one.1;
      three = behind_two.1;
      four = behind_three.1;
      five = behind_four.1;
      six_tasks = upper.0;
      six_routines = upper.1;
      seven = behind_six.1;
    }

none_from_quiet : (S : System) (p : ℕ) → AreQuiet S p → first_denial S p ≡ None
unfolding first_denial
none_from_quiet S p q =
    let six : flat_map (broken_places S 6 (names_lower S p)) (filter (is_upper_owner S p) (all_owners S)) ≡ [] =
    upper_places_split S p (broken_places S 6 (names_lower S p)) ∙ ap (λ xs. xs ++ flat_map (broken_places S 6 (names_lower S p)) (map Owner.Routine (below (length S.routines)))) q.six_tasks ∙ q.six_routines in
    let all : denials S p ≡ [] = rw (q.one, q.two, q.three, q.four, q.five, six, q.seven) refl in
    ap first_of_list all

separable_from_quiet : (S : System) (p : ℕ) → AreQuiet S p → Separable S p
separable_from_quiet S p q =
    record {
      full = λ t low. full_is (task S t).schedule
          (at_below (λ k. not (is_upper_task S p k) ≡ true → not (is_full_schedule (task S k).schedule) ≡ false) (length S.tasks)
          (tasks_quiet (task_denial 1) (λ k. not (is_full_schedule (task S k).schedule)) (λ k. not (is_upper_task S p k)) (below (length S.tasks)) q.one)
          t low.0 (not_from_false (is_upper_task S p t) low.1));
      resources = λ t r low listed.
          let none : lists_upper S p t ≡ false =
          at_below (λ k. not (is_upper_task S p k) ≡ true → lists_upper S p k ≡ false) (length S.tasks)
          (tasks_quiet (task_denial 2) (lists_upper S p) (λ k. not (is_upper_task S p k)) (below (length S.tasks)) q.two)
          t low.0 (not_from_false (is_upper_task S p t) low.1) in
          below_from (declared_ceiling S r) p
          (not_listed (nat_le p (declared_ceiling S r)) refl (λ h. contains_passes (λ k. nat_le p (declared_ceiling S k)) (task S t).resources r listed h) none);
      no_scheduler = λ t low. task_rule S 3 names_scheduler (λ k. not (is_upper_task S p k)) q.three t low.0 (not_from_false (is_upper_task S p t) low.1);
      no_control = λ t low. task_rule S 4 is_reserved (λ k. not (is_upper_task S p k)) q.four t low.0 (not_from_false (is_upper_task S p t) low.1);
      lower_names = λ t low. task_rule S 5 (names_upper S p) (λ k. not (is_upper_task S p k)) q.five t low.0 (not_from_false (is_upper_task S p t) low.1);
      upper_names = upper;
      no_task_id = λ i inside. routine_rule S 7 asks_task_id q.seven i inside;
    }
  where
    upper : (owner : Owner) → IsOwner S owner → is_upper_owner S p owner ≡ true → NoInstruction S owner (names_lower S p)
    upper (Owner.Task t) inside high = task_rule S 6 (names_lower S p) (is_upper_task S p) q.six_tasks t inside high
    upper (Owner.Routine i) inside high = routine_rule S 6 (names_lower S p) q.six_routines i inside

    not_listed : (b : Bool) {c : Bool} → b ≡ b → (b ≡ true → c ≡ true) → c ≡ false → b ≡ false
    not_listed false same all none = refl
    not_listed true same all none = absurd (true≢false (sym (all refl) ∙ none))

    below_from : (n k : ℕ) → nat_le k n ≡ false → n < k
    below_from n k h = leb-false k n h

quiet_from_separable : (S : System) (p : ℕ) → Separable S p → AreQuiet S p
quiet_from_separable S p s =
    record {
      one = quiet_tasks (task_denial 1) (λ k. not (is_full_schedule (task S k).schedule)) (λ k. not (is_upper_task S p k)) (below (length S.tasks))
          (each_below (λ k. not (is_upper_task S p k) ≡ true → not (is_full_schedule (task S k).schedule) ≡ false) (length S.tasks)
          (λ t inside low. ap (λ x. not (is_full_schedule x)) (s.full t (inside, not-true (is_upper_task S p t) low))));
      two = quiet_tasks (task_denial 2) (lists_upper S p) (λ k. not (is_upper_task S p k)) (below (length S.tasks))
          (each_below (λ k. not (is_upper_task S p k) ≡ true → lists_upper S p k ≡ false) (length S.tasks)
          (λ t inside low. any_contained (λ r. nat_le p (declared_ceiling S r)) (task S t).resources
          (λ r listed. not_above p (declared_ceiling S r) (s.resources t r (inside, not-true (is_upper_task S p t) low) listed))));
      three = rule_task S 3 names_scheduler (λ k. not (is_upper_task S p k)) (λ t inside low. s.no_scheduler t (inside, not-true (is_upper_task S p t) low));
      four = rule_task S 4 is_reserved (λ k. not (is_upper_task S p k)) (λ t inside low. s.no_control t (inside, not-true (is_upper_task S p t) low));
      five = rule_task S 5 (names_upper S p) (λ k. not (is_upper_task S p k)) (λ t inside low. s.lower_names t (inside, not-true (is_upper_task S p t) low));
      six_tasks = rule_task S 6 (names_lower S p) (is_upper_task S p) (λ t inside high. s.upper_names (Owner.Task t) inside high);
      six_routines = rule_routine S 6 (names_lower S p) (λ i inside. s.upper_names (Owner.Routine i) inside refl);
      seven = rule_routine S 7 asks_task_id (λ i inside. s.no_task_id i inside);
    }
  where
    not_above : (k n : ℕ) → n < k → nat_le k n ≡ false
    not_above k n h = lt-leb k n h

-- no denial exactly where the upper part is separable
pub separable_where_none : (S : System) (p : ℕ) → first_denial S p ≡ None → Separable S p
separable_where_none S p h = separable_from_quiet S p (quiet_from_none S p h)

pub none_where_separable : (S : System) (p : ℕ) → Separable S p → first_denial S p ≡ None
none_where_separable S p s = none_from_quiet S p (quiet_from_separable S p s)
