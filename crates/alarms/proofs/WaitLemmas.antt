-- Waits of lists of differences.
use Rattle.std.proofs.Common.{ℕ, zero, suc, ◌≡◌, ◌<◌, ◌≤◌, ◌+◌, ◌-◌, List, [], ◌∷◌, ◌++◌, map, take, drop, length, get_or, set, None, Some, Bool, true, false, ◌&&◌, refl, sym, ◌∙◌, ap, arith, eqb, leb, ltb, add-zero, append_assoc, ◌||◌}
use Rattle.std.proofs.Math.Seq.{drop-cons, take-suc, take-suc-set, drop-set-lt, set_split}
use Rattle.std.proofs.lemmas.List.{take-append-drop, drop_all, append-nil, length-set, get_or-set_same}
use Rattle.std.specs.List.{insert, remove, list_all, list_any}
use Rattle.std.proofs.lemmas.Bool.Decides.{nat_tests}
use Rattle.std.proofs.Math.Bool.{or-true}
use Rattle.std.proofs.lemmas.Bool.{le-leb, ltb-true, lt-ltb, ltb-false, ne_eqb, and_parts, and_right}
use Rattle.alarms.specs.declared.difference_list.Waiting.{Waiting}
use Rattle.alarms.specs.Waits.{Wait, span, wait_before, waits, is_sooner, inserted, without, wait_of, left_in, cycle_in, less_by, IsSoonest, cut, not_waiting, cut_at, grown, grown_at, is_of, are_ahead, are_beyond}

pub span-append : (xs ys : List Waiting) → span (xs ++ ys) ≡ span xs + span ys
span-append [] ys = omega arith
span-append (x ∷ xs) ys = omega (arith, span-append xs ys)

pub length-waits : (xs : List Waiting) → length (waits xs) ≡ length xs
length-waits [] = refl
length-waits (x ∷ xs) = ap suc (length-waits xs)

and-false : (b : Bool) → (b && false) ≡ false
and-false true = refl
and-false false = refl

-- where one wait isn't sooner, not all are
not_all : (t : Wait) (front after : List Waiting) (e : Waiting) → is_sooner t (wait_before (span after) e) ≡ false
    → list_all (is_sooner t) (waits (front ++ e ∷ after)) ≡ false
not_all t [] after e late = rw late refl
not_all t (x ∷ front) after e late = rw (not_all t front after e late) (and-false _)

pub put_oldest : (t : Wait) (new : Waiting) (after : List Waiting)
    → wait_before (span after) new ≡ t
    → list_all (is_sooner t) (waits after) ≡ true
    → waits (new ∷ after) ≡ inserted t (waits after)
put_oldest t new [] is all = rw is refl
put_oldest t new (e ∷ after) is all = rw (all, is) refl

-- an entry is put before an end whose waits are sooner, and the one before it is cut
span-put : (new e : Waiting) (front after : List Waiting) → new.difference ≤ e.difference
    → span (front ++ cut e new.difference ∷ new ∷ after) ≡ span (front ++ e ∷ after)
span-put new e [] after low = omega arith
span-put new e (x ∷ front) after low = ap (λ n. x.difference + n) (span-put new e front after low)

pub put_between : (t : Wait) (new e : Waiting) (front after : List Waiting)
    → wait_before (span after) new ≡ t
    → list_all (is_sooner t) (waits after) ≡ true
    → is_sooner t (wait_before (span after) e) ≡ false
    → new.difference ≤ e.difference
    → waits (front ++ cut e new.difference ∷ new ∷ after) ≡ inserted t (waits (front ++ e ∷ after))
put_between t new e [] after is all late low =
    let same : (e.difference - new.difference) + (new.difference + span after) ≡ e.difference + span after = omega arith in
    rw (late, ← put_oldest t new after is all, same) refl
put_between t new e (x ∷ front) after is all late low =
    rw (and_right (is_sooner t (wait_before (span (front ++ e ∷ after)) x)) _ (not_all t front after e late), span-put new e front after low, put_between t new e front after is all late low) refl

-- a test sees only how far two waits are apart
shift_lt : (a b n : ℕ) → ltb (a + n) (b + n) ≡ ltb a b
shift_lt a b n = grind (arith, nat_tests)

shift_eq : (a b n : ℕ) → eqb (a + n) (b + n) ≡ eqb a b
shift_eq a b n = grind (arith, nat_tests)

late_here : (t : Wait) (new e : Waiting) (n : ℕ) → wait_before n new ≡ t
    → is_sooner (record { alarm = t.alarm; left = new.difference; cycle = 0 }) (wait_before 0 e) ≡ false
    → is_sooner t (wait_before n e) ≡ false
late_here t new e n is late =
    let left : new.difference + n ≡ t.left = ap (λ (w : Wait). w.left) is in
    rw (← left, shift_lt e.difference new.difference n, shift_eq e.difference new.difference n)
    (rw (add-zero e.difference) at late)

or_first : (a b : Bool) → (a || b) ≡ false → a ≡ false
or_first true b h = h
or_first false b h = refl

or_second : (a b : Bool) → (a || b) ≡ false → b ≡ false
or_second true b h = absurd (cc)
or_second false b h = h

late_low : (a n : ℕ) (e : Waiting) → is_sooner (record { alarm = a; left = n; cycle = 0 }) (wait_before 0 e) ≡ false → n ≤ e.difference
late_low a n e late = omega (arith, ltb-false (e.difference + 0) n (or_first _ _ late))

split_at : (es : List Waiting) (p : ℕ) (d : Waiting) → p < length es → es ≡ take p es ++ get_or es p d ∷ drop (suc p) es
split_at es p d low = sym (take-append-drop p es) ∙ ap (λ (r : List Waiting). take p es ++ r) (drop-cons es p d low)

insert_made : (es : List Waiting) (p n : ℕ) (new : Waiting) → p < length es
    → insert (cut_at es (suc p) n) (suc p) new ≡ take p es ++ cut (get_or es p not_waiting) n ∷ new ∷ drop (suc p) es
insert_made es p n new within =
    let one : suc p - 1 ≡ p = omega arith in
    let later : eqb (suc p) 0 ≡ false = ne_eqb (suc p) 0 (omega arith) in
    rw (one, later, take-suc-set es p (cut (get_or es p not_waiting) n) within, drop-set-lt (suc p) es p (cut (get_or es p not_waiting) n) (omega arith), append_assoc) refl

-- what the entry before a place has, for a place that isn't the first
pub inserted_at : (es : List Waiting) (place : ℕ) (t : Wait) (new : Waiting)
    → place ≤ length es
    → wait_before (span (drop place es)) new ≡ t
    → list_all (is_sooner t) (waits (drop place es)) ≡ true
    → (0 < place → is_sooner (record { alarm = t.alarm; left = new.difference; cycle = 0 }) (wait_before 0 (get_or es (place - 1) not_waiting)) ≡ false)
    → waits (insert (cut_at es place new.difference) place new) ≡ inserted t (waits es)
inserted_at es zero t new within is all late = put_oldest t new es is all
inserted_at es (suc p) t new within is all late =
    let one : suc p - 1 ≡ p = omega arith in
    let e = get_or es p not_waiting in
    let late_p : is_sooner (record { alarm = t.alarm; left = new.difference; cycle = 0 }) (wait_before 0 (get_or es p not_waiting)) ≡ false = rw one at (late (omega arith)) in
    let low_p = late_low t.alarm new.difference e late_p in
    let put = put_between t new e (take p es) (drop (suc p) es) is all (late_here t new e (span (drop (suc p) es)) is late_p) low_p in
    ap waits (insert_made es p new.difference new (omega arith))
    ∙ (put ∙ ap (λ (xs : List Waiting). inserted t (waits xs)) (sym (split_at es p not_waiting (omega arith))))

pub inserted_span : (es : List Waiting) (place bound : ℕ) (new : Waiting)
    → place ≤ length es
    → new.difference + span (drop place es) < bound
    → span es < bound
    → (0 < place → is_sooner (record { alarm = new.alarm; left = new.difference; cycle = 0 }) (wait_before 0 (get_or es (place - 1) not_waiting)) ≡ false)
    → span (insert (cut_at es place new.difference) place new) < bound
inserted_span es zero bound new within low all late = low
inserted_span es (suc p) bound new within low all late =
    let one : suc p - 1 ≡ p = omega arith in
    let e = get_or es p not_waiting in
    let late_p : is_sooner (record { alarm = new.alarm; left = new.difference; cycle = 0 }) (wait_before 0 (get_or es p not_waiting)) ≡ false = rw one at (late (omega arith)) in
    let low_p = late_low new.alarm new.difference e late_p in
    let same : span (insert (cut_at es (suc p) new.difference) (suc p) new) ≡ span es =
    ap span (insert_made es p new.difference new (omega arith)) ∙ (span-put new e (take p es) (drop (suc p) es) low_p ∙ ap span (sym (split_at es p not_waiting (omega arith)))) in
    rw same all

-- ---- an alarm is taken out

span-out : (d e : Waiting) (front after : List Waiting) → span (front ++ grown d e.difference ∷ after) ≡ span (front ++ d ∷ e ∷ after)
span-out d e [] after = omega arith
span-out d e (x ∷ front) after = ap (λ n. x.difference + n) (span-out d e front after)

span-cut : (m : ℕ) (front : List Waiting) (e : Waiting) → m ≤ e.difference → span (front ++ cut e m ∷ []) + m ≡ span (front ++ e ∷ [])
span-cut m [] e some = omega arith
span-cut m (x ∷ front) e some = omega (arith, span-cut m front e some)

pub none_left : (a : ℕ) (es : List Waiting) → list_any (is_of a) es ≡ false → without a (waits es) ≡ waits es
none_left a [] none = refl
none_left a (e ∷ es) none =
    let away : is_of a e ≡ false = or_first _ _ none in
    let rest : list_any (is_of a) es ≡ false = or_second _ _ none in
    rw (away, none_left a es rest) refl

pub none_there : (a : ℕ) (es : List Waiting) → list_any (is_of a) es ≡ false → wait_of a (waits es) ≡ None
none_there a [] none = refl
none_there a (e ∷ es) none =
    let away : is_of a e ≡ false = or_first _ _ none in
    rw away (none_there a es (or_second _ _ none))

found_there : (a : ℕ) (front after : List Waiting) (e : Waiting) → list_any (is_of a) front ≡ false → is_of a e ≡ true
    → wait_of a (waits (front ++ e ∷ after)) ≡ Some (wait_before (span after) e)
found_there a [] after e none here = rw here refl
found_there a (x ∷ front) after e none here =
    let away : is_of a x ≡ false = or_first _ _ none in
    rw away (found_there a front after e (or_second _ _ none) here)

pub left_at : (a : ℕ) (es : List Waiting) (place : ℕ) → place < length es → list_any (is_of a) (take place es) ≡ false
    → is_of a (get_or es place not_waiting) ≡ true
    → left_in (wait_of a (waits es)) ≡ Some (span (drop place es))
left_at a es place within none here =
    let found = found_there a (take place es) (drop (suc place) es) (get_or es place not_waiting) none here in
    ap (λ (xs : List Waiting). left_in (wait_of a (waits xs))) (split_at es place not_waiting within)
    ∙ (ap left_in found ∙ ap (λ (xs : List Waiting). Some (span xs)) (sym (drop-cons es place not_waiting within)))

pub cycle_there : (a : ℕ) (es : List Waiting) (place : ℕ) → place < length es → list_any (is_of a) (take place es) ≡ false
    → is_of a (get_or es place not_waiting) ≡ true
    → cycle_in (wait_of a (waits es)) ≡ Some (get_or es place not_waiting).cycle
cycle_there a es place within none here =
    let found = found_there a (take place es) (drop (suc place) es) (get_or es place not_waiting) none here in
    ap (λ (xs : List Waiting). cycle_in (wait_of a (waits xs))) (split_at es place not_waiting within) ∙ ap cycle_in found

two_from : (es : List Waiting) (p : ℕ) → suc p < length es → (get_or es p not_waiting).difference + (get_or es (suc p) not_waiting).difference ≤ span es
two_from [] p within = absurd (omega arith)
two_from (e ∷ []) p within = absurd (omega arith)
two_from (e ∷ f ∷ es) zero within = omega arith
two_from (e ∷ f ∷ es) (suc p) within =
    let rest : (get_or (f ∷ es) p not_waiting).difference + (get_or (f ∷ es) (suc p) not_waiting).difference ≤ span (f ∷ es) = two_from (f ∷ es) p (omega arith) in
    omega (arith, rest)

pub two_of_span : (es : List Waiting) (place : ℕ) → 0 < place → place < length es
    → (get_or es (place - 1) not_waiting).difference + (get_or es place not_waiting).difference ≤ span es
two_of_span es zero some within = absurd (omega arith)
two_of_span es (suc p) some within =
    let one : suc p - 1 ≡ p = omega arith in
    rw one (two_from es p within)

-- the entry before one that goes takes its difference
pub out_between : (a : ℕ) (d e : Waiting) (front after : List Waiting)
    → list_any (is_of a) (front ++ d ∷ []) ≡ false
    → is_of a e ≡ true
    → waits (front ++ grown d e.difference ∷ after) ≡ without a (waits (front ++ d ∷ e ∷ after))
out_between a d e [] after none here =
    let away : is_of a d ≡ false = or_first _ _ none in
    let same : (d.difference + e.difference) + span after ≡ d.difference + (e.difference + span after) = omega arith in
    rw (away, here, same) refl
out_between a d e (x ∷ front) after none here =
    let away : is_of a x ≡ false = or_first _ _ none in
    let rest : list_any (is_of a) (front ++ d ∷ []) ≡ false = or_second _ _ none in
    rw (away, span-out d e front after, out_between a d e front after rest here) refl

pub out_first : (a : ℕ) (e : Waiting) (after : List Waiting) → is_of a e ≡ true → waits after ≡ without a (waits (e ∷ after))
out_first a e after here = rw here refl

remove_made : (es : List Waiting) (p : ℕ) → suc p < length es
    → remove (grown_at es (suc p)) (suc p) ≡ take p es ++ grown (get_or es p not_waiting) (get_or es (suc p) not_waiting).difference ∷ drop (suc (suc p)) es
remove_made es p within =
    let one : suc p - 1 ≡ p = omega arith in
    let later : eqb (suc p) 0 ≡ false = ne_eqb (suc p) 0 (omega arith) in
    let g = grown (get_or es p not_waiting) (get_or es (suc p) not_waiting).difference in
    rw (one, later, take-suc-set es p (grown (get_or es p not_waiting) (get_or es (suc p) not_waiting).difference) (omega arith), drop-set-lt (suc (suc p)) es p (grown (get_or es p not_waiting) (get_or es (suc p) not_waiting).difference) (omega arith), append_assoc) refl

split_two : (es : List Waiting) (p : ℕ) → suc p < length es
    → es ≡ take p es ++ get_or es p not_waiting ∷ get_or es (suc p) not_waiting ∷ drop (suc (suc p)) es
split_two es p within =
    split_at es p not_waiting (omega arith) ∙ ap (λ (r : List Waiting). take p es ++ get_or es p not_waiting ∷ r) (drop-cons es (suc p) not_waiting within)

pub taken_at : (a : ℕ) (es : List Waiting) (place : ℕ) → place < length es → list_any (is_of a) (take place es) ≡ false
    → is_of a (get_or es place not_waiting) ≡ true
    → waits (remove (grown_at es place) place) ≡ without a (waits es)
taken_at a [] zero within none here = absurd (omega arith)
taken_at a (e ∷ es) zero within none here = out_first a e es here
taken_at a es (suc p) within none here =
    let none_two : list_any (is_of a) (take p es ++ get_or es p not_waiting ∷ []) ≡ false = rw (take-suc es p not_waiting (omega arith)) at none in
    ap waits (remove_made es p within)
    ∙ (out_between a (get_or es p not_waiting) (get_or es (suc p) not_waiting) (take p es) (drop (suc (suc p)) es) none_two here
    ∙ ap (λ (xs : List Waiting). without a (waits xs)) (sym (split_two es p within)))

pub taken_span : (es : List Waiting) (place : ℕ) → place < length es → span (remove (grown_at es place) place) ≤ span es
taken_span [] zero within = absurd (omega arith)
taken_span (e ∷ es) zero within = omega arith
taken_span es (suc p) within =
    let same : span (remove (grown_at es (suc p)) (suc p)) ≡ span es =
    ap span (remove_made es p within) ∙ (span-out (get_or es p not_waiting) (get_or es (suc p) not_waiting) (take p es) (drop (suc (suc p)) es) ∙ ap span (sym (split_two es p within))) in
    omega arith

-- ---- some counts pass

some_pass : (m : ℕ) (front : List Waiting) (e : Waiting) → m ≤ e.difference
    → waits (front ++ cut e m ∷ []) ≡ map (less_by m) (waits (front ++ e ∷ []))
some_pass m [] e some =
    let same : (e.difference - m) + 0 ≡ (e.difference + 0) - m = omega arith in
    rw same refl
some_pass m (x ∷ front) e some =
    let less : span (front ++ cut e m ∷ []) + m ≡ span (front ++ e ∷ []) = span-cut m front e some in
    let same : x.difference + span (front ++ cut e m ∷ []) ≡ (x.difference + span (front ++ e ∷ [])) - m = omega arith in
    rw (same, some_pass m front e some) refl

-- ---- the last wait is over

pub over_last : (front : List Waiting) (e : Waiting) → e.difference ≡ 0 → waits (front ++ e ∷ []) ≡ waits front ++ wait_before 0 e ∷ []
over_last [] e none = refl
over_last (x ∷ front) e none =
    let same : span (front ++ e ∷ []) ≡ span front = omega (arith, span-append front (e ∷ [])) in
    rw (same, over_last front e none) refl

cut_made : (m : ℕ) (es : List Waiting) (p : ℕ) → suc p ≡ length es → cut_at es (length es) m ≡ take p es ++ cut (get_or es p not_waiting) m ∷ []
cut_made m es p all =
    let one : suc p - 1 ≡ p = omega arith in
    let later : eqb (suc p) 0 ≡ false = ne_eqb (suc p) 0 (omega arith) in
    rw (← all, later, one, set_split es p (cut (get_or es p not_waiting) m) (omega arith), drop_all (suc p) es (omega arith)) refl

split_last : (es : List Waiting) (p : ℕ) → suc p ≡ length es → es ≡ take p es ++ get_or es p not_waiting ∷ []
split_last es p all = split_at es p not_waiting (omega arith) ∙ rw (drop_all (suc p) es (omega arith)) refl

beyond_last : (m : ℕ) (front : List Waiting) (e : Waiting) → are_beyond m (waits (front ++ e ∷ [])) ≡ true → m < e.difference
beyond_last m [] e beyond = omega (arith, ltb-true m (e.difference + 0) (and_parts _ _ beyond).0)
beyond_last m (x ∷ front) e beyond = beyond_last m front e (and_parts _ _ beyond).1

pub last_beyond : (m : ℕ) (es : List Waiting) (n : ℕ) → n ≡ length es → 0 < n → are_beyond m (waits es) ≡ true → m < (get_or es (n - 1) not_waiting).difference
last_beyond m es zero all more beyond = absurd (omega arith)
last_beyond m es (suc p) all more beyond =
    let one : suc p - 1 ≡ p = omega arith in
    rw one (beyond_last m (take p es) (get_or es p not_waiting) (rw (split_last es p all) at beyond))

nothing : (es : List Waiting) → length es ≡ 0 → es ≡ []
nothing [] none = refl
nothing (e ∷ es) none = absurd (omega arith)

pub counted : (m : ℕ) (es : List Waiting) (n : ℕ) → n ≡ length es → (0 < n → m ≤ (get_or es (n - 1) not_waiting).difference)
    → waits (cut_at es (length es) m) ≡ map (less_by m) (waits es)
counted m es zero all low = rw (nothing es (sym all)) refl
counted m es (suc p) all low =
    let one : suc p - 1 ≡ p = omega arith in
    let low_p : m ≤ (get_or es p not_waiting).difference = rw one at (low (omega arith)) in
    ap waits (cut_made m es p all)
    ∙ (some_pass m (take p es) (get_or es p not_waiting) low_p ∙ ap (λ (xs : List Waiting). map (less_by m) (waits xs)) (sym (split_last es p all)))

pub counted_span : (m : ℕ) (es : List Waiting) (n : ℕ) → n ≡ length es → span (cut_at es (length es) m) ≤ span es
counted_span m es zero all = rw (nothing es (sym all)) (omega arith)
counted_span m es (suc p) all =
    let made = ap span (cut_made m es p all) ∙ span-append (take p es) (cut (get_or es p not_waiting) m ∷ []) in
    let whole = ap span (split_last es p all) ∙ span-append (take p es) (get_or es p not_waiting ∷ []) in
    omega arith

all_ahead_front : (front : List Waiting) (e : Waiting) → 1 ≤ e.difference → (1 ≤ span (front ++ e ∷ [])) × (are_ahead (waits (front ++ e ∷ [])) ≡ true)
all_ahead_front [] e some =
    let here : ltb 0 (e.difference + 0) ≡ true = lt-ltb 0 (e.difference + 0) (omega arith) in
    (omega arith, rw here refl)
all_ahead_front (x ∷ front) e some =
    let rest = all_ahead_front front e some in
    let least : 1 ≤ span (front ++ e ∷ []) = rest.0 in
    let here : ltb 0 (x.difference + span (front ++ e ∷ [])) ≡ true = lt-ltb 0 (x.difference + span (front ++ e ∷ [])) (omega arith) in
    (omega arith, rw (here, rest.1) refl)

pub all_ahead : (es : List Waiting) (n : ℕ) → n ≡ length es → 0 < n → 1 ≤ (get_or es (n - 1) not_waiting).difference → are_ahead (waits es) ≡ true
all_ahead es zero all more some = absurd (omega arith)
all_ahead es (suc p) all more some =
    let one : suc p - 1 ≡ p = omega arith in
    let some_p : 1 ≤ (get_or es p not_waiting).difference = rw one at some in
    let made = (all_ahead_front (take p es) (get_or es p not_waiting) some_p).1 in
    rw (split_last es p all) made

-- the last wait is taken out
pub taken_last : (es : List Waiting) (n : ℕ) → n ≡ length es → 0 < n → (get_or es (n - 1) not_waiting).difference ≡ 0
    → waits es ≡ waits (remove es (n - 1)) ++ wait_before 0 (get_or es (n - 1) not_waiting) ∷ []
taken_last es zero all more none = absurd (omega arith)
taken_last es (suc p) all more none =
    let one : suc p - 1 ≡ p = omega arith in
    let none_p : (get_or es p not_waiting).difference ≡ 0 = rw one at none in
    let left : remove es p ≡ take p es = rw (drop_all (suc p) es (omega arith), append-nil) refl in
    rw (one, left) (ap waits (split_last es p all) ∙ over_last (take p es) (get_or es p not_waiting) none_p)

pub taken_over : (es : List Waiting) (n : ℕ) → n ≡ length es → 0 < n → (get_or es (n - 1) not_waiting).difference ≡ 0
    → waits es ≡ waits (remove es (n - 1)) ++ record { alarm = (get_or es (n - 1) not_waiting).alarm; left = 0; cycle = (get_or es (n - 1) not_waiting).cycle } ∷ []
taken_over es n all more over =
    let last : ℕ → Wait = λ m. record { alarm = (get_or es (n - 1) not_waiting).alarm; left = m; cycle = (get_or es (n - 1) not_waiting).cycle } in
    let none : (get_or es (n - 1) not_waiting).difference + 0 ≡ 0 = omega arith in
    taken_last es n all more over ∙ ap (λ (m : ℕ). waits (remove es (n - 1)) ++ last m ∷ []) none

pub remove_span : (es : List Waiting) (p : ℕ) → p < length es → span (remove es p) ≤ span es
remove_span es p within =
    let whole = ap span (split_at es p not_waiting within) ∙ span-append (take p es) (get_or es p not_waiting ∷ drop (suc p) es) in
    let rest = span-append (take p es) (drop (suc p) es) in
    omega arith

pub step_span : (es : List Waiting) (n : ℕ) → 0 < n → n ≤ length es → (get_or es (n - 1) not_waiting).difference + span (drop n es) ≤ span es
step_span es zero more within = absurd (omega arith)
step_span es (suc p) more within =
    let one : suc p - 1 ≡ p = omega arith in
    let whole = ap span (split_at es p not_waiting (omega arith)) ∙ span-append (take p es) (get_or es p not_waiting ∷ drop (suc p) es) in
    rw one (omega arith)

one_at_least : (n : ℕ) → eqb n 0 ≡ false → 1 ≤ n
one_at_least n h = grind (arith, nat_tests)

pub over_test : (es : List Waiting) (n : ℕ) → n ≡ length es → 0 < n → eqb (get_or es (n - 1) not_waiting).difference 0 ≡ false → are_ahead (waits es) ≡ true
over_test es n all more test = all_ahead es n all more (one_at_least _ test)

-- the last wait was written, and isn't over
pub written_ahead : (es : List Waiting) (n : ℕ) (e : Waiting) → n ≡ length es → 0 < n → eqb e.difference 0 ≡ false → are_ahead (waits (set es (n - 1) e)) ≡ true
written_ahead es n e all more test =
    let long : length (set es (n - 1) e) ≡ length es = length-set es (n - 1) e in
    let here : get_or (set es (n - 1) e) (n - 1) not_waiting ≡ e = get_or-set_same es (n - 1) e not_waiting (omega (arith, all)) in
    over_test (set es (n - 1) e) n (all ∙ sym long) more (ap (λ (x : Waiting). eqb x.difference 0) here ∙ test)

-- ---- the wait that is over first is the last

last_span : (front : List Waiting) (e : Waiting) → e.difference ≤ span (front ++ e ∷ [])
last_span front e = omega (arith, span-append front (e ∷ []))

soonest_last : (front : List Waiting) (e : Waiting) → IsSoonest e.difference (waits (front ++ e ∷ []))
soonest_last [] e =
    let none : e.difference + 0 ≡ e.difference = omega arith in
    let least : leb e.difference e.difference ≡ true = le-leb e.difference e.difference (omega arith) in
    let same : eqb e.difference e.difference ≡ true = grind (arith, nat_tests) in
    record { least = rw (none, least) refl; some = rw (none, same) refl }
soonest_last (x ∷ front) e =
    let rest = soonest_last front e in
    let low : e.difference ≤ span (front ++ e ∷ []) = last_span front e in
    let here : leb e.difference (x.difference + span (front ++ e ∷ [])) ≡ true = le-leb _ _ (omega arith) in
    record { least = rw here rest.least; some = rw rest.some (or-true _) }

pub soonest_there : (es : List Waiting) (n : ℕ) → n ≡ length es → 0 < n → IsSoonest (get_or es (n - 1) not_waiting).difference (waits es)
soonest_there es zero all more = absurd (omega arith)
soonest_there es (suc p) all more =
    let one : suc p - 1 ≡ p = omega arith in
    rw one (rw (sym (split_last es p all)) at (soonest_last (take p es) (get_or es p not_waiting)))
