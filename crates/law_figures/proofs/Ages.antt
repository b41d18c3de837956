-- Ages of jobs are counted from the tick since which figures know them to be ready.
use Rattle.std.proofs.Common.{ℕ, zero, suc, ◌≡◌, ◌<◌, ◌≤◌, ◌+◌, ◌-◌, Bool, true, false, cond, min, nat_lt, List, [], ◌∷◌, ◌++◌, map, replicate, length, Some, None, refl, sym, ◌∙◌, ap, subst, append_assoc, append-nil, arith}
use Rattle.std.proofs.lemmas.Bool.{ltb-true, ltb-false}
use Rattle.std.proofs.lemmas.List.{length-append, length-map, length-replicate}
use Rattle.view_figures.specs.declared.task_tick.TaskTick.{TaskTick}
use Rattle.view_figures.specs.declared.response_figures.TheConstants.{MAX_UNFINISHED}
use Rattle.view_figures.specs.Counts.{capped}
use Rattle.view_figures.specs.Reaching.{worst, put}
use Rattle.view_figures.specs.ResponseSums.{standing, later, some_more, entered, ready_since, oldest_response, responses, response_figures, spread}
use Rattle.view_figures.specs.StateSums.{leaves}
use Rattle.law_figures.specs.Labels.{label_after, AreNumbered, reached, all_shown}
use Rattle.law_figures.specs.Ages.{followed, ages_in, ages_next, ages, oldest, leaving_age, tick_of, ResponsesAreAges, OldestIsAge}
use Rattle.law_figures.proofs.Greatest.{is_greatest}

-- in a tick each is as old as the ticks since it was ready, both counted
abbrev Aged : ℕ → List ℕ → List ℕ → Type 0
Aged tick [] [] = Unit {0}
Aged tick (s ∷ since) (n ∷ old) = (s ≤ tick) × (n ≡ tick - s + 1) × Aged tick since old
Aged tick [] (n ∷ old) = ⊥
Aged tick (s ∷ since) [] = ⊥

a_tick_older : (tick : ℕ) (since old : List ℕ) → Aged tick since old
    → Aged (suc tick) since (map suc old)
a_tick_older tick [] [] h = tt
a_tick_older tick [] (n ∷ old) h = absurd h
a_tick_older tick (s ∷ since) [] h = absurd h
a_tick_older tick (s ∷ since) (n ∷ old) h =
    let low : s ≤ tick = h.0 in
    let e : n ≡ tick - s + 1 = h.1 in
    (omega arith, omega arith, a_tick_older tick since old h.2)

same_length : (tick : ℕ) (since old : List ℕ) → Aged tick since old → length since ≡ length old
same_length tick [] [] h = refl
same_length tick [] (n ∷ old) h = absurd h
same_length tick (s ∷ since) [] h = absurd h
same_length tick (s ∷ since) (n ∷ old) h = ap suc (same_length tick since old h.2)

one_new : (tick : ℕ) (since old : List ℕ) → Aged tick since old
    → Aged tick (since ++ tick ∷ []) (old ++ 1 ∷ [])
one_new tick [] [] h = (omega arith, omega arith, tt)
one_new tick [] (n ∷ old) h = absurd h
one_new tick (s ∷ since) [] h = absurd h
one_new tick (s ∷ since) (n ∷ old) h = (h.0, h.1, one_new tick since old h.2)

one_behind : (x n : ℕ) → replicate n x ++ x ∷ [] ≡ replicate (suc n) x
one_behind x zero = refl
one_behind x (suc n) = ap (λ (xs : List ℕ). x ∷ xs) (one_behind x n)

-- the new ones, as many as there is room for
abbrev with_new : List ℕ → ℕ → List ℕ
with_new old n = old ++ replicate (min n (MAX_UNFINISHED - length old)) 1

with_new_length : (old : List ℕ) (n : ℕ)
    → length (with_new old n) ≡ length old + min n (MAX_UNFINISHED - length old)
with_new_length old n =
    length-append old (replicate (min n (MAX_UNFINISHED - length old)) 1)
    ∙ ap (λ k. length old + k) (length-replicate (min n (MAX_UNFINISHED - length old)) 1)

with_one_new : (tick n : ℕ) (since old : List ℕ) → Aged tick since (with_new old n)
    → length since < MAX_UNFINISHED
    → Aged tick (since ++ tick ∷ []) (with_new old (suc n))
with_one_new tick n since old h room =
    let w = min n (MAX_UNFINISHED - length old) in
    let same : length since ≡ length (with_new old n) = same_length tick since (with_new old n) h in
    let size : length (with_new old n) ≡ length old + w = with_new_length old n in
    let more : min (suc n) (MAX_UNFINISHED - length old) ≡ suc w = omega (arith, same, size) in
    let joined : with_new old n ++ 1 ∷ [] ≡ old ++ replicate (suc w) 1 =
    append_assoc old (replicate w 1) (1 ∷ []) ∙ ap (λ (ns : List ℕ). old ++ ns) (one_behind 1 w) in
    let new : Aged tick (since ++ tick ∷ []) (old ++ replicate (suc w) 1) =
    subst (Aged tick (since ++ tick ∷ [])) joined (one_new tick since (with_new old n) h) in
    subst (λ k. Aged tick (since ++ tick ∷ []) (old ++ replicate k 1)) (sym more) new

with_none_new : (tick n : ℕ) (since old : List ℕ) → Aged tick since (with_new old n)
    → MAX_UNFINISHED ≤ length since
    → Aged tick since (with_new old (suc n))
with_none_new tick n since old h full =
    let w = min n (MAX_UNFINISHED - length old) in
    let same : length since ≡ length (with_new old n) = same_length tick since (with_new old n) h in
    let size : length (with_new old n) ≡ length old + w = with_new_length old n in
    let more : min (suc n) (MAX_UNFINISHED - length old) ≡ w = omega (arith, same, size) in
    subst (λ k. Aged tick since (old ++ replicate k 1)) (sym more) h

with_one_or_none : (tick n : ℕ) (since old : List ℕ) → Aged tick since (with_new old n)
    → Aged tick (cond (nat_lt (length since) MAX_UNFINISHED) (since ++ tick ∷ []) since)
    (with_new old (suc n))
with_one_or_none tick n since old h = go (nat_lt (length since) MAX_UNFINISHED) refl
  where
    go : (b : Bool) → nat_lt (length since) MAX_UNFINISHED ≡ b
        → Aged tick (cond b (since ++ tick ∷ []) since) (with_new old (suc n))
    go true e = with_one_new tick n since old h (ltb-true (length since) MAX_UNFINISHED e)
    go false e = with_none_new tick n since old h (ltb-false (length since) MAX_UNFINISHED e)

some_new : (tick n : ℕ) (since old : List ℕ) → Aged tick since old
    → Aged tick (some_more tick n since) (with_new old n)
some_new tick zero since old h =
    let none : min 0 (MAX_UNFINISHED - length old) ≡ 0 = omega arith in
    let same : old ≡ with_new old 0 = sym (ap (λ k. old ++ replicate k 1) none ∙ append-nil old) in
    subst (Aged tick since) same h
some_new tick (suc n) since old h = with_one_or_none tick n (some_more tick n since) old
    (some_new tick n since old h)

-- ---- a tick

aged_in : (t : TaskTick) (since old : List ℕ) → Aged t.tick since (map suc old)
    → Aged t.tick (entered t since) (ages_in t old)
aged_in t since old h =
    let n = standing t - length since in
    let same : length since ≡ length (map suc old) = same_length t.tick since (map suc old) h in
    let size : length (map suc old) ≡ length old = length-map old suc in
    let count : min n (MAX_UNFINISHED - length (map suc old)) ≡ followed t - length old =
    omega (arith, same, size) in
    subst (λ k. Aged t.tick (entered t since) (map suc old ++ replicate k 1)) count
    (some_new t.tick n since (map suc old) h)

aged_behind : (tick : ℕ) (since old : List ℕ) → Aged tick since old
    → Aged tick (later since) (later old)
aged_behind tick [] [] h = tt
aged_behind tick [] (n ∷ old) h = absurd h
aged_behind tick (s ∷ since) [] h = absurd h
aged_behind tick (s ∷ since) (n ∷ old) h = h.2

aged_next : (t : TaskTick) (since old : List ℕ) → Aged t.tick (entered t since) (ages_in t old)
    → Aged t.tick (cond (leaves t) (later (entered t since)) (entered t since)) (ages_next t old)
aged_next t since old h = go (leaves t)
  where
    go : (b : Bool) → Aged t.tick (cond b (later (entered t since)) (entered t since))
        (cond b (later (ages_in t old)) (ages_in t old))
    go true = aged_behind t.tick (entered t since) (ages_in t old) h
    go false = h

-- ---- ticks

-- in the last tick, and after it
in_tick : (t : TaskTick) (before : List TaskTick) → AreNumbered tick_of (t ∷ before)
    → Aged t.tick (entered t (ready_since before)) (ages_in t (label_after ages before))
in_tick t [] h = aged_in t [] [] tt
in_tick t (u ∷ before) h =
    let last : Aged u.tick (ready_since (u ∷ before)) (label_after ages (u ∷ before)) =
    aged_next u (ready_since before) (label_after ages before) (in_tick u before h.1) in
    let older : Aged (suc u.tick) (ready_since (u ∷ before))
    (map suc (label_after ages (u ∷ before))) =
    a_tick_older u.tick (ready_since (u ∷ before)) (label_after ages (u ∷ before)) last in
    aged_in t (ready_since (u ∷ before)) (label_after ages (u ∷ before))
    (subst (λ k. Aged k (ready_since (u ∷ before)) (map suc (label_after ages (u ∷ before))))
    (sym h.0) older)

after_tick : (t : TaskTick) (before : List TaskTick) → AreNumbered tick_of (t ∷ before)
    → Aged t.tick (ready_since (t ∷ before)) (label_after ages (t ∷ before))
after_tick t before h = aged_next t (ready_since before) (label_after ages before)
    (in_tick t before h)

-- ---- the laws

oldest_is : (tick : ℕ) (since old : List ℕ) → Aged tick since old
    → oldest_response tick since ≡ reached tick (oldest old)
oldest_is tick [] [] h = refl
oldest_is tick [] (n ∷ old) h = absurd h
oldest_is tick (s ∷ since) [] h = absurd h
oldest_is tick (s ∷ since) (n ∷ old) h =
    ap (λ k. Some (record { ticks = capped k; at = tick })) (sym h.1)

pub oldest_is_age : OldestIsAge
oldest_is_age t before h = oldest_is t.tick (ready_since (t ∷ before))
    (label_after ages (t ∷ before)) (after_tick t before h)

leaving_is : (t : TaskTick) (since old : List ℕ)
    → oldest_response t.tick (entered t since) ≡ reached t.tick (oldest (ages_in t old))
    → cond (leaves t) (oldest_response t.tick (entered t since)) None
    ≡ reached t.tick (leaving_age t old)
leaving_is t since old e = go (leaves t)
  where
    go : (b : Bool) → cond b (oldest_response t.tick (entered t since)) None
        ≡ reached t.tick (cond b (oldest (ages_in t old)) None)
    go true = e
    go false = refl

numbered_before : (t : TaskTick) (before : List TaskTick) → AreNumbered tick_of (t ∷ before)
    → AreNumbered tick_of before
numbered_before t [] h = tt
numbered_before t (u ∷ before) h = h.1

responses_are : (seen : List TaskTick) → AreNumbered tick_of seen
    → responses seen ≡ all_shown ages tick_of leaving_age seen
responses_are [] h = refl
responses_are (t ∷ before) h =
    let since = ready_since before in
    let old = label_after ages before in
    let here : cond (leaves t) (oldest_response t.tick (entered t since)) None
    ≡ reached t.tick (leaving_age t old) =
    leaving_is t since old (oldest_is t.tick (entered t since) (ages_in t old)
    (in_tick t before h)) in
    λ i. put (here i) (responses_are before (numbered_before t before h) i)

longest : (seen : List TaskTick) → (response_figures seen).spread.greatest ≡ worst (responses seen)
unfolding response_figures spread
longest seen = refl

pub responses_are_ages : ResponsesAreAges
responses_are_ages seen h =
    is_greatest ages tick_of leaving_age seen (response_figures seen).spread.greatest
    (longest seen ∙ ap worst (responses_are seen h))
