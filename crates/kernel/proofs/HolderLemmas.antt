-- Who holds each resource, by tasks that are gone over from the last to the first.
use Rattle.std.proofs.Common.{◌≡◌, ℕ, zero, suc, ◌+◌, ◌<◌, ◌≤◌, ◌==◌, Bool, true, false, cond, List, [], ◌∷◌, ◌++◌, get_or, map, set, length, refl, sym, ◌∙◌, ap, ap₂, eq-eqb, ne_eqb, ltb-true, ltb-false, arith, inl, inr}
use Rattle.std.specs.Prelude.{nat_lt, ◌||◌, Option, Some, None}
use Rattle.std.specs.List.{find, list_any}
use Rattle.std.proofs.Math.Numerals.{add-one}
use Rattle.std.proofs.Math.Path.{fun_ext}
use Rattle.std.proofs.lemmas.Bool.{true≢false, cases_eq}
use Rattle.std.proofs.lemmas.List.{append-nil, get_or-set_other, get_or-set_same, length-set, map-append, same_lists}
use Rattle.osek_base.specs.declared.ids.ResId.{ResId}
use Rattle.osek_base.specs.Lists.{below, is_empty, same_resource}
use Rattle.osek_base.specs.System.{System}
use Rattle.law_kept.specs.Kept.{Kept, Slot}
use Rattle.law_kept.specs.KeptService.{holds_in}
use Rattle.services.specs.Objects.{by_task}
use Rattle.services.proofs.RoutineLemmas.{first_here, first_later, first_nowhere}
use Rattle.seen_ticks.proofs.SeenSteps.{read_at, seen_count}
use Rattle.kernel.specs.Holders.{all_noted, holder_from, holders_in, noted, resource_at}

holds_not : (r : ResId) (held : List ResId) → is_empty held ≡ true → list_any (same_resource r) held ≡ false
holds_not r [] h = refl
holds_not r (x ∷ xs) h = absurd (true≢false (sym h))

module _ (slots : List Slot) (declared t : ℕ) where
  -- a task that holds a resource is its first holder of those from it on
  pub holds_first : (k : ℕ) → t < length slots → holds_in (resource_at declared k) (by_task slots t) ≡ true
      → Some t ≡ holder_from slots declared t k
  holds_first k low h = sym (first_here (λ u. holds_in (resource_at declared k) (by_task slots u)) (length slots) t low h)

  -- one that doesn't leaves the first of those behind it
  pub leaves_first : (k : ℕ) → t < length slots → holds_in (resource_at declared k) (by_task slots t) ≡ false
      → holder_from slots declared (t + 1) k ≡ holder_from slots declared t k
  leaves_first k low h = sym (first_later (λ u. holds_in (resource_at declared k) (by_task slots u)) (length slots) t low h)

  -- and so one that holds nothing leaves all
  pub leaves_all : t < length slots → is_empty (by_task slots t).held ≡ true → (n : ℕ)
      → map (holder_from slots declared (t + 1)) (below n) ≡ map (holder_from slots declared t) (below n)
  leaves_all low none n =
      ap (λ (f : ℕ → Option ℕ). map f (below n))
      (fun_ext (λ k. leaves_first k low (holds_not (resource_at declared k) (by_task slots t).held none)))

-- behind the last task there is no holder
pub none_from : (slots : List Slot) (declared n : ℕ) (t : ℕ) → t ≡ length slots
    → map (λ k. None) (below n) ≡ map (holder_from slots declared t) (below n)
none_from slots declared n t all =
    ap (λ (f : ℕ → Option ℕ). map f (below n))
    (fun_ext (λ k. sym (first_nowhere (λ u. holds_in (resource_at declared k) (by_task slots u)) (length slots) t all)))

-- ---- what a task holds

-- where one place of all is set
set_below : {X : Type 0} (f : ℕ → X) (n i : ℕ) (x : X) → i < n
    → set (map f (below n)) i x ≡ map (λ k. cond (k == i) x (f k)) (below n)
set_below {X = X} f n i x low =
    let xs = map f (below n) in
    let g : ℕ → X = λ k. cond (k == i) x (f k) in
    let ys = map g (below n) in
    let long : length xs ≡ n = seen_count f n xs refl in
    let same : length (set xs i x) ≡ n = length-set xs i x ∙ long in
    same_lists (set xs i x) ys (same ∙ sym (seen_count g n ys refl)) (λ k d h.
    let low_k : k < n = omega (arith, same, h) in
    let there : get_or ys k d ≡ g k = read_at g n ys ys k k d refl refl refl low_k in
    elim (cases_eq k i) [
      | inl e ↦
          ap (λ j. get_or (set xs i x) j d) e ∙ get_or-set_same xs i x d (omega (arith, long, low))
          ∙ sym (there ∙ ap (λ b. cond b x (f k)) (eq-eqb k i e))
      | inr ne ↦
          get_or-set_other xs i k x d ne ∙ read_at f n xs xs k k d refl refl refl low_k
          ∙ sym (there ∙ ap (λ b. cond b x (f k)) (ne_eqb k i ne))
    ])

same_below : {X : Type 0} (f g : ℕ → X) (n : ℕ) → ((k : ℕ) → k < n → f k ≡ g k) → map f (below n) ≡ map g (below n)
same_below f g zero h = refl
same_below f g (suc n) h =
    map-append f (below n) (n ∷ [])
    ∙ ap₂ (λ xs y. xs ++ y ∷ []) (same_below f g n (λ k low. h k (omega (arith, low)))) (h n (omega arith))
    ∙ sym (map-append g (below n) (n ∷ []))

module _ (declared : ℕ) where
  abbrev is_place : ResId → ℕ → Bool
  is_place r k = same_resource (resource_at declared k) r

  -- which resource a place has, by whether it is the last
  chosen : (r : ResId) (k : ℕ) (b : Bool) → (k == declared) ≡ b
      → is_place r k ≡ same_resource (cond b ResId.Scheduler (ResId.Declared k)) r
  chosen r k b e = ap (λ c. same_resource (cond c ResId.Scheduler (ResId.Declared k)) r) e

  -- a declared resource has the place of its number
  declared_at : (n k : ℕ) → n < declared → (k == n) ≡ is_place (ResId.Declared n) k
  declared_at n k low =
      elim (cases_eq k declared) [
        | inl e ↦ ne_eqb k n (λ h. omega (arith, e, h, low)) ∙ sym (chosen (ResId.Declared n) k true (eq-eqb k declared e))
        | inr ne ↦ sym (chosen (ResId.Declared n) k false (ne_eqb k declared ne))
      ]

  -- one that isn't declared has none
  nowhere_at : (n k : ℕ) → declared ≤ n → k < declared + 1 → is_place (ResId.Declared n) k ≡ false
  nowhere_at n k high low =
      elim (cases_eq k declared) [
        | inl e ↦ chosen (ResId.Declared n) k true (eq-eqb k declared e)
        | inr ne ↦
            chosen (ResId.Declared n) k false (ne_eqb k declared ne) ∙ ne_eqb k n (λ h. ne (omega (arith, h, high, low)))
      ]

  -- RES_SCHEDULER has the one behind them
  scheduler_at : (k : ℕ) → (k == declared) ≡ is_place ResId.Scheduler k
  scheduler_at k =
      elim (cases_eq k declared) [
        | inl e ↦ eq-eqb k declared e ∙ sym (chosen ResId.Scheduler k true (eq-eqb k declared e))
        | inr ne ↦ ne_eqb k declared ne ∙ sym (chosen ResId.Scheduler k false (ne_eqb k declared ne))
      ]

  joined : {X : Type 0} (a b : Bool) (x y : X) → cond b x (cond a x y) ≡ cond (a || b) x y
  joined true true x y = refl
  joined true false x y = refl
  joined false b x y = refl

  module _ (t m : ℕ) (least : declared ≤ m) (most : m ≤ declared + 1) where
    -- what stands in each place, where a task holds a resource
    one_noted : (r : ResId) (f : ℕ → Option ℕ)
        → noted declared t r (map f (below m)) ≡ map (λ k. cond (is_place r k) (Some t) (f k)) (below m)
    one_noted (ResId.Declared n) f = go (nat_lt n declared) refl
      where
        go : (b : Bool) → nat_lt n declared ≡ b
            → cond b (set (map f (below m)) n (Some t)) (map f (below m))
            ≡ map (λ k. cond (is_place (ResId.Declared n) k) (Some t) (f k)) (below m)
        go true e =
            let low : n < declared = ltb-true n declared e in
            set_below f m n (Some t) (omega (arith, low, least))
            ∙ same_below (λ k. cond (k == n) (Some t) (f k)) (λ k. cond (is_place (ResId.Declared n) k) (Some t) (f k)) m
            (λ k here. ap (λ c. cond c (Some t) (f k)) (declared_at n k low))
        go false e =
            same_below f (λ k. cond (is_place (ResId.Declared n) k) (Some t) (f k)) m
            (λ k here. sym (ap (λ c. cond c (Some t) (f k)) (nowhere_at n k (ltb-false n declared e) (omega (arith, here, most)))))
    one_noted ResId.Scheduler f = go (nat_lt declared (length (map f (below m)))) refl
      where
        go : (b : Bool) → nat_lt declared (length (map f (below m))) ≡ b
            → cond b (set (map f (below m)) declared (Some t)) (map f (below m))
            ≡ map (λ k. cond (is_place ResId.Scheduler k) (Some t) (f k)) (below m)
        go true e =
            let long : length (map f (below m)) ≡ m = seen_count f m (map f (below m)) refl in
            let low : declared < length (map f (below m)) = ltb-true declared (length (map f (below m))) e in
            set_below f m declared (Some t) (omega (arith, low, long))
            ∙ same_below (λ k. cond (k == declared) (Some t) (f k)) (λ k. cond (is_place ResId.Scheduler k) (Some t) (f k)) m
            (λ k here. ap (λ c. cond c (Some t) (f k)) (scheduler_at k))
        go false e =
            let long : length (map f (below m)) ≡ m = seen_count f m (map f (below m)) refl in
            let high : length (map f (below m)) ≤ declared = ltb-false declared (length (map f (below m))) e in
            same_below f (λ k. cond (is_place ResId.Scheduler k) (Some t) (f k)) m
            (λ k here. sym (ap (λ c. cond c (Some t) (f k))
            (sym (scheduler_at k) ∙ ne_eqb k declared (λ h. omega (arith, h, here, high, long)))))

    -- and where it holds some
    some_noted : (rs : List ResId) (f : ℕ → Option ℕ)
        → all_noted declared t rs (map f (below m))
        ≡ map (λ k. cond (list_any (same_resource (resource_at declared k)) rs) (Some t) (f k)) (below m)
    some_noted [] f = refl
    some_noted (r ∷ rs) f =
        ap (all_noted declared t rs) (one_noted r f) ∙ some_noted rs (λ k. cond (is_place r k) (Some t) (f k))
        ∙ ap (λ (g : ℕ → Option ℕ). map g (below m))
        (fun_ext (λ k. joined (is_place r k) (list_any (same_resource (resource_at declared k)) rs) (Some t) (f k)))

    -- what a task holds is noted behind what those behind it hold
    pub held_noted : (slots : List Slot) → t < length slots
        → all_noted declared t (by_task slots t).held (map (holder_from slots declared (t + 1)) (below m))
        ≡ map (holder_from slots declared t) (below m)
    held_noted slots low =
        some_noted (by_task slots t).held (holder_from slots declared (t + 1))
        ∙ ap (λ (g : ℕ → Option ℕ). map g (below m))
        (fun_ext (λ k. at k (holds_in (resource_at declared k) (by_task slots t)) refl))
      where
        at : (k : ℕ) (b : Bool) → holds_in (resource_at declared k) (by_task slots t) ≡ b
            → cond b (Some t) (holder_from slots declared (t + 1) k) ≡ holder_from slots declared t k
        at k true e = holds_first slots declared t k low e
        at k false e = leaves_first slots declared t k low e

-- ---- all places

module _ (S : System) (o : Kept) (slots : List Slot) (same : o.slots ≡ by_task slots) (all : length slots ≡ length S.tasks) where
  abbrev first : ResId → Option ℕ
  first r = find (λ u. holds_in r (by_task slots u)) (below (length slots))

  abbrev places : ℕ → List (Option ℕ)
  places d = map (λ r. first (ResId.Declared r)) (below d)

  declared_places : (d : ℕ) → map (holder_from slots d 0) (below d) ≡ places d
  declared_places d =
      same_below (holder_from slots d 0) (λ r. first (ResId.Declared r)) d
      (λ k low. ap (λ b. first (cond b ResId.Scheduler (ResId.Declared k))) (ne_eqb k d (λ e. omega (arith, e, low))))

  all_places : (d : ℕ) (more : Bool) → map (holder_from slots d 0) (below (d + cond more 1 0)) ≡ places d ++ cond more (first ResId.Scheduler ∷ []) []
  all_places d true =
      ap (λ m. map (holder_from slots d 0) (below m)) (add-one d)
      ∙ map-append (holder_from slots d 0) (below d) (d ∷ [])
      ∙ ap₂ (λ xs y. xs ++ y ∷ []) (declared_places d) (ap (λ b. first (cond b ResId.Scheduler (ResId.Declared d))) (eq-eqb d d refl))
  all_places d false =
      let none : d + 0 ≡ d = omega arith in
      ap (λ m. map (holder_from slots d 0) (below m)) none ∙ declared_places d ∙ sym (append-nil (places d))

  abbrev in_words : (ℕ → Slot) → ℕ → ℕ → List (Option ℕ)
  in_words f n e =
      map (λ r. find (λ u. holds_in (ResId.Declared r) (f u)) (below n)) (below e)
      ++ cond S.use_res_scheduler (find (λ u. holds_in ResId.Scheduler (f u)) (below n) ∷ []) []

  -- what stands in all places is who holds each resource
  pub held_in : (d m : ℕ) (xs : List (Option ℕ)) → d ≡ length S.resources → m ≡ d + cond S.use_res_scheduler 1 0
      → xs ≡ map (holder_from slots d 0) (below m) → xs ≡ holders_in S o
  held_in d m xs count long is =
      is ∙ ap (λ j. map (holder_from slots d 0) (below j)) long ∙ all_places d S.use_res_scheduler
      ∙ ap (λ f. in_words f (length slots) d) (sym same) ∙ ap (λ n. in_words o.slots n d) all
      ∙ ap (λ e. in_words o.slots (length S.tasks) e) count
