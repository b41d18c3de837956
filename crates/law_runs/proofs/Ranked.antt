-- Who comes before whom: raised jobs beside all others, and what a job is that was dispatched.
use Rattle.std.proofs.Common.{◌≡◌, ℕ, ◌<◌, ◌≤◌, ◌⊎◌, inl, inr, Bool, true, false, cond, not, ◌&&◌, ◌||◌, nat_lt, List, [], refl, sym, ◌∙◌, ap, subst, arith}
use Rattle.std.specs.Prelude.{Option, Some}
use Rattle.std.specs.List.{AllByRecursion}
use Rattle.std.proofs.lemmas.Bool.{cases_lt}
use Rattle.osek_base.specs.declared.ids.ResId.{ResId}
use Rattle.osek_base.specs.Lists.{is_empty}
use Rattle.osek_base.specs.System.{System, priority_of}
use Rattle.osek_base.specs.State.{Job, JobId, same_id, waits, with_job}
use Rattle.osek_base.specs.Priority.{static_priority, dynamic_priority}
use Rattle.osek_base.specs.Choice.{choice}
use Rattle.osek_base.specs.GoodState.{is_raised}
use Rattle.law_runs.proofs.Lists.{some_inside, Pairs, EitherWay, clash, all_weaker, all_both, all_map, found, pairs_weaker, pairs_both, pairs_of_all, pairs_map, either_way, before_found}
use Rattle.law_runs.proofs.Foremost.{AreApart, same_self, only, static_le, foremost_too, foremost_greatest}
use Rattle.law_runs.proofs.SingleMoves.{is_ready, is_best}

-- a job before another: the later one isn't raised to where the earlier one is, and neither crosses the other's priority
pub record IsRankedPair (S : System) (x y : Job) : Type 0 where
  pub older : is_raised S y ≡ true → waits x ≡ false → static_priority S y ≤ dynamic_priority S x → dynamic_priority S x ≤ dynamic_priority S y → ⊥
  pub later_across : is_raised S x ≡ true → waits y ≡ false → static_priority S y ≤ dynamic_priority S x → dynamic_priority S y ≤ dynamic_priority S x
  pub earlier_across : is_raised S y ≡ true → waits x ≡ false → static_priority S x ≤ dynamic_priority S y → dynamic_priority S x ≤ dynamic_priority S y

-- no job before the running one lies from its static to its dynamic priority
abbrev pub IsBehind : System → Option JobId → Job → Job → Type 0
IsBehind S running x y =
    running ≡ Some y.id → waits x ≡ false → static_priority S y ≤ dynamic_priority S x → dynamic_priority S x ≤ dynamic_priority S y → ⊥

-- a job that waits holds and has taken nothing
abbrev pub IsStill : Job → Type 0
IsStill j = waits j ≡ true → (j.held ≡ []) × (j.taken ≡ false)

pub record AreRanked (S : System) (running : Option JobId) (jobs : List Job) : Type 0 where
  pub still : AllByRecursion IsStill jobs
  pub pairs : Pairs (IsRankedPair S) jobs
  pub behind : Pairs (IsBehind S running) jobs

-- the running job doesn't wait
abbrev pub HasReady : Option JobId → List Job → Type 0
HasReady running jobs = AllByRecursion (λ j. running ≡ Some j.id → waits j ≡ false) jobs

-- a job beside the dispatched one: not above it, and if raised, below its static priority
pub record IsUnder (S : System) (c k : Job) : Type 0 where
  pub top : waits k ≡ false → dynamic_priority S k ≤ dynamic_priority S c
  pub beneath : same_id k.id c.id ≡ false → is_raised S k ≡ true → dynamic_priority S k < static_priority S c

-- a job before the dispatched one lies below its static priority
abbrev pub IsBefore : System → Job → Job → Job → Type 0
IsBefore S c x y = same_id y.id c.id ≡ true → waits x ≡ false → static_priority S c ≤ dynamic_priority S x → ⊥

-- a job that was dispatched, and not changed since
pub record IsDispatched (S : System) (jobs : List Job) (c : Job) : Type 0 where
  pub ready : waits c ≡ false
  pub under : AllByRecursion (IsUnder S c) jobs
  pub before : Pairs (IsBefore S c) jobs

abbrev pub HasDispatched : System → Option JobId → List Job → Type 0
HasDispatched S running jobs = AllByRecursion (λ c. running ≡ Some c.id → IsDispatched S jobs c) jobs

-- ---- raised

pub raised_ready : (S : System) (j : Job) → is_raised S j ≡ true → waits j ≡ false
raised_ready S j h = go (waits j) refl h
  where
    go : (b : Bool) → waits j ≡ b → (not b && (not (is_empty j.held) || nat_lt (static_priority S j) (dynamic_priority S j))) ≡ true → waits j ≡ false
    go false e k = e
    go true e k = clash (sym k)

above : (e : Bool) (m n : ℕ) → m < n → (e || nat_lt m n) ≡ true
above true m n h = refl
above false m n h = grind (arith, h)

pub raised_above : (S : System) (j : Job) → waits j ≡ false → static_priority S j < dynamic_priority S j → is_raised S j ≡ true
raised_above S j ready high = rw ready (above (not (is_empty j.held)) (static_priority S j) (dynamic_priority S j) high)

not_above : (m n : ℕ) → (m < n → ⊥) → n ≤ m
not_above m n h = omega (arith, h)

pub unraised_level : (S : System) (j : Job) → waits j ≡ false → is_raised S j ≡ false → dynamic_priority S j ≤ static_priority S j
unraised_level S j ready h =
    not_above (static_priority S j) (dynamic_priority S j) (λ high. clash (sym (raised_above S j ready high) ∙ h))

-- a job that holds and has taken nothing isn't raised
pub idle_unraised : (S : System) (j : Job) → j.held ≡ [] → dynamic_priority S j ≡ static_priority S j → is_raised S j ≡ false
idle_unraised S j held level =
    go (waits j) (not (is_empty j.held)) (nat_lt (static_priority S j) (dynamic_priority S j)) (ap (λ (rs : List ResId). not (is_empty rs)) held)
    (low (static_priority S j) (dynamic_priority S j) level)
  where
    low : (m n : ℕ) → n ≡ m → nat_lt m n ≡ false
    low m n e = grind (arith, e)

    go : (w e b : Bool) → e ≡ false → b ≡ false → (not w && (e || b)) ≡ false
    go true e b h k = refl
    go false true b h k = h
    go false false b h k = k

-- ---- changes of the dispatched job

-- lower than it was
pub record IsLowered (S : System) (c d : Job) : Type 0 where
  pub id : d.id ≡ c.id
  pub down : dynamic_priority S d ≤ dynamic_priority S c
  pub raised : is_raised S d ≡ true → is_raised S c ≡ true
  pub still : IsStill d

-- higher than it was
pub record IsHeightened (S : System) (c d : Job) : Type 0 where
  pub id : d.id ≡ c.id
  pub up : dynamic_priority S c ≤ dynamic_priority S d
  pub ready : waits d ≡ false

module _ (S : System) where
  same_static : (c d : Job) → d.id ≡ c.id → static_priority S d ≡ static_priority S c
  same_static c d e = ap (λ (n : JobId). priority_of S n.task) e

  -- a job at or above its own static priority and beside a lowered one
  beside : (c d y : Job) → IsUnder S c y → same_id y.id c.id ≡ false → static_priority S c ≤ dynamic_priority S d → waits y ≡ false
      → static_priority S y ≤ dynamic_priority S d → dynamic_priority S y ≤ dynamic_priority S d
  beside c d y under other high ready le = go (is_raised S y) refl
    where
      go : (b : Bool) → is_raised S y ≡ b → dynamic_priority S y ≤ dynamic_priority S d
      go true e = let low = under.beneath other e in omega arith
      go false e = let level = unraised_level S y ready e in omega arith

  lowered_first : (c d y : Job) → IsLowered S c d → IsUnder S c y → same_id y.id c.id ≡ false → IsRankedPair S d y
  lowered_first c d y lower under other =
      let static = same_static c d lower.id in
      let own = static_le S d in
      record {
        older = λ raised ready le ge. absurd (let low = under.beneath other raised in omega arith);
        later_across = λ raised ready le. beside c d y under other (omega arith) ready le;
        earlier_across = λ raised ready le. absurd (let low = under.beneath other raised in omega arith);
      }

  lowered_second : (c d x : Job) → IsLowered S c d → IsUnder S c x → same_id x.id c.id ≡ false → IsRankedPair S x c → IsRankedPair S x d
  lowered_second c d x lower under other pair =
      let static = same_static c d lower.id in
      let own = static_le S d in
      let down = lower.down in
      record {
        older = λ raised ready le ge. pair.older (lower.raised raised) ready (omega arith) (omega arith);
        later_across = λ raised ready le. absurd (let low = under.beneath other raised in omega arith);
        earlier_across = λ raised ready le. beside c d x under other (omega arith) ready le;
      }

  heightened_first : (c d y : Job) → IsHeightened S c d → IsUnder S c y → same_id y.id c.id ≡ false → IsRankedPair S d y
  heightened_first c d y higher under other =
      let static = same_static c d higher.id in
      let own = static_le S c in
      let up = higher.up in
      record {
        older = λ raised ready le ge. absurd (let low = under.beneath other raised in omega arith);
        later_across = λ raised ready le. (let low = under.top ready in omega arith);
        earlier_across = λ raised ready le. absurd (let low = under.beneath other raised in omega arith);
      }

  heightened_second : (c d x y : Job) → IsHeightened S c d → IsUnder S c x → same_id x.id c.id ≡ false → IsBefore S c x y → same_id y.id c.id ≡ true → IsRankedPair S x d
  heightened_second c d x y higher under other before same =
      let static = same_static c d higher.id in
      let up = higher.up in
      record {
        older = λ raised ready le ge. before same ready (omega arith);
        later_across = λ raised ready le. absurd (let low = under.beneath other raised in omega arith);
        earlier_across = λ raised ready le. (let low = under.top ready in omega arith);
      }

  -- ---- the list with the dispatched job changed

  -- what a change of the dispatched job has to leave
  pub record IsRedispatch (c d : Job) : Type 0 where
    pub id : d.id ≡ c.id
    pub still : IsStill d
    pub first : (y : Job) → IsUnder S c y → same_id y.id c.id ≡ false → IsRankedPair S d y
    pub second : (x y : Job) → IsUnder S c x → same_id x.id c.id ≡ false → IsBefore S c x y → same_id y.id c.id ≡ true → IsRankedPair S x c → IsRankedPair S x d

  pub lowered : (c d : Job) → IsLowered S c d → IsRedispatch c d
  lowered c d lower = record {
    id = lower.id;
    still = lower.still;
    first = λ y under other. lowered_first c d y lower under other;
    second = λ x y under other before same pair. lowered_second c d x lower under other pair;
  }

  pub heightened : (c d : Job) → IsHeightened S c d → IsRedispatch c d
  heightened c d higher = record {
    id = higher.id;
    still = λ w. clash (sym w ∙ higher.ready);
    first = λ y under other. heightened_first c d y higher under other;
    second = λ x y under other before same pair. heightened_second c d x y higher under other before same;
  }

  module _ (f : Job → Job) (c : Job) (jobs : List Job) (apart : Pairs AreApart jobs)
      (itself : AllByRecursion (λ k. same_id k.id c.id ≡ true → k ≡ c) jobs) (dispatched : IsDispatched S jobs c) where
    abbrev pub changed : Job → Job
    changed j = cond (same_id j.id c.id) (f j) j

    -- what is known of each job, and of each two
    abbrev pub Itself : Job → Type 0
    Itself k = (same_id k.id c.id ≡ true → k ≡ c) × IsUnder S c k

    abbrev pub Beside : Job → Job → Type 0
    Beside x y = (AreApart x y × IsBefore S c x y) × (Itself x × Itself y)

    all_beside : Pairs Beside jobs
    all_beside =
        pairs_both (λ x y. AreApart x y × IsBefore S c x y) (λ x y. Itself x × Itself y) jobs
        (pairs_both AreApart (IsBefore S c) jobs apart dispatched.before)
        (pairs_of_all Itself jobs (all_both (λ k. same_id k.id c.id ≡ true → k ≡ c) (IsUnder S c) jobs itself dispatched.under))

    not_both : {Y : Type 0} (x y : Job) → AreApart x y → x ≡ c → y ≡ c → Y
    not_both x y other ex ey =
        clash (sym (same_self c.id) ∙ ap (λ (z : Job). same_id c.id z.id) (sym ex) ∙ ap (λ (z : Job). same_id z.id x.id) (sym ey) ∙ other)

    pair_changed : IsRedispatch c (f c) → (x y : Job) (a b : Bool) → same_id x.id c.id ≡ a → same_id y.id c.id ≡ b → Beside x y → IsRankedPair S x y
        → IsRankedPair S (cond a (f x) x) (cond b (f y) y)
    pair_changed again x y true true ex ey beside pair = not_both x y beside.0.0 (beside.1.0.0 ex) (beside.1.1.0 ey)
    pair_changed again x y true false ex ey beside pair =
        subst (λ z. IsRankedPair S (f z) y) (sym (beside.1.0.0 ex)) (again.first y beside.1.1.1 ey)
    pair_changed again x y false true ex ey beside pair =
        let same : y ≡ c = beside.1.1.0 ey in
        subst (λ z. IsRankedPair S x (f z)) (sym same)
        (again.second x y beside.1.0.1 ex beside.0.1 ey (subst (IsRankedPair S x) same pair))
    pair_changed again x y false false ex ey beside pair = pair

    still_changed : IsRedispatch c (f c) → (k : Job) (b : Bool) → same_id k.id c.id ≡ b → (same_id k.id c.id ≡ true → k ≡ c) → IsStill k → IsStill (cond b (f k) k)
    still_changed again k true e one still = subst (λ z. IsStill (f z)) (sym (one e)) again.still
    still_changed again k false e one still = still

    -- of the two, the later one runs
    behind_changed : IsRedispatch c (f c) → (x y : Job) (a b : Bool) → same_id x.id c.id ≡ a → same_id y.id c.id ≡ b → Beside x y
        → IsBehind S (Some c.id) (cond a (f x) x) (cond b (f y) y)
    behind_changed again x y true true ex ey beside runs ready le ge = not_both x y beside.0.0 (beside.1.0.0 ex) (beside.1.1.0 ey)
    behind_changed again x y a false ex ey beside runs ready le ge =
        clash (sym (same_self c.id) ∙ ap (λ n. same_id n c.id) (some_inside c.id y.id runs) ∙ ey)
    behind_changed again x y false true ex ey beside runs ready le ge =
        let same : y ≡ c = beside.1.1.0 ey in
        let low : static_priority S c ≤ dynamic_priority S x =
        subst (λ n. n ≤ dynamic_priority S x) (ap (λ z. static_priority S (f z)) same ∙ same_static c (f c) again.id) le in
        beside.0.1 ey ready low

    pub redispatched : IsRedispatch c (f c) → AllByRecursion IsStill jobs → Pairs (IsRankedPair S) jobs → AreRanked S (Some c.id) (with_job c.id f jobs)
    redispatched again still pairs = record {
      still = all_map (λ k. (same_id k.id c.id ≡ true → k ≡ c) × IsStill k) IsStill changed jobs
          (λ k h. still_changed again k (same_id k.id c.id) refl h.0 h.1) (all_both (λ k. same_id k.id c.id ≡ true → k ≡ c) IsStill jobs itself still);
      pairs = pairs_map (λ x y. Beside x y × IsRankedPair S x y) (IsRankedPair S) changed jobs
          (λ x y h. pair_changed again x y (same_id x.id c.id) (same_id y.id c.id) refl refl h.0 h.1) (pairs_both Beside (IsRankedPair S) jobs all_beside pairs);
      behind = pairs_map Beside (IsBehind S (Some c.id)) changed jobs
          (λ x y h. behind_changed again x y (same_id x.id c.id) (same_id y.id c.id) refl refl h) all_beside;
    }

    -- ---- it stays dispatched where it is heightened

    under_changed : IsHeightened S c (f c) → (k : Job) (b : Bool) → same_id k.id c.id ≡ b → Itself k → IsUnder S (f c) (cond b (f k) k)
    under_changed higher k true e one =
        subst (λ z. IsUnder S (f c) (f z)) (sym (one.0 e))
        (record { top = λ ready. omega arith; beneath = λ other raised. clash (sym (same_self (f c).id) ∙ other) })
    under_changed higher k false e one =
        let up = higher.up in
        let static = same_static c (f c) higher.id in
        record {
          top = λ ready. (let low = one.1.top ready in omega arith);
          beneath = λ other raised. (let low = one.1.beneath e raised in omega arith);
        }

    before_changed : IsHeightened S c (f c) → (x y : Job) (a b : Bool) → same_id x.id c.id ≡ a → same_id y.id c.id ≡ b → Beside x y
        → IsBefore S (f c) (cond a (f x) x) (cond b (f y) y)
    before_changed higher x y true true ex ey beside same ready le = not_both x y beside.0.0 (beside.1.0.0 ex) (beside.1.1.0 ey)
    before_changed higher x y a false ex ey beside same ready le = clash (sym same ∙ ap (λ n. same_id y.id n) higher.id ∙ ey)
    before_changed higher x y false true ex ey beside same ready le =
        let static = same_static c (f c) higher.id in
        beside.0.1 ey ready (omega arith)

    pub still_dispatched : IsHeightened S c (f c) → IsDispatched S (with_job c.id f jobs) (f c)
    still_dispatched higher = record {
      ready = higher.ready;
      under = all_map Itself (IsUnder S (f c)) changed jobs (λ k h. under_changed higher k (same_id k.id c.id) refl h)
          (all_both (λ k. same_id k.id c.id ≡ true → k ≡ c) (IsUnder S c) jobs itself dispatched.under);
      before = pairs_map Beside (IsBefore S (f c)) changed jobs (λ x y h. before_changed higher x y (same_id x.id c.id) (same_id y.id c.id) refl refl h) all_beside;
    }

  -- ---- the choice is dispatched

  abbrev pub IsWorse : List Job → Job → Job → Job → Type 0
  IsWorse jobs c x y = IsRankedPair S x y × ((y ≡ c → AreApart c c) ⊎ (is_best S jobs x ≡ false))

  worse_below : (jobs : List Job) (c x y : Job) → is_best S jobs c ≡ true → ((y ≡ c → AreApart c c) ⊎ (is_best S jobs x ≡ false)) → y ≡ c → waits x ≡ false
      → dynamic_priority S x < dynamic_priority S c
  worse_below jobs c x y best (inl r) same ready = clash (sym (same_self c.id) ∙ r same)
  worse_below jobs c x y best (inr worse) same ready = go (cases_lt (dynamic_priority S x) (dynamic_priority S c))
    where
      go : (dynamic_priority S x < dynamic_priority S c) ⊎ (dynamic_priority S c ≤ dynamic_priority S x) → dynamic_priority S x < dynamic_priority S c
      go (inl lt) = lt
      go (inr ge) = clash (sym (foremost_too (is_ready S) (dynamic_priority S) jobs c x best (ap not ready) ge) ∙ worse)

  lt_of_not : (m n : ℕ) → (n ≤ m → ⊥) → m < n
  lt_of_not m n h = omega (arith, h)

  pub choice_dispatched : (jobs : List Job) (c : Job) → Pairs AreApart jobs → Pairs (IsRankedPair S) jobs → choice S jobs ≡ Some c → IsDispatched S jobs c
  choice_dispatched jobs c apart pairs chosen = record {
    ready = ready;
    under = all_weaker (λ k. EitherWay (IsWorse jobs c) c k × (is_ready S k ≡ true → dynamic_priority S k ≤ dynamic_priority S c)) (IsUnder S c) jobs
        (λ k h. record { top = λ r. h.1 (ap not r); beneath = λ other raised. beneath k h.0 (h.1 (ap not (raised_ready S k raised))) other raised })
        (all_both (EitherWay (IsWorse jobs c) c) (λ k. is_ready S k ≡ true → dynamic_priority S k ≤ dynamic_priority S c) jobs here.0
        (foremost_greatest (is_ready S) (dynamic_priority S) jobs c here.1).1);
    before = pairs_weaker (λ x y. IsWorse jobs c x y × ((same_id x.id c.id ≡ true → x ≡ c) × (same_id y.id c.id ≡ true → y ≡ c))) (IsBefore S c) jobs
        (λ x y h same r le. before x y h.0 (h.1.1 same) r le) together;
  }
    where
      worse : Pairs (IsWorse jobs c) jobs
      worse = pairs_both (IsRankedPair S) (λ x y. (y ≡ c → AreApart c c) ⊎ (is_best S jobs x ≡ false)) jobs pairs (before_found AreApart (is_best S jobs) jobs c apart chosen)

      here : AllByRecursion (EitherWay (IsWorse jobs c) c) jobs × (is_best S jobs c ≡ true)
      here = found (λ x. AllByRecursion (EitherWay (IsWorse jobs c) x) jobs) (is_best S jobs) jobs c (either_way (IsWorse jobs c) jobs worse) chosen

      unwait : (b : Bool) → not b ≡ true → b ≡ false
      unwait false h = refl
      unwait true h = clash (sym h)

      ready : waits c ≡ false
      ready = unwait (waits c) (foremost_greatest (is_ready S) (dynamic_priority S) jobs c here.1).0

      beneath : (k : Job) → EitherWay (IsWorse jobs c) c k → dynamic_priority S k ≤ dynamic_priority S c → same_id k.id c.id ≡ false → is_raised S k ≡ true
          → dynamic_priority S k < static_priority S c
      beneath k (inl later) top other raised =
          lt_of_not (dynamic_priority S k) (static_priority S c)
          (λ le. later.0.older raised ready (let own = static_le S k in omega arith) (later.0.earlier_across raised ready le))
      beneath k (inr (inl earlier)) top other raised =
          lt_of_not (dynamic_priority S k) (static_priority S c)
          (λ le. (let across = earlier.0.later_across raised ready le in
          let low = worse_below jobs c k c here.1 earlier.1 refl (raised_ready S k raised) in
          absurd (omega arith)))
      beneath k (inr (inr same)) top other raised =
          clash (sym (same_self c.id) ∙ ap (λ (z : Job). same_id z.id c.id) same ∙ other)

      itself : AllByRecursion (λ y. same_id y.id c.id ≡ true → y ≡ c) jobs
      itself = only c jobs (found (λ x. AllByRecursion (EitherWay AreApart x) jobs) (is_best S jobs) jobs c (either_way AreApart jobs apart) chosen).0

      together : Pairs (λ x y. IsWorse jobs c x y × ((same_id x.id c.id ≡ true → x ≡ c) × (same_id y.id c.id ≡ true → y ≡ c))) jobs
      together = pairs_both (IsWorse jobs c) (λ x y. (same_id x.id c.id ≡ true → x ≡ c) × (same_id y.id c.id ≡ true → y ≡ c)) jobs worse
          (pairs_of_all (λ y. same_id y.id c.id ≡ true → y ≡ c) jobs itself)

      before : (x y : Job) → IsWorse jobs c x y → y ≡ c → waits x ≡ false → static_priority S c ≤ dynamic_priority S x → ⊥
      before x y h same r le =
          let low = worse_below jobs c x y here.1 h.1 same r in
          let raised : is_raised S c ≡ true = raised_above S c ready (omega arith) in
          (subst (IsRankedPair S x) same h.0).older raised r le (omega arith)
