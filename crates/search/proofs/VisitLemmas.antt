-- A visit: what stays true while choices are tried, and how far it has come.
use Rattle.std.proofs.Common.{ℕ, suc, ◌+◌, ◌≡◌, ◌<◌, ◌≤◌, Bool, true, false, List, [], ◌∷◌, not, length, drop, get_or, refl, sym, ap, ◌∙◌, ◌++◌, ◌||◌, arith, add-one, ◌⊎◌, inl, inr, subst}
use Rattle.std.specs.Prelude.{Option, Some, None, IfNone, Any, Contains, slice_get}
use Rattle.std.proofs.lemmas.Bool.{cases_eq, cases_lt, false≢true, ne_eqb}
use Rattle.std.proofs.lemmas.Option.{same_Some, slice_get-get_or, slice_get_read, slice_get_within, get_or_from_slice_get}
use Rattle.search.specs.Rules.{Rules, AreKept, NoneMay, NoMoreMay, StaysNoted}
use Rattle.search.specs.Searched.{IsTried, IsVisited}
use Rattle.search.specs.Numbers.{is_in}
use Rattle.search.specs.Admitted.{IsAbove, IsCovered, IsCoveredAt, AreMore}
use Rattle.search.specs.Visited.{AreTried, AreVisited, Closes, Passes, Stays, Tries, Visits, closed_by}
use Rattle.search.proofs.NumberLemmas.{and_more, only_one}

-- what holds of a node holds of one that covers it
pub through : {N : Type 0} (r : Rules N) (P : N → Type 0) → ((y z : N) → P y → r.covers z y → P z)
    → (nodes : List N) (y : N) → P y → IsCovered r nodes y → Any P nodes
through {N} r P kept nodes y is covered = (covered.0, covered.1, covered.2, covered.3, go covered.4)
  where
    go : IsAbove r covered.1 y → P covered.1
    go (inl same) = subst P (sym same) is
    go (inr covers) = kept y covered.1 is covers

-- each node is covered by that of its number, so by some
abbrev pub Grows : {N : Type 0} → Rules N → List N → List N → Type 0
Grows {N} r before after = (k : ℕ) (x : N) → slice_get before k ≡ Some x → IsCoveredAt r after k x

pub at_number : {N : Type 0} (nodes : List N) (x : N) → (there : Contains nodes x) → slice_get nodes there.0 ≡ Some x
at_number nodes x there = slice_get_read nodes (length nodes) there.0 x refl there.1 (sym there.2)

covered : {N : Type 0} (r : Rules N) (before after : List N) → Grows r before after → (x : N) → Contains before x → IsCovered r after x
covered r before after grows x there =
    let at = grows there.0 x (at_number before x there) in
    (there.0, at.node, slice_get_within after there.0 at.node at.here, get_or_from_slice_get after there.0 at.node at.node at.here, at.above)

module _ {N : Type 0} (r : Rules N) (kept : AreKept r) where
  -- what covers a node that covers another covers that one too
  pub above_again : (x y z : N) → IsAbove r y x → IsAbove r z y → IsAbove r z x
  above_again x y z (inl same) above = subst (λ (w : N). IsAbove r z w) same above
  above_again x y z (inr covers) (inl same) = inr (subst (λ (w : N). r.covers w x) (sym same) covers)
  above_again x y z (inr covers) (inr more) = inr (kept.joined z y x more covers)

  grows_more : (first second third : List N) → Grows r first second → Grows r second third → Grows r first third
  grows_more first second third one other k x there =
      let y = one k x there in
      let z = other k y.node y.here in
      record { node = z.node; here = z.here; above = above_again x y.node z.node y.above z.above }

  pub grown : (P : N → Type 0) → ((y z : N) → P y → r.covers z y → P z) → (before after : List N) → Grows r before after
      → Any P before → Any P after
  grown P keeps before after grows some = through r P keeps after some.1 some.4 (covered r before after grows some.1 (some.0, some.2, some.3))

  pub first_grows : (before after : List N) → Grows r before after → Any r.is_first before → Any r.is_first after
  first_grows = grown r.is_first kept.first

  next_grows : (x : N) (choice : ℕ) (before after : List N) → Grows r before after
      → Any (r.is_next x choice) before → Any (r.is_next x choice) after
  next_grows x choice = grown (r.is_next x choice) (λ y z. kept.next x y z choice)

  module _ {X : Type 0} (is_noted : X → N → ℕ → Type 0) (s t : X) (stays : StaysNoted is_noted s t) where
    tried_grows : (before after : List N) (x : N) (choice : ℕ) → Grows r before after
        → IsTried r (is_noted s) before x choice → IsTried r (is_noted t) after x choice
    tried_grows before after x choice grows tried = record {
      next = next_grows x choice before after grows tried.next;
      noted = stays x choice tried.noted;
    }

    pub visited_grows : (before after : List N) (x : N) → Grows r before after → IsVisited r (is_noted s) before x → IsVisited r (is_noted t) after x
    visited_grows before after x grows visited choice may = tried_grows before after x choice grows (visited choice may)

    -- a choice was tried in the node of a number
    module _ (before after : List N) (numbers more : List ℕ) (number choice : ℕ) (tries : Tries r (is_noted t) before numbers after more number choice) where
      here : IsTried r (is_noted t) after tries.from choice
      here = record {
        next = through r (r.is_next tries.from choice) (λ y z. kept.next tries.from y z choice) after tries.to tries.next tries.admits.covered;
        noted = tries.noted;
      }

      others : AreVisited r (is_noted s) before numbers → AreVisited r (is_noted t) after more
      others visited k x closed = visited_grows before after x tries.admits.grows (visited k x (tries.admits.stays k x closed))

-- how far a visit has come
pub record IsVisiting {N : Type 0} (r : Rules N) (is_noted : N → ℕ → Type 0) (start : List N) (start_numbers : List ℕ) (nodes : List N)
    (numbers : List ℕ) (number from : ℕ) : Type 0 where
  pub inside : number < length nodes
  pub first : Any r.is_first start → Any r.is_first nodes
  pub others : AreVisited r is_noted nodes numbers
  pub grows : Grows r start nodes
  pub last : AreMore start_numbers numbers
  pub same : Stays start nodes number
  pub tried : (x : N) → slice_get nodes number ≡ Some x → AreTried r is_noted nodes x from

module _ {N : Type 0} (r : Rules N) (kept : AreKept r) {X : Type 0} (is_noted : X → N → ℕ → Type 0) (s t : X) (stays : StaysNoted is_noted s t)
    (start before after : List N) (start_numbers numbers more : List ℕ) (number from choice : ℕ)
    (visiting : IsVisiting r (is_noted s) start start_numbers before numbers number from)
    (tries : Tries r (is_noted t) before numbers after more number choice) where
  -- the node stands there still
  tried_one : (x : N) → slice_get before number ≡ Some x → from ≤ choice → NoneMay r x from choice → AreTried r (is_noted t) after x (suc choice)
  tried_one x is high none c low may = go (cases_lt c from) (cases_eq c choice)
    where
      same : tries.from ≡ x
      same = same_Some tries.from x (sym tries.here ∙ is)

      go : (c < from) ⊎ (from ≤ c) → (c ≡ choice) ⊎ (c ≡ choice → ⊥) → IsTried r (is_noted t) after x c
      go (inl below) other = tried_grows r kept is_noted s t stays before after x c tries.admits.grows (visiting.tried x is c below may)
      go (inr above) (inl is_this) =
          subst (IsTried r (is_noted t) after x) (sym is_this)
          (subst (λ (z : N). IsTried r (is_noted t) after z choice) same (here r kept is_noted s t stays before after numbers more number choice tries))
      go (inr above) (inr other) = absurd (none c above (omega (arith, low, other)) may)

  pub goes_on : (x : N) → slice_get before number ≡ Some x → from ≤ choice → NoneMay r x from choice → Stays before after number
      → IsVisiting r (is_noted t) start start_numbers after more number (choice + 1)
  goes_on x is high none stands = record {
    inside = (let low = visiting.inside in let longer = tries.admits.more in omega (arith, low, longer));
    first = λ some. first_grows r kept before after tries.admits.grows (visiting.first some);
    others = others r kept is_noted s t stays before after numbers more number choice tries visiting.others;
    grows = grows_more r kept start before after visiting.grows tries.admits.grows;
    last = and_more start_numbers numbers more visiting.last tries.admits.last;
    same = λ y there. stands y (visiting.same y there);
    tried = λ y at.
        subst (AreTried r (is_noted t) after y) (sym (add-one choice))
        (subst (λ (z : N). AreTried r (is_noted t) after z (suc choice)) (same_Some x y (sym (stands x is) ∙ at)) (tried_one x is high none));
  }

  -- the node was joined with what comes of it
  pub again : Visits r (is_noted t) start start_numbers after more number false
  again = record {
    first = λ some. first_grows r kept before after tries.admits.grows (visiting.first some);
    visited = others r kept is_noted s t stays before after numbers more number choice tries visiting.others;
    grows = grows_more r kept start before after visiting.grows tries.admits.grows;
    last = and_more start_numbers numbers more visiting.last tries.admits.last;
    done = λ is. absurd (false≢true is);
  }

-- ---- what was noted stays noted

pub visited_stays : {N : Type 0} (r : Rules N) {X : Type 0} (is_noted : X → N → ℕ → Type 0) (s t : X) → StaysNoted is_noted s t
    → (nodes : List N) (x : N) → IsVisited r (is_noted s) nodes x → IsVisited r (is_noted t) nodes x
visited_stays r is_noted s t stays nodes x visited choice may =
    let tried = visited choice may in
    record { next = tried.next; noted = stays x choice tried.noted }

-- a choice repeats a lower one, which was tried
module _ {N : Type 0} (r : Rules N) {X : Type 0} (is_noted : X → N → ℕ → Type 0) (s t : X) (stays : StaysNoted is_noted s t)
    (start before after : List N) (start_numbers numbers more : List ℕ) (number from choice : ℕ)
    (visiting : IsVisiting r (is_noted s) start start_numbers before numbers number from)
    (passes : Passes r (is_noted t) before numbers after more number choice) where
  tried_still : (x : N) → slice_get before number ≡ Some x → (c : ℕ) → c < from → r.may x c → IsTried r (is_noted t) before x c
  tried_still x is c low may =
      let tried = visiting.tried x is c low may in
      record { next = tried.next; noted = stays x c tried.noted }

  -- as the lower one was
  tried_by : NoneMay r passes.from from choice → IsTried r (is_noted t) before passes.from choice
  tried_by none = go (cases_lt passes.lower from)
    where
      by : IsTried r (is_noted t) before passes.from passes.lower → IsTried r (is_noted t) before passes.from choice
      by tried =
          let some = tried.next in
          record { next = (some.0, some.1, some.2, some.3, passes.repeats.next some.1 some.4); noted = passes.repeats.noted tried.noted }

      go : (passes.lower < from) ⊎ (from ≤ passes.lower) → IsTried r (is_noted t) before passes.from choice
      go (inl below) = by (tried_still passes.from passes.here passes.lower below passes.repeats.may)
      go (inr above) = absurd (none passes.lower above passes.repeats.low passes.repeats.may)

  tried_all : NoneMay r passes.from from choice → AreTried r (is_noted t) before passes.from (suc choice)
  tried_all none c low may = go (cases_lt c from) (cases_eq c choice)
    where
      go : (c < from) ⊎ (from ≤ c) → (c ≡ choice) ⊎ (c ≡ choice → ⊥) → IsTried r (is_noted t) before passes.from c
      go (inl below) other = tried_still passes.from passes.here c below may
      go (inr above) (inl is_this) = subst (IsTried r (is_noted t) before passes.from) (sym is_this) (tried_by none)
      go (inr above) (inr other) = absurd (none c above (omega (arith, low, other)) may)

  passed : NoneMay r passes.from from choice → IsVisiting r (is_noted t) start start_numbers before numbers number (choice + 1)
  passed none = record {
    inside = visiting.inside;
    first = visiting.first;
    others = λ k y closed. visited_stays r is_noted s t stays before y (visiting.others k y closed);
    grows = visiting.grows;
    last = visiting.last;
    same = visiting.same;
    tried = λ y at.
        subst (AreTried r (is_noted t) before y) (sym (add-one choice))
        (subst (λ (z : N). AreTried r (is_noted t) before z (suc choice)) (same_Some passes.from y (sym passes.here ∙ at)) (tried_all none));
  }

  pub goes_past : (x : N) → slice_get before number ≡ Some x → NoneMay r x from choice
      → IsVisiting r (is_noted t) start start_numbers after more number (choice + 1)
  goes_past x is none =
      subst (λ (l : List N). IsVisiting r (is_noted t) start start_numbers l more number (choice + 1)) (sym passes.nodes)
      (subst (λ (k : List ℕ). IsVisiting r (is_noted t) start start_numbers before k number (choice + 1)) (sym passes.numbers)
      (passed (subst (λ (z : N). NoneMay r z from choice) (same_Some x passes.from (sym is ∙ passes.here)) none)))

-- no choice is left
pub ends : {N : Type 0} (r : Rules N) (is_noted : N → ℕ → Type 0) (start nodes : List N) (start_numbers numbers : List ℕ) (number from : ℕ)
    → IsVisiting r is_noted start start_numbers nodes numbers number from → (x : N) → slice_get nodes number ≡ Some x → NoMoreMay r x from
    → Visits r is_noted start start_numbers nodes numbers number true
ends {N} r is_noted start nodes start_numbers numbers number from visiting x is none = record {
  first = visiting.first;
  visited = visiting.others;
  grows = visiting.grows;
  last = visiting.last;
  done = λ _ y there.
      (visiting.same y there, λ choice may. each y (visiting.same y there) choice may (cases_lt choice from));
}
  where
    each : (y : N) → slice_get nodes number ≡ Some y → (choice : ℕ) → r.may y choice → (choice < from) ⊎ (from ≤ choice)
        → IsTried r is_noted nodes y choice
    each y at choice may (inl below) = visiting.tried y at choice below may
    each y at choice may (inr above) = absurd (none choice above (subst (λ (z : N). r.may z choice) (same_Some y x (sym at ∙ is)) may))

pub closes_stays : {N : Type 0} (r : Rules N) {X : Type 0} (is_noted : X → N → ℕ → Type 0) (s t : X) → StaysNoted is_noted s t
    → (before after : List N) (numbers more : List ℕ) (closed : ℕ) → Closes r (is_noted s) before numbers after more closed
    → Closes r (is_noted t) before numbers after more closed
closes_stays r is_noted s t stays before after numbers more closed closes = record {
  first = closes.first;
  visited = λ k x at. visited_stays r is_noted s t stays after x (closes.visited k x at);
  grows = closes.grows;
  last = closes.last;
  done = λ k x first here. visited_stays r is_noted s t stays after x (closes.done k x first here);
}

-- ---- the node that was visited is closed

-- it waits still
pub still_open : {N : Type 0} (r : Rules N) (is_noted : N → ℕ → Type 0) (before after : List N) (numbers more : List ℕ) (number : ℕ)
    → Visits r is_noted before numbers after more number false → Closes r is_noted before numbers after more 0
still_open r is_noted before after numbers more number visits = record {
  first = visits.first;
  visited = visits.visited;
  grows = visits.grows;
  last = visits.last;
  done = λ k x first. absurd (false≢true first);
}

-- it is closed
module _ {N : Type 0} (r : Rules N) (is_noted : N → ℕ → Type 0) (before after : List N) (number first : ℕ) (numbers opened : List ℕ)
    (visits : Visits r is_noted before (first ∷ numbers) after opened number true) (is_first : first ≡ number) (low : number < length before) where
  same_opened : opened ≡ first ∷ (numbers ++ visits.last.more)
  same_opened = visits.last.same

  visited_here : (x : N) → slice_get after number ≡ Some x → IsVisited r is_noted after x
  visited_here x at =
      let y = get_or before number x in
      let is = visits.done refl y (slice_get-get_or before number x low) in
      subst (IsVisited r is_noted after) (same_Some y x (sym is.0 ∙ at)) is.1

  all_visited : AreVisited r is_noted after (drop 1 opened)
  all_visited k x at = go (cases_eq k number)
    where
      go : (k ≡ number) ⊎ (k ≡ number → ⊥) → IsVisited r is_noted after x
      go (inl same) = visited_here x (subst (λ j. slice_get after j ≡ Some x) same at.here)
      go (inr other) =
          visits.visited k x (record {
            here = at.here;
            closed =
                ap (is_in k) same_opened
                ∙ ap (λ b. b || is_in k (numbers ++ visits.last.more)) (ne_eqb k first (λ same. other (same ∙ is_first)))
                ∙ sym (ap (λ ks. is_in k (drop 1 ks)) same_opened) ∙ at.closed;
          })

  first_closed : Closes r is_noted before (first ∷ numbers) after (drop 1 opened) 1
  first_closed = record {
    first = visits.first;
    visited = all_visited;
    grows = visits.grows;
    last = record { more = visits.last.more; same = ap (drop 1) same_opened };
    done = λ k x is here.
        let same : k ≡ number = only_one k first is ∙ is_first in
        (visits.done refl x (subst (λ j. slice_get before j ≡ Some x) same here)).1;
  }

closed_first : {N : Type 0} (r : Rules N) (is_noted : N → ℕ → Type 0) (before after : List N) (numbers opened : List ℕ) (number : ℕ)
    → Visits r is_noted before numbers after opened number true → slice_get numbers 0 ≡ Some number → number < length before
    → Closes r is_noted before numbers after (drop 1 opened) 1
closed_first r is_noted before after [] opened number visits is low = absurd (let none = slice_get_within [] 0 number is in omega (arith, none))
closed_first r is_noted before after (first ∷ numbers) opened number visits is low =
    first_closed r is_noted before after number first numbers opened visits (same_Some first number is) low

-- whether or not the search goes on
pub stays_open : {N : Type 0} (r : Rules N) (is_noted : N → ℕ → Type 0) (before after : List N) (numbers more : List ℕ) (number : ℕ) (is_done : Bool)
    → not is_done ≡ true → {O : Type 0} (o : Option O) → IfNone o (Visits r is_noted before numbers after more number is_done)
    → IfNone o (Closes r is_noted before numbers after more (closed_by is_done))
stays_open r is_noted before after numbers more number false is None visits = still_open r is_noted before after numbers more number visits
stays_open r is_noted before after numbers more number false is (Some x) visits = visits
stays_open r is_noted before after numbers more number true is o visits = absurd (false≢true is)

pub gets_closed : {N : Type 0} (r : Rules N) {X : Type 0} (is_noted : X → N → ℕ → Type 0) (s t : X) → StaysNoted is_noted s t
    → (before after nodes : List N) (numbers more left : List ℕ) (number : ℕ) (is_done : Bool) → not is_done ≡ false → nodes ≡ after → left ≡ drop 1 more
    → slice_get numbers 0 ≡ Some number → number < length before → {O : Type 0} (o : Option O)
    → IfNone o (Visits r (is_noted s) before numbers after more number is_done)
    → IfNone o (Closes r (is_noted t) before numbers nodes left (closed_by is_done))
gets_closed r is_noted s t stays before after nodes numbers more left number true is same alike first low None visits =
    subst (λ v. Closes r (is_noted t) before numbers v left 1) (sym same)
    (subst (λ ks. Closes r (is_noted t) before numbers after ks 1) (sym alike)
    (closes_stays r is_noted s t stays before after numbers (drop 1 more) 1
    (closed_first r (is_noted s) before after numbers more number visits first low)))
gets_closed r is_noted s t stays before after nodes numbers more left number true is same alike first low (Some x) visits = visits
gets_closed r is_noted s t stays before after nodes numbers more left number false is same alike first low o visits = absurd (false≢true (sym is))
