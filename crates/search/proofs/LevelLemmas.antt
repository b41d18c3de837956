-- Level by level: what a visit does to the level that is under way.
use Rattle.std.proofs.Common.{ℕ, suc, ◌+◌, ◌-◌, ◌≡◌, ◌<◌, ◌≤◌, Bool, true, false, cond, List, [], ◌++◌, take, drop, length, refl, sym, ap, ◌∙◌, arith, add-one, ◌⊎◌, inl, inr, subst}
use Rattle.std.specs.Prelude.{Some, Any, Contains, nat_lt, slice_get}
use Rattle.std.proofs.lemmas.Bool.{cases_lt, false≢true, lt-ltb}
use Rattle.std.proofs.lemmas.List.{take_all}
use Rattle.search.specs.Rules.{Rules, AreKept, StaysNoted}
use Rattle.search.specs.Searched.{IsVisited}
use Rattle.search.specs.Levels.{IsVisitedAbove, HasLevels}
use Rattle.search.specs.Numbers.{is_in}
use Rattle.search.specs.Admitted.{IsAbove}
use Rattle.search.specs.Visited.{AreVisited, Closes}
use Rattle.search.proofs.NumberLemmas.{first_or_behind}
use Rattle.search.proofs.VisitLemmas.{above_again, at_number, visited_grows, visited_stays}

-- a node has a number that is still to be visited in the level
pub record IsWaiting {N : Type 0} (nodes : List N) (waiting : List ℕ) (x : N) : Type 0 where
  pub number : ℕ
  pub there : is_in number waiting ≡ true
  pub here : slice_get nodes number ≡ Some x

-- a node of the level: one that is it, or covers it, was visited or is still to be
pub record IsUnderWay {N : Type 0} (r : Rules N) (is_noted : N → ℕ → Type 0) (nodes : List N) (waiting : List ℕ) (x : N) : Type 0 where
  pub node : N
  pub above : IsAbove r node x
  pub state : IsVisited r is_noted nodes node ⊎ IsWaiting nodes waiting node

-- so many levels are done, and of the one that is under way so many numbers are left
pub record AreUnderWay {N : Type 0} (r : Rules N) (is_noted : N → ℕ → Type 0) (nodes : List N) (numbers : List ℕ) (done left : ℕ) : Type 0 where
  pub levels : ℕ → List N
  pub first : Any r.is_first (levels 0)
  pub visited : (k : ℕ) → k < done → (x : N) → Contains (levels k) x → IsVisitedAbove r is_noted (levels (suc k)) x
  pub level : (x : N) → Contains (levels done) x → IsUnderWay r is_noted nodes (take left numbers) x

bool_cases : (b : Bool) → (b ≡ true) ⊎ (b ≡ false)
bool_cases true = inl refl
bool_cases false = inr refl

-- a level begins
begins : {N : Type 0} (r : Rules N) (is_noted : N → ℕ → Type 0) (nodes : List N) (numbers : List ℕ) → AreVisited r is_noted nodes numbers
    → (x : N) → Contains nodes x → IsUnderWay r is_noted nodes (take (length numbers) numbers) x
begins {N} r is_noted nodes numbers visited x there = record { node = x; above = inl refl; state = go (bool_cases (is_in there.0 numbers)) }
  where
    go : (is_in there.0 numbers ≡ true) ⊎ (is_in there.0 numbers ≡ false)
        → IsVisited r is_noted nodes x ⊎ IsWaiting nodes (take (length numbers) numbers) x
    go (inl is) = inr (record {
      number = there.0;
      there = ap (is_in there.0) (take_all (length numbers) numbers (omega arith)) ∙ is;
      here = at_number nodes x there;
    })
    go (inr out) = inl (visited there.0 x (record { here = at_number nodes x there; closed = out }))

pub first_level : {N : Type 0} (r : Rules N) (is_noted : N → ℕ → Type 0) (nodes : List N) (numbers : List ℕ) → Any r.is_first nodes
    → AreVisited r is_noted nodes numbers → AreUnderWay r is_noted nodes numbers 0 (length numbers)
first_level r is_noted nodes numbers first visited = record {
  levels = λ k. nodes;
  first = first;
  visited = λ k low. absurd (omega (arith, low));
  level = begins r is_noted nodes numbers visited;
}

pub levels_of : {N : Type 0} (r : Rules N) (is_noted : N → ℕ → Type 0) (nodes : List N) (numbers : List ℕ) (done left : ℕ)
    → AreUnderWay r is_noted nodes numbers done left → HasLevels r is_noted done
levels_of r is_noted nodes numbers done left under_way = record {
  levels = under_way.levels;
  are = record { first = λ _. under_way.first; visited = under_way.visited };
}

-- of no step nothing is said
pub no_level : {N : Type 0} (r : Rules N) (is_noted : N → ℕ → Type 0) → HasLevels r is_noted 0
no_level r is_noted = record {
  levels = λ k. [];
  are = record { first = λ low. absurd (omega (arith, low)); visited = λ k low. absurd (omega (arith, low)) };
}

module _ {N : Type 0} (r : Rules N) {X : Type 0} (is_noted : X → N → ℕ → Type 0) (s t : X) (stays : StaysNoted is_noted s t) where
  above_stays : (nodes : List N) (x : N) → IsVisitedAbove r (is_noted s) nodes x → IsVisitedAbove r (is_noted t) nodes x
  above_stays nodes x is = record {
    node = is.node;
    above = is.above;
    visited = visited_stays r is_noted s t stays nodes is.node is.visited;
  }

  pub levels_stay : (count : ℕ) → HasLevels r (is_noted s) count → HasLevels r (is_noted t) count
  levels_stay count has = record {
    levels = has.levels;
    are = record {
      first = has.are.first;
      visited = λ k low x there. above_stays (has.levels (suc k)) x (has.are.visited k low x there);
    };
  }

  -- ---- numbers are closed

  module _ (kept : AreKept r) (before after : List N) (numbers more : List ℕ) (closed done left : ℕ)
      (under_way : AreUnderWay r (is_noted s) before numbers done left)
      (closes : Closes r (is_noted t) before numbers after more closed) where
    step : (rest : ℕ) → left ≤ closed + rest → (x : N) → Contains (under_way.levels done) x → IsUnderWay r (is_noted t) after (take rest more) x
    step rest low x there = go is.state
      where
        is : IsUnderWay r (is_noted s) before (take left numbers) x
        is = under_way.level x there

        waits : IsWaiting before (take left numbers) is.node → IsUnderWay r (is_noted t) after (take rest more) x
        waits wait =
            at (first_or_behind wait.number left closed rest numbers closes.last.more low wait.there)
          where
            at : (is_in wait.number (take closed numbers) ≡ true) ⊎ (is_in wait.number (take rest (drop closed numbers ++ closes.last.more)) ≡ true)
                → IsUnderWay r (is_noted t) after (take rest more) x
            at (inl first) = record {
              node = is.node;
              above = is.above;
              state = inl (closes.done wait.number is.node first wait.here);
            }
            at (inr behind) =
                let now = closes.grows wait.number is.node wait.here in
                record {
                  node = now.node;
                  above = above_again r kept x is.node now.node is.above now.above;
                  state = inr (record {
                    number = wait.number;
                    there = ap (λ ks. is_in wait.number (take rest ks)) closes.last.same ∙ behind;
                    here = now.here;
                  });
                }

        go : IsVisited r (is_noted s) before is.node ⊎ IsWaiting before (take left numbers) is.node → IsUnderWay r (is_noted t) after (take rest more) x
        go (inl visited) = record {
          node = is.node;
          above = is.above;
          state = inl (visited_grows r kept is_noted s t stays before after is.node closes.grows visited);
        }
        go (inr wait) = waits wait

    pub goes_on : AreUnderWay r (is_noted t) after more done (left - closed)
    goes_on = record {
      levels = under_way.levels;
      first = under_way.first;
      visited = λ k low x there. above_stays (under_way.levels (suc k)) x (under_way.visited k low x there);
      level = step (left - closed) (omega arith);
    }

    -- the level is done, and the next begins
    module _ (last : left ≤ closed) where
      abbrev levels : ℕ → List N
      levels k = cond (nat_lt k (suc done)) (under_way.levels k) after

      earlier : (k : ℕ) → k ≤ done → levels k ≡ under_way.levels k
      earlier k low = ap (λ b. cond b (under_way.levels k) after) (lt-ltb k (suc done) (omega (arith, low)))

      not_below : (k : ℕ) → nat_lt k k ≡ false
      not_below k = grind arith

      newest : levels (suc done) ≡ after
      newest = ap (λ b. cond b (under_way.levels (suc done)) after) (not_below (suc done))

      visited_all : (x : N) → Contains (under_way.levels done) x → IsVisitedAbove r (is_noted t) after x
      visited_all x there = go is.state
        where
          is : IsUnderWay r (is_noted t) after (take 0 more) x
          is = step 0 (omega (arith, last)) x there

          go : IsVisited r (is_noted t) after is.node ⊎ IsWaiting after (take 0 more) is.node → IsVisitedAbove r (is_noted t) after x
          go (inl visited) = record { node = is.node; above = is.above; visited = visited }
          go (inr wait) = absurd (false≢true wait.there)

      all_visited : (k : ℕ) → k < suc done → (x : N) → Contains (levels k) x → IsVisitedAbove r (is_noted t) (levels (suc k)) x
      all_visited k low x there = go (cases_lt k done)
        where
          was : Contains (under_way.levels k) x
          was = subst (λ (v : List N). Contains v x) (earlier k (omega (arith, low))) there

          go : (k < done) ⊎ (done ≤ k) → IsVisitedAbove r (is_noted t) (levels (suc k)) x
          go (inl less) =
              subst (λ (v : List N). IsVisitedAbove r (is_noted t) v x) (sym (earlier (suc k) (omega (arith, less))))
              (above_stays (under_way.levels (suc k)) x (under_way.visited k less x was))
          go (inr this) =
              let same : k ≡ done = omega (arith, low, this) in
              subst (λ j. IsVisitedAbove r (is_noted t) (levels (suc j)) x) (sym same)
              (subst (λ (v : List N). IsVisitedAbove r (is_noted t) v x) (sym newest)
              (visited_all x (subst (λ j. Contains (under_way.levels j) x) same was)))

      next : AreUnderWay r (is_noted t) after more (suc done) (length more)
      next = record {
        levels = levels;
        first = subst (λ (v : List N). Any r.is_first v) (sym (earlier 0 (omega arith))) under_way.first;
        visited = all_visited;
        level = λ x there.
            begins r (is_noted t) after more closes.visited x (subst (λ (v : List N). Contains v x) newest there);
      }

    -- what becomes of the level, by whether it is done
    pub behind : (now_done now_left : ℕ) → (closed < left → (now_done ≡ done) × (now_left ≡ left - closed))
        → (left ≤ closed → (now_done ≡ done + 1) × (now_left ≡ length more)) → AreUnderWay r (is_noted t) after more now_done now_left
    behind now_done now_left going ended = go (cases_lt closed left)
      where
        go : (closed < left) ⊎ (left ≤ closed) → AreUnderWay r (is_noted t) after more now_done now_left
        go (inl less) =
            let is = going less in
            subst (λ d. AreUnderWay r (is_noted t) after more d now_left) (sym is.0)
            (subst (AreUnderWay r (is_noted t) after more done) (sym is.1) goes_on)
        go (inr last) =
            let is = ended last in
            subst (λ d. AreUnderWay r (is_noted t) after more d now_left) (sym (is.0 ∙ add-one done))
            (subst (AreUnderWay r (is_noted t) after more (suc done)) (sym is.1) (next last))

-- no more levels are done than visits were made
pub none_sooner : (closed left done now_done now_left opened visits : ℕ) → (closed < left → (now_done ≡ done) × (now_left ≡ left - closed))
    → (left ≤ closed → (now_done ≡ done + 1) × (now_left ≡ opened)) → done ≤ visits → now_done ≤ visits + 1
none_sooner closed left done now_done now_left opened visits going ended low = go (cases_lt closed left)
  where
    go : (closed < left) ⊎ (left ≤ closed) → now_done ≤ visits + 1
    go (inl less) = let is = (going less).0 in omega (arith, is, low)
    go (inr last) = let is = (ended last).0 in omega (arith, is, low)
