-- What a job finds set for its own task is one of the choices, and r1 tells which.
use Rattle.std.proofs.Common.{◌≡◌, ℕ, zero, suc, ◌+◌, ◌-◌, ◌*◌, ◌^◌, ◌<◌, ◌≤◌, inl, inr, Bool, true, false, cond, ◌||◌, List, [], ◌∷◌, ◌++◌, map, length, refl, sym, ◌∙◌, ap, subst, arith, min}
use Rattle.std.specs.Prelude.{Option, Some, ◌==◌, slice_index, slice_set, nat_le, bit_and, bit_or, count_ones}
use Rattle.std.specs.Int.{bit_at}
use Rattle.std.proofs.Math.Nat.{pow-suc}
use Rattle.std.proofs.lemmas.Bool.{and_parts, cases_lt, ltb-true}
use Rattle.std.proofs.lemmas.Nat.{and_le_l, or_disjoint}
use Rattle.std.proofs.lemmas.Nat.Bits.{and_pow, bit_at-lt, bit_at_above, bit_at_and, bit_at_cat_high, bit_at_cat_low, same_from_bits}
use Rattle.osek_base.specs.declared.instr.Service.{Service}
use Rattle.osek_base.specs.declared.limits.TheConstants.{MAX_EVENTS}
use Rattle.osek_base.specs.declared.status.Status.{Status}
use Rattle.osek_base.specs.Instruction.{Context}
use Rattle.osek_base.specs.Lists.{is_in}
use Rattle.osek_base.specs.Service.{JobCalls, results}
use Rattle.osek_base.specs.State.{Job, State, same_id}
use Rattle.osek_base.specs.System.{System}
use Rattle.osek_base.specs.Tick.{at_values}
use Rattle.osek_base.specs.Types.{ServiceCall}
use Rattle.law_runs.proofs.Foremost.{equal, self_equal}
use Rattle.law_runs.proofs.Known.{IsRunningCaller}
use Rattle.law_runs.proofs.Lists.{clash}
use Rattle.law_costs.specs.Known.{Executes}
use Rattle.law_costs.specs.Settable.{AreSettable}
use Rattle.law_nodes.specs.Early.{is_mask, is_set}
use Rattle.law_nodes.specs.Nodes.{Node, Standing, is_at, is_told}
use Rattle.law_nodes.specs.Shown.{MOST_SHOWN, are_few, choices, subsets, with_event}
use Rattle.law_nodes.proofs.Answering.{answered_context}
use Rattle.law_nodes.proofs.Knowing.{AreValues}
use Rattle.law_nodes.proofs.Owning.{place_found}

-- ---- lists

in_front : (v : ℕ) (xs ys : List ℕ) → is_in v xs ≡ true → is_in v (xs ++ ys) ≡ true
in_front v [] ys among = clash (sym among)
in_front v (x ∷ xs) ys among = go (x == v) among (in_front v xs ys)
  where
    go : (b : Bool) → (b || is_in v xs) ≡ true → (is_in v xs ≡ true → is_in v (xs ++ ys) ≡ true)
        → (b || is_in v (xs ++ ys)) ≡ true
    go true h rest = refl
    go false h rest = rest h

in_back : (v : ℕ) (xs ys : List ℕ) → is_in v ys ≡ true → is_in v (xs ++ ys) ≡ true
in_back v [] ys among = among
in_back v (x ∷ xs) ys among = go (x == v) (in_back v xs ys among)
  where
    go : (b : Bool) → is_in v (xs ++ ys) ≡ true → (b || is_in v (xs ++ ys)) ≡ true
    go true h = refl
    go false h = h

in_map : (f : ℕ → ℕ) (u : ℕ) (xs : List ℕ) → is_in u xs ≡ true → is_in (f u) (map f xs) ≡ true
in_map f u [] among = clash (sym among)
in_map f u (x ∷ xs) among = go (x == u) refl among (in_map f u xs)
  where
    go : (b : Bool) → (x == u) ≡ b → (b || is_in u xs) ≡ true
        → (is_in u xs ≡ true → is_in (f u) (map f xs) ≡ true)
        → (f x == f u || is_in (f u) (map f xs)) ≡ true
    go true is h rest =
        ap (λ k. f k == f u || is_in (f u) (map f xs)) (equal x u is)
        ∙ ap (λ c. c || is_in (f u) (map f xs)) (self_equal (f u))
    go false is h rest = or_last (f x == f u) (rest h)
      where
        or_last : {d : Bool} (c : Bool) → d ≡ true → (c || d) ≡ true
        or_last true k = refl
        or_last false k = k

-- who is at a node that is made of one of a list
pub told_map : (f : ℕ → Node) (x : Standing) (v : ℕ) (vs : List ℕ) → is_in v vs ≡ true
    → is_at (f v) x ≡ true → is_told (map f vs) x ≡ true
told_map f x v [] among at = clash (sym among)
told_map f x v (u ∷ vs) among at = go (u == v) refl among (λ h. told_map f x v vs h at)
  where
    go : (b : Bool) → (u == v) ≡ b → (b || is_in v vs) ≡ true
        → (is_in v vs ≡ true → is_told (map f vs) x ≡ true)
        → (is_at (f u) x || is_told (map f vs) x) ≡ true
    go true is h rest =
        ap (λ c. c || is_told (map f vs) x) (ap (λ k. is_at (f k) x) (equal u v is) ∙ at)
    go false is h rest = or_last (is_at (f u) x) (rest h)
      where
        or_last : {d : Bool} (c : Bool) → d ≡ true → (c || d) ≡ true
        or_last true k = refl
        or_last false k = k

-- ---- choices

-- a mask has no others than another
abbrev pub IsOf : ℕ → ℕ → Type 0
IsOf v m = (b : ℕ) → bit_at v b ≡ 1 → bit_at m b ≡ 1

set_is : (m b : ℕ) → bit_at m b ≡ 1 → is_set m b ≡ true
set_is m b is = ap (λ u. u == 1) is

with_first : (m b v : ℕ) (vs : List ℕ) → is_in v vs ≡ true
    → is_in v (with_event m b vs) ≡ true
with_first m b v vs among = go (is_set m b)
  where
    go : (c : Bool) → is_in v (cond c (vs ++ map (λ u. bit_or u (2 ^ b)) vs) vs) ≡ true
    go true = in_front v vs (map (λ u. bit_or u (2 ^ b)) vs) among
    go false = among

with_more : (m b u : ℕ) (vs : List ℕ) → is_set m b ≡ true → is_in u vs ≡ true
    → is_in (bit_or u (2 ^ b)) (with_event m b vs) ≡ true
with_more m b u vs set among =
    subst
    (λ c. is_in (bit_or u (2 ^ b)) (cond c (vs ++ map (λ k. bit_or k (2 ^ b)) vs) vs) ≡ true)
    (sym set)
    (in_back (bit_or u (2 ^ b)) vs (map (λ k. bit_or k (2 ^ b)) vs)
    (in_map (λ k. bit_or k (2 ^ b)) u vs among))

choices_have : (m n v : ℕ) → v < 2 ^ n → IsOf v m → is_in v (choices m n) ≡ true
choices_have m zero v low of =
    let none : v ≡ 0 = omega (arith, low) in
    ap (λ u. 0 == u || false) none
choices_have m (suc k) v low of = elim (cases_lt v (2 ^ k)) [
  | inl less ↦ with_first m k v (choices m k) (choices_have m k v less of)
  | inr more ↦ has_last more (choices_have m k)
]
  where
    has_last : 2 ^ k ≤ v
        → ((u : ℕ) → u < 2 ^ k → IsOf u m → is_in u (choices m k) ≡ true)
        → is_in v (choices m (suc k)) ≡ true
    has_last more rest =
        subst (λ w. is_in w (choices m (suc k)) ≡ true) (sym whole)
        (with_more m k u (choices m k) (set_is m k (of k here)) (rest u small others))
      where
        u : ℕ
        u = v - 2 ^ k

        twice : 2 ^ suc k ≡ 2 ^ k * 2
        twice = pow-suc 2 k

        small : u < 2 ^ k
        small = omega (arith, low, twice, more)

        sum_is : v ≡ 1 * 2 ^ k + u
        sum_is = omega (arith, more)

        here : bit_at v k ≡ 1
        here =
            ap (λ w. bit_at w k) sum_is
            ∙ bit_at_cat_high 1 k u k small (omega arith)
            ∙ ap (bit_at 1) (let none : k - k ≡ 0 = omega arith in none)

        others : IsOf u m
        others b set = elim (cases_lt b k) [
          | inl below ↦
              of b (ap (λ w. bit_at w b) sum_is ∙ bit_at_cat_low 1 k u b below ∙ set)
          | inr above ↦
              let none = bit_at_above u k b small above in
              absurd (omega (arith, none, set))
        ]

        apart : bit_and u (2 ^ k) ≡ 0
        apart =
            and_pow u k
            ∙ ap (λ w. w * 2 ^ k) (bit_at_above u k k small (omega arith))
            ∙ (let none : 0 * 2 ^ k ≡ 0 = omega arith in none)

        whole : v ≡ bit_or u (2 ^ k)
        whole = let both = or_disjoint u (2 ^ k) apart in omega (arith, both, more)

pub subsets_have : (m v : ℕ) → are_few m ≡ true → IsOf v m → is_in v (subsets m) ≡ true
unfolding subsets
subsets_have m v few of =
    choices_have m MAX_EVENTS v
    (let low = ltb-true m (2 ^ MAX_EVENTS)
    (and_parts (is_mask m) (nat_le (count_ones m) MOST_SHOWN) few).0 in
    let less : v ≤ m = of_less v m of in
    omega (arith, low, less)) of
  where
    of_less : (v m : ℕ) → IsOf v m → v ≤ m
    of_less v m of =
        subst (λ w. w ≤ m) (same_from_bits (bit_and m v) v both) (and_le_l m v)
      where
        both : (b : ℕ) → bit_at (bit_and m v) b ≡ bit_at v b
        both b = bit_at_and m v b ∙ go (bit_at v b) refl
          where
            go : (c : ℕ) → bit_at v b ≡ c → min (bit_at m b) (bit_at v b) ≡ bit_at v b
            go zero is = omega (arith, is)
            go (suc zero) is = let set = of b is in omega (arith, is, set)
            go (suc (suc c)) is = let few = bit_at-lt v b in absurd (omega (arith, is, few))

-- ---- r1

-- who is where r1 is known has it there
pub shown_is : (registers : List (Option ℕ)) (values : List ℕ) (v u : ℕ) → 1 < length values
    → AreValues (slice_set registers 1 (Some v)) (slice_set values 1 u) → v ≡ u
shown_is registers [] v u long all = absurd (omega (arith, long))
shown_is registers (a ∷ []) v u long all = absurd (omega (arith, long))
shown_is [] (a ∷ b ∷ values) v u long all = absurd all
shown_is (o ∷ []) (a ∷ b ∷ values) v u long all = absurd all.1
shown_is (o ∷ p ∷ registers) (a ∷ b ∷ values) v u long all = all.1.0

-- set twice
pub set_again : (values : List ℕ) (v : ℕ)
    → slice_set (slice_set values 1 v) 1 v ≡ slice_set values 1 v
set_again [] v = refl
set_again (a ∷ []) v = refl
set_again (a ∷ b ∷ values) v = refl

-- r1 has the events of a task that are got
abbrev pub HasShown : State → ServiceCall → List ℕ → Type 0
HasShown s (Service.GetEvent (Some t)) registers =
    (values : List ℕ) × (1 < length values)
    × (registers ≡ slice_set values 1 (slice_index s.masks t))
HasShown s call registers = Unit {0}

set_long : (values : List ℕ) (v : ℕ) → 1 < length values → 1 < length (slice_set values 0 v)
set_long [] v long = long
set_long (a ∷ values) v long = long

pub has_shown : (S : System) (s : State) (x : Context) (call : ServiceCall)
    → 1 < length x.registers
    → HasShown s call (answered_context Status.Ok (results S s (at_values x call)) x).registers
has_shown S s x (Service.GetEvent (Some t)) long =
    (slice_set x.registers 0 0, set_long x.registers 0 long, refl)
has_shown S s x _ long = tt

-- a job that has two registers at least, in a state in which no event is set that isn't settable
pub record CanBeShown (S : System) (s : State) (j : Job) : Type 0 where
  pub within : AreSettable S s.masks
  pub long : 1 < length j.context.registers

pub can_be_shown : (S : System) (s : State) (j : Job) → Executes S (JobCalls j) s
    → IsRunningCaller s j → CanBeShown S s j
can_be_shown S s j executes calls =
    let there = place_found (λ k. same_id k.id j.id) s.jobs j calls.found in
    let long = executes.shaped.job_registers there.0 j there.1 in
    record { within = executes.within; long = omega (arith, long) }
