-- The labels that bytes tell.
use Rattle.std.specs.Prelude.{ℕ, zero, suc, ◌≡◌, Bool, if◌then◌else◌, List, [], ◌∷◌, length}
use Rattle.law_figures.specs.Holding.{Hold}
use Rattle.search_keys.specs.Taken.{taken_count, taken_number, taken_optional}
use Rattle.search_labels.specs.Labels.{Labels}
use Rattle.search_packed.specs.Packed.{packed}

-- so many things, and what follows them
abbrev pub taken_many : {X : Type 0} → (List ℕ → X × List ℕ) → ℕ → List ℕ → List X × List ℕ
taken_many taken zero bytes = ([], bytes)
taken_many taken (suc n) bytes =
    let one = taken bytes in
    let others = taken_many taken n one.1 in
    (one.0 ∷ others.0, others.1)

-- as many as are told before them
abbrev pub taken_list : {X : Type 0} → (List ℕ → X × List ℕ) → List ℕ → List X × List ℕ
taken_list taken bytes =
    let count = taken_count bytes in
    taken_many taken count.0 count.1

-- a count that is most likely that of others
abbrev pub beside_behind : ℕ → ℕ × List ℕ → ℕ × List ℕ
beside_behind others (zero, bytes) = (others, bytes)
beside_behind others (suc more, bytes) = taken_count bytes

abbrev pub taken_beside : ℕ → List ℕ → ℕ × List ℕ
taken_beside others bytes = beside_behind others (taken_count bytes)

abbrev pub taken_list_beside : {X : Type 0} → ℕ → (List ℕ → X × List ℕ) → List ℕ
    → List X × List ℕ
taken_list_beside others taken bytes =
    let count = taken_beside others bytes in
    taken_many taken count.0 count.1

-- the ages of a task's jobs
abbrev pub ages_behind : ℕ × List ℕ → List ℕ × List ℕ
ages_behind (zero, bytes) = ([], bytes)
ages_behind (suc zero, bytes) = taken_list taken_number bytes
ages_behind (suc (suc age), bytes) = (age ∷ [], bytes)

abbrev pub taken_ages : List ℕ → List ℕ × List ℕ
taken_ages bytes = ages_behind (taken_count bytes)

abbrev pub taken_hold : List ℕ → Hold × List ℕ
taken_hold bytes =
    let holder = taken_optional bytes in
    let held = taken_number holder.1 in
    (record { holder = holder.0; held = held.0 }, held.1)

-- beyond the end of bytes stand zeros
unfoldable pub unpacked : List ℕ → Labels
unpacked bytes =
    let debts = taken_list taken_number bytes in
    let ages = taken_list taken_ages debts.1 in
    let holds = taken_list taken_hold ages.1 in
    let pending = taken_list_beside (length debts.0) taken_optional holds.1 in
    let blocked = taken_list_beside (length ages.0) taken_number pending.1 in
    record {
      debts = debts.0;
      ages = ages.0;
      pending = pending.0;
      holds = holds.0;
      blocked = blocked.0;
    }

-- a debt, where one is told
abbrev pub taken_debt : Bool → List ℕ → ℕ × List ℕ
taken_debt is_told bytes = if is_told then taken_number bytes else (0, bytes)

-- ---- the law

-- no labels share their bytes with others
abbrev pub PackedAreTold : Type 0
PackedAreTold = (l : Labels) → unpacked (packed l) ≡ l
