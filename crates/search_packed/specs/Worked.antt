-- Labels that were packed by hand.
use Rattle.std.specs.Prelude.{ℕ, ◌≡◌, List, [], ◌∷◌, Some, None}
use Rattle.search_labels.specs.Labels.{Labels, no_hold}
use Rattle.search_packed.specs.Packed.{packed}
use Rattle.search_packed.specs.Unpacked.{unpacked}

-- of two rules, by one of which 300 ticks are owed; of two routines, one of which has an interrupt
-- that pends for 5;
-- of two tasks, one of which has jobs of ages 7 and 130; of two resources, one of which task 1 has
-- held for 9 ticks; no job has been blocked
abbrev pub worked_labels : Labels
worked_labels =
    record {
      debts = 300 ∷ 0 ∷ [];
      ages = [] ∷ (130 ∷ 7 ∷ []) ∷ [];
      pending = None ∷ Some 5 ∷ [];
      holds = no_hold ∷ record { holder = Some 1; held = 9 } ∷ [];
      blocked = 0 ∷ 0 ∷ [];
    }

abbrev pub worked_bytes : List ℕ
worked_bytes =
    2 ∷ 172 ∷ 2 ∷ 0
    ∷ 2 ∷ 0 ∷ 1 ∷ 2 ∷ 130 ∷ 1 ∷ 7
    ∷ 2 ∷ 0 ∷ 0 ∷ 1 ∷ 1 ∷ 9
    ∷ 0 ∷ 0 ∷ 1 ∷ 5 ∷ []

-- and where one task has one job, nobody holds a resource, and the first job of the first task has
-- been blocked for 4 ticks
abbrev pub blocked_labels : Labels
blocked_labels =
    record worked_labels {
      ages = (12 ∷ []) ∷ [] ∷ [];
      holds = no_hold ∷ no_hold ∷ [];
      blocked = 4 ∷ 0 ∷ [];
    }

abbrev pub blocked_bytes : List ℕ
blocked_bytes =
    2 ∷ 172 ∷ 2 ∷ 0
    ∷ 2 ∷ 14 ∷ 0
    ∷ 2 ∷ 0 ∷ 0 ∷ 0 ∷ 0
    ∷ 0 ∷ 0 ∷ 1 ∷ 5
    ∷ 0 ∷ 4 ∷ []

-- no state has lists that don't go together, but they too are told
abbrev pub uneven_labels : Labels
uneven_labels =
    record { debts = 3 ∷ []; ages = []; pending = []; holds = []; blocked = 6 ∷ [] }

abbrev pub uneven_bytes : List ℕ
uneven_bytes = 1 ∷ 3 ∷ 0 ∷ 0 ∷ 1 ∷ 0 ∷ 1 ∷ 1 ∷ 6 ∷ []

pub record WorkedLabels : Type 0 where
  pub bytes : packed worked_labels ≡ worked_bytes
  pub back : unpacked worked_bytes ≡ worked_labels
  pub blocked : packed blocked_labels ≡ blocked_bytes
  pub blocked_back : unpacked blocked_bytes ≡ blocked_labels
  pub uneven : packed uneven_labels ≡ uneven_bytes
  pub uneven_back : unpacked uneven_bytes ≡ uneven_labels
  -- beyond their end bytes tell nothing
  pub none : unpacked [] ≡ record { debts = []; ages = []; pending = []; holds = []; blocked = [] }
