-- What a sink tells of its writes.
use Rattle.std.specs.Prelude.{ℕ, Bool, true, ◌==◌, not, ◌&&◌, List, ◌++◌, ◌≡◌, Option, Ok, Err, OnOk, OnErr}
use Rattle.std.specs.Io.KnownBytes.{Appends}
use Rattle.std.specs.declared.result.Result.{Result}

-- whether a write of that many bytes failed: it answered an error, or took none of at least one byte
abbrev pub is_failed_write : {E : Type 0} → Result ℕ E → ℕ → Bool
is_failed_write (Ok taken) size = taken == 0 && not (size == 0)
is_failed_write (Err e) size = true

-- a writer of std, and whether a write to it has failed
pub record Watched (W : Type 0) : Type 0 where
  pub writer : W
  pub failed : Bool

-- a beginning of the bytes was taken
pub record AppendsSome (old new : Option (List ℕ)) (bytes : List ℕ) : Type 0 where
  pub front : List ℕ
  pub rest : List ℕ
  pub whole : front ++ rest ≡ bytes
  pub taken : Appends old new front

-- bytes passed by way of a block that waits: what waited before and the bytes are what was taken and what waits now
pub record Passes (old new : Option (List ℕ)) (waited waits bytes : List ℕ) : Type 0 where
  pub front : List ℕ
  pub whole : front ++ waits ≡ waited ++ bytes
  pub taken : Appends old new front

-- what writing some bytes, or none, does to a sink. Ok: all is done, and no write failed. Err: the sink took a beginning of the
-- bytes, and a write failed
pub record Writing {X T E : Type 0} (taken : X → Option (List ℕ)) (has_failed : X → Bool) (old new : X)
    (IsDone : Option (List ℕ) → Option (List ℕ) → Type 0) (bytes : List ℕ) (answer : Result T E) : Type 0 where
  pub written : OnOk answer (IsDone (taken old) (taken new))
  pub beginning : OnErr answer (AppendsSome (taken old) (taken new) bytes)
  pub still : OnOk answer (has_failed new ≡ has_failed old)
  pub failed : OnErr answer (has_failed new ≡ true)

-- the sink takes the bytes
abbrev pub Puts : {X T E : Type 0} → (X → Option (List ℕ)) → (X → Bool) → X → X → List ℕ → Result T E → Type 0
Puts taken has_failed old new bytes answer = Writing taken has_failed old new (λ a b. Appends a b bytes) bytes answer

-- the bytes pass by way of a block, behind those that waited there
abbrev pub PutsBehind : {X T E : Type 0} → (X → Option (List ℕ)) → (X → Bool) → X → X → List ℕ → List ℕ → List ℕ → Result T E → Type 0
PutsBehind taken has_failed old new waited waits bytes answer =
    Writing taken has_failed old new (λ a b. Passes a b waited waits bytes) (waited ++ bytes) answer
