-- What is added to a list, step by step.
use Rattle.std.proofs.Common.{ℕ, suc, ◌≡◌, ◌<◌, List, ◌++◌, sym, ◌∙◌, ap}
use Rattle.std.proofs.lemmas.List.{append_assoc, append-nil}
use Rattle.std.proofs.Math.Nat.{mod-eq_of_lt}
use Rattle.std.specs.Prelude.{slice_index}
use Rattle.osek_base.specs.declared.limits.TheConstants.{SHARED_WORDS}
use Rattle.osek_base.specs.State.{shared_window, shared_word}
use Rattle.search_keys.specs.Bytes.{each}

-- two pieces behind a list are one
pub joined : (old xs ys : List ℕ) → (old ++ xs) ++ ys ≡ old ++ (xs ++ ys)
joined old xs ys = append_assoc old xs ys

-- before a loop
pub none_yet : (old : List ℕ) (part : ℕ → List ℕ) → old ≡ old ++ each 0 part
unfolding each
none_yet old part = sym (append-nil old)

each_more : (old : List ℕ) (n m : ℕ) (part : ℕ → List ℕ) → m ≡ suc n
    → (old ++ each n part) ++ part n ≡ old ++ each m part
unfolding each
each_more old n m part next =
    append_assoc old (each n part) (part n) ∙ ap (λ k. old ++ each k part) (sym next)

-- and in it
pub written_more : (old out new : List ℕ) (part : ℕ → List ℕ) (n m : ℕ)
    → new ≡ out ++ part n → out ≡ old ++ each n part → m ≡ suc n → new ≡ old ++ each m part
written_more old out new part n m step before next =
    step ∙ ap (λ xs. xs ++ part n) before ∙ each_more old n m part next

-- also where what is added equals the next part
pub written_as : (old out new bytes : List ℕ) (part : ℕ → List ℕ) (n m : ℕ)
    → new ≡ out ++ bytes → bytes ≡ part n → out ≡ old ++ each n part → m ≡ suc n
    → new ≡ old ++ each m part
written_as old out new bytes part n m step same before next =
    written_more old out new part n m (step ∙ ap (λ xs. out ++ xs) same) before next

-- a word at an index within the window of a resource
pub within : (shared : List (List ℕ)) (r i : ℕ) → i < SHARED_WORDS
    → slice_index (shared_window shared r) i ≡ shared_word shared r i
within shared r i low = ap (slice_index (shared_window shared r)) (sym (mod-eq_of_lt low))
