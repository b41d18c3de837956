-- Words of windows that are all 0, and lists that are so from a place on.
use Rattle.std.proofs.Common.{ℕ, zero, suc, ◌≡◌, ◌+◌, ◌*◌, Bool, true, false, ◌&&◌, nat_lt, cond, replicate, slice_index, refl}
use Rattle.osek_base.specs.declared.ids.Owner.{Owner}
use Rattle.osek_base.specs.declared.limits.TheConstants.{MAX_ROUTINES, MAX_TASKS, WINDOW_WORDS}
use Rattle.machine.specs.Windows.{word, window_of, has_window}

pub read_zeros : (n k : ℕ) → slice_index (replicate n 0) k ≡ 0
read_zeros zero k = refl
read_zeros (suc n) zero = refl
read_zeros (suc n) (suc k) = read_zeros n k

pub word_zeros : (n : ℕ) (o : Owner) (i : ℕ) → word (replicate n 0) o i ≡ 0
word_zeros n o i = go (has_window o && nat_lt i WINDOW_WORDS)
  where
    go : (b : Bool) → cond b (slice_index (replicate n 0) (i * (MAX_TASKS + MAX_ROUTINES) + window_of o)) 0 ≡ 0
    go true = read_zeros n (i * (MAX_TASKS + MAX_ROUTINES) + window_of o)
    go false = refl
