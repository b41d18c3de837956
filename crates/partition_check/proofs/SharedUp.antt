-- The words of upper resources: each window at its rank, and how a store is seen from above.
use Rattle.std.proofs.Common.{◌≡◌, ℕ, ◌%◌, ◌<◌, true, false, List, [], map, set, length, refl, sym, ◌∙◌, ap, arith, get_or-set_same, get_or-set_other}
use Rattle.std.specs.Prelude.{slice_index}
use Rattle.osek_base.specs.declared.limits.TheConstants.{SHARED_WORDS}
use Rattle.osek_base.specs.declared.ids.ResId.{ResId}
use Rattle.osek_base.specs.Lists.{below}
use Rattle.osek_base.specs.System.{System}
use Rattle.osek_base.specs.State.{State, shared_window, with_shared}
use Rattle.osek_base.specs.Service.{word_of, word_stored}
use Rattle.osek_base.specs.Agree.{rank, is_upper_declared, renumbered_resource, upper_resources}
use Rattle.partition_check.proofs.UpperState.{up}
use Rattle.partition_check.proofs.Shared.{IsCounterpart, IsKnownResource, is_visible}
use Rattle.partition_check.proofs.ListsUp.{true≢false, map_same, all_pass, all_weaken}
use Rattle.partition_check.proofs.AlarmsUp.{at_rank, read_at, change_at}

module _ (S : System) (p : ℕ) (both : IsCounterpart S p) where
  -- the window of an upper resource
  pub window_up : (s : State) (r : ℕ) → r < length S.resources → is_upper_declared S p r ≡ true
      → shared_window (up S p s).shared (rank (is_upper_declared S p) r) ≡ shared_window s.shared r
  window_up s r inside high =
      read_at (shared_window s.shared) (upper_resources S p) (rank (is_upper_declared S p) r) r []
      (both.resource_at r inside high)

  pub word_up : (s : State) (r : ResId) (i : ℕ) → IsKnownResource S r → is_visible S p r ≡ true
      → word_of (up S p s).shared (renumbered_resource S p r) i ≡ word_of s.shared r i
  word_up s (ResId.Declared r) i known seen = ap (λ (w : List ℕ). slice_index w (i % SHARED_WORDS)) (window_up s r known seen)
  word_up s ResId.Scheduler i known seen = refl

  stored_up : (s : State) (r i v : ℕ) → r < length S.resources → length s.shared ≡ length S.resources
      → is_upper_declared S p r ≡ true
      → with_shared (up S p s).shared (rank (is_upper_declared S p) r) i v
      ≡ map (shared_window (with_shared s.shared r i v)) (upper_resources S p)
  stored_up s r i v inside long high =
      let place : ℕ = rank (is_upper_declared S p) r in
      let new : List ℕ = set (shared_window s.shared r) (i % SHARED_WORDS) v in
      ap (λ (w : List ℕ). set (up S p s).shared place (set w (i % SHARED_WORDS) v)) (window_up s r inside high)
      ∙ sym (change_at (shared_window s.shared) (shared_window (with_shared s.shared r i v)) (upper_resources S p) place r new
      (both.resource_at r inside high)
      (get_or-set_same s.shared r new [] (omega (arith, inside, long)))
      (λ j q h far. get_or-set_other s.shared r q new []
      (λ e. far (at_rank (is_upper_declared S p) (length S.resources) j q h ∙ ap (rank (is_upper_declared S p)) e))))

  -- a store to a resource that is seen
  pub word_stored_up : (s : State) (r : ResId) (i v : ℕ) → IsKnownResource S r → length s.shared ≡ length S.resources
      → is_visible S p r ≡ true
      → record (up S p s) { shared = word_stored (renumbered_resource S p r) i v (up S p s).shared }
      ≡ up S p (record s { shared = word_stored r i v s.shared })
  word_stored_up s (ResId.Declared r) i v known long seen =
      let same = stored_up s r i v known long seen in
      λ n. record (up S p s) { shared = same n }
  word_stored_up s ResId.Scheduler i v known long seen = refl

-- a store to a lower resource isn't seen
pub shared_unseen : (S : System) (p : ℕ) (shared : List (List ℕ)) (r i v : ℕ) → is_upper_declared S p r ≡ false
    → map (shared_window (with_shared shared r i v)) (upper_resources S p) ≡ map (shared_window shared) (upper_resources S p)
shared_unseen S p shared r i v low =
    map_same (shared_window (with_shared shared r i v)) (shared_window shared) (upper_resources S p)
    (all_weaken (λ q. is_upper_declared S p q ≡ true)
    (λ q. shared_window (with_shared shared r i v) q ≡ shared_window shared q) (upper_resources S p)
    (λ q high. get_or-set_other shared r q _ [] (λ e. true≢false (sym high ∙ ap (is_upper_declared S p) e ∙ low)))
    (all_pass (is_upper_declared S p) (below (length S.resources))))
