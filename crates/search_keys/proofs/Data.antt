-- The parts of a key that speak of words.
use Rattle.std.proofs.Common.{ℕ, ◌≡◌, ◌<◌, ◌≤◌, ◌%◌, inl, inr, Bool, true, false, cond, [], length, sym, ◌∙◌, ap, arith, true≢false}
use Rattle.std.specs.Prelude.{slice_index}
use Rattle.std.proofs.lemmas.List.{ext_get_or, get_or_past}
use Rattle.std.proofs.lemmas.Bool.{cases_lt}
use Rattle.osek_base.specs.declared.limits.TheConstants.{WINDOW_WORDS, SHARED_WORDS}
use Rattle.osek_base.specs.declared.ids.Owner.{Owner}
use Rattle.osek_base.specs.Separable.{IsOwner}
use Rattle.osek_base.specs.System.{System}
use Rattle.osek_base.specs.State.{shared_window, shared_word}
use Rattle.law_kept.specs.Kept.{Kept}
use Rattle.law_future.specs.Need.{Need}
use Rattle.law_future.specs.Meaning.{AreSameShared}
use Rattle.search_keys.specs.Bytes.{each, number}
use Rattle.search_keys.specs.Key.{window_key, shared_key, words_key}
use Rattle.search_keys.specs.InRange.{IsInRange, NeedsOwnWords}
use Rattle.search_keys.proofs.Codes.{Tells, weaker, nothing, ◌⨾◌, each_tells, number_tells, needed_tells}

module _ (need : Need) (o p : Kept) where
  abbrev HaveSameWindow : Owner → Type 0
  HaveSameWindow who =
      (i : ℕ) → i < WINDOW_WORDS → need.words who i ≡ true → o.words who i ≡ p.words who i

  window_tells : (who : Owner)
      → Tells (window_key need o who) (window_key need p who) (HaveSameWindow who)
  window_tells who =
      each_tells WINDOW_WORDS
      (λ i low. needed_tells (need.words who i) (o.words who i) (p.words who i))

  abbrev HaveSameShared : ℕ → Type 0
  HaveSameShared r =
      need.shared r ≡ true → (i : ℕ) → i < SHARED_WORDS
      → shared_word o.shared r i ≡ shared_word p.shared r i

  shared_tells : (r : ℕ) → Tells (shared_key need o r) (shared_key need p r) (HaveSameShared r)
  shared_tells r = go (need.shared r)
    where
      go : (b : Bool)
          → Tells (cond b (each SHARED_WORDS (λ i. number (shared_word o.shared r i))) [])
          (cond b (each SHARED_WORDS (λ i. number (shared_word p.shared r i))) [])
          (b ≡ true → (i : ℕ) → i < SHARED_WORDS
          → shared_word o.shared r i ≡ shared_word p.shared r i)
      go true =
          weaker
          (each_tells SHARED_WORDS
          (λ i low. number_tells (shared_word o.shared r i) (shared_word p.shared r i)))
          (λ h e. h)
      go false = nothing (λ e. absurd (true≢false (sym e)))

  -- ---- whole lists

  module _ (S : System) where
    pub record HaveSameWords : Type 0 where
      pub owners : (who : Owner) → IsOwner S who → HaveSameWindow who
      pub shared : (r : ℕ) → r < length S.resources → HaveSameShared r

    pub words_tell : Tells (words_key S need o) (words_key S need p) HaveSameWords
    words_tell =
        weaker
        (each_tells (length S.tasks) (λ t low. window_tells (Owner.Task t))
        ⨾ each_tells (length S.routines) (λ i low. window_tells (Owner.Routine i))
        ⨾ each_tells (length S.resources) (λ r low. shared_tells r))
        (λ h. record { owners = each_owner h.0.0 h.0.1; shared = h.1 })
      where
        each_owner : ((t : ℕ) → t < length S.tasks → HaveSameWindow (Owner.Task t))
            → ((i : ℕ) → i < length S.routines → HaveSameWindow (Owner.Routine i))
            → (who : Owner) → IsOwner S who → HaveSameWindow who
        each_owner tasks routines (Owner.Task t) low = tasks t low
        each_owner tasks routines (Owner.Routine i) low = routines i low

    pub same_words : NeedsOwnWords S need → HaveSameWords → (who : Owner) (i : ℕ)
        → need.words who i ≡ true → o.words who i ≡ p.words who i
    same_words own same who i e = let here = own who i e in same.owners who here.0 i here.1 e

    -- windows of resources that are as many and as long
    pub same_shared : IsInRange S o → IsInRange S p → HaveSameWords
        → AreSameShared need.shared o.shared p.shared
    same_shared first second same = record {
      count = first.shared ∙ sym second.shared;
      sizes = sizes;
      words = words;
    }
      where
        beyond : (r : ℕ) → length S.resources ≤ r
            → shared_window o.shared r ≡ shared_window p.shared r
        beyond r high =
            let many = first.shared in
            let many_too = second.shared in
            get_or_past o.shared r [] (omega (arith, many, high))
            ∙ sym (get_or_past p.shared r [] (omega (arith, many_too, high)))

        sizes : (r : ℕ) → length (shared_window o.shared r) ≡ length (shared_window p.shared r)
        sizes r = elim (cases_lt r (length S.resources)) [
          | inl low ↦ first.windows r low ∙ sym (second.windows r low)
          | inr high ↦ ap length (beyond r high)
        ]

        word_is : (i : ℕ) → i < SHARED_WORDS → i % SHARED_WORDS ≡ i
        word_is i low = omega (arith, low)

        words : (r : ℕ) → need.shared r ≡ true → shared_window o.shared r ≡ shared_window p.shared r
        words r e = elim (cases_lt r (length S.resources)) [
          | inl low ↦
              let long = first.windows r low in
              ext_get_or 0 (shared_window o.shared r) (shared_window p.shared r) (sizes r)
              (λ i inside.
              let small : i < SHARED_WORDS = omega (arith, long, inside) in
              ap (slice_index (shared_window o.shared r)) (sym (word_is i small))
              ∙ same.shared r low e i small
              ∙ ap (slice_index (shared_window p.shared r)) (word_is i small))
          | inr high ↦ beyond r high
        ]
