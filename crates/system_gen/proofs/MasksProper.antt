-- The masks of the events: one for each event, each of 32 bits in which a bit is set.
use Rattle.std.proofs.Common.{◌≡◌, ℕ, ◌+◌, Bool, true, false, List, [], ◌∷◌, ◌++◌, length, refl, sym, ◌∙◌, ap, cond, subst, add-zero, zero-add, arith, length-append}
use Rattle.std.specs.Prelude.{Option, Some, None, Result, Ok, bit_and, bit_or, ◌==◌}
use Rattle.std.specs.List.{find, list_all}
use Rattle.std.proofs.lemmas.Bool.{and_parts, and_from}
use Rattle.std.proofs.lemmas.List.Folds.{list_all-append}
use Rattle.osek_base.specs.Proper.{is_proper_mask}
use Rattle.oil_reader.specs.declared.file.Mask.{Mask}
use Rattle.system_gen.specs.declared.fault.GenFault.{GenFault}
use Rattle.oil_reader.specs.Configuration.{EventRecord}
use Rattle.oil_reader.specs.Checked.{is_checked_mask, is_checked_event, are_checked_events}
use Rattle.system_gen.specs.Masks.{bits, mask_among, with_mask, masks_from, written, all_masks}

-- ---- the mask of one event

found_passes : {X : Type 0} (test has : X → Bool) (xs : List X) (x : X) → list_all has xs ≡ true → find test xs ≡ Some x → has x ≡ true
found_passes test has [] x all e = absurd cc
found_passes {X} test has (y ∷ ys) x all e = go (test y) e (λ k. found_passes test has ys x (and_parts _ _ all).1 k)
  where
    go : (b : Bool) → cond b (Some y) (find test ys) ≡ Some x → (find test ys ≡ Some x → has x ≡ true) → has x ≡ true
    go true f more = let same : y ≡ x = cc in ap has (sym same) ∙ (and_parts _ _ all).0
    go false f more = more f

bits_proper : list_all is_proper_mask bits ≡ true
bits_proper = refl

among_proper : (taken : ℕ) (mask : Mask) (m : ℕ) → is_checked_mask mask ≡ true → mask_among taken mask ≡ Some m → is_proper_mask m ≡ true
among_proper taken Mask.Auto m checked e = found_passes (λ bit. bit_and taken bit == 0) is_proper_mask bits m bits_proper e
among_proper taken (Mask.Bits n) m checked e = let same : n ≡ m = cc in ap is_proper_mask (sym same) ∙ checked

-- ---- the masks of all

-- as many masks as events, all of them proper
pub record AreProperMasks (count : ℕ) (masks : List ℕ) : Type 0 where
  pub size : length masks ≡ count
  pub proper : list_all is_proper_mask masks ≡ true

one_more : (count : ℕ) (masks : List ℕ) (m : ℕ) → AreProperMasks count masks → is_proper_mask m ≡ true → AreProperMasks (count + 1) (masks ++ m ∷ [])
one_more count masks m so_far h =
    let size : length masks ≡ count = so_far.size in
    record {
      size = length-append masks (m ∷ []) ∙ ap (λ n. n + 1) size;
      proper = list_all-append is_proper_mask masks (m ∷ []) ∙ and_from _ _ so_far.proper (and_from _ _ h refl);
    }

masks_proper_from : (events : List EventRecord) (taken count : ℕ) (so_far all : List ℕ) → list_all is_checked_event events ≡ true
    → AreProperMasks count so_far → masks_from taken so_far events ≡ Ok all → AreProperMasks (count + length events) all
masks_proper_from [] taken count so_far all checked h e = subst (AreProperMasks (count + 0)) (same e) (rw add-zero h)
  where
    same : (◌≡◌ {A = Result (List ℕ) GenFault} (Ok so_far) (Ok all)) → so_far ≡ all
    same f = cc
masks_proper_from (x ∷ xs) taken count so_far all checked h e =
    go (mask_among taken x.mask) refl e
    (λ m proper k. masks_proper_from xs (bit_or taken m) (count + 1) (so_far ++ m ∷ []) all parts.1 (one_more count so_far m h proper) k)
  where
    parts : (is_checked_event x ≡ true) × (list_all is_checked_event xs ≡ true)
    parts = and_parts _ _ checked

    go : (o : Option ℕ) → mask_among taken x.mask ≡ o → with_mask o x.name (λ m. masks_from (bit_or taken m) (so_far ++ m ∷ []) xs) ≡ Ok all
        → ((m : ℕ) → is_proper_mask m ≡ true → masks_from (bit_or taken m) (so_far ++ m ∷ []) xs ≡ Ok all → AreProperMasks ((count + 1) + length xs) all)
        → AreProperMasks (count + length (x ∷ xs)) all
    go None f g more = absurd cc
    go (Some m) f g more =
        let size : (count + 1) + length xs ≡ count + length (x ∷ xs) = omega arith in
        rw size at (more m (among_proper taken x.mask m (and_parts _ _ parts.0).1 f) g)

none_yet : AreProperMasks 0 []
none_yet = record { size = refl; proper = refl }

pub masks_are_proper : (events : List EventRecord) (masks : List ℕ) → are_checked_events events ≡ true → all_masks events ≡ Ok masks
    → AreProperMasks (length events) masks
masks_are_proper events masks checked e =
    rw zero-add at (masks_proper_from events (written 0 events) 0 [] masks (and_parts _ _ checked).0 none_yet e)
