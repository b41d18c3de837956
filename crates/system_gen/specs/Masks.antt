-- OIL: standard object EVENT, attribute MASK. The masks of the events.
use Rattle.std.specs.Prelude.{ℕ, ◌^◌, ◌==◌, List, [], ◌∷◌, ◌++◌, Option, Some, None, Result, Ok, Err, bit_and, bit_or, map}
use Rattle.std.specs.List.{find}
use Rattle.osek_base.specs.declared.limits.TheConstants.{MAX_EVENTS}
use Rattle.osek_base.specs.Lists.{below}
use Rattle.oil_reader.specs.declared.file.Mask.{Mask}
use Rattle.oil_reader.specs.Configuration.{EventRecord}
use Rattle.system_gen.specs.declared.fault.GenFault.{GenFault}

-- the bits of a mask, from the lowest on
abbrev pub bits : List ℕ
bits = map (λ k. 2 ^ k) (below MAX_EVENTS)

-- the first of some bits that isn't taken
abbrev pub first_free : ℕ → List ℕ → Option ℕ
first_free taken some = find (λ bit. bit_and taken bit == 0) some

-- the lowest bit that isn't taken
abbrev pub lowest_free : ℕ → Option ℕ
lowest_free taken = first_free taken bits

-- these bits, with those of a mask that is written as a number
abbrev pub with_written : ℕ → Mask → ℕ
with_written taken Mask.Auto = taken
with_written taken (Mask.Bits mask) = bit_or taken mask

-- these bits, with those of all masks that are written as numbers
abbrev pub written : ℕ → List EventRecord → ℕ
written taken [] = taken
written taken (e ∷ es) = written (with_written taken e.mask) es

-- the mask of an event, where these bits are taken
abbrev pub mask_among : ℕ → Mask → Option ℕ
mask_among taken Mask.Auto = lowest_free taken
mask_among taken (Mask.Bits mask) = Some mask

-- goes on with the mask of an event of that name, where it has one
abbrev pub with_mask : Option ℕ → List ℕ → (ℕ → Result (List ℕ) GenFault) → Result (List ℕ) GenFault
with_mask None name more = Err (GenFault.Mask name)
with_mask (Some mask) name more = more mask

-- these masks and those of more events, where these bits are taken
abbrev pub masks_from : ℕ → List ℕ → List EventRecord → Result (List ℕ) GenFault
masks_from taken masks [] = Ok masks
masks_from taken masks (e ∷ es) =
    with_mask (mask_among taken e.mask) e.name (λ mask. masks_from (bit_or taken mask) (masks ++ mask ∷ []) es)

-- the masks of all events in the order of declaration, or the first event for which no bit is free. AUTO gets the
-- lowest bit that is in no written mask and in no AUTO mask of an earlier event
abbrev pub all_masks : List EventRecord → Result (List ℕ) GenFault
all_masks events = masks_from (written 0 events) [] events
