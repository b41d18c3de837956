-- The words of a program, and what they mean.
use Rattle.std.proofs.Common.{ℕ, Bool, true, false, ◌≡◌, ◌+◌, ◌<◌, ◌≤◌, List, [], ◌∷◌, ◌++◌, map, take, length, sym, ◌∙◌, ap, ap₂, refl, arith}
use Rattle.std.specs.Prelude.{Option, Some, None, ◌==◌, if◌then◌else◌, slice_get, slice_index_or}
use Rattle.std.specs.Option.{unwrap_or}
use Rattle.std.proofs.lemmas.List.{map_more, map-append, length-map, take_all}
use Rattle.std.proofs.lemmas.Option.{none-some, get_or_from_slice_get, slice_get_read}
use Rattle.std.proofs.Math.ListN.{get_or-map}
use Rattle.osek_base.specs.declared.instr.Instr.{Instr}
use Rattle.osek_base.specs.declared.instr.Plain.{Plain}
use Rattle.machine.specs.Packing.{packed, unpacked, fields_in, instr_at}
use Rattle.osek_base.specs.declared.ids.Owner.{Owner}
use Rattle.osek_base.specs.System.{System, Task, Routine, no_task, no_routine, program}
use Rattle.machine.specs.Code.{Programs, meant, instrs_of, program_in, programs_of}

nop : Instr
nop = Instr.Plain Plain.Nop

-- words that mean a program have its instructions
known : (p : List Instr) → map (λ (o : Option Instr). unwrap_or o (Instr.Plain Plain.Nop)) (map Some p) ≡ p
known [] = refl
known (i ∷ p) = ap (λ xs. i ∷ xs) (known p)

pub instrs_are : (words : List ℕ) (p : List Instr) → meant words ≡ map Some p → instrs_of words ≡ p
instrs_are words p h = ap (map (λ (o : Option Instr). unwrap_or o (Instr.Plain Plain.Nop))) h ∙ known p

-- one word more
pub meant_more : (words : List ℕ) (p : List Instr) (k w : ℕ) (i : Instr) → meant words ≡ map Some (take k p)
    → slice_get p k ≡ Some i → k < length p → unpacked w ≡ Some i → meant (words ++ w ∷ []) ≡ map Some (take (k + 1) p)
meant_more words p k w i h is low one =
    map-append unpacked words (w ∷ [])
    ∙ ap₂ (λ (xs : List (Option Instr)) (o : Option Instr). xs ++ o ∷ []) h
    (one ∙ ap Some (sym (get_or_from_slice_get p k i nop is)))
    ∙ sym (map_more Some p k nop low)

-- a word of them is that of the instruction at its place
pub meant_at : (words : List ℕ) (p : List Instr) (n k w : ℕ) → meant words ≡ map Some (instrs_of words)
    → instrs_of words ≡ p → n ≡ k → k < length p → w ≡ slice_index_or words n w
    → unpacked w ≡ Some (slice_index_or p k (Instr.Plain Plain.Nop))
unfolding nop
meant_at words p n k w h is at low read =
    let same : length p ≡ length words =
    ap (λ (xs : List Instr). length xs) (sym is)
    ∙ length-map (meant words) (λ (o : Option Instr). unwrap_or o nop) ∙ length-map words unpacked in
    let found = slice_get_read words (length words) n w refl (omega (arith, same, at, low)) read in
    let there = get_or_from_slice_get words n w 0 found in
    ap unpacked (sym there) ∙ sym (get_or-map unpacked words n 0) ∙ ap (λ xs. slice_index_or xs n (Some nop)) h
    ∙ get_or-map Some (instrs_of words) n nop
    ∙ ap₂ (λ (xs : List Instr) (m : ℕ). Some (slice_index_or xs m nop)) is at

-- a word that means an instruction tells it
pub decoded : (w : ℕ) (i : Instr) → unpacked w ≡ Some i → instr_at (fields_in w) ≡ i
decoded w i h = go (packed (instr_at (fields_in w)) == w) (instr_at (fields_in w)) h
  where
    go : (b : Bool) (v : Instr) → (if b then Some v else None) ≡ Some i → v ≡ i
    go true v is = ap (λ o. unwrap_or o nop) is
    go false v is = absurd (none-some i is)

-- behind the last place all are meant
pub all_meant : (words : List ℕ) (p : List Instr) (k : ℕ) → meant words ≡ map Some (take k p) → length p ≤ k
    → meant words ≡ map Some p
all_meant words p k h past = h ∙ ap (map Some) (take_all k p past)

-- the program of a task or routine among those of its system
pub program_there : (S : System) (c : Programs) (owner : Owner) → c ≡ programs_of S → program_in c owner ≡ program S owner
program_there S c owner h = ap (λ (p : Programs). program_in p owner) h ∙ one owner
  where
    one : (o : Owner) → program_in (programs_of S) o ≡ program S o
    one (Owner.Task t) = get_or-map (λ (a : Task). a.program) S.tasks t no_task
    one (Owner.Routine i) = get_or-map (λ (a : Routine). a.program) S.routines i no_routine
