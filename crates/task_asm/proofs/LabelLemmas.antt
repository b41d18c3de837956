-- The labels of a program, one statement after the other, and what they say of it.
use Rattle.std.proofs.Common.{◌≡◌, ℕ, suc, ◌+◌, ◌<◌, ◌≤◌, Bool, true, false, List, [], ◌∷◌, ◌++◌, length, drop, get_or, Option, Some, None, cond, refl, sym, ap, ◌∙◌, arith, inl, inr}
use Rattle.std.specs.Prelude.{if◌then◌else◌, bytes_eq, nat_lt}
use Rattle.std.specs.Option.{option_map}
use Rattle.std.specs.Map.{update}
use Rattle.std.proofs.lemmas.List.{drop_more}
use Rattle.std.proofs.lemmas.Slice.Eq.{bytes_eq-Decides}
use Rattle.std.proofs.lemmas.Bool.{cases_lt, lt-ltb, le-ltb}
use Rattle.task_asm.specs.declared.labels.Definition.{Definition}
use Rattle.task_asm.specs.Mnemonics.{or_else}
use Rattle.task_asm.specs.Statements.{Statement, Item}
use Rattle.task_asm.specs.Labels.{is_program, place_in, has_instruction, defines, instruction_count}
use Rattle.task_asm.specs.Walk.{program_size, definition_from, is_before, IsClosed}

-- ---- one statement after the other

-- what f knows of the labels so far goes on with what the statements from a number on define
pub record Known (es : List Statement) (at place : ℕ) (f : List ℕ → Option Definition) : Type 0 where
  pub within : at ≤ length es
  pub fewer : place ≤ at
  pub whole : (w : List ℕ) → or_else (f w) (definition_from at place (drop at es) w) ≡ definition_from 0 0 es w

same_word : (v w : List ℕ) → bytes_eq v w ≡ true → v ≡ w
same_word v w e = let d = bytes_eq-Decides v w in (rw e at d).0 refl

or_same : (o : Option Definition) (d : Definition) (p : Option Definition) → o ≡ Some d → or_else o p ≡ Some d
or_same o d p e = rw e refl

or_none : (o p : Option Definition) → o ≡ None → or_else o p ≡ p
or_none o p e = rw e refl

module _ (es : List Statement) (at place : ℕ) (p : ℕ) (i : Item) (f : List ℕ → Option Definition) (inside : at < length es)
    (is : record { place = p; item = i } ≡ get_or es at (record { place = p; item = i })) (known : Known es at place f) where
  here : drop at es ≡ record { place = p; item = i } ∷ drop (at + 1) es
  here = let x : Statement = record { place = p; item = i } in drop_more es at x inside ∙ ap (λ (y : Statement). y ∷ drop (at + 1) es) (sym is)

  left : (w : List ℕ) → or_else (f w) (definition_from at place (record { place = p; item = i } ∷ drop (at + 1) es) w) ≡ definition_from 0 0 es w
  left w = ap (λ (xs : List Statement). or_else (f w) (definition_from at place xs w)) (sym here) ∙ known.whole w

  pub after_instruction : {o : _} → i ≡ Item.Instruction o → Known es (at + 1) (place + 1) f
  after_instruction e = record {
    within = omega arith;
    fewer = omega (arith, known.fewer);
    whole = λ w. ap (λ (j : Item). or_else (f w) (definition_from at place (record { place = p; item = j } ∷ drop (at + 1) es) w)) (sym e) ∙ left w;
  }

  pub after_unknown : i ≡ Item.Unknown → Known es (at + 1) place f
  after_unknown e = record {
    within = omega arith;
    fewer = omega (arith, known.fewer);
    whole = λ w. ap (λ (j : Item). or_else (f w) (definition_from at place (record { place = p; item = j } ∷ drop (at + 1) es) w)) (sym e) ∙ left w;
  }

  module _ (v : List ℕ) (e : i ≡ Item.Label v) where
    label_left : (w : List ℕ) → or_else (f w) (if bytes_eq v w then Some (let d : Definition = record { statement = at; place = place } in d) else definition_from (at + 1) place (drop (at + 1) es) w)
        ≡ definition_from 0 0 es w
    label_left w = ap (λ (j : Item). or_else (f w) (definition_from at place (record { place = p; item = j } ∷ drop (at + 1) es) w)) (sym e) ∙ left w

    old_at : (w : List ℕ) (b : Bool) → bytes_eq v w ≡ b → (d : Definition) → f v ≡ Some d
        → or_else (f w) (if b then Some (let d : Definition = record { statement = at; place = place } in d) else definition_from (at + 1) place (drop (at + 1) es) w) ≡ definition_from 0 0 es w
        → or_else (f w) (definition_from (at + 1) place (drop (at + 1) es) w) ≡ definition_from 0 0 es w
    old_at w false q d has h = h
    old_at w true q d has h =
        let found : f w ≡ Some d = ap f (sym (same_word v w q)) ∙ has in
        or_same (f w) d _ found ∙ sym (or_same (f w) d _ found) ∙ h

    new_at : (g : List ℕ → Option Definition) (w : List ℕ) (b : Bool) → bytes_eq v w ≡ b → f v ≡ None
        → g w ≡ cond b (Some (let d : Definition = record { statement = at; place = place } in d)) (f w)
        → or_else (f w) (if b then Some (let d : Definition = record { statement = at; place = place } in d) else definition_from (at + 1) place (drop (at + 1) es) w) ≡ definition_from 0 0 es w
        → or_else (g w) (definition_from (at + 1) place (drop (at + 1) es) w) ≡ definition_from 0 0 es w
    new_at g w false q none is h = ap (λ (o : Option Definition). or_else o (definition_from (at + 1) place (drop (at + 1) es) w)) is ∙ h
    new_at g w true q none is h =
        let absent : f w ≡ None = ap f (sym (same_word v w q)) ∙ none in
        ap (λ (o : Option Definition). or_else o (definition_from (at + 1) place (drop (at + 1) es) w)) is
        ∙ sym (or_none (f w) _ absent) ∙ h

    -- a label that is new
    pub after_new : (g : List ℕ → Option Definition) → f v ≡ None
        → ((w : List ℕ) → g w ≡ update bytes_eq f v (Some (let d : Definition = record { statement = at; place = place } in d)) w) → Known es (at + 1) place g
    after_new g none is = record {
      within = omega arith;
      fewer = omega (arith, known.fewer);
      whole = λ w. new_at g w (bytes_eq v w) refl none (is w) (label_left w);
    }

    again_at : (g h : List ℕ → Option Definition) (d e : Definition) (w : List ℕ) (b : Bool) → bytes_eq v w ≡ b → f v ≡ Some d
        → g w ≡ cond b (Some e) (f w) → h w ≡ cond b (Some d) (g w) → h w ≡ f w
    again_at g h d e w false q has put back = back ∙ put
    again_at g h d e w true q has put back = back ∙ sym (ap f (sym (same_word v w q)) ∙ has)

    -- a label that is known, whose first definition is put back
    pub after_again : (g h : List ℕ → Option Definition) (d e : Definition) → f v ≡ Some d
        → ((w : List ℕ) → g w ≡ update bytes_eq f v (Some e) w) → ((w : List ℕ) → h w ≡ update bytes_eq g v (Some d) w) → Known es (at + 1) place h
    after_again g h d e has put back = record {
      within = omega arith;
      fewer = omega (arith, known.fewer);
      whole = λ w.
          ap (λ (o : Option Definition). or_else o (definition_from (at + 1) place (drop (at + 1) es) w)) (again_at g h d e w (bytes_eq v w) refl has (put w) (back w))
          ∙ old_at w (bytes_eq v w) refl d has (label_left w);
    }

-- ---- what they say

-- the place of a label
abbrev pub Same : ℕ → ℕ → List Statement → List ℕ → Type 0
Same at place es w = option_map (λ d. d.place) (definition_from at place es w) ≡ option_map (λ n. place + n) (place_in es w)

skipped : (place : ℕ) (o : Option ℕ) → option_map (λ n. place + 1 + n) o ≡ option_map (λ n. place + n) (option_map suc o)
skipped place None = refl
skipped place (Some n) = ap Some (omega arith)

same_label : (at place : ℕ) (es : List Statement) (w : List ℕ) (b : Bool) → Same (at + 1) place es w
    → option_map (λ d. d.place) (if b then Some (let d : Definition = record { statement = at; place = place } in d) else definition_from (at + 1) place es w)
    ≡ option_map (λ n. place + n) (if b then Some 0 else place_in es w)
same_label at place es w true h = ap Some (omega arith)
same_label at place es w false h = h

same_item : (at place p : ℕ) (i : Item) (es : List Statement) (w : List ℕ) → ((a n : ℕ) → Same a n es w) → Same at place (record { place = p; item = i } ∷ es) w
same_item at place p (Item.Label v) es w h = same_label at place es w (bytes_eq v w) (h (at + 1) place)
same_item at place p (Item.Instruction o) es w h = h (at + 1) (place + 1) ∙ skipped place (place_in es w)
same_item at place p (Item.Program kind o) es w h = refl
same_item at place p Item.Unknown es w h = h (at + 1) place

pub same_place : (at place : ℕ) (es : List Statement) (w : List ℕ) → Same at place es w
same_place at place [] w = refl
same_place at place (x ∷ es) w = same_item at place x.place x.item es w (λ a n. same_place a n es w)

-- a label is not defined before the number from which on it is looked for
not_before_label : (at place : ℕ) (es : List Statement) (w : List ℕ) (n : ℕ) (b : Bool) → n ≤ at → is_before n (definition_from (at + 1) place es w) ≡ false
    → is_before n (if b then Some (let d : Definition = record { statement = at; place = place } in d) else definition_from (at + 1) place es w) ≡ false
not_before_label at place es w n true le h = le-ltb at n le
not_before_label at place es w n false le h = h

not_before_item : (at place p : ℕ) (i : Item) (es : List Statement) (w : List ℕ) (n : ℕ) → n ≤ at → ((a m : ℕ) → n ≤ a → is_before n (definition_from a m es w) ≡ false)
    → is_before n (definition_from at place (record { place = p; item = i } ∷ es) w) ≡ false
not_before_item at place p (Item.Label v) es w n le h = not_before_label at place es w n (bytes_eq v w) le (h (at + 1) place (omega arith))
not_before_item at place p (Item.Instruction o) es w n le h = h (at + 1) (place + 1) (omega arith)
not_before_item at place p (Item.Program kind o) es w n le h = refl
not_before_item at place p Item.Unknown es w n le h = h (at + 1) place (omega arith)

not_before : (at place : ℕ) (es : List Statement) (w : List ℕ) (n : ℕ) → n ≤ at → is_before n (definition_from at place es w) ≡ false
not_before at place [] w n le = refl
not_before at place (x ∷ es) w n le = not_before_item at place x.place x.item es w n le (λ a m f. not_before a m es w n f)

-- whether a label is defined among the first statements
abbrev pub Before : ℕ → ℕ → ℕ → List Statement → List Statement → List ℕ → Type 0
Before n at place own rest w = is_before n (definition_from at place (own ++ rest) w) ≡ defines own w

before_label : (n at place : ℕ) (own rest : List Statement) (w : List ℕ) (b : Bool) → at < n → Before n (at + 1) place own rest w
    → is_before n (if b then Some (let d : Definition = record { statement = at; place = place } in d) else definition_from (at + 1) place (own ++ rest) w)
    ≡ (if b then true else defines own w)
before_label n at place own rest w true lt h = lt-ltb at n lt
before_label n at place own rest w false lt h = h

before_item : (n at place p : ℕ) (i : Item) (own rest : List Statement) (w : List ℕ) → is_program (record { place = p; item = i }) ≡ false → at < n
    → ((m : ℕ) → Before n (at + 1) m own rest w) → Before n at place (record { place = p; item = i } ∷ own) rest w
before_item n at place p (Item.Label v) own rest w c lt h = before_label n at place own rest w (bytes_eq v w) lt (h place)
before_item n at place p (Item.Instruction o) own rest w c lt h = h (place + 1)
before_item n at place p (Item.Program kind o) own rest w c lt h = absurd cc
before_item n at place p Item.Unknown own rest w c lt h = h place

pub defined_before : (n at place : ℕ) (own rest : List Statement) (w : List ℕ) → IsClosed own → at + length own ≡ n → Before n at place own rest w
defined_before n at place [] rest w closed size = not_before at place rest w n (omega (arith, size))
defined_before n at place (x ∷ own) rest w closed size =
    before_item n at place x.place x.item own rest w closed.0 (omega (arith, size))
    (λ m. defined_before n (at + 1) m own rest w closed.1 (omega (arith, size)))

-- ---- how many instructions

size_item : (p : ℕ) (i : Item) (own rest : List Statement) → is_program (record { place = p; item = i }) ≡ false
    → program_size (own ++ rest) ≡ instruction_count own + program_size rest
    → program_size (record { place = p; item = i } ∷ own ++ rest) ≡ instruction_count (record { place = p; item = i } ∷ own) + program_size rest
size_item p (Item.Label v) own rest c h = h
size_item p (Item.Instruction o) own rest c h = omega (arith, h)
size_item p (Item.Program kind o) own rest c h = absurd cc
size_item p Item.Unknown own rest c h = h

size_behind : (own rest : List Statement) → IsClosed own → program_size (own ++ rest) ≡ instruction_count own + program_size rest
size_behind [] rest closed = omega arith
size_behind (x ∷ own) rest closed = size_item x.place x.item own rest closed.0 (size_behind own rest closed.1)

some_item : (p : ℕ) (i : Item) (es : List Statement) → has_instruction es ≡ nat_lt 0 (program_size es)
    → has_instruction (record { place = p; item = i } ∷ es) ≡ nat_lt 0 (program_size (record { place = p; item = i } ∷ es))
some_item p (Item.Label v) es h = h
some_item p (Item.Instruction o) es h = sym (lt-ltb 0 (suc (program_size es)) (omega arith))
some_item p (Item.Program kind o) es h = refl
some_item p Item.Unknown es h = h

some_left : (es : List Statement) → has_instruction es ≡ nat_lt 0 (program_size es)
some_left [] = refl
some_left (x ∷ es) = some_item x.place x.item es (some_left es)

lt_sum : (c k : ℕ) → nat_lt c (c + k) ≡ nat_lt 0 k
lt_sum c k =
    elim (cases_lt 0 k) [
      | inl lt ↦ lt-ltb c (c + k) (omega arith) ∙ sym (lt-ltb 0 k lt)
      | inr le ↦ le-ltb c (c + k) (omega arith) ∙ sym (le-ltb 0 k le)
    ]

-- whether an instruction follows a label
pub goes_on : (own : List Statement) (p : ℕ) (v : List ℕ) (after : List Statement) (passed size : ℕ) → IsClosed own → passed ≡ instruction_count own
    → size ≡ program_size (own ++ record { place = p; item = Item.Label v } ∷ after) → nat_lt passed size ≡ has_instruction after
goes_on own p v after passed size closed count whole =
    let sum : size ≡ passed + program_size after = whole ∙ size_behind own (record { place = p; item = Item.Label v } ∷ after) closed ∙ ap (λ (n : ℕ). n + program_size after) (sym count) in
    ap (nat_lt passed) sum ∙ lt_sum passed (program_size after) ∙ sym (some_left after)
