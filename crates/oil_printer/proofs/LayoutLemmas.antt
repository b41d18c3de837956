-- What is written one after the other.
use Rattle.std.proofs.Common.{◌≡◌, ℕ, List, [], ◌∷◌, ◌++◌, sym, ap, ◌∙◌, refl, append_assoc}
use Rattle.std.specs.Prelude.{codes, Result, Ok, Err, OnOk}
use Rattle.std.specs.List.{flat_map}
use Rattle.std.proofs.lemmas.List.{append-nil}
use Rattle.std.proofs.lemmas.Grind.{flat_map-append}
use Rattle.oil_reader.specs.Grammar.{Value, Setting}
use Rattle.oil_printer.specs.Layout.{setting_text, sub_text, attribute_text, block_start, block_end}
use Rattle.oil_printer.specs.Printed.{setting, line_with}

-- behind the old text stand a beginning and the texts of some things
pub record Wrote {X : Type 0} (text : X → List ℕ) (old new start : List ℕ) (xs : List X) : Type 0 where
  pub is : new ≡ old ++ (start ++ flat_map text xs)

module _ {X : Type 0} (text : X → List ℕ) (old start : List ℕ) where
  pub begun : (new : List ℕ) → new ≡ old ++ start → Wrote text old new start []
  begun new e = record { is = e ∙ ap (λ (s : List ℕ). old ++ s) (sym (append-nil start)) }

  -- several more things
  pub more : (new next : List ℕ) (xs ys : List X) → Wrote text old new start xs → next ≡ new ++ flat_map text ys → Wrote text old next start (xs ++ ys)
  more new next xs ys w e = record {
    is = e ∙ ap (λ (s : List ℕ). s ++ flat_map text ys) w.is ∙ append_assoc old (start ++ flat_map text xs) (flat_map text ys)
        ∙ ap (λ (s : List ℕ). old ++ s) (append_assoc start (flat_map text xs) (flat_map text ys) ∙ ap (λ (s : List ℕ). start ++ s) (sym (flat_map-append text xs ys)));
  }

  -- one more thing
  pub one : (new next : List ℕ) (xs : List X) (x : X) → Wrote text old new start xs → next ≡ new ++ text x → Wrote text old next start (xs ++ x ∷ [])
  one new next xs x w e = more new next xs (x ∷ []) w (e ∙ ap (λ (s : List ℕ). new ++ s) (sym (append-nil (text x))))

  -- the end
  pub ended : (new next end : List ℕ) (xs : List X) → Wrote text old new start xs → next ≡ new ++ end → next ≡ old ++ (start ++ flat_map text xs ++ end)
  ended new next end xs w e = e ∙ ap (λ (s : List ℕ). s ++ end) w.is ∙ append_assoc old (start ++ flat_map text xs) end

  -- the end, where it could be written
  pub closed : {T E : Type 0} (r : Result T E) (new next end : List ℕ) (xs : List X) → Wrote text old new start xs → OnOk r (next ≡ new ++ end) → OnOk r (next ≡ old ++ (start ++ flat_map text xs ++ end))
  closed (Ok v) new next end xs w e = ended new next end xs w e
  closed (Err v) new next end xs w e = e

-- ---- an attribute with a block

parts : (start a settings b c : List ℕ) → start ++ (a ++ settings ++ b) ++ c ≡ start ++ a ++ settings ++ (b ++ c)
parts start a settings b c = simp append_assoc refl

block_parts : (start settings : List ℕ) → codes "    " ++ start ++ (codes " {" ++ settings ++ codes " }") ++ codes ";\n" ≡ (codes "    " ++ start ++ codes " {") ++ settings ++ codes " };\n"
block_parts start settings = ap (λ (s : List ℕ). codes "    " ++ s) (parts start (codes " {") settings (codes " }") (codes ";\n"))

pub with_block : (word : List ℕ) (value : Value) (settings : List Setting) → attribute_text (line_with word value settings) ≡ block_start (setting word value) ++ flat_map sub_text settings ++ block_end
unfolding attribute_text block_start block_end
with_block word value settings = block_parts (setting_text (setting word value)) (flat_map sub_text settings)

pub block_closed : {T E : Type 0} (r : Result T E) (old new next : List ℕ) (word : List ℕ) (value : Value) (settings : List Setting)
    → Wrote sub_text old new (block_start (setting word value)) settings → OnOk r (next ≡ new ++ block_end) → OnOk r (next ≡ old ++ attribute_text (line_with word value settings))
block_closed r old new next word value settings w e =
    rw (with_block word value settings) (closed sub_text old (block_start (setting word value)) r new next block_end settings w e)
