-- Lines of objects, one after another by their numbers.
use Rattle.std.proofs.Common.{◌≡◌, ◌∙◌, ◌+◌, ℕ, suc, List, [], ◌∷◌, ◌++◌, sym, ap, ap₂, append_assoc, arith}
use Rattle.std.specs.Prelude.{Option}
use Rattle.std.specs.List.{flat_map}
use Rattle.std.proofs.lemmas.List.{append-nil}
use Rattle.std.proofs.lemmas.Grind.{flat_map-append}
use Rattle.osek_base.specs.Lists.{below}
use Rattle.view_figure_texts.specs.Limits.{first_text}

-- the lines of one object more
pub one_more : (line : ℕ → List ℕ) (n : ℕ) (start now next : List ℕ) → now ≡ start ++ flat_map line (below n) → next ≡ now ++ line n
    → next ≡ start ++ flat_map line (below (n + 1))
one_more line n start now next was is =
    let on : suc n ≡ n + 1 = omega arith in
    is
    ∙ ap (λ (text : List ℕ). text ++ line n) was
    ∙ append_assoc start (flat_map line (below n)) (line n)
    ∙ ap (λ (text : List ℕ). start ++ (flat_map line (below n) ++ text)) (sym (append-nil (line n)))
    ∙ ap (λ (text : List ℕ). start ++ text) (sym (flat_map-append line (below n) (n ∷ [])))
    ∙ ap (λ (m : ℕ). start ++ flat_map line (below m)) on

-- the line of what was seen first, by the name and the tick of the definition
pub as_told : (what name told_name : List ℕ) (first told_first : Option ℕ) (now next : List ℕ)
    → name ≡ told_name → first ≡ told_first → next ≡ now ++ first_text name what first → next ≡ now ++ first_text told_name what told_first
as_told what name told_name first told_first now next of at is =
    is ∙ ap₂ (λ (n : List ℕ) (f : Option ℕ). now ++ first_text n what f) of at
