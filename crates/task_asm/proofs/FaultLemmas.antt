-- The first fault of what stands in a text, one statement after the other.
use Rattle.std.proofs.Common.{◌≡◌, ℕ, ◌+◌, ◌-◌, ◌≤◌, ◌<◌, Bool, true, false, List, [], ◌∷◌, ◌++◌, length, take, drop, get_or, Option, Some, None, refl, sym, ap, ◌∙◌, arith, length-drop}
use Rattle.std.specs.Prelude.{IfSome, if◌then◌else◌}
use Rattle.std.specs.Option.{option_map}
use Rattle.std.proofs.lemmas.List.{drop_more, drop-drop, take_more, take-append-drop, get_or-drop}
use Rattle.task_asm.specs.declared.fault.AsmFault.{AsmFault}
use Rattle.task_asm.specs.Mnemonics.{or_else}
use Rattle.task_asm.specs.Statements.{Statement}
use Rattle.task_asm.specs.Labels.{is_program, open_after}
use Rattle.task_asm.specs.Walk.{statement_fault, front_fault, fault_behind, first_fault, own_of}

-- the statements of a program so far, and those from a number on
pub joined : (es : List Statement) (s at : ℕ) → s ≤ at → take (at - s) (drop s es) ++ drop at es ≡ drop s es
joined es s at started =
    let number : s + (at - s) ≡ at = omega arith in
    ap (λ (xs : List Statement). take (at - s) (drop s es) ++ xs) (sym (drop-drop (at - s) s es ∙ ap (λ (k : ℕ). drop k es) number))
    ∙ take-append-drop (at - s) (drop s es)

-- ---- one statement after the other

-- the statements up to a number have no fault, and those of the open program are known
pub record Walk (es : List Statement) (at : ℕ) (start : Option ℕ) : Type 0 where
  pub within : at ≤ length es
  pub started : IfSome start (λ s. s ≤ at)
  pub own : open_after None (take at es) ≡ own_of es at start
  pub rest : fault_behind (take at es) (drop at es) ≡ first_fault es

open_more : (o : Option (List Statement)) (xs : List Statement) (x : Statement)
    → open_after o (xs ++ x ∷ []) ≡ (if is_program x then Some [] else option_map (λ own. own ++ x ∷ []) (open_after o xs))
open_more o [] x = refl
open_more o (y ∷ xs) x = open_more (if is_program y then Some [] else option_map (λ own. own ++ y ∷ []) o) xs x

started_more : (at : ℕ) (start : Option ℕ) → IfSome start (λ s. s ≤ at) → IfSome start (λ s. s ≤ at + 1)
started_more at None h = tt
started_more at (Some s) h = omega arith

module _ (es : List Statement) (at : ℕ) (x : Statement) (inside : at < length es) (is : x ≡ get_or es at x) where
  pub here : drop at es ≡ x ∷ drop (at + 1) es
  here = drop_more es at x inside ∙ ap (λ (y : Statement). y ∷ drop (at + 1) es) (sym is)

  pub so_far : take (at + 1) es ≡ take at es ++ x ∷ []
  so_far = take_more es at x inside ∙ ap (λ (y : Statement). take at es ++ y ∷ []) (sym is)

  -- one statement more of the open program
  pub own_more : (start : Option ℕ) → IfSome start (λ s. s ≤ at) → option_map (λ own. own ++ x ∷ []) (own_of es at start) ≡ own_of es (at + 1) start
  own_more None h = refl
  own_more (Some s) h =
      let number : s + (at - s) ≡ at = omega arith in
      let size : at - s + 1 ≡ at + 1 - s = omega arith in
      let room : at - s < length (drop s es) = omega (arith, length-drop s es) in
      let same : x ≡ get_or (drop s es) (at - s) x = is ∙ sym (get_or-drop s es (at - s) x ∙ ap (λ (k : ℕ). get_or es k x) number) in
      ap (λ (y : Statement). Some (take (at - s) (drop s es) ++ y ∷ [])) same
      ∙ ap (λ (xs : List Statement). Some xs) (sym (take_more (drop s es) (at - s) x room))
      ∙ ap (λ (k : ℕ). Some (take k (drop s es))) size

  module _ (start : Option ℕ) (walk : Walk es at start) where
    value : (o : Option AsmFault) → front_fault (take at es) (own_of es at start) (drop at es) ≡ o
        → statement_fault (take at es) (open_after None (take at es)) x (drop (at + 1) es) ≡ o
    value o h =
        ap (λ (own : Option (List Statement)). statement_fault (take at es) own x (drop (at + 1) es)) walk.own
        ∙ ap (front_fault (take at es) (own_of es at start)) (sym here) ∙ h

    split : (o : Option AsmFault) → front_fault (take at es) (own_of es at start) (drop at es) ≡ o
        → first_fault es ≡ or_else o (fault_behind (take at es ++ x ∷ []) (drop (at + 1) es))
    split o h =
        sym walk.rest ∙ ap (fault_behind (take at es)) here
        ∙ ap (λ (v : Option AsmFault). or_else v (fault_behind (take at es ++ x ∷ []) (drop (at + 1) es))) (value o h)

    rest_after : front_fault (take at es) (own_of es at start) (drop at es) ≡ None → fault_behind (take (at + 1) es) (drop (at + 1) es) ≡ first_fault es
    rest_after none = ap (λ (before : List Statement). fault_behind before (drop (at + 1) es)) so_far ∙ sym (split None none)

    own_after : (b : Bool) → is_program x ≡ b
        → open_after None (take (at + 1) es) ≡ (if b then Some [] else option_map (λ own. own ++ x ∷ []) (own_of es at start))
    own_after b p =
        ap (open_after None) so_far ∙ open_more None (take at es) x
        ∙ ap (λ (o : Option (List Statement)). if is_program x then Some [] else option_map (λ own. own ++ x ∷ []) o) walk.own
        ∙ ap (λ (v : Bool). if v then Some [] else option_map (λ own. own ++ x ∷ []) (own_of es at start)) p

    pub at_program : front_fault (take at es) (own_of es at start) (drop at es) ≡ None → is_program x ≡ true → Walk es (at + 1) (Some (at + 1))
    at_program none p =
        let zero : at + 1 - (at + 1) ≡ 0 = omega arith in
        record {
          within = omega arith;
          started = omega arith;
          own = own_after true p ∙ ap (λ (k : ℕ). Some (take k (drop (at + 1) es))) (sym zero);
          rest = rest_after none;
        }

    pub at_other : front_fault (take at es) (own_of es at start) (drop at es) ≡ None → is_program x ≡ false → Walk es (at + 1) start
    at_other none p = record {
      within = omega arith;
      started = started_more at start walk.started;
      own = own_after false p ∙ own_more start walk.started;
      rest = rest_after none;
    }
