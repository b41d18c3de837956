-- What an arrival list tells depends on the routines' names alone, and its routines are known.
use Rattle.std.proofs.Common.{suc, Bool, true, false, ap, ◌<◌, Option, Some, None, option_map, unwrap_or, bytes_eq, ◌≡◌, ℕ, ◌+◌, List, [], ◌∷◌, length, refl, sym, ◌∙◌, inl, inr, arith}
use Rattle.std.specs.List.{AllByRecursion}
use Rattle.osek_base.specs.declared.arrivals.Arrival.{Arrival}
use Rattle.osek_base.specs.Names.{Names, number_of}
use Rattle.arrival_reader.specs.ArrivalText.{IsRead, IsKnown, LineFault, AreRead, HasFirstFault}
use Rattle.arrival_reader.specs.declared.irq_fault.IrqFault.{IrqFault}

next_below : (found : Option ℕ) (n size : ℕ) → ((m : ℕ) → found ≡ Some m → m < size) → option_map suc found ≡ Some n → n < suc size
next_below None n size f e = absurd cc
next_below (Some m) n size f e =
    let same : suc m ≡ n = ap (λ o. unwrap_or o 0) e in
    omega (arith, same, f m refl)

pub number_below : (name : List ℕ) (names : List (List ℕ)) (n : ℕ) → number_of name names ≡ Some n → n < length names
number_below name [] n e = absurd cc
number_below name (first ∷ names) n e =
    let go : (t : Bool) → bytes_eq first name ≡ t → n < length (first ∷ names) =
    elim [
      | true ↦ λ h.
          let here : Some 0 ≡ Some n = rw h at e in
          let same : 0 ≡ n = ap (λ o. unwrap_or o 1) here in
          omega (arith, same)
      | false ↦ λ h.
          let later : option_map suc (number_of name names) ≡ Some n = rw h at e in
          next_below (number_of name names) n (length names) (number_below name names) later
    ] in
    go (bytes_eq first name) refl

pub routines_known : (names : Names) (number before : ℕ) (lines : List (List ℕ)) (arrivals : List Arrival)
    → AreRead names number before lines arrivals → AllByRecursion (λ a. a.routine < length names.routines) arrivals
routines_known names number before lines [] h = tt
routines_known names number before [] (a ∷ arrivals) h = absurd h
routines_known names number before (line ∷ lines) (a ∷ arrivals) h =
    (number_below h.0.name names.routines a.routine h.0.known, routines_known names (number + 1) a.tick lines arrivals h.1)

-- ---- two systems with the same routines

module _ (a b : Names) (same : a.routines ≡ b.routines) where
  read_same : (number before : ℕ) (line : List ℕ) (x : Arrival) → IsRead a number before line x → IsRead b number before line x
  read_same number before line x r =
      record {
        name = r.name;
        formed = r.formed;
        known = ap (number_of r.name) (sym same) ∙ r.known;
        ordered = r.ordered;
        few = r.few;
        small = r.small;
      }

  known_same : (line : List ℕ) (tick : ℕ) → IsKnown a line tick → IsKnown b line tick
  known_same line tick k =
      record { name = k.name; routine = k.routine; formed = k.formed; known = ap (number_of k.name) (sym same) ∙ k.known }

  fault_same : (number before : ℕ) (line : List ℕ) (fault : IrqFault) → LineFault a number before line fault → LineFault b number before line fault
  fault_same number before line (IrqFault.Syntax n) h = h
  fault_same number before line (IrqFault.UnknownIsr n) h =
      (h.0, (h.1.0, h.1.1, h.1.2, ap (number_of h.1.1) (sym same) ∙ h.1.3))
  fault_same number before line (IrqFault.Order n) h = (h.0, (h.1.0, known_same line h.1.0 h.1.1, h.1.2))
  fault_same number before line (IrqFault.TooMany n) h = (h.0, (h.1.0, known_same line h.1.0 h.1.1, h.1.2, h.1.3))
  fault_same number before line (IrqFault.TickRange n) h = (h.0, (h.1.0, known_same line h.1.0 h.1.1, h.1.2, h.1.3, h.1.4))
  fault_same number before line IrqFault.Memory h = h

  pub are_read_same : (number before : ℕ) (lines : List (List ℕ)) (arrivals : List Arrival) → AreRead a number before lines arrivals
      → AreRead b number before lines arrivals
  are_read_same number before [] [] h = tt
  are_read_same number before [] (x ∷ arrivals) h = h
  are_read_same number before (line ∷ lines) [] h = h
  are_read_same number before (line ∷ lines) (x ∷ arrivals) h =
      (read_same number before line x h.0, are_read_same (number + 1) x.tick lines arrivals h.1)

  pub first_fault_same : (number before : ℕ) (lines : List (List ℕ)) (fault : IrqFault) → HasFirstFault a number before lines fault
      → HasFirstFault b number before lines fault
  first_fault_same number before [] fault h = h
  first_fault_same number before (line ∷ lines) fault (inl h) = inl (fault_same number before line fault h)
  first_fault_same number before (line ∷ lines) fault (inr h) =
      inr (h.0, read_same number before line h.0 h.1, first_fault_same (number + 1) h.0.tick lines fault h.2)
