-- A text is one arrival list, or has one first fault, and never both.
use Rattle.std.proofs.Common.{◌≡◌, ℕ, ◌+◌, List, [], ◌∷◌, Some, None, unwrap_or, refl, sym, ap, ap₂, subst, ◌∙◌, inl, inr, arith}
use Rattle.std.specs.List.{list_all}
use Rattle.osek_base.specs.declared.arrivals.Arrival.{Arrival}
use Rattle.osek_base.specs.Names.{Names, number_of}
use Rattle.osek_base.specs.Words.{is_digit, number_from}
use Rattle.arrival_reader.specs.ArrivalText.{has_no_leading_zero, lines_of, IsLineOf, IsRead, IsKnown, LineFault, AreRead, HasFirstFault, IsArrivalList, IsFirstFault}
use Rattle.arrival_reader.specs.declared.irq_fault.IrqFault.{IrqFault}
use Rattle.arrival_reader.proofs.TextLemmas.{both_left, digits_lack_space, same_cut}

-- ---- one line

record OneReading (t u : ℕ) (name other : List ℕ) : Type 0 where
  ticks : t ≡ u
  names : name ≡ other

one_reading : (line : List ℕ) (t u : ℕ) (name other : List ℕ) → IsLineOf line t name → IsLineOf line u other → OneReading t u name other
one_reading line t u name other l k =
    let cut =
    same_cut 32 l.digits k.digits name other
    (digits_lack_space l.digits (both_left (list_all is_digit l.digits) (has_no_leading_zero l.digits) l.decimal))
    (digits_lack_space k.digits (both_left (list_all is_digit k.digits) (has_no_leading_zero k.digits) k.decimal))
    (sym l.spelled ∙ k.spelled) in
    record { ticks = l.value ∙ ap (number_from 10 0) cut.fronts ∙ sym k.value; names = cut.rests }

module _ (names : Names) (number before : ℕ) (line : List ℕ) where
  one_arrival : (a b : Arrival) → IsRead names number before line a → IsRead names number before line b → a ≡ b
  one_arrival a b r k =
      let same = one_reading line a.tick b.tick r.name k.name r.formed k.formed in
      let found : Some a.routine ≡ Some b.routine = sym r.known ∙ ap (λ n. number_of n names.routines) same.names ∙ k.known in
      ap₂ (λ t (i : ℕ). record { tick = t; routine = i }) same.ticks (ap (λ o. unwrap_or o 0) found)

  -- a name is of a routine or of none
  not_unknown : (t u : ℕ) (name other : List ℕ) (i : ℕ) → IsLineOf line t name → number_of name names.routines ≡ None
      → IsLineOf line u other → number_of other names.routines ≡ Some i → ⊥
  not_unknown t u name other i l none k some =
      let clash : None ≡ Some i = sym none ∙ ap (λ n. number_of n names.routines) (one_reading line t u name other l k).names ∙ some in
      cc

  one_tick : (t u : ℕ) → IsKnown names line t → IsKnown names line u → t ≡ u
  one_tick t u l k = (one_reading line t u l.name k.name l.formed k.formed).ticks

  known : (a : Arrival) → IsRead names number before line a → IsKnown names line a.tick
  known a r = record { name = r.name; routine = a.routine; formed = r.formed; known = r.known }

  no_fault : (a : Arrival) (e : IrqFault) → IsRead names number before line a → LineFault names number before line e → ⊥
  no_fault a (IrqFault.Syntax n) r h = h.1 a.tick r.name r.formed
  no_fault a (IrqFault.UnknownIsr n) r h = not_unknown h.1.0 a.tick h.1.1 r.name a.routine h.1.2 h.1.3 r.formed r.known
  no_fault a (IrqFault.Order n) r h = omega (arith, one_tick h.1.0 a.tick h.1.1 (known a r), h.1.2, r.ordered)
  no_fault a (IrqFault.TooMany n) r h = omega (arith, h.1.3, r.few)
  no_fault a (IrqFault.TickRange n) r h = omega (arith, one_tick h.1.0 a.tick h.1.1 (known a r), h.1.4, r.small)
  no_fault a IrqFault.Memory r h = h

  unknown_or_known : (n : ℕ) (t : ℕ) → LineFault names number before line (IrqFault.UnknownIsr n) → IsKnown names line t → ⊥
  unknown_or_known n t h k = not_unknown h.1.0 t h.1.1 k.name k.routine h.1.2 h.1.3 k.formed k.known

  -- a line has one lowest fault
  one_fault : (e f : IrqFault) → LineFault names number before line e → LineFault names number before line f → e ≡ f
  one_fault (IrqFault.Syntax n) (IrqFault.Syntax m) h k = ap IrqFault.Syntax (h.0 ∙ sym k.0)
  one_fault (IrqFault.Syntax n) (IrqFault.UnknownIsr m) h k = absurd (h.1 k.1.0 k.1.1 k.1.2)
  one_fault (IrqFault.Syntax n) (IrqFault.Order m) h k = absurd (h.1 k.1.0 k.1.1.name k.1.1.formed)
  one_fault (IrqFault.Syntax n) (IrqFault.TooMany m) h k = absurd (h.1 k.1.0 k.1.1.name k.1.1.formed)
  one_fault (IrqFault.Syntax n) (IrqFault.TickRange m) h k = absurd (h.1 k.1.0 k.1.1.name k.1.1.formed)
  one_fault (IrqFault.UnknownIsr n) (IrqFault.Syntax m) h k = absurd (k.1 h.1.0 h.1.1 h.1.2)
  one_fault (IrqFault.UnknownIsr n) (IrqFault.UnknownIsr m) h k = ap IrqFault.UnknownIsr (h.0 ∙ sym k.0)
  one_fault (IrqFault.UnknownIsr n) (IrqFault.Order m) h k = absurd (unknown_or_known n k.1.0 h k.1.1)
  one_fault (IrqFault.UnknownIsr n) (IrqFault.TooMany m) h k = absurd (unknown_or_known n k.1.0 h k.1.1)
  one_fault (IrqFault.UnknownIsr n) (IrqFault.TickRange m) h k = absurd (unknown_or_known n k.1.0 h k.1.1)
  one_fault (IrqFault.Order n) (IrqFault.Syntax m) h k = absurd (k.1 h.1.0 h.1.1.name h.1.1.formed)
  one_fault (IrqFault.Order n) (IrqFault.UnknownIsr m) h k = absurd (unknown_or_known m h.1.0 k h.1.1)
  one_fault (IrqFault.Order n) (IrqFault.Order m) h k = ap IrqFault.Order (h.0 ∙ sym k.0)
  one_fault (IrqFault.Order n) (IrqFault.TooMany m) h k = absurd (omega (arith, one_tick h.1.0 k.1.0 h.1.1 k.1.1, h.1.2, k.1.2))
  one_fault (IrqFault.Order n) (IrqFault.TickRange m) h k = absurd (omega (arith, one_tick h.1.0 k.1.0 h.1.1 k.1.1, h.1.2, k.1.2))
  one_fault (IrqFault.TooMany n) (IrqFault.Syntax m) h k = absurd (k.1 h.1.0 h.1.1.name h.1.1.formed)
  one_fault (IrqFault.TooMany n) (IrqFault.UnknownIsr m) h k = absurd (unknown_or_known m h.1.0 k h.1.1)
  one_fault (IrqFault.TooMany n) (IrqFault.Order m) h k = absurd (omega (arith, one_tick k.1.0 h.1.0 k.1.1 h.1.1, k.1.2, h.1.2))
  one_fault (IrqFault.TooMany n) (IrqFault.TooMany m) h k = ap IrqFault.TooMany (h.0 ∙ sym k.0)
  one_fault (IrqFault.TooMany n) (IrqFault.TickRange m) h k = absurd (omega (arith, h.1.3, k.1.3))
  one_fault (IrqFault.TickRange n) (IrqFault.Syntax m) h k = absurd (k.1 h.1.0 h.1.1.name h.1.1.formed)
  one_fault (IrqFault.TickRange n) (IrqFault.UnknownIsr m) h k = absurd (unknown_or_known m h.1.0 k h.1.1)
  one_fault (IrqFault.TickRange n) (IrqFault.Order m) h k = absurd (omega (arith, one_tick k.1.0 h.1.0 k.1.1 h.1.1, k.1.2, h.1.2))
  one_fault (IrqFault.TickRange n) (IrqFault.TooMany m) h k = absurd (omega (arith, k.1.3, h.1.3))
  one_fault (IrqFault.TickRange n) (IrqFault.TickRange m) h k = ap IrqFault.TickRange (h.0 ∙ sym k.0)
  one_fault IrqFault.Memory f h k = absurd h
  one_fault e IrqFault.Memory h k = absurd k

-- ---- whole texts

one_list_from : (names : Names) (number before : ℕ) (lines : List (List ℕ)) (all other : List Arrival)
    → AreRead names number before lines all → AreRead names number before lines other → all ≡ other
one_list_from names number before [] [] [] h k = refl
one_list_from names number before [] [] (b ∷ other) h k = absurd k
one_list_from names number before [] (a ∷ all) other h k = absurd h
one_list_from names number before (line ∷ lines) [] other h k = absurd h
one_list_from names number before (line ∷ lines) (a ∷ all) [] h k = absurd k
one_list_from names number before (line ∷ lines) (a ∷ all) (b ∷ other) h k =
    let same = one_arrival names number before line a b h.0 k.0 in
    let rest : AreRead names (number + 1) a.tick lines other = subst (λ (x : Arrival). AreRead names (number + 1) x.tick lines other) (sym same) k.1 in
    ap₂ (λ (x : Arrival) (xs : List Arrival). x ∷ xs) same (one_list_from names (number + 1) a.tick lines all other h.1 rest)

one_fault_from : (names : Names) (number before : ℕ) (lines : List (List ℕ)) (e f : IrqFault)
    → HasFirstFault names number before lines e → HasFirstFault names number before lines f → e ≡ f
one_fault_from names number before [] e f h k = absurd h
one_fault_from names number before (line ∷ lines) e f (inl h) (inl k) = one_fault names number before line e f h k
one_fault_from names number before (line ∷ lines) e f (inl h) (inr k) = absurd (no_fault names number before line k.0 e k.1 h)
one_fault_from names number before (line ∷ lines) e f (inr h) (inl k) = absurd (no_fault names number before line h.0 f h.1 k)
one_fault_from names number before (line ∷ lines) e f (inr h) (inr k) =
    let same = one_arrival names number before line h.0 k.0 h.1 k.1 in
    one_fault_from names (number + 1) h.0.tick lines e f h.2
    (subst (λ (x : Arrival). HasFirstFault names (number + 1) x.tick lines f) (sym same) k.2)

apart_from : (names : Names) (number before : ℕ) (lines : List (List ℕ)) (all : List Arrival) (e : IrqFault)
    → AreRead names number before lines all → HasFirstFault names number before lines e → ⊥
apart_from names number before [] all e h k = k
apart_from names number before (line ∷ lines) [] e h k = h
apart_from names number before (line ∷ lines) (a ∷ all) e h (inl k) = no_fault names number before line a e h.0 k
apart_from names number before (line ∷ lines) (a ∷ all) e h (inr k) =
    let same = one_arrival names number before line k.0 a k.1 h.0 in
    apart_from names (number + 1) a.tick lines all e h.1
    (subst (λ (x : Arrival). HasFirstFault names (number + 1) x.tick lines e) same k.2)

pub one_list : (names : Names) (text : List ℕ) (all other : List Arrival) → IsArrivalList names text all → IsArrivalList names text other → all ≡ other
one_list names text all other = one_list_from names 1 0 (lines_of text) all other

pub one_first_fault : (names : Names) (text : List ℕ) (e f : IrqFault) → IsFirstFault names text e → IsFirstFault names text f → e ≡ f
one_first_fault names text e f = one_fault_from names 1 0 (lines_of text) e f

pub never_both : (names : Names) (text : List ℕ) (all : List Arrival) (e : IrqFault) → IsArrivalList names text all → IsFirstFault names text e → ⊥
never_both names text all e = apart_from names 1 0 (lines_of text) all e
