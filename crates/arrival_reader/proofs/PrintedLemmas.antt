-- The text of a list of arrivals is read as that list.
use Rattle.std.proofs.Common.{◌≡◌, ℕ, zero, suc, ◌+◌, ◌*◌, ◌-◌, ◌^◌, ◌<◌, ◌≤◌, Bool, true, false, not, ◌&&◌, ◌==◌, bytes_eq, Some, None, option_map, List, [], ◌∷◌, ◌++◌, length, get_or, refl, sym, ap, subst, ◌∙◌, arith, append_assoc, le-leb, ne_eqb}
use Rattle.std.specs.Prelude.{decimal, nat_le, nat_lt}
use Rattle.std.specs.Int.{IsInRange}
use Rattle.std.specs.List.{list_all}
use Rattle.std.proofs.lemmas.Bool.{false≢true, and_parts, leb-true, ltb-true, not-true}
use Rattle.std.proofs.lemmas.Fmt.{digits_decimal, digits_value-decimal, first_decimal, decimal_digit}
use Rattle.std.proofs.lemmas.List.{get_or_past}
use Rattle.std.proofs.lemmas.List.Folds.{list_all-append, list_any_at}
use Rattle.std.proofs.lemmas.Slice.Eq.{bytes_eq-Decides}
use Rattle.std.proofs.lemmas.Str.Parse.{IsDigitsTest, FoldsDigits, IsNumeralModel, numerals_by_fold}
use Rattle.osek_base.specs.declared.arrivals.Arrival.{Arrival}
use Rattle.osek_base.specs.declared.limits.TheConstants.{MAX_ARRIVALS, MAX_TICKS}
use Rattle.osek_base.specs.ArrivalList.{are_in_order, is_arrival_list}
use Rattle.osek_base.specs.Names.{Names, name_at, number_of, is_named, are_distinct_names}
use Rattle.osek_base.specs.Words.{is_digit, is_word_byte, digit_of, number_from}
use Rattle.arrival_reader.specs.ArrivalText.{lacks, lines_of, has_no_leading_zero, is_decimal, begins_with_letter, is_name, IsRead, AreRead, IsArrivalList}
use Rattle.arrival_reader.specs.PrintedArrivals.{printed_line, printed_list, first_unnamed}
use Rattle.arrival_reader.proofs.TextLemmas.{lacks_where, lines_of_ended}

-- ---- a tick in decimal

digits_test : IsDigitsTest (λ ds. list_all is_digit ds ≡ true)
digits_test = record {
  empty = refl;
  parts = λ c cs e.
      let all = and_parts (is_digit c) (list_all is_digit cs) e in
      let both = and_parts (nat_le 48 c) (nat_le c 57) all.0 in
      ((leb-true 48 c both.0, leb-true c 57 both.1), all.1);
  more = λ c cs k e. rw (le-leb 48 c k.0, le-leb c 57 k.1) e;
}

digit_is : (c : ℕ) → IsInRange 48 57 c → digit_of c ≡ c - 48
digit_is c k = rw (le-leb 48 c k.0, le-leb c 57 k.1) refl

digits_fold : FoldsDigits (number_from 10)
digits_fold = record {
  empty = λ n. refl;
  more = λ n c cs k. ap (λ d. number_from 10 (n * 10 + d) cs) (digit_is c k);
}

numerals : IsNumeralModel (λ ds. list_all is_digit ds ≡ true) (number_from 10 0)
numerals =
    numerals_by_fold (λ ds. list_all is_digit ds ≡ true) digits_test (number_from 10) digits_fold

unled_from : (ds : List ℕ) → 48 < get_or ds 0 0 → has_no_leading_zero ds ≡ true
unled_from [] h = absurd (omega (arith, h))
unled_from (d ∷ []) h = refl
unled_from (d ∷ e ∷ ds) h = rw (ne_eqb d 48 (λ (same : d ≡ 48). omega (arith, same, h))) refl

unled : (n : ℕ) → n < 2 ^ 64 → has_no_leading_zero (decimal n) ≡ true
unled zero small = ap has_no_leading_zero (decimal_digit 0 (omega arith))
unled (suc n) small = unled_from (decimal (suc n)) (first_decimal (suc n) (omega arith) small)

decimal_reads : (n : ℕ) → n < 2 ^ 64 → is_decimal (decimal n) ≡ true
decimal_reads n small = rw (digits_decimal numerals n small) (unled n small)

-- ---- a routine's name

-- what has a NAME is a routine
named_within : (names : List (List ℕ)) (i : ℕ) → is_name (name_at names i) ≡ true → i < length names
named_within [] i e = absurd (false≢true (sym (ap is_name (get_or_past [] i [] (omega arith))) ∙ e))
named_within (name ∷ names) zero e = omega arith
named_within (name ∷ names) (suc i) e = omega (arith, named_within names i e)

other_name : (name : List ℕ) (names : List (List ℕ)) (i : ℕ) → i < length names
    → not (is_named name names) ≡ true → bytes_eq name (name_at names i) ≡ false
other_name name names i h e =
    let go : (b : Bool) → bytes_eq name (name_at names i) ≡ b → b ≡ false =
    elim [
      | true ↦ λ k.
          let here = list_any_at (bytes_eq name) names i [] h k in
          absurd (false≢true (sym (not-true (is_named name names) e) ∙ here))
      | false ↦ λ k. refl
    ] in
    go (bytes_eq name (name_at names i)) refl

number_named : (names : List (List ℕ)) (i : ℕ) → i < length names → are_distinct_names names ≡ true
    → number_of (name_at names i) names ≡ Some i
number_named [] i h e = absurd (omega (arith, h))
number_named (name ∷ names) zero h e = rw ((bytes_eq-Decides name name).1 refl) refl
number_named (name ∷ names) (suc i) h e =
    let apart = and_parts (not (is_named name names)) (are_distinct_names names) e in
    let later = number_named names i (omega (arith, h)) apart.1 in
    rw (other_name name names i (omega (arith, h)) apart.0) (ap (option_map suc) later)

name_lacks_end : (name : List ℕ) → is_name name ≡ true → lacks 10 name ≡ true
name_lacks_end name e =
    let word = list_all is_word_byte name in
    let short = and_parts (begins_with_letter name && word) (nat_le (length name) 32) e in
    lacks_where is_word_byte 10 refl name (and_parts (begins_with_letter name) word short.0).1

-- ---- a line

abbrev bare_line : List ℕ → ℕ → List ℕ
bare_line name tick = decimal tick ++ 32 ∷ name

bare_lacks_end : (name : List ℕ) (tick : ℕ) → tick < 2 ^ 64 → is_name name ≡ true
    → lacks 10 (bare_line name tick) ≡ true
bare_lacks_end name tick small e =
    rw (
      list_all-append (λ b. not (b == 10)) (decimal tick) (32 ∷ name),
      lacks_where is_digit 10 refl (decimal tick) (digits_decimal numerals tick small),
      name_lacks_end name e,
    ) refl

-- its line, and what follows
split_line : (routines : List (List ℕ)) (a : Arrival) (rest : List ℕ)
    → printed_line routines a ++ rest ≡ bare_line (name_at routines a.routine) a.tick ++ 10 ∷ rest
unfolding printed_line
split_line routines a rest =
    let name = name_at routines a.routine in
    append_assoc (decimal a.tick ++ 32 ∷ [] ++ name) (10 ∷ []) rest
    ∙ ap (λ (front : List ℕ). front ++ 10 ∷ rest) (append_assoc (decimal a.tick) (32 ∷ []) name)

first_line : (routines : List (List ℕ)) (a : Arrival) (rest : List ℕ) → a.tick < MAX_TICKS
    → is_name (name_at routines a.routine) ≡ true
    → lines_of (printed_line routines a ++ rest)
    ≡ bare_line (name_at routines a.routine) a.tick ∷ lines_of rest
first_line routines a rest small e =
    ap lines_of (split_line routines a rest)
    ∙ lines_of_ended (bare_line (name_at routines a.routine) a.tick) rest
    (bare_lacks_end (name_at routines a.routine) a.tick (omega (arith, small)) e)

module _ (names : Names) (distinct : are_distinct_names names.routines ≡ true) where
  line_read : (number before : ℕ) (a : Arrival) → before ≤ a.tick → a.tick < MAX_TICKS
      → number ≤ MAX_ARRIVALS → is_name (name_at names.routines a.routine) ≡ true
      → IsRead names number before (bare_line (name_at names.routines a.routine) a.tick) a
  line_read number before a ordered small few e =
      let wide : a.tick < 2 ^ 64 = omega (arith, small) in
      record {
        name = name_at names.routines a.routine;
        formed = record {
          digits = decimal a.tick;
          spelled = refl;
          decimal = decimal_reads a.tick wide;
          value = sym (digits_value-decimal numerals a.tick wide);
          named = e;
        };
        known =
            number_named names.routines a.routine (named_within names.routines a.routine e)
            distinct;
        ordered = ordered;
        few = few;
        small = small;
      }

  lines_read : (number before : ℕ) (all : List Arrival) → are_in_order before all ≡ true
      → number + length all ≤ MAX_ARRIVALS + 1 → first_unnamed names.routines number all ≡ None
      → AreRead names number before (lines_of (printed_list names.routines all)) all
  lines_read number before [] order few named = tt
  lines_read number before (a ∷ all) order few named =
      let within = nat_lt a.tick MAX_TICKS in
      let after = and_parts (nat_le before a.tick && within) (are_in_order a.tick all) order in
      let ticks = and_parts (nat_le before a.tick) within after.0 in
      let small : a.tick < MAX_TICKS = ltb-true a.tick MAX_TICKS ticks.1 in
      let name = name_at names.routines a.routine in
      let go : (b : Bool) → is_name (name_at names.routines a.routine) ≡ b
      → AreRead names number before (lines_of (printed_list names.routines (a ∷ all))) (a ∷ all) =
      elim [
        | true ↦ λ e.
            let others : first_unnamed names.routines (number + 1) all ≡ None = rw e at named in
            subst (λ (lines : List (List ℕ)). AreRead names number before lines (a ∷ all))
            (sym (first_line names.routines a (printed_list names.routines all) small e)) (
              line_read number before a (leb-true before a.tick ticks.0) small
                  (omega (arith, few)) e,
              lines_read (number + 1) a.tick all after.1 (omega (arith, few)) others,
            )
        | false ↦ λ e.
            let none : Some number ≡ None = rw e at named in
            absurd cc
      ] in
      go (is_name (name_at names.routines a.routine)) refl

  pub printed_is_read : (all : List Arrival) → is_arrival_list all ≡ true
      → first_unnamed names.routines 1 all ≡ None
      → IsArrivalList names (printed_list names.routines all) all
  printed_is_read all kept named =
      let both = and_parts (nat_le (length all) MAX_ARRIVALS) (are_in_order 0 all) kept in
      lines_read 1 0 all both.1 (omega (arith, leb-true (length all) MAX_ARRIVALS both.0)) named
