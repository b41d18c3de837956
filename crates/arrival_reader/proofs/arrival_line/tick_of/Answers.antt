use Rattle.std.proofs.Common.{◌≡◌, ℕ, ◌+◌, ◌-◌, ◌*◌, ◌<◌, Bool, true, false, List, length, drop, get_or, min, refl, sym, ap, ◌∙◌, arith, add-one}
use Rattle.std.proofs.Math.Seq.{drop-cons}
use Rattle.std.proofs.lemmas.List.Folds.{list_all_at}
use Rattle.std.proofs.lemmas.Bool.{false≢true}
use Rattle.std.specs.Bool.{IsTrue}
use Rattle.std.specs.List.{list_all}
use Rattle.osek_base.specs.Words.{is_digit, digit_of, number_from}
use Rattle.arrival_reader.proofs.NumberLemmas.{number_from_cut}
use Rattle.arrival_reader.proofs.arrival_line.tick_of.Goals as goal

digit_at : (digits : List ℕ) (i : ℕ) → i < length digits → IsTrue (list_all is_digit digits) → is_digit (get_or digits i 0) ≡ true
digit_at digits i h t =
    let go : (b : Bool) → is_digit (get_or digits i 0) ≡ b → b ≡ true =
    elim [ true ↦ λ e. refl | false ↦ λ e. absurd (false≢true (rw (list_all_at is_digit digits i 0 h e) at t)) ] in
    go (is_digit (get_or digits i 0)) refl

digit_value : (d : ℕ) → is_digit d ≡ true → digit_of d ≡ d - 48
digit_value d e = rw e refl

-- one more digit is read
digit_read : (v M : ℕ) (digits : List ℕ) (i : ℕ) → i < length digits → IsTrue (list_all is_digit digits)
    → min (number_from 10 (min (v * 10 + (get_or digits i 0 - 48)) M) (drop (i + 1) digits)) M
    ≡ min (number_from 10 v (drop i digits)) M
digit_read v M digits i h t =
    let d = get_or digits i 0 in
    let same : number_from 10 v (drop i digits) ≡ number_from 10 (v * 10 + (d - 48)) (drop (i + 1) digits) =
    rw (drop-cons digits i 0 h, add-one i, ← digit_value d (digit_at digits i h t)) refl in
    number_from_cut (v * 10 + (d - 48)) M (drop (i + 1) digits) ∙ ap (λ n. min n M) (sym same)

pub digits-preserved : goal.digits-preserved
digits-preserved c =
    record {
      small = omega (arith, c.min-tick.ensures);
      whole = rw (c.min-tick.ensures) (digit_read c.digits.tick 1000000 c.args.digits.now c.digits.digit-index c.digits-test.true c.requires
          ∙ c.digits.invariant.whole);
    }
