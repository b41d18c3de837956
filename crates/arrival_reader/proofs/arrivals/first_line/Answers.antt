use Rattle.std.proofs.Common.{◌≡◌, ℕ, ◌+◌, ◌-◌, ◌<◌, true, List, [], ◌∷◌, length, take, drop, get_or, ap, ◌∙◌, arith}
use Rattle.std.proofs.lemmas.List.{take_rest}
use Rattle.arrival_reader.specs.ArrivalText.{lacks, lines_of}
use Rattle.arrival_reader.proofs.TextLemmas.{cut_at, lines_of_ended, lines_of_one}
use Rattle.arrival_reader.proofs.arrivals.first_line.Goals as goal

ended : (text : List ℕ) (i : ℕ) → i < length text → get_or text i 0 ≡ 10 → lacks 10 (take i text) ≡ true
    → lines_of text ≡ take i text ∷ lines_of (take (length text - (i + 1)) (drop (i + 1) text))
ended text i h there first =
    rw (take_rest text (i + 1))
    (ap lines_of (cut_at 10 text i h there) ∙ lines_of_ended (take i text) (drop (i + 1) text) first)

unended : (text : List ℕ) → 0 < length text → lacks 10 text ≡ true
    → lines_of text ≡ text ∷ lines_of (take (length text - length text) (drop (length text) text))
unended [] h e = absurd (omega (arith, h))
unended (b ∷ text) h e =
    let none : length (b ∷ text) - length (b ∷ text) ≡ 0 = omega arith in
    rw none (lines_of_one b text e)

pub returns-in-Some-clause-lines : goal.returns-in-Some-clause-lines
returns-in-Some-clause-lines c =
    let found = c.in-Some.ensures in
    ended c.args.text.now c.in-Some.end found.within found.there found.first

pub returns-in-None-clause-lines : goal.returns-in-None-clause-lines
returns-in-None-clause-lines c = unended c.args.text.now c.requires c.in-None.ensures.none
