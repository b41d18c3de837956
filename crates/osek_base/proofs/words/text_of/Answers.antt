-- The bytes of words are ASCII.
use Rattle.std.proofs.Common.{ℕ, ◌<◌, List, length, get_or, arith, inl, inr}
use Rattle.std.specs.Prelude.{IsTrue}
use Rattle.std.proofs.lemmas.Bool.{cases_lt}
use Rattle.std.proofs.lemmas.Bool.Decides.{nat_tests}
use Rattle.std.proofs.lemmas.List.{get_or_past}
use Rattle.std.proofs.lemmas.Str.{IsUtf8-from_ascii}
use Rattle.osek_base.specs.Words.{is_word_byte}
use Rattle.osek_base.proofs.words.text_of.Goals as goal

-- a letter, a digit or _ is ASCII
word_ascii : (b : ℕ) → IsTrue (is_word_byte b) → b < 128
word_ascii b h = grind (arith, nat_tests)

ascii_at : (bytes : List ℕ) → ((i : ℕ) → i < length bytes → IsTrue (is_word_byte (get_or bytes i 0))) → (i : ℕ) → get_or bytes i 0 < 128
ascii_at bytes each i =
    elim (cases_lt i (length bytes)) [
      | inl inside ↦ word_ascii (get_or bytes i 0) (each i inside)
      | inr past ↦ rw (get_or_past bytes i 0 past) (omega arith)
    ]

pub unreachable-requires : goal.unreachable-requires
unreachable-requires c = c.in-Err.ensures.cases.0 (IsUtf8-from_ascii c.args.run.now (ascii_at c.args.run.now c.requires))
