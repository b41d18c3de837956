-- The words of measures, and what a word tells.
use Rattle.std.specs.Prelude.{ℕ, ◌^◌, Bool, true, ◌&&◌, cond, Option, Some, None, is_some, List, length, bytes_eq, nat_lt}
use Rattle.std.specs.List.{find, list_any}
use Rattle.std.specs.Str.{all_ascii_digits}
use Rattle.std.specs.Str.Parse.{digits_value, without_leading_plus}
use Rattle.view_measures.specs.declared.kind.Kind.{Kind}
use Rattle.view_measures.specs.declared.measure.Measure.{Measure}
use Rattle.view_measures.specs.Kinds.{kinds}
use Rattle.view_measures.specs.Measures.{measures_of}
use Rattle.view_figure_texts.specs.declared.words.Word.{Word}
use Rattle.view_figure_texts.specs.Words.{word_text}

-- the word of a measure is that of the same figure of one run
abbrev pub word_of : Measure → Word
word_of Measure.Response = Word.Greatest
word_of Measure.Blocked = Word.Blocked
word_of Measure.Blockers = Word.Blockers
word_of Measure.Jobs = Word.Jobs
word_of Measure.Refusal = Word.Refused
word_of Measure.Errors = Word.Errors
word_of Measure.Latency = Word.Latency
word_of Measure.Loss = Word.Losses
word_of Measure.RoutineErrors = Word.Errors
word_of Measure.Hold = Word.Longest
word_of Measure.RefusedAction = Word.Refused
word_of Measure.Shutdown = Word.Comes

abbrev pub measure_word : Measure → List ℕ
measure_word measure = word_text (word_of measure)

-- ---- what a word tells

-- a measure has the word, where one is said
abbrev pub is_asked : Option (List ℕ) → Measure → Bool
is_asked None measure = true
is_asked (Some word) measure = bytes_eq word (measure_word measure)

-- the first measure of a kind that has the word; its first of all, where none is said
abbrev pub measure_of : Kind → Option (List ℕ) → Option Measure
measure_of kind word = find (is_asked word) (measures_of kind)

-- a measure of some kind has the word
abbrev pub is_measure : List ℕ → Bool
is_measure word = list_any (λ kind. is_some (measure_of kind (Some word))) kinds

-- a number of 16 bits in decimal, which may have a + in front
abbrev pub is_number : List ℕ → Bool
is_number digits =
    nat_lt 0 (length digits) && (all_ascii_digits digits && nat_lt (digits_value 10 digits) (2 ^ 16))

-- the place of a service that a word tells
abbrev pub place_of : List ℕ → Option ℕ
place_of word =
    let digits = without_leading_plus word in
    cond (is_number digits) (Some (digits_value 10 digits)) None
