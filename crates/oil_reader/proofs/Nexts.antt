-- A function that reads one thing reads the next of a list of them.
use Rattle.std.proofs.Common.{◌≡◌, ◌<◌, ℕ, List, [], ◌∷◌, length, Result, Ok, Err}
use Rattle.oil_reader.specs.declared.fault.OilFault.{OilFault}
use Rattle.oil_reader.specs.declared.parser.Parser.{Parser}
use Rattle.oil_reader.specs.declared.tokens.Sign.TheVariants.{Close}
use Rattle.oil_reader.specs.Tokens.{Lexeme}
use Rattle.oil_reader.specs.Grammar.{StartsWith}
use Rattle.oil_reader.specs.Machine.{Symbol, refusal, Refuses}
use Rattle.oil_reader.specs.Rest.{rest_of, Reads, ReadsNext}

module _ {T X : Type 0} (tree : T → X) (Is : X → List Lexeme → List Lexeme → Type 0) (s : Symbol) (one : List Symbol)
    (refuse : (len : ℕ) (ts : List Lexeme) (e : OilFault) → ¬ StartsWith Close ts → Refuses one len ts e → Refuses (s ∷ []) len ts e)
    (passes : (k : List Symbol) (len : ℕ) (x : X) (ts rest : List Lexeme) → Is x ts rest → refusal (s ∷ k) len ts ≡ refusal (s ∷ k) len rest)
    (shorter : (x : X) (ts rest : List Lexeme) → Is x ts rest → length rest < length ts)
    (old new : Parser) («open» : ¬ StartsWith Close (rest_of old)) where
  pub reads_next : (r : Result T OilFault) → Reads (λ t. Is (tree t)) one old new r → ReadsNext tree Is s old new r
  reads_next (Ok t) h = record {
    len_stays = h.0;
    is = h.1;
    passes = λ k len. passes k len (tree t) (rest_of old) (rest_of new) h.1;
    shorter = shorter (tree t) (rest_of old) (rest_of new) h.1;
  }
  reads_next (Err e) h = refuse old.len (rest_of old) e «open» h
