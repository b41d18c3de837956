-- What was read leaves fewer tokens.
use Rattle.std.proofs.Common.{◌≤◌, ◌<◌, arith, length, ℕ, List, [], ◌∷◌, Option, Some, None, inl, inr, ap}
use Rattle.oil_reader.specs.declared.tokens.Sign.TheVariants.{Close, Semicolon}
use Rattle.oil_reader.specs.Tokens.{Mark, Lexeme}
use Rattle.oil_reader.specs.Grammar.{Setting, Block, Attribute, Object, at, IsSetting, IsSub, IsBlock, IsAttribute, IsBody, IsObject, AreEach}

each_within : {X : Type 0} (Is : X → List Lexeme → List Lexeme → Type 0) → ((x : X) (ts rest : List Lexeme) → Is x ts rest → length rest < length ts)
    → (xs : List X) (ts rest : List Lexeme) → AreEach Is xs ts rest → length rest ≤ length ts
each_within Is one [] ts rest h = omega (arith, ap length h)
each_within Is one (x ∷ xs) ts rest h = omega (arith, one x ts h.0 h.1, each_within Is one xs h.0 rest h.2)

setting_shorter : (s : Setting) (ts rest : List Lexeme) → IsSetting s ts rest → length rest < length ts
setting_shorter s ts rest h = omega (arith, ap length h.spelled)

pub sub_shorter : (s : Setting) (ts rest : List Lexeme) → IsSub s ts rest → length rest < length ts
sub_shorter s ts rest h = omega (arith, setting_shorter s ts (at h.semicolon (Mark Semicolon) ∷ rest) h.setting)

block_within : (b : Option Block) (ts rest : List Lexeme) → IsBlock b ts rest → length rest ≤ length ts
block_within None ts rest h = omega (arith, ap length h)
block_within (Some b) ts rest h = omega (arith, ap length h.spelled, each_within IsSub sub_shorter b.settings h.inner (at b.close (Mark Close) ∷ rest) h.subs)

pub attribute_shorter : (a : Attribute) (ts rest : List Lexeme) → IsAttribute a ts rest → length rest < length ts
attribute_shorter a ts rest h =
    omega (arith, setting_shorter a.setting ts h.middle h.setting, block_within a.block h.middle (at a.«end» (Mark Semicolon) ∷ rest) h.block)

body_within : (xs : List Attribute) (p : ℕ) (ts rest : List Lexeme) → IsBody xs p ts rest → length rest ≤ length ts
body_within xs p ts rest (inl h) = omega (arith, ap length h.spelled)
body_within xs p ts rest (inr h) =
    omega (arith, ap length h.spelled, each_within IsAttribute attribute_shorter xs h.inner (at p (Mark Close) ∷ at h.semicolon (Mark Semicolon) ∷ rest) h.each)

pub object_shorter : (o : Object) (ts rest : List Lexeme) → IsObject o ts rest → length rest < length ts
object_shorter o ts rest h =
    omega (arith, ap length h.kind.spelled, body_within o.attributes o.«end» h.middle rest h.body)
