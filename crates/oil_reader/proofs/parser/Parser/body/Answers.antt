use Rattle.std.proofs.Common.{rules, ℕ, ◌∙◌, ◌∷◌, [], refl, subst}
use Rattle.std.proofs.lemmas.Result.{err_from_is_err_and}
use Rattle.oil_reader.specs.Rest.{rest_of}
use Rattle.oil_reader.specs.Machine.{Body, Only, Refuses}
use Rattle.oil_reader.specs.declared.tokens.Sign.TheVariants.{Semicolon}
use Rattle.oil_reader.specs.Trees.{attributes_of}
use Rattle.oil_reader.proofs.Lists.{sign_refuses, body_end_refuses, body_refuses}
use Rattle.oil_reader.proofs.parser.Parser.body.Goals as goal

pub returns-in_err-end : goal.returns-in_err-end
returns-in_err-end c =
    let p = err_from_is_err_and c.from_residual.result c.from_residual.ensures.1 in
    let e = c.in_err-end.field-0.0 in
    rw (p.1, p.2) (sign_refuses Semicolon Body c.args.self.now.len (rest_of c.args.self.now) e refl (c.starts_with.ensures.0 (search rules)) c.in_err-end.ensures)

pub returns-in_err-sign : goal.returns-in_err-sign
returns-in_err-sign c =
    let p = err_from_is_err_and c.from_residual-in_err-sign.result c.from_residual-in_err-sign.ensures.1 in
    let e = c.in_err-sign.field-0.0 in
    rw (p.1, p.2) (body_refuses c.args.self.now.len (rest_of c.args.self.now) e (λ h. let t = c.starts_with.ensures.1 h in absurd cc) c.in_err-sign.ensures)

pub returns-in_err-sign-2 : goal.returns-in_err-sign-2
returns-in_err-sign-2 c =
    let p = err_from_is_err_and c.from_residual-in_err-sign-2.result c.from_residual-in_err-sign-2.ensures.1 in
    let e = c.in_err-sign-2.field-0.0 in
    rw (p.1, p.2) (body_end_refuses c.args.self.now.len (rest_of c.args.self.now) (rest_of c.sign-2.new.self) (rest_of c.in_braces.new.self) c.in_ok-sign.field-0 c.in_ok-attributes.close e c.in_ok-sign.ensures.1 (attributes_of c.in_ok-attributes.attributes.items) c.in_ok-attributes.ensures.1
    (subst (λ (n : ℕ). Refuses (Only Semicolon ∷ []) n (rest_of c.in_braces.new.self) e) (c.in_ok-attributes.ensures.0 ∙ c.in_ok-sign.ensures.0) c.in_err-sign-2.ensures))
