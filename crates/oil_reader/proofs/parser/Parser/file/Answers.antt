use Rattle.std.proofs.Common.{ℕ, [], ◌∷◌, ◌∙◌, ap, subst}
use Rattle.std.proofs.lemmas.Result.{err_from_is_err_and}
use Rattle.oil_reader.specs.declared.tokens.Sign.TheVariants.{Semicolon}
use Rattle.oil_reader.specs.Machine.{Only, Refuses, RefusesAll, refusal}
use Rattle.oil_reader.specs.Trees.{objects_of}
use Rattle.oil_reader.specs.Rest.{rest_of}
use Rattle.oil_reader.proofs.Lists.{file_goes_on, semicolon_refuses_all, end_refuses_all}
use Rattle.oil_reader.proofs.parser.Parser.file.Goals as goal

pub returns-in_err-sign-clause-err : goal.returns-in_err-sign-clause-err
returns-in_err-sign-clause-err c =
    let p = err_from_is_err_and c.from_residual-in_err-sign.result c.from_residual-in_err-sign.ensures.1 in
    let e = c.in_err-sign.field-0.0 in
    let len = c.args.self.now.len in
    let same = file_goes_on len c.in_ok-cpu.cpu.text.now (rest_of c.args.self.now) (rest_of c.header.new.self) (rest_of c.in_braces.new.self) (objects_of c.in_ok-objects.objects.items) c.in_ok-objects.close c.in_ok-cpu.ensures.1 c.in_ok-objects.ensures.1 in
    rw (p.1, p.2) (semicolon_refuses_all len (rest_of c.args.self.now) (rest_of c.in_braces.new.self) e same
    (subst (λ (n : ℕ). Refuses (Only Semicolon ∷ []) n (rest_of c.in_braces.new.self) e) (c.in_ok-objects.ensures.0 ∙ c.in_ok-cpu.ensures.0) c.in_err-sign.ensures))

pub returns-in_err-end-clause-err : goal.returns-in_err-end-clause-err
returns-in_err-end-clause-err c =
    let p = err_from_is_err_and c.from_residual-in_err-end.result c.from_residual-in_err-end.ensures.1 in
    let e = c.in_err-end.field-0.0 in
    let len = c.args.self.now.len in
    let same = file_goes_on len c.in_ok-cpu.cpu.text.now (rest_of c.args.self.now) (rest_of c.header.new.self) (rest_of c.in_braces.new.self) (objects_of c.in_ok-objects.objects.items) c.in_ok-objects.close c.in_ok-cpu.ensures.1 c.in_ok-objects.ensures.1 in
    rw (p.1, p.2) (end_refuses_all len (rest_of c.args.self.now) (rest_of c.sign.new.self) e (same ∙ ap (refusal (Only Semicolon ∷ []) len) c.in_ok-sign.ensures.1)
    (subst (λ (n : ℕ). RefusesAll [] n (rest_of c.sign.new.self) e) (c.in_ok-sign.ensures.0 ∙ c.in_ok-objects.ensures.0 ∙ c.in_ok-cpu.ensures.0) c.in_err-end.ensures.err))
