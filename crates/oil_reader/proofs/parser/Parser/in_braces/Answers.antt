use Rattle.std.proofs.Common.{rules, ◌≡◌, ◌∷◌, ◌++◌, ◌∙◌, [], map, subst}
use Rattle.std.proofs.lemmas.Result.{err_from_is_err_and}
use Rattle.std.proofs.lemmas.List.{map_push}
use Rattle.oil_reader.specs.declared.tokens.Sign.TheVariants.{Close}
use Rattle.oil_reader.specs.Grammar.{AreEach}
use Rattle.oil_reader.specs.Rest.{rest_of}
use Rattle.oil_reader.proofs.Lists.{one_more, all_there, refuses_all, sign_refuses}
use Rattle.oil_reader.proofs.parser.Parser.in_braces.Goals as goal

pub returns-in_err-thing : goal.returns-in_err-thing
returns-in_err-thing g c =
    let p = err_from_is_err_and c.from_residual.result c.from_residual.ensures.1 in
    let e = c.in_err-thing.field-0.0 in
    rw (p.1, p.2) (refuses_all g.X.InBraces.Is g.X.InBraces.symbol c.args.self.now.len c.each.self.len (rest_of c.args.self.now) (rest_of c.each.self) (map g.X.InBraces.tree c.each.things.items) e c.each.invariant c.in_err-thing.ensures)

pub returns-in_err-close : goal.returns-in_err-close
returns-in_err-close g c =
    let p = err_from_is_err_and c.from_residual-in_err-close.result c.from_residual-in_err-close.ensures.1 in
    let e = c.in_err-close.field-0.0 in
    rw (p.1, p.2) (refuses_all g.X.InBraces.Is g.X.InBraces.symbol c.args.self.now.len c.each.self.len (rest_of c.args.self.now) (rest_of c.each.self) (map g.X.InBraces.tree c.each.things.items) e c.each.invariant
    (sign_refuses Close g.X.InBraces.symbol c.each.self.len (rest_of c.each.self) e (search rules) (c.starts_with.ensures.0 (search rules)) c.in_err-close.ensures))

pub returns : goal.returns
returns g c = (
  c.in_ok-close.ensures.0 ∙ c.each.invariant.len_stays,
  subst (AreEach g.X.InBraces.Is (map g.X.InBraces.tree c.each.things.items) (rest_of c.args.self.now)) c.in_ok-close.ensures.1
      (all_there g.X.InBraces.Is g.X.InBraces.symbol c.args.self.now.len c.each.self.len (rest_of c.args.self.now) (rest_of c.each.self) (map g.X.InBraces.tree c.each.things.items) c.each.invariant),
)

pub each-smaller : goal.each-smaller
each-smaller g c = c.in_ok-thing.ensures.shorter

pub each-preserved : goal.each-preserved
each-preserved g c =
    let tree = g.X.InBraces.tree in
    let e : map tree c.push.new.self.items ≡ map tree c.each.things.items ++ tree c.in_ok-thing.thing ∷ [] = rw c.in_ok-push.ensures.items (map_push tree c.each.things.items _) in
    let s = c.in_ok-thing.ensures in
    rw e (one_more g.X.InBraces.Is g.X.InBraces.symbol c.args.self.now.len c.each.self.len (rest_of c.args.self.now) (rest_of c.each.self) (rest_of c.next.new.parser) (map tree c.each.things.items) (tree c.in_ok-thing.thing) c.next.new.parser.len s.len_stays s.is
    (λ k. s.passes k c.args.self.now.len) c.each.invariant)
