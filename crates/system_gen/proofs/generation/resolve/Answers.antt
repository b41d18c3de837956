use Rattle.std.proofs.Common.{sym, subst, ap, ◌∙◌}
use Rattle.system_gen.specs.ObjectNames.{names_of}
use Rattle.system_gen.specs.DeclaredNames.{AreDistinct, declared_by}
use Rattle.system_gen.proofs.generation.resolve.Goals as goal

pub new-requires : goal.new-requires
new-requires c =
    let e = ap (λ names. declared_by names c.args.counters.now) c.requires.names ∙ ap (declared_by (names_of c.args.file.now)) c.requires.counters in
    subst AreDistinct (sym e) c.requires.distinct

pub resolve_by-requires-clause-declared : goal.resolve_by-requires-clause-declared
resolve_by-requires-clause-declared c =
    c.in_ok-declared.ensures ∙ ap (λ names. declared_by names c.args.counters.now) c.requires.names ∙ ap (declared_by (names_of c.args.file.now)) c.requires.counters
