use Rattle.std.proofs.Common.{◌≡◌, ◌∙◌, true, ap, sym, subst, List}
use Rattle.std.proofs.lemmas.List.{drop_all}
use Rattle.oil_reader.specs.declared.syntax.Object as code_object
use Rattle.oil_reader.specs.Attributes.{Among}
use Rattle.oil_reader.specs.Trees.{file_of, object_of, objects_of}
use Rattle.oil_reader.specs.Checks.{has_kind}
use Rattle.oil_reader.specs.Checked.{is_checked}
use Rattle.oil_reader.specs.Configuration.{Configuration}
use Rattle.oil_reader.specs.Meaning.{with_objects, configuration_of}
use Rattle.oil_reader.specs.declared.syntax.Kind.TheVariants as kind
use Rattle.oil_reader.proofs.Sound.{has_os, each_sound, among_at}
use Rattle.oil_reader.proofs.CheckedLemmas.{configuration_checked}
use Rattle.oil_reader.proofs.object_values.oil_file.Goals as goal

pub os_among-requires : goal.os_among-requires
os_among-requires c = ap (λ xs. has_kind kind.Os (objects_of xs)) c.deref.ensures.value ∙ has_os (file_of c.args.tree.now) c.requires.sound

pub add-requires : goal.add-requires
add-requires c =
    let o = object_of c.object-item.result in
    let among = among_at object_of c.deref-object-items.result.now c.loop-object.object-index c.object-item.result c.loop-object-test.true c.object-item.is in
    each_sound (file_of c.args.tree.now) c.requires.sound o (subst (λ (xs : List code_object.Object). Among (objects_of xs) o) c.loop-object.invariant.items among)

pub new-requires-8 : goal.new-requires-8
new-requires-8 c =
    let f = file_of c.args.tree.now in
    let items = c.deref-object-items.result.now in
    let none = drop_all c.loop-object.object-index items c.loop-object-test.false in
    let done : c.loop-object.parts ≡ configuration_of f = ap (λ xs. with_objects c.loop-object.parts (objects_of xs)) (sym none) ∙ c.loop-object.invariant.same in
    subst (λ (d : Configuration). is_checked d ≡ true) (sym done) (configuration_checked f c.requires.sound c.requires.spelled)
