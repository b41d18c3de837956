use Rattle.std.proofs.Common.{◌≡◌, ◌∙◌, ap, map, arith}
use Rattle.oil_reader.specs.Trees.{object_of, settings_of, attributes_of}
use Rattle.oil_reader.specs.Meaning.{number_at, settings_in}
use Rattle.oil_reader.specs.declared.table.AttributeName.TheVariants.{IsrPriority}
use Rattle.oil_reader.proofs.Sound.{isr_priority}
use Rattle.oil_reader.proofs.object_values.isr_object.Goals as goal

pub overflow_cast-result : goal.overflow_cast-result
overflow_cast-result c =
    let o = object_of c.args.object.now in
    let small = isr_priority o c.requires.sound c.requires.kind in
    let same : settings_of c.deref-2.result.now ≡ settings_in o = ap settings_of c.deref-2.ensures.value ∙ c.in_ok-settings.ensures ∙ ap (λ xs. map (λ a. a.setting) (attributes_of xs)) c.deref.ensures.value in
    let is : c.number_at.result ≡ number_at IsrPriority (settings_in o) = c.number_at.ensures ∙ ap (number_at IsrPriority) same in
    omega (arith, small, is)
