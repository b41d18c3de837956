use Rattle.std.proofs.Common.{◌≡◌, ◌∙◌, ap, map, arith}
use Rattle.oil_reader.specs.Trees.{object_of, settings_of, attributes_of}
use Rattle.oil_reader.specs.Meaning.{number_at, settings_in}
use Rattle.oil_reader.specs.declared.table.AttributeName.TheVariants.{TaskPriority, Activation}
use Rattle.oil_reader.proofs.Sound.{task_priority, task_activation}
use Rattle.oil_reader.proofs.object_values.task_object.Goals as goal

pub overflow_cast-result : goal.overflow_cast-result
overflow_cast-result c =
    let o = object_of c.args.object.now in
    let small = task_priority o c.requires.sound c.requires.kind in
    let same : settings_of c.deref-4.result.now ≡ settings_in o = ap settings_of c.deref-4.ensures.value ∙ c.in_ok-settings.ensures ∙ ap (λ xs. map (λ a. a.setting) (attributes_of xs)) c.deref.ensures.value in
    let is : c.number_at.result ≡ number_at TaskPriority (settings_in o) = c.number_at.ensures ∙ ap (number_at TaskPriority) same in
    omega (arith, small, is)

pub overflow_cast-result-2 : goal.overflow_cast-result-2
overflow_cast-result-2 c =
    let o = object_of c.args.object.now in
    let small = task_activation o c.requires.sound c.requires.kind in
    let same : settings_of c.deref-5.result.now ≡ settings_in o = ap settings_of c.deref-5.ensures.value ∙ c.in_ok-settings.ensures ∙ ap (λ xs. map (λ a. a.setting) (attributes_of xs)) c.deref.ensures.value in
    let is : c.number_at-2.result ≡ number_at Activation (settings_in o) = c.number_at-2.ensures ∙ ap (number_at Activation) same in
    omega (arith, small, is)
