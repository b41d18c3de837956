use Rattle.std.proofs.Common.{◌≡◌, ◌∙◌, ap, sym, map}
use Rattle.std.specs.Prelude.{codes}
use Rattle.oil_reader.specs.Trees.{object_of, settings_of, attributes_of}
use Rattle.oil_reader.specs.Meaning.{has_name, says, value_at, block_at, settings_in}
use Rattle.oil_reader.specs.declared.table.AttributeName.TheVariants.{AlarmCounter, AlarmAction, ActionTask, ActionEvent}
use Rattle.oil_reader.proofs.Sound.{alarm_counter, action_names}
use Rattle.oil_reader.proofs.object_values.alarm_object.Goals as goal

pub name_at-requires : goal.name_at-requires
name_at-requires c =
    let o = object_of c.args.object.now in
    let same : settings_of c.deref-5.result.now ≡ settings_in o = ap settings_of c.deref-5.ensures.value ∙ c.in_ok-settings.ensures ∙ ap (λ xs. map (λ a. a.setting) (attributes_of xs)) c.deref.ensures.value in
    ap (has_name AlarmCounter) same ∙ alarm_counter o c.requires.sound c.requires.kind

pub action_object-requires-clause-task : goal.action_object-requires-clause-task
action_object-requires-clause-task c =
    let o = object_of c.args.object.now in
    let names = action_names o c.requires.sound c.requires.kind in
    let same : settings_of c.block_at-block.result.now ≡ block_at AlarmAction o.attributes = c.block_at-block.ensures ∙ ap (λ xs. block_at AlarmAction (attributes_of xs)) c.deref-3.ensures.value in
    ap (has_name ActionTask) same ∙ names.task

pub action_object-requires-clause-event : goal.action_object-requires-clause-event
action_object-requires-clause-event c = λ h.
    let o = object_of c.args.object.now in
    let names = action_names o c.requires.sound c.requires.kind in
    let settings : settings_of c.deref-2.result.now ≡ settings_in o = ap settings_of c.deref-2.ensures.value ∙ c.in_ok-settings.ensures ∙ ap (λ xs. map (λ a. a.setting) (attributes_of xs)) c.deref.ensures.value in
    let is : c.says-sets_event.result ≡ says (value_at AlarmAction (settings_in o)) (codes "SETEVENT") = c.says-sets_event.ensures ∙ ap (λ xs. says (value_at AlarmAction xs) (codes "SETEVENT")) settings in
    let same : settings_of c.block_at-block.result.now ≡ block_at AlarmAction o.attributes = c.block_at-block.ensures ∙ ap (λ xs. block_at AlarmAction (attributes_of xs)) c.deref-3.ensures.value in
    ap (has_name ActionEvent) same ∙ names.event (sym is ∙ h)
