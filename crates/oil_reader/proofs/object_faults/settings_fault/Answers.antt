use Rattle.std.proofs.Common.{◌≡◌, Bool, cond, not, take, ap, refl, ◌∙◌}
use Rattle.std.specs.BTreeSet.{contains}
use Rattle.oil_reader.specs.declared.table.Presence.{Presence}
use Rattle.oil_reader.specs.Table.{is_list}
use Rattle.oil_reader.specs.Attributes.{attribute_named}
use Rattle.oil_reader.specs.Checks.{was_set}
use Rattle.oil_reader.specs.Order.{first_of_all}
use Rattle.oil_reader.specs.Trees.{setting_of, settings_of}
use Rattle.oil_reader.proofs.Scopes.{setting_more}
use Rattle.oil_reader.proofs.Standing.{name_cmp, value_key_cmp, IsValueKey, names_more, values_more, again_where, faults_are, was_not}
use Rattle.oil_reader.proofs.object_faults.settings_fault.Goals as goal

pub loop-setting-preserved : goal.loop-setting-preserved
loop-setting-preserved c =
    let xs = c.args.settings.now in
    let i = c.loop-setting.setting-index in
    let d = c.setting-item.result in
    let inside = c.loop-setting-test.true in
    let at = c.setting-item.is in
    let named = c.loop-setting.invariant.named in
    let valued = c.loop-setting.invariant.valued in
    let names = c.loop-setting.names in
    let values = c.loop-setting.values in
    let before = settings_of (take i xs) in
    let k = c.value_key.result in
    let key : IsValueKey k (setting_of d) = record { name = c.value_key.ensures.name; sort = c.value_key.ensures.sort; word = c.value_key.ensures.word; number = c.value_key.ensures.number } in
    let was_named : not c.in_ok-is_new_name.is_new_name ≡ contains name_cmp names d.name.text = was_not c.in_ok-is_new_name.is_new_name (contains name_cmp names d.name.text) c.in_ok-is_new_name.ensures.added in
    let was_valued : not c.in_ok-is_new_value.is_new_value ≡ contains value_key_cmp values k = was_not c.in_ok-is_new_value.is_new_value (contains value_key_cmp values k) c.in_ok-is_new_value.ensures.added in
    let again : (o : Presence) → cond (is_list o) (not c.in_ok-is_new_value.is_new_value) (not c.in_ok-is_new_name.is_new_name) ≡ was_set o before (setting_of d) = λ o.
    ap (λ (b : Bool). cond (is_list o) b (not c.in_ok-is_new_name.is_new_name)) was_valued
    ∙ ap (λ (b : Bool). cond (is_list o) (contains value_key_cmp values k) b) was_named
    ∙ again_where names values d.name.text k before (setting_of d) named valued refl key o (is_list o) refl in
    let faults = faults_are c.args.allowed.now before (setting_of d) (not c.in_ok-is_new_name.is_new_name) (not c.in_ok-is_new_value.is_new_value) again (attribute_named c.args.allowed.now (setting_of d).name) in
    record {
      named = names_more names c.insert.new.self d.name.text xs i d inside at named refl c.in_ok-is_new_name.ensures.updates.0;
      valued = values_more values c.insert-in-loop-setting.new.self k xs i d inside at valued key c.in_ok-is_new_value.ensures.updates.0;
      same = setting_more c.args.allowed.now xs i d c.loop-setting.found c.setting_fault-found.result _ inside at (c.setting_fault-found.ensures ∙ ap (first_of_all c.loop-setting.found) faults) c.loop-setting.invariant.same;
    }
