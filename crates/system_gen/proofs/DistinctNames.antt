-- In a file that was checked, no name of a kind stands twice.
use Rattle.std.proofs.Common.{◌≡◌, ℕ, List, true, ◌&&◌}
use Rattle.std.specs.List.{list_all}
use Rattle.std.proofs.lemmas.Bool.{and_parts}
use Rattle.osek_base.specs.Names.{Names, is_proper_name, are_distinct_names}
use Rattle.osek_base.specs.Proper.{are_proper_names, has_proper_names}
use Rattle.oil_reader.specs.Checked.{is_checked, is_checked_counter}
use Rattle.oil_reader.specs.Configuration.{Configuration}
use Rattle.oil_reader.proofs.CheckedParts.{checked_parts}
use Rattle.system_gen.specs.ObjectNames.{names_of}
use Rattle.system_gen.specs.DeclaredNames.{AreDistinct, declared_by, declared_in, counter_names}
use Rattle.system_gen.proofs.NamesProper.{names_proper}

distinct : (names : List (List ℕ)) → are_proper_names names ≡ true → are_distinct_names names ≡ true
distinct names h = (and_parts (list_all is_proper_name names) (are_distinct_names names) h).1

-- kind by kind
pub all_distinct : (n : Names) (counters : List (List ℕ)) → has_proper_names n ≡ true → are_proper_names counters ≡ true → AreDistinct (declared_by n counters)
all_distinct n counters proper counted =
    let t = are_proper_names n.tasks in
    let r = are_proper_names n.routines in
    let o = are_proper_names n.resources in
    let e = are_proper_names n.events in
    let a = are_proper_names n.alarms in
    let m = are_proper_names n.modes in
    let six = and_parts (t && r && o && e && a) m proper in
    let five = and_parts (t && r && o && e) a six.0 in
    let four = and_parts (t && r && o) e five.0 in
    let three = and_parts (t && r) o four.0 in
    let two = and_parts t r three.0 in
    record {
      modes = distinct n.modes six.1;
      tasks = distinct n.tasks two.0;
      routines = distinct n.routines two.1;
      resources = distinct n.resources three.1;
      events = distinct n.events four.1;
      counters = distinct counters counted;
      alarms = distinct n.alarms five.1;
    }

-- so it is for what a file declares
pub names_distinct : (f : Configuration) → is_checked f ≡ true → AreDistinct (declared_in f)
names_distinct f checked =
    let names = counter_names f.counters in
    let counted = and_parts (list_all is_checked_counter f.counters) (are_proper_names names) (checked_parts f checked).counters in
    all_distinct (names_of f) names (names_proper f checked) counted.1
