use Rattle.std.proofs.Common.{◌≡◌, ℕ, true, None, List, sym, ap, ◌∙◌}
use Rattle.std.specs.List.{list_all}
use Rattle.std.specs.String.{string_bytes}
use Rattle.std.proofs.lemmas.Bool.{and_parts}
use Rattle.osek_base.specs.declared.arrivals.Arrival.{Arrival}
use Rattle.osek_base.specs.ArrivalList.{is_arrival_list}
use Rattle.osek_base.specs.Names.{Names, is_proper_name, are_distinct_names}
use Rattle.osek_base.specs.Proper.{are_proper_names, has_proper_names}
use Rattle.arrival_reader.specs.ArrivalText.{IsArrivalList}
use Rattle.arrival_reader.specs.PrintedArrivals.{printed_list, first_unnamed}
use Rattle.arrival_reader.proofs.PrintedLemmas.{printed_is_read}
use Rattle.arrival_reader.proofs.printing.print_arrivals.Goals as goal

distinct_routines : (names : Names) → has_proper_names names ≡ true
    → are_distinct_names names.routines ≡ true
distinct_routines names proper =
    let to_alarms = (and_parts _ (are_proper_names names.modes) proper).0 in
    let to_events = (and_parts _ (are_proper_names names.alarms) to_alarms).0 in
    let to_resources = (and_parts _ (are_proper_names names.events) to_events).0 in
    let to_routines = (and_parts _ (are_proper_names names.resources) to_resources).0 in
    let own = (and_parts _ (are_proper_names names.routines) to_routines).1 in
    (and_parts (list_all is_proper_name names.routines) (are_distinct_names names.routines) own).1

read_again : (names : Names) (routines : List (List ℕ)) (all list : List Arrival) (text : List ℕ)
    → has_proper_names names ≡ true → is_arrival_list all ≡ true → routines ≡ names.routines
    → list ≡ all → None ≡ first_unnamed routines 1 list
    → text ≡ printed_list routines list → IsArrivalList names text all
read_again names routines all list text proper kept same_names same_list named is =
    let told = sym named in
    let none : first_unnamed names.routines 1 all ≡ None = rw (same_names, same_list) at told in
    let text_is : text ≡ printed_list names.routines all = rw (same_names, same_list) at is in
    rw text_is (printed_is_read names (distinct_routines names proper) all kept none)

pub returns-clause-read_again : goal.returns-clause-read_again
returns-clause-read_again c =
    let same = c.names.view_is ∙ c.names-names.ensures.value in
    read_again c.args.system.now.names c.as_slice-routines.result.now c.args.arrivals.now
    c.list-list.result.now (string_bytes c.push_lines.new.text)
    c.names-names.ensures.proper.names c.list-list.ensures.kept
    (c.as_slice-routines.ensures.value ∙ ap (λ (n : Names). n.routines) same)
    c.list-list.ensures.value c.in_default.ensures
    (rw c.new-text.ensures.bytes at c.in_ok-push_lines.ensures)
