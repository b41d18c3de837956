-- The first denial, as the answers of the rules in turn.
use Rattle.std.proofs.Common.{◌≡◌, ℕ, true, not, List, ◌++◌, map, length, ◌∙◌, ap}
use Rattle.std.specs.List.{filter, flat_map}
use Rattle.std.specs.Option.{option_or}
use Rattle.osek_base.specs.declared.ids.Owner.{Owner}
use Rattle.osek_base.specs.Lists.{below}
use Rattle.osek_base.specs.System.{System, task}
use Rattle.osek_base.specs.Upper.{is_upper_task}
use Rattle.osek_base.specs.Separable.{Denial, is_full_schedule, lists_upper, lower_tasks, task_denial, broken_places, first_of_list, first_denial, names_scheduler, is_reserved, names_upper, names_lower, asks_task_id}
use Rattle.partition_check.specs.declared.denial.Rule.TheVariants as rule
use Rattle.partition_check.specs.Partition.{first_breaking, first_broken, is_not_full, lower_from, tasks_from, routines_from}
use Rattle.partition_check.proofs.Firsts.{first_of_eight}
use Rattle.partition_check.proofs.Breaches.{upper_places_split}

pub rules_in_turn : (S : System) (p : ℕ) → first_denial S p
    ≡ option_or (option_or (option_or (option_or (option_or (option_or (option_or
    (first_breaking 1 (is_not_full S) (lower_from S p 0)) (first_breaking 2 (lists_upper S p) (lower_from S p 0)))
    (first_broken S p rule.NoScheduler (map Owner.Task (lower_from S p 0)))) (first_broken S p rule.NoControl (map Owner.Task (lower_from S p 0))))
    (first_broken S p rule.LowerNames (map Owner.Task (lower_from S p 0)))) (first_broken S p rule.UpperNames (map Owner.Task (tasks_from S p true 0))))
    (first_broken S p rule.UpperNames (map Owner.Routine (routines_from S 0)))) (first_broken S p rule.NoTaskId (map Owner.Routine (routines_from S 0)))
unfolding first_denial
rules_in_turn S p =
    let one : List Denial = map (task_denial 1) (filter (λ t. not (is_full_schedule (task S t).schedule)) (lower_tasks S p)) in
    let two : List Denial = map (task_denial 2) (filter (lists_upper S p) (lower_tasks S p)) in
    let three : List Denial = flat_map (broken_places S 3 names_scheduler) (map Owner.Task (lower_tasks S p)) in
    let four : List Denial = flat_map (broken_places S 4 is_reserved) (map Owner.Task (lower_tasks S p)) in
    let five : List Denial = flat_map (broken_places S 5 (names_upper S p)) (map Owner.Task (lower_tasks S p)) in
    let seven : List Denial = flat_map (broken_places S 7 asks_task_id) (map Owner.Routine (below (length S.routines))) in
    ap (λ six. first_of_list (one ++ two ++ three ++ four ++ five ++ six ++ seven)) (upper_places_split S p (broken_places S 6 (names_lower S p)))
    ∙ first_of_eight one two three four five
    (flat_map (broken_places S 6 (names_lower S p)) (map Owner.Task (filter (is_upper_task S p) (below (length S.tasks)))))
    (flat_map (broken_places S 6 (names_lower S p)) (map Owner.Routine (below (length S.routines)))) seven
