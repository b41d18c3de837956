-- Partitions. What the check answers, rule by rule.
use Rattle.std.specs.Prelude.{ℕ, Bool, not, List, map, drop, Option, Some, None, Ok, Err, length}
use Rattle.std.specs.List.{filter, flat_map, enumerate_from}
use Rattle.std.specs.declared.result.Result.{Result}
use Rattle.osek_base.specs.declared.ids.Owner.{Owner}
use Rattle.osek_base.specs.declared.instr.Instr.{Instr}
use Rattle.osek_base.specs.Lists.{below}
use Rattle.osek_base.specs.System.{System, task, program}
use Rattle.osek_base.specs.Separable.{Denial, names_scheduler, names_upper, names_lower, is_reserved, asks_task_id, is_full_schedule, task_denial, place_denial, broken_places, first_of_list}
use Rattle.osek_base.specs.Upper.{Object, TheTask, TheResource, TheAlarm, is_upper_task}
use Rattle.partition_check.specs.declared.instructions.Object as code
use Rattle.partition_check.specs.declared.instructions.Object.TheVariants as object
use Rattle.std.specs.Option.{option_map}
use Rattle.partition_check.specs.declared.denial.Rule.{Rule}
use Rattle.partition_check.specs.declared.denial.Rule.TheVariants as rule

-- rules by their numbers
abbrev pub rule_number : Rule → ℕ
rule_number rule.FullPreemption = 1
rule_number rule.LowerResources = 2
rule_number rule.NoScheduler = 3
rule_number rule.NoControl = 4
rule_number rule.LowerNames = 5
rule_number rule.UpperNames = 6
rule_number rule.NoTaskId = 7

abbrev pub never : Instr → Bool
never x = Bool.false

-- the instructions that a rule on programs forbids
abbrev pub forbids : System → ℕ → Rule → Instr → Bool
forbids S p rule.FullPreemption = never
forbids S p rule.LowerResources = never
forbids S p rule.NoScheduler = names_scheduler
forbids S p rule.NoControl = is_reserved
forbids S p rule.LowerNames = names_upper S p
forbids S p rule.UpperNames = names_lower S p
forbids S p rule.NoTaskId = asks_task_id

-- whether a task is of p and more, or below p
abbrev pub is_of_part : System → ℕ → Bool → ℕ → Bool
is_of_part S p Bool.true t = is_upper_task S p t
is_of_part S p Bool.false t = not (is_upper_task S p t)

-- the tasks of p and more, or those below p, from a number on; the routines from a number on
abbrev pub tasks_from : System → ℕ → Bool → ℕ → List ℕ
tasks_from S p is_upper number = filter (is_of_part S p is_upper) (drop number (below (length S.tasks)))

abbrev pub lower_from : System → ℕ → ℕ → List ℕ
lower_from S p number = tasks_from S p Bool.false number

abbrev pub routines_from : System → ℕ → List ℕ
routines_from S number = drop number (below (length S.routines))

-- whether a task's SCHEDULE isn't FULL
abbrev pub is_not_full : System → ℕ → Bool
is_not_full S t = not (is_full_schedule (task S t).schedule)

-- the first denial of a rule on tasks, among tasks in their order
abbrev pub first_breaking : ℕ → (ℕ → Bool) → List ℕ → Option Denial
first_breaking rule breaks tasks = first_of_list (map (task_denial rule) (filter breaks tasks))

-- the first denial of a rule on a program, from a place on
abbrev pub first_place : System → ℕ → Rule → Owner → ℕ → Option Denial
first_place S p r owner place =
    first_of_list (flat_map (place_denial (rule_number r) owner (forbids S p r)) (enumerate_from place (drop place (program S owner))))

-- the first denial of a rule on programs, among owners in their order
abbrev pub first_broken : System → ℕ → Rule → List Owner → Option Denial
first_broken S p r owners = first_of_list (flat_map (broken_places S (rule_number r) (forbids S p r)) owners)

-- a denial as it is told: the rule, its subject, and for the rules on programs a place
pub record Told : Type 0 where
  pub rule : Rule
  pub subject : Owner
  pub place : Option ℕ

-- with the rule's number
abbrev pub denial_of : Told → Denial
denial_of d = record { rule = rule_number d.rule; subject = d.subject; place = d.place }

abbrev pub told : Option Told → Option Denial
told d = option_map denial_of d

-- the denial that an answer tells
abbrev pub denied : Result (Unit {0}) Told → Option Denial
denied (Ok done) = None
denied (Err d) = Some (denial_of d)

-- ---- what instructions name

-- an object of the code
abbrev pub object_of : code.Object → Object
object_of (object.Task t) = TheTask t
object_of (object.Resource r) = TheResource r
object_of (object.Alarm a) = TheAlarm a

abbrev pub found : Option code.Object → Option Object
found o = option_map object_of o
