-- OIL: standard object TASK, attribute PRIORITY. What a text meant when the PRIORITY of a task ended at 31.
use Rattle.std.specs.Prelude.{◌≡◌, ℕ, ◌⊎◌, List, IsTrue}
use Rattle.oil_reader.specs.declared.fault.OilFault.{OilFault}
use Rattle.oil_reader.specs.declared.fault.OilFault.TheVariants as fault
use Rattle.oil_reader.specs.declared.syntax.Kind.TheVariants as kind
use Rattle.oil_reader.specs.declared.table.AttributeName.TheVariants.{TaskPriority}
use Rattle.oil_reader.specs.Grammar.{Setting, Object, File}
use Rattle.oil_reader.specs.Table.{Between, in_range, attributes_of}
use Rattle.oil_reader.specs.Attributes.{Among, Names, SomeFault, Stands}
use Rattle.oil_reader.specs.Configuration.{Configuration}
use Rattle.oil_reader.specs.Meaning.{settings_in, configuration_of}
use Rattle.oil_reader.specs.Faults.{IsTreeOf}

-- Range: a PRIORITY of a task that isn't from 0 to 31, at the value
pub record IsBeyondOlder (o : Object) (e : OilFault) : Type 0 where
  pub task : o.kind ≡ kind.Task
  pub setting : Setting
  pub stands : Among (settings_in o) setting
  pub priority : Names (attributes_of kind.Task) setting.name TaskPriority
  pub refused : ¬ IsTrue (in_range (Between 0 31) setting.value)
  pub fault_is : fault.Range setting.value_place ≡ e

-- a fault of then: one that stands today, or a PRIORITY beyond 31
abbrev pub StoodThen : File → OilFault → Type 0
StoodThen f e = Stands f e ⊎ SomeFault IsBeyondOlder f.objects e

-- the text was a tree without a fault, and the file held what the tree says
pub record MeantThen (text : List ℕ) (c : Configuration) : Type 0 where
  pub tree : File
  pub is_tree : IsTreeOf text tree
  pub sound : (e : OilFault) → ¬ StoodThen tree e
  pub content : c ≡ configuration_of tree
