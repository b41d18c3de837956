-- OIL: names of objects. What is declared, kind by kind, and the numbers of what is declared.
pub use Rattle.system_gen.specs.Numbers.{number}
use Rattle.std.specs.Prelude.{ℕ, List, IsTrue, map}
use Rattle.osek_base.specs.Names.{Names, are_distinct_names}
use Rattle.oil_reader.specs.Configuration.{Configuration, CounterRecord}
use Rattle.system_gen.specs.ObjectNames.{names_of}

-- the declared names of each kind; tasks stand by their numbers, all else in the order of declaration
pub record Declared : Type 0 where
  pub modes : List (List ℕ)
  pub tasks : List (List ℕ)
  pub routines : List (List ℕ)
  pub resources : List (List ℕ)
  pub events : List (List ℕ)
  pub counters : List (List ℕ)
  pub alarms : List (List ℕ)

-- these names, and those of the counters, which a system doesn't keep
abbrev pub declared_by : Names → List (List ℕ) → Declared
declared_by names counters = record {
  modes = names.modes;
  tasks = names.tasks;
  routines = names.routines;
  resources = names.resources;
  events = names.events;
  counters = counters;
  alarms = names.alarms;
}

abbrev pub counter_names : List CounterRecord → List (List ℕ)
counter_names counters = map (λ c. c.name) counters

-- what a file declares
abbrev pub declared_in : Configuration → Declared
declared_in f = declared_by (names_of f) (counter_names f.counters)

-- no name of a kind stands twice
pub record AreDistinct (d : Declared) : Type 0 where
  pub modes : IsTrue (are_distinct_names d.modes)
  pub tasks : IsTrue (are_distinct_names d.tasks)
  pub routines : IsTrue (are_distinct_names d.routines)
  pub resources : IsTrue (are_distinct_names d.resources)
  pub events : IsTrue (are_distinct_names d.events)
  pub counters : IsTrue (are_distinct_names d.counters)
  pub alarms : IsTrue (are_distinct_names d.alarms)
