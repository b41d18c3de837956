-- A search through the states of a system, by machines.
use Rattle.std.specs.Prelude.{ℕ, ◌≡◌, List}
use Rattle.law_kept.specs.Kept.{Kept}
use Rattle.law_kept.specs.KeptTick.{tick_in}
use Rattle.search_needs.specs.Table.{need_of}
use Rattle.search_keys.specs.Key.{key}
use Rattle.search_labels.specs.Labels.{Labels, next_labels}
use Rattle.search_peaks.specs.Peaks.{Peaks}
use Rattle.law_bounds.specs.Nodes.{AreNoted, Node, Setting, lower_from, routines_of, seen_from}
use Rattle.search_nodes.specs.Ground.{Ground}
use Rattle.search_bounds.specs.declared.ruling.Ruling.{Ruling}
use Rattle.arrival_rules.specs.declared.rule.ArrivalRule.{ArrivalRule}

-- what a search goes by, and the greatest times that it has noted
pub record Explorer : Type 0 where
  pub ground : Ground
  pub mode : ℕ
  pub rules : List ArrivalRule
  pub cap : ℕ
  pub peaks : Peaks

abbrev pub explorer_of : Ruling → Peaks → Explorer
explorer_of r peaks =
    record {
      ground = record { system = r.system.now; needs = r.needs.now };
      mode = r.mode;
      rules = r.rules.now;
      cap = r.cap;
      peaks = peaks;
    }

abbrev pub setting_of : Explorer → Setting
setting_of e =
    record {
      system = e.ground.system;
      mode = e.mode;
      need = need_of e.ground.needs;
      rules = e.rules;
      cap = e.cap;
    }

abbrev pub AreNotedIn : Explorer → Node → ℕ → Type 0
AreNotedIn e x set = AreNoted (setting_of e) e.peaks x set

abbrev pub setting_by : Ruling → Setting
setting_by r =
    record {
      system = r.system.now;
      mode = r.mode;
      need = need_of r.needs.now;
      rules = r.rules.now;
      cap = r.cap;
    }

-- a node is what comes of a state in a tick, by the labels before it
pub record IsBehind (s : Setting) (set : ℕ) (o : Kept) (l : Labels) (y : Node) : Type 0 where
  pub key : y.key ≡ key s.system s.need (tick_in s.system (routines_of s set) o).after
  pub over : y.over ≡ (tick_in s.system (routines_of s set) o).after.over
  pub labels : y.labels
      ≡ next_labels (lower_from s set o) s.cap s.rules set (seen_from s set o) l
