-- Limits that bounds keep.
use Rattle.std.specs.Prelude.{ℕ, ◌<◌, IfSome, IsFalse, IsTrue}
use Rattle.std.specs.List.{AllByRecursion}
use Rattle.osek_base.specs.Names.{number_of}
use Rattle.osek_base.specs.System.{System}
use Rattle.view_measures.specs.declared.measure.Measure.{Measure}
use Rattle.view_measures.specs.Kinds.{count_of, names_of}
use Rattle.view_measures.specs.Measures.{figure, kind_of}
use Rattle.view_figure_texts.specs.declared.limits.Limit.{Limit}
use Rattle.view_figure_texts.specs.declared.limits.Limits.{Limits}
use Rattle.search_witnesses.specs.declared.findings.Findings.{Findings}
use Rattle.cli_tables.specs.Broken.{is_within, may_come}
use Rattle.cli_tables.specs.Cells.{cell_of}

-- the thing of a measure that has a limit's name, where one has, is told within it
abbrev pub KeepsTime : System → Findings → Measure → Limit → Type 0
KeepsTime S f measure limit =
    IfSome (number_of limit.name.now (names_of S (kind_of measure)))
    (λ number. IsTrue (is_within (cell_of f (figure measure number)) limit.ticks))

-- of no thing of a measure it is told that it may come
abbrev pub NoneComes : System → Findings → Measure → Type 0
NoneComes S f measure =
    (number : ℕ) → number < count_of S (kind_of measure)
    → IsFalse (may_come (cell_of f (figure measure number)))

-- each limit on times is kept, by the response of a task and the latency of a routine; and nothing may
-- come that may not
pub record AreKept (S : System) (f : Findings) (limits : Limits) : Type 0 where
  pub times : AllByRecursion
      (λ (limit : Limit). KeepsTime S f Measure.Response limit
      × KeepsTime S f Measure.Latency limit) limits.times.now
  pub losses : IsTrue limits.no_loss → NoneComes S f Measure.Loss
  pub refusals : IsTrue limits.no_refusal → NoneComes S f Measure.Refusal
  pub actions : IsTrue limits.no_refusal → NoneComes S f Measure.RefusedAction
