-- What tables tell of a figure.
use Rattle.std.specs.Prelude.{ℕ, Bool, cond, nat_lt}
use Rattle.view_measures.specs.declared.figure.Figure.{Figure}
use Rattle.view_measures.specs.declared.measure.Sort.{Sort}
use Rattle.view_measures.specs.Measures.{sort_of}
use Rattle.search_peaks.specs.Peaks.{is_below, told}
use Rattle.search_witnesses.specs.declared.findings.Findings.{Findings}
use Rattle.search_witnesses.specs.Findings.{is_endless, is_reached}
use Rattle.cli_tables.specs.declared.cells.Cell.{Cell}

-- what is told below the cap: a time, a number, or whether something may come
abbrev pub cell_below : Sort → ℕ → Bool → Cell
cell_below Sort.Time value reached = Cell.Time value reached
cell_below Sort.Count value reached = Cell.Count value reached
cell_below Sort.Coming value reached = Cell.Coming (nat_lt 0 value) reached

-- what is told of a figure
abbrev pub cell_of : Findings → Figure → Cell
cell_of f figure =
    cond (is_endless f figure) Cell.Unbounded
    (cond (is_below f.bounds.cap f.bounds.peaks figure)
    (cell_below (sort_of figure.measure) (told f.bounds.peaks figure) (is_reached f figure)) Cell.Above)
