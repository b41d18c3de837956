pub mod ModeNames
