mod WindowLemmas
pub mod CodeLemmas
