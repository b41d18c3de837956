pub mod Steps
pub mod SetLemmas
pub mod JobLemmas
pub mod CounterLemmas
pub mod TimeLemmas
pub mod PictureLemmas
pub mod MachineLemmas
