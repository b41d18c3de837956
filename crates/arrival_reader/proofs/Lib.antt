pub mod NumberLemmas
pub mod TextLemmas
pub mod ArrivalLemmas
pub mod OneArrivalList
pub mod PrintedLemmas
