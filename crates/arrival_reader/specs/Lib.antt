pub mod ArrivalText
pub mod PrintedArrivals
