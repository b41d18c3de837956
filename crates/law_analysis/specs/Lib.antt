pub mod Refusing
pub mod Told
pub mod RefusingByRoutine
pub mod Laws
pub mod Lengths
pub mod Late
pub mod WorkedLengths
