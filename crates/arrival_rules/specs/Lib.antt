pub mod Rules
pub mod Debts
pub mod Laws
