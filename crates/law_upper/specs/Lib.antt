pub mod Above
pub mod StatesAbove
pub mod ExecutedAbove
pub mod AlarmsAbove
pub mod ShownAbove
pub mod FiguresAbove
pub mod StartingAbove
pub mod RunsAbove
