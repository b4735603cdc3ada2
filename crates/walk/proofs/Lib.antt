pub mod PostLaws
pub mod SeenLaws
pub mod EntryTurns
pub mod LineTurns
