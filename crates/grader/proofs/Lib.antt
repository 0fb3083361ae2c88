pub mod CheckLaws
pub mod Telling
pub mod PanelChanges
pub mod Granting
pub mod Finding
pub mod Settling
pub mod Asking
pub mod RunLaws
