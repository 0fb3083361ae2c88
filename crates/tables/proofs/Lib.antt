pub mod LoanLaws
pub mod PanelLaws
pub mod RulingLaws
