pub mod FormDecides
pub mod FormExactly
pub mod FormMeets
pub mod Forms
