pub mod One
pub mod First
pub mod Items
pub mod Why
