pub mod Cover
pub mod Free
pub mod Loading
