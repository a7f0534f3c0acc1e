pub mod Meets
pub mod Decides
pub mod Promised
pub mod RecordsMeets
pub mod RecordsDecide
