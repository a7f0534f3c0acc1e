pub mod Meets
pub mod Promised
pub mod Distances
pub mod RaisedLimit
