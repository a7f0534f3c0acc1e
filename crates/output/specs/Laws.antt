pub mod Calls
pub mod Fills
pub mod ItemBits
pub mod OffersWithin
pub mod RaisedLimit
pub mod ReorderLaws
pub mod SpanFacts
