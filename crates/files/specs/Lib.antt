pub mod Records
pub mod TableAnswers
pub mod TableLimits
pub mod FoundCharges
pub mod Intakes
pub mod AcceptedFiles
pub mod Writes
pub mod RoundTrips
