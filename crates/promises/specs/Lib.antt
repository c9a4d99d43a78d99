-- The customer's three demands and what documents 01 and 02 promise, about the public calls. Promises has all in one
-- record.
pub mod FirstDemand
pub mod SecondDemand
pub mod ThirdDemand
pub mod Plans
pub mod TapeNeeds
pub mod Lifts
pub mod Rounds
pub mod ComponentReports
pub mod Journals
pub mod Distances
pub mod Promises
