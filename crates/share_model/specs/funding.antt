-- Funding: the graph of currencies, tickets and flows, and what each command does to it.
pub mod Changes
pub mod Graph
pub mod WellFormed
pub mod Laws
pub mod RefusalRows
pub mod Rows
