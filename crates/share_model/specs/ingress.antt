-- Ingress: the records of a stream and how they end, and the queue from the workers to the link.
pub mod Queue
pub mod Records
pub mod RecordsRows
