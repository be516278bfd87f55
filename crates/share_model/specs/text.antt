-- Text: the spelling of lines, the text of answers, and the talk of a whole script.
pub mod Answering
pub mod Audit
pub mod AuditRows
pub mod Columns
pub mod Events
pub mod Lines
pub mod LinesRows
pub mod Report
pub mod ReportRows
pub mod Talk
pub mod TalkRows
pub mod Texts
