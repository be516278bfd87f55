mod AttendingLemmas
mod RequestLemmas
