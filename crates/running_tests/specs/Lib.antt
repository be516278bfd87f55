pub mod Tariffs
