pub mod Recovered
