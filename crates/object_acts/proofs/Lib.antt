pub mod Known
mod Lifts
mod Members
mod OwnWords
