pub mod CloseLemmas
pub mod HomeLemmas
pub mod SlotLemmas
pub mod UsageLemmas
