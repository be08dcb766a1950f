pub mod BytesLemmas
pub mod TurnLemmas
