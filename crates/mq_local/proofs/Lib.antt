pub mod DraftLemmas
pub mod KeptLemmas
pub mod NewLemmas
