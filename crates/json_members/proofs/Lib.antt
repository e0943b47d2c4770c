pub mod ByteLemmas
pub mod KeyLemmas
