pub mod BatchLemmas
pub mod SayingLemmas
pub mod SessionLemmas
