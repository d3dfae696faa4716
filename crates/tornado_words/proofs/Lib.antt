mod LawLemmas
mod MatchLemmas
mod NumberLemmas
mod RangeLemmas
mod RefusalLemmas
mod ValueLemmas
