-- What only the code's own functions speak of: no part of what a reader of the contracts must believe.
pub mod Choice
pub mod Memory
