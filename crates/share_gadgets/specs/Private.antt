-- What contracts of private functions say of a loop under way, of random words and of shifts, and the laws of words. No public clause needs these files.
pub mod PairLoop
pub mod WordLaws
pub mod Shift
pub mod Cut
