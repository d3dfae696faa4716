pub mod GeneratedLaw
