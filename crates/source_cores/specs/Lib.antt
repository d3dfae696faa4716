pub mod SourceCores
