pub mod CoreOf
