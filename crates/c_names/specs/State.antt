-- The names in scope and the gadgets as the code keeps them, and what it answers. Only contracts of private functions
-- need these files.
pub mod Scopes
pub mod Gadgets
pub mod Answers
