pub mod Parts
pub mod Bases
pub mod DeclarationActions
pub mod ExpressionActions
pub mod IndexActions
pub mod ItemActions
pub mod TokenActions
pub mod Actions
