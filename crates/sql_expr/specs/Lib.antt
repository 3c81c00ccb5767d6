pub mod Binding
pub mod Combining
pub mod Operands
pub mod Seeing
pub mod Trees
