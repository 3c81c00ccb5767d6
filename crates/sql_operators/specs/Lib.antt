pub mod Asking
pub mod Numbers
pub mod Seeing
pub mod Unary
