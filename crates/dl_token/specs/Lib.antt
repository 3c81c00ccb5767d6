pub mod Hmac
pub mod Links
pub mod Tokens
