mod One
mod Only
mod Places
