mod Split
mod Exactly
