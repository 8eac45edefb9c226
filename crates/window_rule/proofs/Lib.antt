mod Repeated
mod Tested
