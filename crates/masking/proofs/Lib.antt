mod Bytes
mod Calls
