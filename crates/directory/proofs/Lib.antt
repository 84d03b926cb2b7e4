mod Slots
mod Changes
