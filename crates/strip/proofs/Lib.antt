mod Walks
mod Changes
