mod OneRow
mod Searches
