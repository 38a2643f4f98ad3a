mod Fields
mod Picks
mod Spelling
