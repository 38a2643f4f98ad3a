mod Through
mod Choice
mod Raise
mod RootBits
mod Cases
