mod Ends
mod FindingsEnds
