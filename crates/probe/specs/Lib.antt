-- How functions of plane, paths and listings go to C for the comparison (Numbers), and those on layouts (Told), and that each
-- promise allows one result only (OneResult).
pub mod Numbers
pub mod Told
pub mod Listed
pub mod OneResult
