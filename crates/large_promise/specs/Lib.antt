-- What the mode of large arcs inherits. Which segment of the cut path has which name (Places). Self listings: how many pairs
-- there are (LargePairs), which segments are neighbours (LargeNeighbours), and that no row is left out (LargeJoints). Chains of
-- pages join to the listing (LargeChainedCalls). No touching pair of grid lines is missed: the statement (LargePromise) and its
-- proofs (LargeProved, LargeFolds). The rows are the old mode's of the cut paths, where a call takes these (OldOverCutPath);
-- with no large arc they are the old call's (BesideOldCalls). A loop that lists itself (Loop). When a counted listing refuses
-- (LargeCountedRefusals), a run of counted listings of both modes (LargeRun), and what its report has (LargeRuns). A reader must
-- believe only LargePromise and LargeRun, and what they name.
pub mod LargePairs
pub mod Places
pub mod LargeNeighbours
pub mod LargeJoints
pub mod LargeChainedCalls
pub mod LargePromise
pub mod LargeProved
pub mod LargeFolds
pub mod OldOverCutPath
pub mod BesideOldCalls
pub mod Loop
pub mod LargeCountedRefusals
pub mod LargeRun
pub mod LargeRuns
