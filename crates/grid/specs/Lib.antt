-- The promise on the plant's grid: first its statement (Promise), then what its proof uses, last the proof (Proved). The same for
-- neighbouring lines of one path: Joints, and its proof in JointsProved. A reader must believe only Promise and Joints.
pub mod Promise
pub mod Plane
pub mod Floats
pub mod Joints
