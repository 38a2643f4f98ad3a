-- The scope's limits, by the bits of their f64. A number equal to its limit passes. Edges.antt states them as powers of two.
use Rattle.std.specs.Prelude.{Float}
use Rattle.std.specs.Float.{binary64}
use Rattle.std.specs.Float.Ieee.{of_bits}

-- 2^20, 1,048,576: the most that a coordinate of a point or vertex may be in magnitude
abbrev pub coordinate : Float
coordinate = of_bits binary64 0x4130_0000_0000_0000

-- 1: the most that a bulge may be in magnitude
abbrev pub bulge : Float
bulge = of_bits binary64 0x3ff0_0000_0000_0000

-- 16: the most that a bulge may be in magnitude in the mode of large arcs
abbrev pub large_bulge : Float
large_bulge = of_bits binary64 0x4030_0000_0000_0000

-- 2^-40 and 1/2: the least and the most epsilon
abbrev pub epsilon_least : Float
epsilon_least = of_bits binary64 0x3d70_0000_0000_0000

abbrev pub epsilon_most : Float
epsilon_most = of_bits binary64 0x3fe0_0000_0000_0000

-- 2^-40: the least chord of an arc
abbrev pub chord_least : Float
chord_least = of_bits binary64 0x3d70_0000_0000_0000

-- 2^-42 and 2^47: the least and the most radius of a circle
abbrev pub radius_least : Float
radius_least = of_bits binary64 0x3d50_0000_0000_0000

abbrev pub radius_most : Float
radius_most = of_bits binary64 0x42e0_0000_0000_0000

-- 2^48: the most that a coordinate of a circle's centre may be in magnitude
abbrev pub center : Float
center = of_bits binary64 0x42f0_0000_0000_0000

-- 255: the most that a trace may be
abbrev pub trace_most : Float
trace_most = of_bits binary64 0x406f_e000_0000_0000
