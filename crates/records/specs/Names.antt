-- The calls, by the five bytes of their names as one number.
use Rattle.std.specs.Prelude.{ℕ}

abbrev pub ABS : ℕ
ABS = 0x61_6273_5f20

abbrev pub MIN : ℕ
MIN = 0x6d_696e_5f20

abbrev pub MAX : ℕ
MAX = 0x6d_6178_5f20

abbrev pub SQRT : ℕ
SQRT = 0x73_7172_7420

abbrev pub MIN-MAX : ℕ
MIN-MAX = 0x6d_6e6d_7820

abbrev pub DIST-SQUARED : ℕ
DIST-SQUARED = 0x64_6973_7420

abbrev pub POINT-FROM-PARAMETRIC : ℕ
POINT-FROM-PARAMETRIC = 0x70_7461_7420

abbrev pub PARAMETRIC-FROM-POINT : ℕ
PARAMETRIC-FROM-POINT = 0x70_6172_6120

abbrev pub SEG-ARC : ℕ
SEG-ARC = 0x61_7263_5f20

abbrev pub LINE-LINE : ℕ
LINE-LINE = 0x6c_6e6c_6e20

abbrev pub LINE-CIRCLE : ℕ
LINE-CIRCLE = 0x6c_6e63_7220

abbrev pub CIRCLE-CIRCLE : ℕ
CIRCLE-CIRCLE = 0x63_7263_7220

abbrev pub PLINE-SEG : ℕ
PLINE-SEG = 0x70_6169_7220
