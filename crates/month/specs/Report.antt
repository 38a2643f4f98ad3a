-- A month's report, by request 9: which word counts what, when a report is full, and one report added to another.
use Rattle.std.specs.Prelude.{Bool, false, ◌||◌, List, [], ◌∷◌, ℕ, ◌+◌, ◌-◌, leb, ltb, get_or, replicate}
use Rattle.std.proofs.Math.Seq.{slice}

-- how many words a report has
abbrev pub words : ℕ
words = 40

-- ---- what a word counts
-- layouts, refused ones too
abbrev pub layouts : ℕ
layouts = 0

-- pairs looked at
abbrev pub pairs : ℕ
pairs = 1

-- word `classes + c`: the pairs of class c, for the classes 0 to 5
abbrev pub classes : ℕ
classes = 2

-- word `refusals + N`: the layouts refused with N, for every N below 32
abbrev pub refusals : ℕ
refusals = 8

abbrev pub refusal_numbers : ℕ
refusal_numbers = 32

-- ---- the limits
-- how many layouts a report may have
abbrev pub most_layouts : ℕ
most_layouts = 10_000

-- the most that a layout adds to a word: 8,192 * 8,192 pairs
abbrev pub most_added : ℕ
most_added = 67_108_864

-- the largest number of 64 bits
abbrev pub largest : ℕ
largest = 18_446_744_073_709_551_615

-- a word above this might not hold what a layout adds
abbrev pub most_held : ℕ
most_held = largest - most_added

-- ---- reports
-- a fresh report: all zeros
abbrev pub fresh : List ℕ
fresh = replicate words 0

-- word k
abbrev pub word : List ℕ → ℕ → ℕ
word report k = get_or report k 0

-- some of these words is above the limit
abbrev pub some_above : ℕ → List ℕ → Bool
some_above limit [] = false
some_above limit (w ∷ ws) = ltb limit w || some_above limit ws

-- no layout can be added: it has 10,000 layouts or more, or one of words 1 to 39 is above the limit
unfoldable pub full : List ℕ → Bool
full report = leb most_layouts (word report layouts) || some_above most_held (slice pairs words report)

-- word by word: to each word is added what stands in its place; further words are unchanged
abbrev pub plus : List ℕ → List ℕ → List ℕ
plus [] [] = []
plus [] (a ∷ more) = []
plus (w ∷ ws) [] = w ∷ ws
plus (w ∷ ws) (a ∷ more) = (w + a) ∷ plus ws more
