-- What one vertex of a path becomes in the cut path, and what its segment's names become, as the stores that write them.
use Rattle.std.specs.Prelude.{◌≡◌, Bool, true, false, cond, ◌&&◌, ltb, length, Float}
use Rattle.std.proofs.Math.Path.{refl, ap}
use Rattle.std.proofs.Common.{◌∙◌}
use mathlib.Core.List.{List, ◌++◌}
use Prim.Native.Nat.{ℕ, suc, ◌+◌, ◌*◌, ◌≤◌}
use native.Mathlib.Omega.{arith}
use Rattle.std.proofs.Math.ListN.{set}
use Rattle.std.proofs.Math.Seq.{sets}
use Rattle.plane.specs.declared.pline_vertex.PlineVertex.{PlineVertex}
use Rattle.paths.specs.declared.path.Segment.{Segment}
use Rattle.paths.specs.Path.{vertex}
use Rattle.paths.specs.Segments.{segment_from}
use Rattle.float_laws.specs.Stores.{sets-append}
use Rattle.cuts.specs.declared.cut.Halves.{Halves}
use Rattle.cuts.specs.Cut.{is_large, bent, cut_vertex, halve}
use Rattle.cuts.specs.CutPath.{numbers_of, vertices_of}
use Rattle.cuts.specs.Written.{Put}
use Rattle.cuts.specs.Workings.Words.{words_of}

module _ (path : List Float) (n i : ℕ) (s : Segment) (large : Bool) (read : s ≡ segment_from path i)
    (is : large ≡ is_large s.v1.bulge) (old : List Float) (at : ℕ) where
  pub put_whole : (ltb i n && large) ≡ false → (now : List Float) → now ≡ sets old at (numbers_of s.v1 s.trace)
      → Put (vertices_of path n i) old at now (at + 4)
  unfolding vertices_of
  put_whole e now stored = rw (← read, ← is, e) (record { contents = stored; behind = refl })

  pub put-halves : (ltb i n && large) ≡ true → (h : Halves) → h ≡ halve s.v1 s.v2
      → (mid now : List Float) → mid ≡ sets old at (numbers_of h.first s.trace)
      → now ≡ sets mid (at + 4) (numbers_of h.second s.trace)
      → Put (vertices_of path n i) old at now (at + 8)
  unfolding vertices_of halve
  put-halves e h is_cut mid now first second =
      rw (← read, ← is, e)
      (record {
        contents =
            second
            ∙ ap (λ (l : List Float). sets l (at + 4) (numbers_of h.second s.trace)) first
            ∙ sets-append old at (numbers_of h.first s.trace) (numbers_of h.second s.trace)
            ∙ ap (λ (k : Halves). sets old at (numbers_of k.first s.trace ++ numbers_of k.second s.trace)) is_cut;
        behind = refl;
      })

pub vertices-short : (path : List Float) (n i : ℕ) → length (vertices_of path n i) ≤ 8
unfolding vertices_of
vertices-short path n i =
    let s = segment_from path i in
    go (ltb i n && is_large s.v1.bulge) (bent s.v1) (cut_vertex s.v1 s.v2) s.v1 s.trace
  where
    go : (b : Bool) (u v w : PlineVertex) (t : Float) → length (cond b (numbers_of u t ++ numbers_of v t) (numbers_of w t)) ≤ 8
    go true u v w t = omega arith
    go false u v w t = omega arith

-- ---- names
module _ (path : List Float) (i : ℕ) (v : PlineVertex) (large : Bool) (read : v ≡ vertex path i)
    (is : large ≡ is_large v.bulge) (old : List ℕ) (at : ℕ) where
  pub name-whole : large ≡ false → Put (words_of path i) old at (set old at (i * 4)) (at + 1)
  unfolding words_of
  name-whole e = rw (← read, ← is, e) (record { contents = refl; behind = refl })

  pub name-halves : large ≡ true
      → Put (words_of path i) old at (set (set old at (i * 4 + 1)) (at + 1) (i * 4 + 2)) (at + 2)
  unfolding words_of
  name-halves e =
      let next : at + 1 ≡ suc at = omega arith in
      rw (← read, ← is, e)
      (record { contents = ap (λ (k : ℕ). set (set old at (i * 4 + 1)) k (i * 4 + 2)) next; behind = refl })
