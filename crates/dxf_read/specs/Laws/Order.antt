-- The checks of a text that spells a body, in their order.
use Rattle.checks.specs.Checked.{Checked}
use Rattle.std.specs.Prelude.{ℕ, ◌*◌, ◌<◌, ◌≤◌, ◌≡◌, Bool, not, List, [], ◌∷◌, ◌++◌, eqb, ltb, Float, Err, Ok}
use Rattle.std.proofs.Common.{ap, ◌∙◌, arith}
use borrow.Author.Tests.{lt-ltb, le-ltb, eq-eqb, ne_eqb}
use Rattle.std.proofs.Math.ListN.{length}
use Rattle.checks.specs.declared.fault.Item.TheVariants.{Line, Length, Room}
use Rattle.checks.specs.declared.fault.Fault.{Fault}
use Rattle.checks.specs.Fault.{at, refuse, later, whole}
use Rattle.checks.specs.First.{first}
use Rattle.checks.specs.Refusal as numbers
use Rattle.checks.specs.Laws.Later.{fine-right}
use Rattle.checks.specs.Laws.Chains.{first-append}
use Rattle.paths.specs.Path.{most_vertices}
use Rattle.paths.specs.Shape
use Rattle.paths.specs.Check.{path_checks}
use Rattle.dxf_form.specs.Refusal
use Rattle.dxf_form.specs.Body.{Body}
use Rattle.dxf_form.specs.Numbers.{Corner, path_of}
use Rattle.dxf_form.specs.Form.{SpellsBody, closed_by, count_line}
use Rattle.dxf_form.specs.Exactly.{groups-read, gives-complete-body}
use Rattle.dxf_read.specs.Import.{by_checks, import_dxf, line_fault, told_line}
use Rattle.dxf_read.specs.Laws.Finishing.{shape-long, shape-fine}
use Rattle.dxf_read.specs.Laws.Stores.{path-length}

module _ (n line : ℕ) (closed : Bool) (vs : List Corner) (old : List Float) where
  -- the path's own checks, and the last one
  abbrev pub own : List Checked
  own = path_checks (path_of vs) closed 0

  abbrev last : Checked
  last = refuse (ltb (length old) (length (path_of vs))) Refusal.room (at 0 0 Room)

  abbrev pub all_checks : List Checked
  all_checks =
      refuse (not (eqb n (length vs))) Refusal.count (at 0 (told_line line) Line)
      ∷ Shape.shape (path_of vs) 0
      ∷ (own ++ (last ∷ []))

  pub unmet-first : (n ≡ length vs → ⊥) → first all_checks ≡ Err (line_fault Refusal.count line)
  unfolding refuse later
  unmet-first h = rw (ne_eqb n (length vs) h)

  module _ (met : n ≡ length vs) where
    pub long-first : most_vertices < length vs → first all_checks ≡ Err (whole numbers.vertices Length)
    unfolding refuse later
    long-first h = rw (eq-eqb n (length vs) met, shape-long vs h)

    module _ (few : length vs ≤ most_vertices) where
      shaped : first all_checks ≡ first (own ++ (last ∷ []))
      unfolding refuse later
      shaped = rw (eq-eqb n (length vs) met, shape-fine vs few)

      then-own : first all_checks ≡ later (first own) last
      then-own = shaped ∙ first-append own (last ∷ []) ∙ ap (later (first own)) (fine-right last)

      pub own_first : (f : Fault) → first own ≡ Err f → first all_checks ≡ Err f
      unfolding later
      own_first f e = then-own ∙ rw e

      module _ (fine : first own ≡ Ok tt) where
        pub room-first : length old < length vs * 4 → first all_checks ≡ Err (whole Refusal.room Room)
        unfolding later refuse
        room-first h =
            let short : length old < length (path_of vs) = omega (arith, path-length vs) in
            then-own ∙ rw (fine, lt-ltb (length old) (length (path_of vs)) short)

        pub none_first : length vs * 4 ≤ length old → first all_checks ≡ Ok tt
        unfolding later refuse
        none_first h =
            let fits : length (path_of vs) ≤ length old = omega (arith, path-length vs) in
            then-own ∙ rw (fine, le-ltb (length old) (length (path_of vs)) fits)

-- ---- a text that spells a body is imported by its checks

module _ (text : List ℕ) (old : List Float) (n f : ℕ) (vs : List Corner) (s : SpellsBody text n f vs) where
  pub spelt-import : import_dxf text old
      ≡ by_checks (record { declared = n; flags-are = f; vertices = vs }) old
      (first (all_checks n (count_line s.gs) (closed_by f) vs old))
  unfolding import_dxf
  spelt-import =
      let c = gives-complete-body s.gs n f vs s.gives in
      let read = (groups-read text s.gs).1 (s.spelt, c.0) in
      rw read
      (ap
      (λ (b : Body). by_checks b old (first (all_checks b.declared (count_line s.gs) (closed_by b.flags-are) b.vertices old)))
      c.1)
