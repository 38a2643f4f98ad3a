-- The proof of the promise on joints and folds: from two lines with a common end (Jointed) to the segments of a path, which share
-- a vertex by index.
use Rattle.std.specs.Prelude.{◌≡◌, refl, ◌⊎◌, ◌≢◌, ◌↔◌, Bool, true, false, cond, ◌&&◌, ◌||◌, List, [], ◌∷◌, ◌++◌, ℕ, ◌+◌, ◌-◌, ◌≤◌, ◌<◌, T, eqb, ltb, Float}
use Rattle.std.proofs.Math.Path.{sym, ap}
use Rattle.std.proofs.Common.{◌∙◌, subst, true≢false, eq-eqb, eqb→eq, lt→ltb, ltb→lt}
use Rattle.std.proofs.Math.Logic.{inl, inr}
use native.Mathlib.Omega.{arith}
use Rattle.std.proofs.Math.Dec.{not_T}
use Rattle.std.specs.Float.Ieee.Bits.{is_true, is_false}
use Rattle.plane.specs.Vector2 as vector2
use Rattle.plane.specs.PlineVertex as vertex
use Rattle.plane.specs.declared.vector2.Vector2.{Vector2}
use Rattle.plane.specs.declared.pline_vertex.PlineVertex.{PlineVertex}
use Rattle.crossing.specs.PlineSeg.{pline_seg}
use Rattle.arcs.specs.declared.pline_seg_intr.PlineSegIntr.{PlineSegIntr}
use Rattle.arcs.specs.declared.pline_seg_intr.PlineSegIntr.TheVariants.{NoIntersect, OverlappingLines}
use Rattle.paths.specs.Path.{vertex_count}
use Rattle.paths.specs.Path.{vertex as vertex_at}
use Rattle.paths.specs.Shape.{refused}
use Rattle.paths.specs.Segments.{segment_count, after, segment_from}
use Rattle.paths.specs.Laws.Segments.{count-within}
use Rattle.listing_pairs.specs.declared.row.Row.{Row}
use Rattle.listing_pairs.specs.declared.row.Look.{Look}
use Rattle.listing_pairs.specs.declared.row.Look.TheVariants.{Skipped, Nothing, Made}
use Rattle.listing_pairs.specs.Row.{row}
use Rattle.listing_pairs.specs.Look.{look, self_look_of}
use Rattle.listing_pairs.specs.Traces.{one_trace, traced}
use Rattle.listing_pairs.specs.Neighbours.{shared_vertices, near_some, at_joint}
use Rattle.listing_calls.specs.Complete.{pair_of, makes-looked}
use Rattle.grid.specs.Promise.{Spot, On, Epsilon, ShareMore, GridLine, OtherTraces}
use Rattle.grid.specs.Joints.{Seen, EndOf, near_to, JointPromise, ThreeWays, BackPromise, FoldPromise}
use Rattle.grid.proofs.Plane.Joints.{AnEnd, start-shared, end-shared, there_and_back}
use Rattle.grid.proofs.Nearby.{one_spot}
use Rattle.grid.proofs.Proved.{class-above}
use Rattle.grid.proofs.Jointed.{seen}

-- ---- two lines with a common end
pub joint-promise : JointPromise
joint-promise v1 v2 u1 u2 w p1 p2 q1 q2 e num den a b c d line-v line-u small end-v end-u near says = go end-v end-u
  where
    at : (x : PlineVertex) (p : Spot) → w ≡ x → On x p → On w p
    at x p h k = subst (λ (z : PlineVertex). On z p) (sym h) k

    start : AnEnd p1 q1 q2 → On w p1 → Seen p1 p2 q1 q2 near (pline_seg v1 v2 u1 u2 e)
    start j on =
        seen v1 v2 u1 u2 p1 p2 q1 q2 e num den a b c d line-v line-u small (inl j) w p1 on (start-shared p1 p2 q1 q2 j) near says

    end : AnEnd p2 q1 q2 → On w p2 → Seen p1 p2 q1 q2 near (pline_seg v1 v2 u1 u2 e)
    end j on =
        seen v1 v2 u1 u2 p1 p2 q1 q2 e num den a b c d line-v line-u small (inr j) w p2 on (end-shared p1 p2 q1 q2 j) near says

    go : EndOf w v1 v2 → EndOf w u1 u2 → Seen p1 p2 q1 q2 near (pline_seg v1 v2 u1 u2 e)
    go (inl h) (inl k) = let x = at v1 p1 h a in start (inl (one_spot w p1 q1 x (at u1 q1 k c))) x
    go (inl h) (inr k) = let x = at v1 p1 h a in start (inr (one_spot w p1 q2 x (at u2 q2 k d))) x
    go (inr h) (inl k) = let x = at v2 p2 h b in end (inl (one_spot w p2 q1 x (at u1 q1 k c))) x
    go (inr h) (inr k) = let x = at v2 p2 h b in end (inr (one_spot w p2 q2 x (at u2 q2 k d))) x

pub three_ways : ThreeWays
three_ways a b c p q r e num den at_a at_b at_c line-a line-b line-c small = (
  joint-promise a b b c b p q q r e num den at_a at_b at_b at_c line-a line-b small (inr refl) (inl refl) (near_to b e) (λ x h. h),
  joint-promise a b c a a p q r p e num den at_a at_b at_c at_a line-a line-c small (inl refl) (inr refl) (near_to a e) (λ x h. h),
  joint-promise a b b a b p q q p e num den at_a at_b at_b at_a line-a line-b small (inr refl) (inl refl)
      (λ x. near_to b e x || near_to a e x) (λ x h. ap (λ (z : Bool). z || near_to a e x) h),
)

pub back-promise : BackPromise
back-promise = there_and_back

-- ---- one path
pub closed-count : (path : List Float) (closed : Bool) → closed ≡ true → 0 < segment_count path closed
    → segment_count path closed ≡ vertex_count path
unfolding segment_count
closed-count path closed = go (refused path) (ltb (vertex_count path) 2) closed (vertex_count path)
  where
    go : (a b c : Bool) (n : ℕ) → c ≡ true → 0 < cond a 0 (cond b 0 (cond c n (n - 1)))
        → cond a 0 (cond b 0 (cond c n (n - 1))) ≡ n
    go true b c n e h = absurd (omega arith)
    go false true c n e h = absurd (omega arith)
    go false false true n e h = refl
    go false false false n e h = absurd (true≢false (sym e))

after_next : (path : List Float) (i : ℕ) → i + 1 < vertex_count path → after path i ≡ i + 1
unfolding after
after_next path i h =
    ap (λ (b : Bool). cond b (i + 1) 0)
    (is_true (ltb (i + 1) (vertex_count path)) (lt→ltb (i + 1) (vertex_count path) h))

after_last : (path : List Float) (i : ℕ) → i + 1 ≡ vertex_count path → after path i ≡ 0
unfolding after
after_last path i h =
    ap (λ (b : Bool). cond b (i + 1) 0)
    (is_false (ltb (i + 1) (vertex_count path))
    (not_T (ltb (i + 1) (vertex_count path)) (λ t. never (i + 1) (vertex_count path) h (ltb→lt (i + 1) (vertex_count path) t))))
  where
    never : (a b : ℕ) → a ≡ b → a < b → ⊥
    never a b e l = omega arith

-- a vertex that segments i and j share, among those of the list ks
record Between (path : List Float) (e : Float) (i j : ℕ) (ks : List ℕ) : Type 0 where
  pub k : ℕ
  pub of-i : EndOf (vertex_at path k) (segment_from path i).v1 (segment_from path i).v2
  pub of-j : EndOf (vertex_at path k) (segment_from path j).v1 (segment_from path j).v2
  pub near : (p : Vector2) → vector2.fuzzy_eq_eps p (vertex.pos (vertex_at path k)) e ≡ true → near_some path e ks p ≡ true

-- of a path of n segments, which has a vertex for each, and no more if it is closed
module _ (n : ℕ) (path : List Float) (closed : Bool) (all : n ≤ vertex_count path)
    (whole : closed ≡ true → 0 < n → n ≡ vertex_count path) (e : Float) (i j : ℕ) (rises : i < j) (within : j < n) where
  next : (ks : List ℕ) → j ≡ i + 1 → Between path e i j (j ∷ ks)
  unfolding segment_from
  next ks is =
      let l : i + 1 < vertex_count path = omega arith in
      record {
        k = j;
        of-i = inr (ap (vertex_at path) (is ∙ sym (after_next path i l)));
        of-j = inl refl;
        near = λ p h. ap (λ (b : Bool). b || near_some path e ks p) h;
      }

  first : closed ≡ true → i ≡ 0 → j + 1 ≡ n → Between path e i j (0 ∷ [])
  unfolding segment_from
  first is start last =
      let l : j + 1 ≡ vertex_count path = last ∙ whole is (omega arith) in
      record {
        k = 0;
        of-i = inl (ap (vertex_at path) (sym start));
        of-j = inr (ap (vertex_at path) (sym (after_last path j l)));
        near = λ p h. ap (λ (b : Bool). b || false) h;
      }

  between : shared_vertices n closed i j ≢ [] → Between path e i j (shared_vertices n closed i j)
  between =
      go (eqb j (i + 1)) (closed && eqb i 0 && eqb (j + 1) n) (eqb→eq j (i + 1))
      (λ t. let a = all_three closed (eqb i 0) (eqb (j + 1) n) t in
      (is_true closed a.0, eqb→eq i 0 a.1, eqb→eq (j + 1) n a.2))
    where
      all_three : (a b c : Bool) → T (a && b && c) → T a × T b × T c
      all_three true true true t = (tt, tt, tt)
      all_three true true false t = absurd t
      all_three true false c t = absurd t
      all_three false b c t = absurd t

      go : (a b : Bool) → (T a → j ≡ i + 1) → (T b → (closed ≡ true) × (i ≡ 0) × (j + 1 ≡ n))
          → cond a (j ∷ []) [] ++ cond b (0 ∷ []) [] ≢ []
          → Between path e i j (cond a (j ∷ []) [] ++ cond b (0 ∷ []) [])
      go true b x y some = next (cond b (0 ∷ []) []) (x tt)
      go false true x y some = let k = y tt in first k.0 k.1 k.2
      go false false x y some = absurd (some refl)

-- neighbours share a vertex
neighbours-share : (n : ℕ) (closed : Bool) (i j : ℕ) → (j ≡ i + 1) ⊎ ((closed ≡ true) × (i ≡ 0) × (j + 1 ≡ n))
    → shared_vertices n closed i j ≢ []
neighbours-share n closed i j (inl next) e =
    some (ap (λ (b : Bool). cond b (j ∷ []) [] ++ cond (closed && eqb i 0 && eqb (j + 1) n) (0 ∷ []) []) (sym (eq-eqb j (i + 1) next)) ∙ e)
  where
    some : {k : ℕ} {l : List ℕ} → k ∷ l ≡ [] → ⊥
    some e = let z : ◌≡◌ {A = ℕ} 0 1 = cc in absurd (omega (arith, z))
neighbours-share n closed i j (inr (is, first, last)) e =
    behind (cond (eqb j (i + 1)) (j ∷ []) [])
    (ap (λ (b : Bool). cond (eqb j (i + 1)) (j ∷ []) [] ++ cond b (0 ∷ []) []) (sym all) ∙ e)
  where
    all : (closed && eqb i 0 && eqb (j + 1) n) ≡ true
    all = rw (is, eq-eqb i 0 first, eq-eqb (j + 1) n last) refl

    behind : (l : List ℕ) → l ++ (0 ∷ []) ≡ [] → ⊥
    behind [] e = let z : ◌≡◌ {A = ℕ} 0 1 = cc in absurd (omega (arith, z))
    behind (k ∷ l) e = let z : ◌≡◌ {A = ℕ} 0 1 = cc in absurd (omega (arith, z))

-- a pair that is at a joint makes no row
not-silent : (b : Bool) (l : Look) (r : Row) → cond b Nothing l ≡ Made r → b ≡ false
not-silent true l r e = let z : ◌≡◌ {A = ℕ} 0 1 = cc in absurd (omega (arith, z))
not-silent false l r e = refl

-- nor does one that is skipped
not-skipped : (b : Bool) (l : Look) (r : Row) → cond b Skipped l ≡ Made r → b ≡ false
not-skipped true l r e = let z : ◌≡◌ {A = ℕ} 0 1 = cc in absurd (omega (arith, z))
not-skipped false l r e = refl

-- the same of a path of n segments
module _ (n : ℕ) (path : List Float) (closed : Bool) (all : n ≤ vertex_count path)
    (whole : closed ≡ true → 0 < n → n ≡ vertex_count path) (e : Float) (num den : ℕ) (small : Epsilon e num den) (i j : ℕ)
    (rises : i < j) (within : j < n)
    (beside : (j ≡ i + 1) ⊎ ((closed ≡ true) × (i ≡ 0) × (j + 1 ≡ n)))
    (p1 p2 q1 q2 : Spot) (v : GridLine path i p1 p2) (u : GridLine path j q1 q2) where
  abbrev one : Bool
  one = one_trace path path (record { i = i; j = j })

  abbrev met : PlineSegIntr
  met = pair_of path path e i j

  shares : Between path e i j (shared_vertices n closed i j)
  shares = between n path closed all whole e i j rises within (neighbours-share n closed i j beside)

  seen-there : Seen p1 p2 q1 q2 (near_some path e (shared_vertices n closed i j)) met
  seen-there =
      joint-promise (segment_from path i).v1 (segment_from path i).v2 (segment_from path j).v1 (segment_from path j).v2
      (vertex_at path shares.k) p1 p2 q1 q2 e num den v.0 v.1 u.0 u.1 v.2 u.2 small shares.of-i
      shares.of-j (near_some path e (shared_vertices n closed i j)) shares.near

  apart : (r : PlineSegIntr) (p q : Vector2) → r ≡ OverlappingLines p q → r ≡ NoIntersect → ⊥
  apart r p q h k = let z : ◌≡◌ {A = ℕ} 0 1 = cc in omega arith

  made : ShareMore p1 p2 q1 q2 → look path path e i j ≡ Made (row i j met)
  made m = let k = seen-there.overlap.1 m in makes-looked path path e i j (class-above met (apart met k.0 k.1 k.2))

  pub fold-of : ((at_joint path closed n e i j (pair_of path path e i j) ≡ true) ↔ (¬ ShareMore p1 p2 q1 q2))
      × (((r : Row) × (traced path path (self_look_of n path closed e) i j ≡ Made r))
      ↔ (ShareMore p1 p2 q1 q2 × OtherTraces path path i j))
  unfolding at_joint self_look_of look traced
  fold-of = (
    seen-there.only-there,
    (
      λ r. let looked = not-skipped one _ r.0 r.1 in
          (seen-there.elsewhere.0 (not-silent _ _ r.0 (rw looked at r.1)), looked),
      λ h. (row i j met, rw h.1 (rw (seen-there.elsewhere.1 h.0) (made h.0))),
    ),
  )

pub fold-promise : FoldPromise
fold-promise path closed e num den small i j (rises, within, beside) p1 p2 q1 q2 v u =
    fold-of (segment_count path closed) path closed (count-within path closed) (closed-count path closed) e num den small i j rises
    within beside p1 p2 q1 q2 v u
