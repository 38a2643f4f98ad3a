-- How the code finds whether a pair meets only at vertices that it shares: two flags for the vertices, and the case of the
-- answer.
use Rattle.std.specs.Prelude.{◌≡◌, Bool, cond, ◌&&◌, ◌||◌, List, [], ◌∷◌, ◌++◌, ℕ, ◌+◌, eqb, Float}
use Rattle.std.proofs.Math.Path.{refl, ap}
use Rattle.std.proofs.Common.{sym, ◌∙◌, true≢false}
use Rattle.std.proofs.Math.Bool.{true, false, not}
use Rattle.plane.specs.declared.vector2.Vector2.{Vector2}
use Rattle.plane.specs.PlineVertex.{pos}
use Rattle.plane.specs.Vector2.{fuzzy_eq_eps}
use Rattle.arcs.specs.declared.pline_seg_intr.PlineSegIntr.{PlineSegIntr}
use Rattle.arcs.specs.declared.pline_seg_intr.PlineSegIntr.TheVariants.{
  NoIntersect,
  TangentIntersect,
  OneIntersect,
  TwoIntersects,
  OverlappingLines,
  OverlappingArcs,
}
use Rattle.paths.specs.Path.{vertex}
use Rattle.listing_pairs.specs.declared.order.Job.{Job}
use Rattle.listing_pairs.specs.Neighbours.{near_some, only_at, at_joint}

unfoldable pub near_shared : List Float → Bool → ℕ → Float → Vector2 → Bool
near_shared path shared k epsilon p = cond shared (fuzzy_eq_eps p (pos (vertex path k)) epsilon) false

unfoldable pub near_either : List Float → Bool → Bool → ℕ → Float → Vector2 → Bool
near_either path next closing j epsilon p = near_shared path next j epsilon p || near_shared path closing 0 epsilon p

-- vertex j if `next`, vertex 0 if `closing`
abbrev pub shared : Bool → Bool → ℕ → List ℕ
shared next closing j = cond next (j ∷ []) [] ++ cond closing (0 ∷ []) []

-- only in a listing of one path
not_own : (own x : Bool) → not own ≡ true → false ≡ (own && x)
not_own true x e = absurd (true≢false (sym e))
not_own false x e = refl

own-joint : (own x r : Bool) → not own ≡ false → r ≡ x → r ≡ (own && x)
own-joint true x r e f = f
own-joint false x r e f = absurd (true≢false e)

or-none : (b : Bool) → b ≡ (b || false)
or-none true = refl
or-none false = refl

module _ (path : List Float) (epsilon : Float) (j : ℕ) where
  near-is : (next closing : Bool) (p : Vector2)
      → near_either path next closing j epsilon p ≡ near_some path epsilon (shared next closing j) p
  unfolding near_either near_shared
  near-is true true p =
      ap (λ (b : Bool). fuzzy_eq_eps p (pos (vertex path j)) epsilon || b) (or-none (fuzzy_eq_eps p (pos (vertex path 0)) epsilon))
  near-is true false p = refl
  near-is false true p = or-none (fuzzy_eq_eps p (pos (vertex path 0)) epsilon)
  near-is false false p = refl

  module _ (next closing : Bool) (met : PlineSegIntr) where
    abbrev joint : Bool
    joint = only_at (near_some path epsilon (shared next closing j)) met

    -- they share no vertex
    no-joint : not (next || closing) ≡ true → false ≡ joint
    unfolding only_at
    no-joint none = go next closing none met
      where
        go : (a b : Bool) → not (a || b) ≡ true → (m : PlineSegIntr) → false ≡ only_at (near_some path epsilon (shared a b j)) m
        go true b e m = absurd (true≢false (sym e))
        go false true e m = absurd (true≢false (sym e))
        go false false e NoIntersect = refl
        go false false e (TangentIntersect p) = refl
        go false false e (OneIntersect p) = refl
        go false false e (TwoIntersects p q) = refl
        go false false e (OverlappingLines p q) = refl
        go false false e (OverlappingArcs p q) = refl

    joint-none : met ≡ NoIntersect → false ≡ joint
    unfolding only_at
    joint-none e = rw e refl

    joint-tangent : (p : Vector2) (r : Bool) → met ≡ TangentIntersect p → r ≡ near_either path next closing j epsilon p → r ≡ joint
    unfolding only_at
    joint-tangent p r e is = rw e (is ∙ near-is next closing p)

    joint-one : (p : Vector2) (r : Bool) → met ≡ OneIntersect p → r ≡ near_either path next closing j epsilon p → r ≡ joint
    unfolding only_at
    joint-one p r e is = rw e (is ∙ near-is next closing p)

    joint-two : (p q : Vector2) (r s : Bool) → met ≡ TwoIntersects p q → r ≡ near_either path next closing j epsilon p
        → s ≡ near_either path next closing j epsilon q → (r && s) ≡ joint
    unfolding only_at
    joint-two p q r s e is also =
        rw e (ap (λ (b : Bool). b && s) (is ∙ near-is next closing p)
        ∙ ap (λ (b : Bool). near_some path epsilon (shared next closing j) p && b) (also ∙ near-is next closing q))

    joint-lines : (p q : Vector2) → met ≡ OverlappingLines p q → false ≡ joint
    unfolding only_at
    joint-lines p q e = rw e refl

    joint-arcs : (p q : Vector2) → met ≡ OverlappingArcs p q → false ≡ joint
    unfolding only_at
    joint-arcs p q e = rw e refl

-- ---- by the job's flags, as `at_joint` answers
module _ (path : List Float) (job : Job) (i j : ℕ) (met : PlineSegIntr) where
  abbrev pub is_next : Bool
  is_next = eqb j (i + 1)

  abbrev pub is_closing : Bool
  is_closing = job.closed && eqb i 0 && eqb (j + 1) job.m

  abbrev pub answer : Bool
  answer = job.own && at_joint path job.closed job.m job.epsilon i j met

  abbrev near : Vector2 → Bool
  near p = near_either path is_next is_closing j job.epsilon p

  pub of-two-paths : not job.own ≡ true → false ≡ answer
  of-two-paths two = not_own job.own _ two

  module _ (own : not job.own ≡ false) where
    pub shares-none : not (is_next || is_closing) ≡ true → false ≡ answer
    unfolding at_joint
    shares-none none = own-joint job.own _ false own (no-joint path job.epsilon j is_next is_closing met none)

    pub meets-none : met ≡ NoIntersect → false ≡ answer
    unfolding at_joint
    meets-none e = own-joint job.own _ false own (joint-none path job.epsilon j is_next is_closing met e)

    pub meets-tangent : (p : Vector2) (r : Bool) → met ≡ TangentIntersect p → r ≡ near p → r ≡ answer
    unfolding at_joint
    meets-tangent p r e is = own-joint job.own _ r own (joint-tangent path job.epsilon j is_next is_closing met p r e is)

    pub meets-one : (p : Vector2) (r : Bool) → met ≡ OneIntersect p → r ≡ near p → r ≡ answer
    unfolding at_joint
    meets-one p r e is = own-joint job.own _ r own (joint-one path job.epsilon j is_next is_closing met p r e is)

    pub meets-two : (p q : Vector2) (r s : Bool) → met ≡ TwoIntersects p q → r ≡ near p → s ≡ near q → (r && s) ≡ answer
    unfolding at_joint
    meets-two p q r s e is also =
        own-joint job.own _ (r && s) own (joint-two path job.epsilon j is_next is_closing met p q r s e is also)

    pub meets-lines : (p q : Vector2) → met ≡ OverlappingLines p q → false ≡ answer
    unfolding at_joint
    meets-lines p q e = own-joint job.own _ false own (joint-lines path job.epsilon j is_next is_closing met p q e)

    pub meets-arcs : (p q : Vector2) → met ≡ OverlappingArcs p q → false ≡ answer
    unfolding at_joint
    meets-arcs p q e = own-joint job.own _ false own (joint-arcs path job.epsilon j is_next is_closing met p q e)
