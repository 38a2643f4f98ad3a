-- One turn of a loop that reads vertices in one form and puts them in the other. `form` is how vertices are put, and `one` how a
-- vertex is: the same argument for both directions.
use Rattle.std.specs.Prelude.{ℕ, ◌+◌, ◌≤◌, ◌≡◌, refl, List, [], ◌∷◌, ◌++◌, length}
use Rattle.std.proofs.Common.{ap, ◌∙◌, add-zero, arith}
use Rattle.std.proofs.lemmas.List.Edits.{sets}
use Rattle.layouts.specs.Layout.{Vertex}
use Rattle.put_text.specs.Workings.Put.{Put}
use Rattle.put_text.specs.Laws.Put.{put-join}
use Rattle.layout_moves.specs.Workings.Carried.{Found, lost, found, Carried}

-- one vertex more
abbrev pub also : Vertex → Found → Found
also v lost = lost
also v (found vs) = found (v ∷ vs)

-- what a slice holds once vertices are put from k on, and the place after them
pub data Stored : Type 0 where
  gone : Stored
  holds : List ℕ → ℕ → Stored

module _ (form : List Vertex → List ℕ) where
  abbrev pub stored : Found → List ℕ → ℕ → Stored
  stored lost old k = gone
  stored (found vs) old k = holds (sets old k (form vs)) (k + length (form vs))

  pub stored-none : form [] ≡ [] → (old : List ℕ) (k : ℕ) → stored (found []) old k ≡ holds old k
  stored-none none_is old k = rw (none_is, add-zero)

  pub stored_one : (one : Vertex → List ℕ) → ((v : Vertex) (vs : List Vertex) → form (v ∷ vs) ≡ one v ++ form vs)
      → (v : Vertex) (g : Found) {old mid : List ℕ} {k next : ℕ} → Put (one v) old k mid next
      → stored g mid next ≡ stored (also v g) old k
  stored_one one more-is v lost p = refl
  stored_one one more-is v (found vs) {old} {mid} {k} {next} p =
      let rest : Put (form vs) mid next (sets mid next (form vs)) (next + length (form vs)) =
      record { holds = refl; after = refl } in
      let all = put-join p rest in
      rw (more-is v vs, all.holds, all.after)

  -- ---- the end of the loop

  module _ (g : Found) (most : ℕ) (old : List ℕ) (at : ℕ) (now : List ℕ) (next : ℕ) where
    pub carried-gone : gone ≡ stored g old at → Carried form most g old at now next
    carried-gone s vs is =
        let e = s ∙ ap (λ (f : Found). stored f old at) is in
        let z : ◌≡◌ {A = ℕ} 0 1 = cc in
        absurd (omega arith)

    pub carried-all : holds now next ≡ stored g old at → next ≤ at + most → Carried form most g old at now next
    carried-all s h vs is =
        let e = s ∙ ap (λ (f : Found). stored f old at) is in
        record { is-put = record { holds = cc; after = cc }; short = h }
