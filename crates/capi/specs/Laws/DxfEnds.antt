-- The ends of handing an import or an export over: there is no room for what is told, or it is handed over.
use Rattle.std.specs.Prelude.{ℕ, ◌<◌, ◌≤◌, ◌≡◌, List, length}
use Rattle.std.proofs.Common.{ap, ◌∙◌, lt-ltb, le-ltb}
use Rattle.std.proofs.lemmas.List.Edits.{sets}
use Rattle.capi.specs.Handed.{no_room_code}
use Rattle.capi.specs.HandedListing.{Counted}
use Rattle.capi.specs.HandedDxf.{HandedTold}

module _ {A B : Type 0} {words : ℕ} {count : A → Counted} (answer : A) (left : List B) (t₀ : List ℕ) (s₀ : List B) where
  pub no-room-told : length t₀ < words → HandedTold words count answer left no_room_code t₀ t₀ s₀ s₀
  no-room-told h = let e = lt-ltb (length t₀) words h in record { code_is = simp e; told = simp e; holds = simp e }

  pub handed-told : words ≤ length t₀ → (a : A) (n : ℕ) (t : List ℕ) (s : List B) → a ≡ answer → s ≡ left
      → n ≡ (count a).code → t ≡ sets t₀ 0 (count a).counts → HandedTold words count answer left n t₀ t s₀ s
  handed-told h a n t s is kept code_is told =
      let e = le-ltb (length t₀) words h in
      record {
        code_is = simp e (code_is ∙ ap (λ (b : A). (count b).code) is);
        told = simp e (told ∙ ap (λ (b : A). sets t₀ 0 (count b).counts) is);
        holds = simp e kept;
      }
