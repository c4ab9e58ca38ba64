-- A word that a table does not hold.
use Rattle.std.proofs.Common.{◌≡◌, ℕ, false, List, [], ◌∷◌, None, refl, ◌∙◌, inl, inr}
use Rattle.std.proofs.lemmas.Slice.Eq.{bytes_eq-Decides}
use Rattle.std.proofs.lemmas.Bool.{cases_Bool, cond-false}
use Rattle.std.specs.List.{AllByRecursion as All}
use Rattle.std.specs.Str.{bytes_eq}
use Rattle.text.specs.Tables.{lookup}

pub apart : (xs ys : List ℕ) → (xs ≡ ys → ⊥) → bytes_eq xs ys ≡ false
apart xs ys differ = elim (cases_Bool (bytes_eq xs ys)) [ inl t ↦ absurd (differ ((bytes_eq-Decides xs ys).0 t)) | inr f ↦ f ]

pub unlisted : {X : Type 0} (entries : List (List ℕ × X)) (word : List ℕ) → All (λ e. word ≡ e.0 → ⊥) entries → lookup entries word ≡ None
unlisted [] word none = refl
unlisted (e ∷ es) word none =
    cond-false (bytes_eq word e.0) _ _ (apart word e.0 none.0) ∙ unlisted es word none.1
