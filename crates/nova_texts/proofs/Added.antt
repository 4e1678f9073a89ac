-- One more file that is to be saved.
use Rattle.std.proofs.Common.{◌≡◌, ℕ, List, [], ◌∷◌, ◌++◌, sym, ap, subst, ◌∙◌, ◌⊎◌, inl, inr}
use Rattle.std.specs.Prelude.{All, Some}
use Rattle.std.proofs.lemmas.List.Elements.{All-same, All-push}
use Rattle.nv_outside.specs.Holding.{Holding}
use Rattle.nova_fmt.specs.Same.{IsFormatted}
use Rattle.nova_show.specs.Paths.{system_path}
use Rattle.nova_show.specs.Saving.{IsAppended}
use Rattle.nova_show.specs.declared.saving.Saving.{Saving}
use Rattle.nova_texts.specs.Formatted.{IsFormattedFile}

pub added : (held : Holding) (old new : List Saving) (name text bytes : List ℕ) (A : Type 0) → (new ≡ old) ⊎ (IsAppended old new name bytes × A) → held (system_path name) ≡ Some text → IsFormatted text bytes → All (IsFormattedFile held) old → All (IsFormattedFile held) new
added held old new name text bytes A (inl e) h f all = All-same (IsFormattedFile held) new old e all
added held old new name text bytes A (inr a) h f all =
    let (s, n, b, whole) = a.0 in
    let one : IsFormattedFile held s = (text, ap (λ x. held (system_path x)) n ∙ h, subst (IsFormatted text) (sym b) f) in
    All-same (IsFormattedFile held) new (old ++ s ∷ []) whole (All-push (IsFormattedFile held) old s all one)
