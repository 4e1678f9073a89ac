-- The copies of values, one value after the other.
use Rattle.std.proofs.Common.{◌≡◌, ℕ, List, [], ◌∷◌, ◌++◌, Option, ap, sym, ◌∙◌, append_assoc}
use Rattle.std.proofs.lemmas.List.{append-nil}
use Rattle.place_plan.specs.declared.place.Place.{Place}
use Rattle.place_plan.specs.Plan.{Plan, home}
use Rattle.ucode_emit.specs.Pieces.{all_copied}
use Rattle.ucode_emit.specs.inner.Given.{each_copied}

pub each_copied_last : (p : Plan) (s : Option ℕ) (a : List ℕ) (x : ℕ) → each_copied p s (a ++ x ∷ []) ≡ each_copied p s a ++ all_copied s (home p x).defined (home p x).copied
each_copied_last p s [] x = append-nil (all_copied s (home p x).defined (home p x).copied)
each_copied_last p s (y ∷ a) x =
    ap (λ z. all_copied s (home p y).defined (home p y).copied ++ z) (each_copied_last p s a x)
    ∙ sym (append_assoc (all_copied s (home p y).defined (home p y).copied) (each_copied p s a) (all_copied s (home p x).defined (home p x).copied))

pub same_copied : (s : Option ℕ) (d e : Place) (a b : List Place) → d ≡ e → a ≡ b → all_copied s d a ≡ all_copied s e b
same_copied s d e a b f g = ap (λ q. all_copied s q a) f ∙ ap (all_copied s e) g
