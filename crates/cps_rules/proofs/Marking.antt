-- Marks that are added one after the other.
use Rattle.std.proofs.Common.{◌≡◌, ℕ, ◌+◌, ◌<◌, Bool, true, false, ◌||◌, List, [], ◌∷◌, ◌++◌, refl, sym, ap, ◌∙◌, length, take, get_or}
use Rattle.std.proofs.lemmas.List.{take_more}
use Rattle.nv_base.specs.declared.term.Atom.{Atom}
use Rattle.nv_base.specs.Words.{atom_vars}
use Rattle.nv_base.specs.Sets.{is_in, all_vars}
use Rattle.nv_base.proofs.Sets.{in-append}
use Rattle.cps_rules.specs.inner.Marks.{Set, Adds}

turned : (a b s : Bool) → (b || (a || s)) ≡ ((a || b) || s)
turned true true s = refl
turned true false s = refl
turned false b s = refl

-- these and then those
pub adds_both : {xs ys : List ℕ} {S T U : Set} → Adds xs S T → Adds ys T U → Adds (xs ++ ys) S U
adds_both {xs} {ys} {S} {T} {U} a b = record {
  at = λ y. b.at y ∙ ap (λ e. is_in y ys || e) (a.at y) ∙ turned (is_in y xs) (is_in y ys) (S y) ∙ ap (λ e. e || S y) (sym (in-append y xs ys));
}

pub adds_as : {xs ys : List ℕ} {S T : Set} → ((y : ℕ) → is_in y ys ≡ is_in y xs) → Adds xs S T → Adds ys S T
adds_as {S = S} e a = record { at = λ y. a.at y ∙ ap (λ i. i || S y) (sym (e y)) }

last_var : (y : ℕ) (atoms : List Atom) (a : Atom) → is_in y (all_vars (atoms ++ a ∷ [])) ≡ is_in y (all_vars atoms ++ atom_vars a)
last_var y [] a = in-append y (atom_vars a) [] ∙ or-nothing (is_in y (atom_vars a))
  where
    or-nothing : (b : Bool) → (b || false) ≡ b
    or-nothing true = refl
    or-nothing false = refl
last_var y (b ∷ atoms) a =
    in-append y (atom_vars b) (all_vars (atoms ++ a ∷ []))
    ∙ ap (λ i. is_in y (atom_vars b) || i) (last_var y atoms a ∙ in-append y (all_vars atoms) (atom_vars a))
    ∙ assoc (is_in y (atom_vars b)) (is_in y (all_vars atoms)) (is_in y (atom_vars a))
    ∙ sym (in-append y (atom_vars b ++ all_vars atoms) (atom_vars a) ∙ ap (λ i. i || is_in y (atom_vars a)) (in-append y (atom_vars b) (all_vars atoms)))
  where
    assoc : (p q r : Bool) → (p || (q || r)) ≡ ((p || q) || r)
    assoc true q r = refl
    assoc false q r = refl

-- one operand more
pub adds_next : {S T U : Set} (atoms : List Atom) (i : ℕ) (d : Atom) → i < length atoms → Adds (all_vars (take i atoms)) S T → Adds (atom_vars (get_or atoms i d)) T U → Adds (all_vars (take (i + 1) atoms)) S U
adds_next atoms i d le a b =
    let more = take_more atoms i d le in
    adds_as (λ y. ap (λ l. is_in y (all_vars l)) more ∙ last_var y (take i atoms) (get_or atoms i d)) (adds_both a b)
