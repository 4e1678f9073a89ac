-- The variables of operands, one more after the other.
use Rattle.std.proofs.Common.{◌≡◌, ℕ, ◌+◌, ◌<◌, List, [], ◌∷◌, ◌++◌, sym, ap, ◌∙◌, length, get_or, drop}
use Rattle.std.proofs.lemmas.List.{append_assoc, append-nil, drop_more}
use Rattle.nv_base.specs.declared.term.Atom.{Atom}
use Rattle.nv_base.specs.Words.{atom_vars}
use Rattle.nv_base.specs.Sets.{all_vars}

pub vars_next : (bs : List Atom) (i : ℕ) (d a : Atom) (out out' whole : List ℕ) → i < length bs → a ≡ get_or bs i d → out' ≡ out ++ atom_vars a → out ++ all_vars (drop i bs) ≡ whole → out' ++ all_vars (drop (i + 1) bs) ≡ whole
vars_next bs i d a out out' whole lt is push h =
    let rest = all_vars (drop (i + 1) bs) in
    ap (λ l. l ++ rest) push ∙ append_assoc out (atom_vars a) rest ∙ sym (ap (λ l. out ++ all_vars l) (drop_more bs i d lt ∙ ap (λ z. z ∷ drop (i + 1) bs) (sym is))) ∙ h

pub vars_end : (bs : List Atom) (i : ℕ) (out whole : List ℕ) → drop i bs ≡ [] → out ++ all_vars (drop i bs) ≡ whole → out ≡ whole
vars_end bs i out whole e h = sym (append-nil out) ∙ sym (ap (λ l. out ++ all_vars l) e) ∙ h
