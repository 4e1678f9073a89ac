-- The files that a command saves, one after the other.
use Rattle.std.proofs.Common.{◌≡◌, ℕ, ◌≤◌, ◌⊎◌, inl, inr, List, [], ◌∷◌, sym, subst, arith}
use Rattle.nv_outside.specs.Causes.{Rose}
use Rattle.nv_outside.specs.Holding.{Holding, Replaced}
use Rattle.novac_words.specs.Lines.{cannot_write}
use Rattle.novac_machine.specs.Saving.{File, AreSaved, IsCut}
use Rattle.novac_words.specs.declared.status.Status.{Status}
use Rattle.novac_words.specs.declared.status.Status.TheVariants.{WriteFault}

pub rose-later : (a b c : ℕ) → a ≤ b → Rose b c → Rose a c
rose-later a b c h r = omega arith

pub cut-map : (T : Type 0) (fs : List File) (old new : Holding) (P Q : List ℕ → Type 0) → ((name : List ℕ) → P name → Q name) → IsCut T fs old new P → IsCut T fs old new Q
cut-map T [] old new P Q f h = h
cut-map T (x ∷ fs) old new P Q f (inl h) = inl (f x.name h.0, h.1)
cut-map T (x ∷ fs) old new P Q f (inr h) = inr (h.0, h.1, cut-map T fs h.0 new P Q f h.2)

-- the first of two files was saved, and the second is saved or not
pub second-saved : (T : Type 0) (f g : File) (old mid new : Holding) (before between after : List ℕ → ℕ) (made s : Status) (text t : List ℕ) (fs : List File) → fs ≡ f ∷ g ∷ []
    → (T → Replaced old mid f.name f.bytes) → ((name : List ℕ) → before name ≤ between name)
    → ((s ≡ made) × (t ≡ text) × (T → AreSaved (g ∷ []) mid new)) ⊎ ((s ≡ WriteFault) × IsCut T (g ∷ []) mid new (λ name. Rose (between name) (after name) × (t ≡ cannot_write name)))
    → ((s ≡ made) × (t ≡ text) × (T → AreSaved fs old new)) ⊎ ((s ≡ WriteFault) × IsCut T fs old new (λ name. Rose (before name) (after name) × (t ≡ cannot_write name)))
second-saved T f g old mid new before between after made s text t fs is first rises (inl h) = inl (h.0, h.1, λ tells. subst (λ (x : List File). AreSaved x old new) (sym is) (mid, first tells, h.2 tells))
second-saved T f g old mid new before between after made s text t fs is first rises (inr h) =
    let cut : IsCut T (g ∷ []) mid new (λ name. Rose (before name) (after name) × (t ≡ cannot_write name)) =
    cut-map T (g ∷ []) mid new (λ name. Rose (between name) (after name) × (t ≡ cannot_write name)) (λ name. Rose (before name) (after name) × (t ≡ cannot_write name))
    (λ name both. (rose-later (before name) (between name) (after name) (rises name) both.0, both.1)) h.1 in
    inr (h.0, subst (λ (x : List File). IsCut T x old new (λ name. Rose (before name) (after name) × (t ≡ cannot_write name))) (sym is) (inr (mid, first, cut)))
