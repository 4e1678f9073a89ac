-- A program decides why it is refused.
use Rattle.std.proofs.Common.{◌≡◌, ◌∙◌, sym, ap, refl, ℕ, ◌<◌, List, [], ◌∷◌, ◌⊎◌, inl, inr, arith}
use Rattle.nv_ast.specs.declared.token.Span.{Span}
use Rattle.nv_ast.specs.Tree.{ProgramTree}
use Rattle.nv_ast.specs.Faults.{Fault as FaultAt, IsTyped, IsFault}
use Rattle.nv_ast.specs.Sizes.{expanded_size}
use Rattle.nv_ast.specs.Accepted.{IsAccepted}
use Rattle.nv_types_table.specs.declared.error.TypeError.{TypeError}
use Rattle.nv_types_table.specs.declared.error.TypeError.TheVariants.{NoMemory, Fault, TooLarge}
use Rattle.nv_types.specs.Refusals.{IsRefusal}

pub typed_faultless : (p : ProgramTree) (kind : ℕ) (place : Span) → IsTyped p → IsFault p kind place → ⊥
typed_faultless p kind place t h =
    let both : [] ≡ (kind, place) ∷ h.later = sym t ∙ h.first in
    cc

-- how the first of some faults is told
abbrev told : List FaultAt → TypeError
told [] = NoMemory
told (f ∷ fs) = Fault f.0 f.1

pub accepted_fault : (p : ProgramTree) (kind : ℕ) (place : Span) → IsAccepted p → IsFault p kind place → ⊥
accepted_fault p kind place a h = typed_faultless p kind place a.typed h

pub accepted_large : (p : ProgramTree) → IsAccepted p → 4096 < expanded_size p → ⊥
accepted_large p a large = omega (arith, a.small, large)

pub refused_accepted : (p : ProgramTree) (e : TypeError) → IsRefusal p e → IsAccepted p → e ≡ NoMemory
refused_accepted p NoMemory h a = refl
refused_accepted p (Fault kind s) h a = absurd (typed_faultless p kind s a.typed h)
refused_accepted p (TooLarge n) h a = absurd (accepted_large p a (omega (arith, h.1, h.2)))

pub refused_fault : (p : ProgramTree) (e : TypeError) → IsRefusal p e → (kind : ℕ) (place : Span) → IsFault p kind place → (e ≡ NoMemory) ⊎ (e ≡ Fault kind place)
refused_fault p NoMemory h kind place k = inl refl
refused_fault p (Fault kind' s) h kind place k =
    let both : (kind', s) ∷ h.later ≡ (kind, place) ∷ k.later = sym h.first ∙ k.first in
    inr (ap told both)
refused_fault p (TooLarge n) h kind place k = absurd (typed_faultless p kind place h.0 k)

pub refused_large : (p : ProgramTree) (e : TypeError) → IsRefusal p e → IsTyped p → 4096 < expanded_size p → (e ≡ NoMemory) ⊎ (e ≡ TooLarge (expanded_size p))
refused_large p NoMemory h t large = inl refl
refused_large p (Fault kind s) h t large = absurd (typed_faultless p kind s t h)
refused_large p (TooLarge n) h t large = inr (ap (λ (m : ℕ). TooLarge m) h.1)
