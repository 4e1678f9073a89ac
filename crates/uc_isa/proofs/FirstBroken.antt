-- A lawful instruction breaks no rule, and the first that is broken is one.
use Rattle.std.proofs.Common.{◌≡◌, ℕ, ◌<◌, List, subst, inl, inr, arith}
use Rattle.uc_isa.specs.Lawful.{IsLawfulAt, IsLawfulPlace, Breaks, IsBroken, IsLeastBroken, IsFirstBroken}
use Rattle.uc_isa.specs.declared.instruction.Instr.{Instr}

pub lawful-breaks_none : (code : List Instr) (place : ℕ) (i : Instr) (rule : ℕ) → IsLawfulAt code place i → Breaks code place i rule → ⊥
lawful-breaks_none code place i rule h (inl b) = b.1 h.operands
lawful-breaks_none code place i rule h (inr (inl b)) = b.1 h.run_inside
lawful-breaks_none code place i rule h (inr (inr (inl b))) = b.1 h.pairs
lawful-breaks_none code place i rule h (inr (inr (inr (inl b)))) = b.1 h.numbers
lawful-breaks_none code place i rule h (inr (inr (inr (inr (inl b))))) = b.1 h.target
lawful-breaks_none code place i rule h (inr (inr (inr (inr (inr (inl b)))))) = b.1 h.halt
lawful-breaks_none code place i rule h (inr (inr (inr (inr (inr (inr b)))))) = b.1 h.last

-- a place that is lawful has no broken rule
lawful-unbroken : (code : List Instr) (place rule : ℕ) → IsLawfulPlace code place → IsBroken code place rule → ⊥
lawful-unbroken code place rule h b = lawful-breaks_none code place b.0 rule (h b.0 b.1) b.2

pub not-before : (a b : ℕ) → (a < b → ⊥) → (b < a → ⊥) → a ≡ b
not-before a b f g = omega arith

pub least-one : (code : List Instr) (place r r' : ℕ) → IsLeastBroken code place r → IsLeastBroken code place r' → r ≡ r'
least-one code place r r' h h' = not-before r r' (λ lt. h'.least r lt h.broken) (λ lt. h.least r' lt h'.broken)

first-place : (code : List Instr) (p r p' r' : ℕ) → IsFirstBroken code p r → IsFirstBroken code p' r' → p ≡ p'
first-place code p r p' r' h h' =
    not-before p p' (λ lt. lawful-unbroken code p r (h'.first p lt) h.least.broken) (λ lt. lawful-unbroken code p' r' (h.first p' lt) h'.least.broken)

pub first-one : (code : List Instr) (p r p' r' : ℕ) → IsFirstBroken code p r → IsFirstBroken code p' r' → (p ≡ p') × (r ≡ r')
first-one code p r p' r' h h' =
    let place = first-place code p r p' r' h h' in
    (place, least-one code p' r r' (subst (λ q. IsLeastBroken code q r) place h.least) h'.least)

-- code with a first broken rule isn't lawful
pub first-unlawful : (code : List Instr) (p r : ℕ) → IsFirstBroken code p r → ((place : ℕ) → IsLawfulPlace code place) → ⊥
first-unlawful code p r h lawful = lawful-unbroken code p r (lawful p) h.least.broken
