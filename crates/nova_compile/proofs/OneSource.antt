-- A text decides whether, and why, it is refused.
use Rattle.std.proofs.Common.{◌≡◌, ℕ, ◌<◌, ◌≤◌, List, [], ◌∷◌, arith, ap, sym, ◌∙◌, subst}
use Rattle.nv_ast.specs.declared.token.Span.{Span}
use Rattle.nv_ast.specs.Faults.{Fault as TypeFault, IsTyped, IsFault}
use Rattle.nv_ast.specs.Sizes.{expanded_size}
use Rattle.nv_ast.specs.Tree.{ProgramTree}
use Rattle.nv_text.specs.Program.{IsTextOf, FaultOf}
use Rattle.nv_text.specs.declared.error.TextError.{TextError}
use Rattle.nv_text.proofs.Texts.{program_one}
use Rattle.nv_text.proofs.ProgramRules.{fault_same, no_fault}
use Rattle.nv_types.proofs.OnlyRefusals.{typed_faultless}
use Rattle.nova_compile.specs.Sources.{IsSource, IsTypedSource, IsUntyped, IsLarge, IsCause}
use Rattle.nova_compile.specs.declared.error.FrontError.{FrontError}
use Rattle.nova_compile.specs.declared.error.FrontError.TheVariants.{NoMemory, Text, Fault, TooLarge}

-- a text has one program
program-one : (bytes : List ℕ) (p q : ProgramTree) → IsTextOf bytes p → IsTextOf bytes q → p ≡ q
program-one bytes p q h k = sym (program_one bytes h.tokens p.decls p.length h.read h.program.spelled h.program.long q k)

source-faultless : (bytes : List ℕ) (p : ProgramTree) (f : TextError) → IsSource bytes p → FaultOf bytes f → ⊥
source-faultless bytes p f s h = no_fault bytes p s.reads s.low f h

pub source-program : (bytes : List ℕ) (p q : ProgramTree) → IsSource bytes p → IsSource bytes q → p ≡ q
source-program bytes p q s r = program-one bytes p q s.reads r.reads

-- how the first of some faults is answered
first-answer : List TypeFault → FrontError
first-answer [] = NoMemory
first-answer (f ∷ fs) = Fault f.0 f.1

-- a program has one first fault of its types, and none where it is typed
fault-one : (p : ProgramTree) (kind kind' : ℕ) (place place' : Span) → IsFault p kind place → IsFault p kind' place' → Fault kind place ≡ Fault kind' place'
unfolding first-answer
fault-one p kind kind' place place' h k =
    let both : (kind, place) ∷ h.later ≡ (kind', place') ∷ k.later = sym h.first ∙ k.first in
    ap first-answer both

untyped-one : (bytes : List ℕ) (kind kind' : ℕ) (place place' : Span) → IsUntyped bytes kind place → IsUntyped bytes kind' place' → Fault kind place ≡ Fault kind' place'
untyped-one bytes kind kind' place place' h k =
    let same = source-program bytes h.program k.program h.is_source k.is_source in
    fault-one k.program kind kind' place place' (subst (λ (p : ProgramTree). IsFault p kind place) same h.fault) k.fault

untyped-typed : (bytes : List ℕ) (kind : ℕ) (place : Span) (p : ProgramTree) → IsSource bytes p → IsTyped p → IsUntyped bytes kind place → ⊥
untyped-typed bytes kind place p s t h =
    let same = source-program bytes h.program p h.is_source s in
    typed_faultless p kind place t (subst (λ (q : ProgramTree). IsFault q kind place) same h.fault)

large-one : (bytes : List ℕ) (n m : ℕ) → IsLarge bytes n → IsLarge bytes m → n ≡ m
large-one bytes n m h k = h.expanded ∙ ap expanded_size (source-program bytes h.program k.program h.is_source k.is_source) ∙ sym k.expanded

large-small : (bytes : List ℕ) (n : ℕ) (p : ProgramTree) → IsSource bytes p → expanded_size p ≤ 4096 → IsLarge bytes n → ⊥
large-small bytes n p s small h =
    let same : n ≡ expanded_size p = h.expanded ∙ ap expanded_size (source-program bytes h.program p h.is_source s) in
    let many : 4096 < n = h.large in
    omega arith

-- a text has one cause
pub cause-one : (bytes : List ℕ) (e e' : FrontError) → IsCause bytes e → IsCause bytes e' → e ≡ e'
cause-one bytes NoMemory e' h k = absurd h
cause-one bytes e NoMemory h k = absurd k
cause-one bytes (Text f) (Text f') h k = ap (λ (x : TextError). Text x) (fault_same bytes f f' h k)
cause-one bytes (Text f) (Fault kind place) h k = absurd (source-faultless bytes k.program f k.is_source h)
cause-one bytes (Text f) (TooLarge n) h k = absurd (source-faultless bytes k.program f k.is_source h)
cause-one bytes (Fault kind place) (Text f) h k = absurd (source-faultless bytes h.program f h.is_source k)
cause-one bytes (Fault kind place) (Fault kind' place') h k = untyped-one bytes kind kind' place place' h k
cause-one bytes (Fault kind place) (TooLarge n) h k = absurd (untyped-typed bytes kind place k.program k.is_source k.typed h)
cause-one bytes (TooLarge n) (Text f) h k = absurd (source-faultless bytes h.program f h.is_source k)
cause-one bytes (TooLarge n) (Fault kind place) h k = absurd (untyped-typed bytes kind place h.program h.is_source h.typed k)
cause-one bytes (TooLarge n) (TooLarge m) h k = ap (λ (x : ℕ). TooLarge x) (large-one bytes n m h k)

-- a text with a typed program, not too large, has none
pub cause-none : (bytes : List ℕ) (e : FrontError) (p : ProgramTree) → IsTypedSource bytes p → IsCause bytes e → ⊥
cause-none bytes NoMemory p s h = h
cause-none bytes (Text f) p s h = source-faultless bytes p f s.is_source h
cause-none bytes (Fault kind place) p s h = untyped-typed bytes kind place p s.is_source s.accepted.typed h
cause-none bytes (TooLarge n) p s h = large-small bytes n p s.is_source s.accepted.small h
