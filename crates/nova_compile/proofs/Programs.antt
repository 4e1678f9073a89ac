-- What the parser and the check of types say, put together.
use Rattle.std.proofs.Common.{◌≡◌, ℕ, ◌<◌, ◌≤◌, List, subst, ◌∙◌, ◌⊎◌, inr}
use Rattle.nv_ast.specs.declared.token.Span.{Span}
use Rattle.nv_ast.specs.Faults.{IsTyped, IsFault}
use Rattle.nv_ast.specs.Height.{highest_decl}
use Rattle.nv_ast.specs.Sizes.{expanded_size}
use Rattle.nv_ast.specs.Tree.{ProgramTree}
use Rattle.nv_text.specs.Program.{IsTextOf}
use Rattle.nv_ast.specs.Accepted.{IsAccepted}
use Rattle.nv_types.specs.Refusals.{IsRefusal}
use Rattle.nv_types_table.specs.declared.error.TypeError.{TypeError}
use Rattle.nv_types_table.specs.declared.error.TypeError.TheVariants as types
use Rattle.nova_compile.specs.Sources.{IsSource, IsTypedSource, IsCause}
use Rattle.nova_compile.specs.declared.error.FrontError.{FrontError}
use Rattle.nova_compile.specs.declared.error.FrontError.TheVariants.{NoMemory, Fault, TooLarge}
use Rattle.nova_compile.proofs.OneSource.{source-program, cause-one, cause-none}

pub source-of : (bytes : List ℕ) (q : ProgramTree) → IsTextOf bytes q → highest_decl q.decls ≤ 100 → IsSource bytes q
source-of bytes q h l = record { reads = h; low = l }

-- a typed program is the one of the text
pub the-program : (bytes : List ℕ) (t q p : ProgramTree) → IsSource bytes q → t ≡ q → IsTypedSource bytes p → t ≡ p
the-program bytes t q p s e h = e ∙ source-program bytes q p s h.is_source

pub good-cause : (bytes : List ℕ) (q : ProgramTree) (f : FrontError) → IsSource bytes q → IsAccepted q → IsCause bytes f → ⊥
good-cause bytes q f s a h = cause-none bytes f q (record { is_source = s; accepted = a }) h

pub untyped-cause : (bytes : List ℕ) (q : ProgramTree) (kind : ℕ) (place : Span) (e : TypeError) → IsSource bytes q → e ≡ types.Fault kind place → IsRefusal q e → IsCause bytes (Fault kind place)
untyped-cause bytes q kind place e s is h =
    let fault : IsFault q kind place = subst (IsRefusal q) is h in
    record { program = q; is_source = s; fault = fault }

pub large-cause : (bytes : List ℕ) (q : ProgramTree) (size : ℕ) (e : TypeError) → IsSource bytes q → e ≡ types.TooLarge size → IsRefusal q e → IsCause bytes (TooLarge size)
large-cause bytes q size e s is h =
    let large : IsTyped q × (size ≡ expanded_size q) × (4096 < size) = subst (IsRefusal q) is h in
    record { program = q; is_source = s; typed = large.0; expanded = large.1; large = large.2 }

-- a text with a cause has no typed program, and no other cause
pub caused-program : (bytes : List ℕ) (e : FrontError) (p : ProgramTree) → IsCause bytes e → IsTypedSource bytes p → e ≡ NoMemory
caused-program bytes e p h s = absurd (cause-none bytes e p s h)

pub caused-cause : (bytes : List ℕ) (e f : FrontError) → IsCause bytes e → IsCause bytes f → (e ≡ NoMemory) ⊎ (e ≡ f)
caused-cause bytes e f h k = inr (cause-one bytes e f h k)
