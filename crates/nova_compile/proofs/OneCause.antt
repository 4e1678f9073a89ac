-- A text decides whether it has a typed program, and why not: it has one cause, or one program.
use Rattle.std.proofs.Common.{◌≡◌, ℕ, List, refl, ap, sym, ◌∙◌, subst, ◌⊎◌, inl, inr}
use Rattle.nv_ast.specs.Tree.{ProgramTree}
use Rattle.nova_compile.specs.Sources.{IsTypedSource, IsCause}
use Rattle.nova_compile.specs.declared.error.FrontError.{FrontError}
use Rattle.nova_compile.specs.declared.error.FrontError.TheVariants as front
use Rattle.nova_compile.proofs.OneSource.{source-program, cause-one, cause-none}
use Rattle.nova_compile.specs.Building.{IsTextCause, IsFormCause, IsCompileCause}
use Rattle.nova_compile.specs.inner.Passing.{IsPassedAs}
use Rattle.nova_compile.specs.declared.build.CompileError.{CompileError}
use Rattle.nova_compile.specs.declared.build.CompileError.TheVariants as compile

-- what the front end says is passed on
pub front-caused : (bytes : List ℕ) (error : FrontError) (e : CompileError) → (error ≡ front.NoMemory) ⊎ IsCause bytes error → IsPassedAs error e → (e ≡ compile.NoMemory) ⊎ IsTextCause bytes e
front-caused bytes error e (inl none) is = inl (subst (λ (x : FrontError). IsPassedAs x e) none is)
front-caused bytes front.NoMemory e (inr h) is = absurd h
front-caused bytes (front.Text f) e (inr h) is = inr (subst (IsTextCause bytes) (sym is) h)
front-caused bytes (front.Fault kind place) e (inr h) is = inr (subst (IsTextCause bytes) (sym is) h)
front-caused bytes (front.TooLarge size) e (inr h) is = inr (subst (IsTextCause bytes) (sym is) h)

-- why a text has no typed program is one reason, and none where it has one
passed : FrontError → CompileError
passed front.NoMemory = compile.NoMemory
passed (front.Text f) = compile.Text f
passed (front.Fault kind place) = compile.Fault kind place
passed (front.TooLarge size) = compile.TooLarge size

text-why : (bytes : List ℕ) (e : CompileError) → IsTextCause bytes e → (f : FrontError) × IsCause bytes f × (e ≡ passed f)
unfolding passed
text-why bytes (compile.Text f) h = (front.Text f, h, refl)
text-why bytes (compile.Fault kind place) h = (front.Fault kind place, h, refl)
text-why bytes (compile.TooLarge size) h = (front.TooLarge size, h, refl)
text-why bytes compile.NoMemory h = absurd h
text-why bytes (compile.Infeasible r) h = absurd h
text-why bytes (compile.Spent r) h = absurd h
text-why bytes (compile.StoreFull n) h = absurd h

text-one : (bytes : List ℕ) (e e' : CompileError) → IsTextCause bytes e → IsTextCause bytes e' → e ≡ e'
text-one bytes e e' h k =
    let a = text-why bytes e h in
    let b = text-why bytes e' k in
    a.2 ∙ ap passed (cause-one bytes a.0 b.0 a.1 b.1) ∙ sym b.2

pub text-good : (bytes : List ℕ) (p : ProgramTree) (e : CompileError) → IsTypedSource bytes p → IsTextCause bytes e → ⊥
text-good bytes p e s h =
    let a = text-why bytes e h in
    cause-none bytes a.0 p s a.1

-- so the answer is this program, or this reason
pub only-program : (bytes : List ℕ) (p q : ProgramTree) → IsTypedSource bytes p → IsTypedSource bytes q → p ≡ q
only-program bytes p q s r = source-program bytes p q s.is_source r.is_source

pub text-want : (bytes : List ℕ) (slots : ℕ) (ws : List ℕ) (budget store : ℕ) (p : ProgramTree) (e : CompileError) → IsTypedSource bytes p → (e ≡ compile.NoMemory) ⊎ IsTextCause bytes e → (e ≡ compile.NoMemory) ⊎ IsFormCause p slots ws budget store e
text-want bytes slots ws budget store p e s (inl none) = inl none
text-want bytes slots ws budget store p e s (inr h) = absurd (text-good bytes p e s h)

pub text-cause : (bytes : List ℕ) (slots : ℕ) (ws : List ℕ) (budget store : ℕ) (e : CompileError) → (e ≡ compile.NoMemory) ⊎ IsTextCause bytes e → (e ≡ compile.NoMemory) ⊎ IsCompileCause bytes slots ws budget store e
text-cause bytes slots ws budget store e (inl none) = inl none
text-cause bytes slots ws budget store e (inr h) = inr (inl h)

pub text-only : (bytes : List ℕ) (f e : CompileError) → IsTextCause bytes f → (e ≡ compile.NoMemory) ⊎ IsTextCause bytes e → (e ≡ compile.NoMemory) ⊎ (e ≡ f)
text-only bytes f e h (inl none) = inl none
text-only bytes f e h (inr k) = inr (text-one bytes e f k h)

-- the same of what the back end says of the typed program
pub form-want : (bytes : List ℕ) (slots : ℕ) (ws : List ℕ) (budget store : ℕ) (p q : ProgramTree) (e : CompileError) → IsTypedSource bytes p → IsTypedSource bytes q → (e ≡ compile.NoMemory) ⊎ IsFormCause p slots ws budget store e → (e ≡ compile.NoMemory) ⊎ IsFormCause q slots ws budget store e
form-want bytes slots ws budget store p q e s r h = subst (λ (x : ProgramTree). (e ≡ compile.NoMemory) ⊎ IsFormCause x slots ws budget store e) (only-program bytes p q s r) h

pub form-cause : (bytes : List ℕ) (slots : ℕ) (ws : List ℕ) (budget store : ℕ) (p : ProgramTree) (e : CompileError) → IsTypedSource bytes p → (e ≡ compile.NoMemory) ⊎ IsFormCause p slots ws budget store e → (e ≡ compile.NoMemory) ⊎ IsCompileCause bytes slots ws budget store e
form-cause bytes slots ws budget store p e s (inl none) = inl none
form-cause bytes slots ws budget store p e s (inr h) = inr (inr (p, s, h))
