-- A source's text decides whether, and why, it isn't compiled.
use Rattle.std.proofs.Common.{◌≡◌, ℕ, List, Result, Ok, Err, IfOk, IfErr, refl, ap, sym, ◌∙◌, subst, ◌⊎◌, inl, inr}
use Rattle.nv_ast.specs.declared.token.Span.{Span}
use Rattle.nv_ast.specs.Tree.{ProgramTree}
use Rattle.nv_text.specs.Program.{FaultOf}
use Rattle.nv_text.specs.declared.error.TextError.{TextError}
use Rattle.nv_text.specs.declared.error.TextError.TheVariants as text
use Rattle.nova_compile.specs.Sources.{IsTypedSource, IsCause}
use Rattle.nova_compile.specs.declared.error.FrontError.{FrontError}
use Rattle.nova_compile.specs.declared.error.FrontError.TheVariants as front
use Rattle.nova_compile.proofs.OneSource.{cause-one, cause-none}
use Rattle.zo_cert.specs.declared.report.Report.{Report}
use Rattle.zo_cert.specs.declared.report.Verdict.TheVariants as verdict
use Rattle.novac_commands.specs.Compiling.{CompileRefuses}
use Rattle.novac_words.specs.Lines.{IsUncaused}
use Rattle.novac_commands.specs.Reading.{SourceRefuses}
use Rattle.nova_compile.specs.Building.{IsCompileCause}
use Rattle.novac_commands.specs.inner.CompileOutcome.{IsCompileOutcome, IsSortedAs}
use Rattle.nova_compile.specs.inner.Parts.{IsWithoutBanks}
use Rattle.novac_commands.specs.inner.Telling.{IsSpelledAs, IsToldAs}
use Rattle.nova_compile.specs.declared.build.CompileError.{CompileError}
use Rattle.nova_compile.specs.declared.build.CompileError.TheVariants as compile
use Rattle.novac_commands.specs.declared.compile.CompileOutcome.{CompileOutcome}
use Rattle.novac_commands.specs.declared.compile.CompileOutcome.TheVariants as found
use Rattle.novac_words.specs.declared.refusal.Refusal.{Refusal}
use Rattle.novac_words.specs.declared.refusal.Refusal.TheVariants.{NoMemory, SourceChar, SourceNumber, SourceName, SourceSyntax, SourceDeep, SourceType, SourceLarge, StoreFull}

-- how a refusal of the front end is told
refusal-of : TextError → Refusal
refusal-of text.NoMemory = NoMemory
refusal-of (text.Char at) = SourceChar at
refusal-of (text.Number at) = SourceNumber at
refusal-of (text.Name at) = SourceName at
refusal-of (text.Syntax at) = SourceSyntax at
refusal-of (text.Deep at) = SourceDeep at

told : FrontError → Refusal
told front.NoMemory = NoMemory
told (front.Text f) = refusal-of f
told (front.Fault kind place) = SourceType kind place
told (front.TooLarge size) = SourceLarge size

-- why a source is refused
record Why (bytes : List ℕ) (e : Refusal) : Type 0 where
  cause : FrontError
  caused : IsCause bytes cause
  is : e ≡ told cause

why : (bytes : List ℕ) (e : Refusal) → SourceRefuses bytes e → Why bytes e
unfolding refusal-of told
why bytes (SourceChar at) h = record { cause = front.Text (text.Char at); caused = h; is = refl }
why bytes (SourceNumber at) h = record { cause = front.Text (text.Number at); caused = h; is = refl }
why bytes (SourceName at) h = record { cause = front.Text (text.Name at); caused = h; is = refl }
why bytes (SourceSyntax at) h = record { cause = front.Text (text.Syntax at); caused = h; is = refl }
why bytes (SourceDeep at) h = record { cause = front.Text (text.Deep at); caused = h; is = refl }
why bytes (SourceType kind place) h = record { cause = front.Fault kind place; caused = h; is = refl }
why bytes (SourceLarge size) h = record { cause = front.TooLarge size; caused = h; is = refl }
why bytes _ h = absurd h

why-one : (bytes : List ℕ) (e e' : Refusal) → Why bytes e → Why bytes e' → e ≡ e'
why-one bytes e e' h k = h.is ∙ ap told (cause-one bytes h.cause k.cause h.caused k.caused) ∙ sym k.is

pub source-one : (bytes : List ℕ) (e e' : Refusal) → SourceRefuses bytes e → SourceRefuses bytes e' → e ≡ e'
source-one bytes e e' h k = why-one bytes e e' (why bytes e h) (why bytes e' k)

-- a source that is typed and not too large isn't refused
pub source-good : (bytes : List ℕ) (e : Refusal) (p : ProgramTree) → IsTypedSource bytes p → SourceRefuses bytes e → ⊥
source-good bytes e p s h =
    let w = why bytes e h in
    cause-none bytes w.cause p s w.caused

-- what the front end says is why the command refuses
fault-told : (bytes : List ℕ) (f : TextError) (e : Refusal) → FaultOf bytes f → IsSpelledAs f e → SourceRefuses bytes e
fault-told bytes text.NoMemory e h is = absurd h
fault-told bytes (text.Char at) e h is = subst (SourceRefuses bytes) (sym is) h
fault-told bytes (text.Number at) e h is = subst (SourceRefuses bytes) (sym is) h
fault-told bytes (text.Name at) e h is = subst (SourceRefuses bytes) (sym is) h
fault-told bytes (text.Syntax at) e h is = subst (SourceRefuses bytes) (sym is) h
fault-told bytes (text.Deep at) e h is = subst (SourceRefuses bytes) (sym is) h

pub pass-front : (bytes : List ℕ) (error : FrontError) (e : Refusal) → (error ≡ front.NoMemory) ⊎ IsCause bytes error → IsToldAs error e → IsUncaused e ⊎ SourceRefuses bytes e
pass-front bytes error e (inl none) is =
    let told : e ≡ NoMemory = subst (λ (x : FrontError). IsToldAs x e) none is in
    inl (subst IsUncaused (sym told) tt)
pass-front bytes front.NoMemory e (inr h) is = absurd h
pass-front bytes (front.Text f) e (inr h) is = inr (fault-told bytes f e h is)
pass-front bytes (front.Fault kind place) e (inr h) is = inr (subst (SourceRefuses bytes) (sym is) h)
pass-front bytes (front.TooLarge size) e (inr h) is = inr (subst (SourceRefuses bytes) (sym is) h)

-- what a text without code is sorted into
abbrev pub IsWhyNot : List ℕ → ℕ → List ℕ → ℕ → ℕ → CompileError → Type 0
IsWhyNot bytes slots ws budget store error = (error ≡ compile.NoMemory) ⊎ IsCompileCause bytes slots ws budget store error

ok-same : (f g : CompileOutcome) → ◌≡◌ {A = Result CompileOutcome Refusal} (Ok f) (Ok g) → f ≡ g
ok-same f g e = cc

err-same : (d e : Refusal) → ◌≡◌ {A = Result CompileOutcome Refusal} (Err d) (Err e) → d ≡ e
err-same d e h = cc

ok-not_err : (f : CompileOutcome) (e : Refusal) → ◌≡◌ {A = Result CompileOutcome Refusal} (Ok f) (Err e) → ⊥
ok-not_err f e h = cc

err-not_ok : (f : CompileOutcome) (e : Refusal) → ◌≡◌ {A = Result CompileOutcome Refusal} (Err e) (Ok f) → ⊥
err-not_ok f e h = cc

infeasible-why : (bytes : List ℕ) (slots : ℕ) (ws : List ℕ) (budget store : ℕ) (r : Report) → IsWhyNot bytes slots ws budget store (compile.Infeasible r) → IsWithoutBanks bytes slots ws budget verdict.Infeasible r
infeasible-why bytes slots ws budget store r (inl e) = let no-way : ⊥ = cc in absurd no-way
infeasible-why bytes slots ws budget store r (inr (inl h)) = absurd h
infeasible-why bytes slots ws budget store r (inr (inr h)) = record { program = h.0; is_source = h.1; without = h.2 }

spent-why : (bytes : List ℕ) (slots : ℕ) (ws : List ℕ) (budget store : ℕ) (r : Report) → IsWhyNot bytes slots ws budget store (compile.Spent r) → IsWithoutBanks bytes slots ws budget verdict.Spent r
spent-why bytes slots ws budget store r (inl e) = let no-way : ⊥ = cc in absurd no-way
spent-why bytes slots ws budget store r (inr (inl h)) = absurd h
spent-why bytes slots ws budget store r (inr (inr h)) = record { program = h.0; is_source = h.1; without = h.2 }

pub sorted-found : (bytes : List ℕ) (slots : ℕ) (ws : List ℕ) (budget store : ℕ) (error : CompileError) (result : Result CompileOutcome Refusal) → IsWhyNot bytes slots ws budget store error → IsSortedAs error result
    → IfOk result (IsCompileOutcome bytes slots ws budget store)
sorted-found bytes slots ws budget store error (Err e) h is = tt
sorted-found bytes slots ws budget store (compile.Infeasible r) (Ok f) h is = subst (IsCompileOutcome bytes slots ws budget store) (sym (ok-same f (found.Infeasible r) is)) (infeasible-why bytes slots ws budget store r h)
sorted-found bytes slots ws budget store (compile.Spent r) (Ok f) h is = subst (IsCompileOutcome bytes slots ws budget store) (sym (ok-same f (found.Spent r) is)) (spent-why bytes slots ws budget store r h)
sorted-found bytes slots ws budget store compile.NoMemory (Ok f) h is = absurd (ok-not_err f NoMemory is)
sorted-found bytes slots ws budget store (compile.Text t) (Ok f) h is = absurd is
sorted-found bytes slots ws budget store (compile.Fault kind place) (Ok f) h is = absurd (ok-not_err f (SourceType kind place) is)
sorted-found bytes slots ws budget store (compile.TooLarge n) (Ok f) h is = absurd (ok-not_err f (SourceLarge n) is)
sorted-found bytes slots ws budget store (compile.StoreFull n) (Ok f) h is = absurd (ok-not_err f (StoreFull n) is)

fault-why : (bytes : List ℕ) (slots : ℕ) (ws : List ℕ) (budget store : ℕ) (t : TextError) (e : Refusal) → IsWhyNot bytes slots ws budget store (compile.Text t) → IsSpelledAs t e → CompileRefuses bytes slots ws budget store e
fault-why bytes slots ws budget store t e (inl none) is = let no-way : ⊥ = cc in absurd no-way
fault-why bytes slots ws budget store t e (inr (inl h)) is = inl (fault-told bytes t e h is)
fault-why bytes slots ws budget store t e (inr (inr h)) is = absurd h.2

type-why : (bytes : List ℕ) (slots : ℕ) (ws : List ℕ) (budget store kind : ℕ) (place : Span) → IsWhyNot bytes slots ws budget store (compile.Fault kind place) → CompileRefuses bytes slots ws budget store (SourceType kind place)
type-why bytes slots ws budget store kind place (inl none) = let no-way : ⊥ = cc in absurd no-way
type-why bytes slots ws budget store kind place (inr (inl h)) = inl h
type-why bytes slots ws budget store kind place (inr (inr h)) = absurd h.2

large-why : (bytes : List ℕ) (slots : ℕ) (ws : List ℕ) (budget store n : ℕ) → IsWhyNot bytes slots ws budget store (compile.TooLarge n) → CompileRefuses bytes slots ws budget store (SourceLarge n)
large-why bytes slots ws budget store n (inl none) = let no-way : ⊥ = cc in absurd no-way
large-why bytes slots ws budget store n (inr (inl h)) = inl h
large-why bytes slots ws budget store n (inr (inr h)) = inr h

long-why : (bytes : List ℕ) (slots : ℕ) (ws : List ℕ) (budget store n : ℕ) → IsWhyNot bytes slots ws budget store (compile.StoreFull n) → CompileRefuses bytes slots ws budget store (StoreFull n)
long-why bytes slots ws budget store n (inl none) = let no-way : ⊥ = cc in absurd no-way
long-why bytes slots ws budget store n (inr (inl h)) = absurd h
long-why bytes slots ws budget store n (inr (inr h)) = inr h

pub sorted-refused : (bytes : List ℕ) (slots : ℕ) (ws : List ℕ) (budget store : ℕ) (error : CompileError) (result : Result CompileOutcome Refusal) → IsWhyNot bytes slots ws budget store error → IsSortedAs error result
    → IfErr result (λ e. IsUncaused e ⊎ CompileRefuses bytes slots ws budget store e)
sorted-refused bytes slots ws budget store error (Ok f) h is = tt
sorted-refused bytes slots ws budget store (compile.Infeasible r) (Err e) h is = absurd (err-not_ok (found.Infeasible r) e is)
sorted-refused bytes slots ws budget store (compile.Spent r) (Err e) h is = absurd (err-not_ok (found.Spent r) e is)
sorted-refused bytes slots ws budget store compile.NoMemory (Err e) h is = inl (subst IsUncaused (sym (err-same e NoMemory is)) tt)
sorted-refused bytes slots ws budget store (compile.Text t) (Err e) h is = inr (fault-why bytes slots ws budget store t e h is)
sorted-refused bytes slots ws budget store (compile.Fault kind place) (Err e) h is = inr (subst (CompileRefuses bytes slots ws budget store) (sym (err-same e (SourceType kind place) is)) (type-why bytes slots ws budget store kind place h))
sorted-refused bytes slots ws budget store (compile.TooLarge n) (Err e) h is = inr (subst (CompileRefuses bytes slots ws budget store) (sym (err-same e (SourceLarge n) is)) (large-why bytes slots ws budget store n h))
sorted-refused bytes slots ws budget store (compile.StoreFull n) (Err e) h is = inr (subst (CompileRefuses bytes slots ws budget store) (sym (err-same e (StoreFull n) is)) (long-why bytes slots ws budget store n h))
