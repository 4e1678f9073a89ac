-- Where a text ceases to begin a program, and that it does so at one place.
use Rattle.std.proofs.Common.{◌≡◌, refl, sym, ◌∙◌, ap, subst, ℕ, ◌<◌, ◌≤◌, List, [], ◌∷◌, ◌++◌, append_assoc, append-nil, arith, length, true, false, ◌⊎◌, inl, inr}
use Rattle.nv_ast.specs.declared.token.Token.{Token}
use Rattle.nv_ast.specs.Tree.{DeclTree, ProgramTree}
use Rattle.nv_ast.specs.Height.{highest_decl}
use Rattle.nv_ast.specs.Grammar.{IsDecls}
use Rattle.nv_ast.specs.Positions.{Begins, BeginsLow, Dead, place_of, SyntaxAt, DeepAt}
use Rattle.nv_text.specs.declared.error.TextError.{TextError}
use Rattle.nv_text.specs.declared.error.TextError.TheVariants.{NoMemory, Char, Number, Name, Syntax, Deep}
use Rattle.nv_text.specs.Tokens.{IsTokens, TokenFault}
use Rattle.nv_text_parser.specs.declared.cursor.Failure.{Failure}
use Rattle.nv_text.specs.Program.{IsTextOf, FaultOf}
use Rattle.nv_text.specs.inner.Placing.{Says}
use Rattle.nv_text_parser.specs.inner.Failing.{NoBound, AtMost, Many, HasRead, SameFront, Completes, Fails, FailsAs, no_memory, syntax, deep}
use Rattle.nv_text_parser.specs.inner.Phrases.{ADecl, AtEnd}
use Rattle.nv_text.proofs.Reading.{tokens_one, fault_no_tokens, fault_one}
use Rattle.nv_text_parser.proofs.DeclPhrases.{to_decls, of_decls}

-- ---- what the parser's failures say

begins_low : (seen : List Token) → Completes (Many ADecl) (AtMost 100) seen → BeginsLow seen
begins_low seen c = let d = of_decls (c.spelled []) in record { more = c.more ++ []; decls = d.trees; spelled = d.spelled; low = d.low }

dead_at : (seen left : List Token) → ((us k : List Token) → SameFront left us → Many ADecl NoBound (seen ++ us) k → AtEnd k → ⊥) → Dead seen left
dead_at seen [] f = λ ds d. f [] [] tt (subst (λ z. Many ADecl NoBound z []) (sym (append-nil seen)) (to_decls NoBound d tt)) refl
dead_at seen (t ∷ left) f = λ b. f (t ∷ b.more) [] refl (subst (λ z. Many ADecl NoBound z []) (append_assoc seen (t ∷ []) b.more) (to_decls NoBound b.spelled tt)) refl

pub syntax_at : {ts left : List Token} (n place : ℕ) → Fails (Many ADecl) AtEnd false 100 ts left → place ≡ place_of left n → SyntaxAt ts n place
syntax_at {left = left} n place f e = record { seen = f.seen; left = left; split = f.split; here = e; begins = begins_low f.seen f.begins; dead = dead_at f.seen left f.dead }

still_begins : (seen : List Token) (t : Token) → Completes (HasRead seen (Many ADecl)) NoBound (t ∷ []) → Begins (seen ++ t ∷ [])
still_begins seen t c =
    let d = of_decls (c.spelled []).whole in
    record { more = c.more ++ []; decls = d.trees; spelled = subst (λ z. IsDecls d.trees z []) (sym (append_assoc seen (t ∷ []) (c.more ++ []))) d.spelled }

too_high : (seen left rest : List Token) (t : Token) → left ≡ t ∷ rest → ((us k : List Token) → SameFront left us → Many ADecl (AtMost 100) (seen ++ us) k → AtEnd k → ⊥) → (more : List Token) (ds : List DeclTree) → IsDecls ds (seen ++ t ∷ more) [] → 100 < highest_decl ds
too_high seen left rest t e f more ds d =
    let n : highest_decl ds ≤ 100 → ⊥ = λ h. f (t ∷ more) [] (subst (λ z. SameFront z (t ∷ more)) (sym e) refl) (to_decls (AtMost 100) d h) refl in
    omega arith

pub deep_at : {ts left : List Token} (n place : ℕ) → Fails (Many ADecl) AtEnd true 100 ts left → place ≡ place_of left n → DeepAt ts place
deep_at {left = left} n place f e =
    let g = f.goes_on in
    record {
      seen = f.seen;
      token = g.token;
      left = g.rest;
      split = f.split ∙ ap (λ z. f.seen ++ z) g.split;
      here = e ∙ ap (λ z. place_of z n) g.split;
      begins = begins_low f.seen f.begins;
      goes_on = still_begins f.seen g.token g.on;
      high = too_high f.seen left g.rest g.token g.split f.dead;
    }

-- ---- one place

-- the same tokens parted at two places
data Parted (a b c d : List Token) : Type 0 where
  at_one : a ≡ c → b ≡ d → Parted a b c d
  before : (t : Token) (w rest : List Token) → c ≡ a ++ t ∷ w → b ≡ t ∷ rest → Parted a b c d
  behind : (t : Token) (w rest : List Token) → a ≡ c ++ t ∷ w → d ≡ t ∷ rest → Parted a b c d

longer : (t : Token) (a b c d : List Token) → Parted a b c d → Parted (t ∷ a) b (t ∷ c) d
longer t a b c d (at_one e f) = at_one (ap (λ z. t ∷ z) e) f
longer t a b c d (before u w rest e f) = before u w rest (ap (λ z. t ∷ z) e) f
longer t a b c d (behind u w rest e f) = behind u w rest (ap (λ z. t ∷ z) e) f

parted : (a b c d : List Token) → a ++ b ≡ c ++ d → Parted a b c d
parted [] b [] d e = at_one refl e
parted [] b (t ∷ c) d e = before t c (c ++ d) refl e
parted (t ∷ a) b [] d e = behind t a (a ++ b) refl (sym e)
parted (t ∷ a) b (u ∷ c) d e =
    let h : t ≡ u = cc in
    let g : a ++ b ≡ c ++ d = cc in
    subst (λ z. Parted (t ∷ a) b (z ∷ c) d) h (longer t a b c d (parted a b c d g))

begins_first : (s w : List Token) (t : Token) → Begins (s ++ t ∷ w) → Begins (s ++ t ∷ [])
begins_first s w t b = record {
  more = w ++ b.more;
  decls = b.decls;
  spelled = subst (λ z. IsDecls b.decls z []) (append_assoc s (t ∷ w) b.more ∙ sym (append_assoc s (t ∷ []) (w ++ b.more))) b.spelled;
}

loosely : (seen : List Token) → BeginsLow seen → Begins seen
loosely seen b = record { more = b.more; decls = b.decls; spelled = b.spelled }

goes_beyond : (s left c w rest : List Token) (t : Token) → Dead s left → left ≡ t ∷ rest → c ≡ s ++ t ∷ w → Begins c → ⊥
goes_beyond s left c w rest t dead e f b = let d : Begins (s ++ t ∷ []) → ⊥ = subst (λ z. Dead s z) e dead in d (begins_first s w t (subst Begins f b))

pub syntax_one : {ts : List Token} {n p q : ℕ} → SyntaxAt ts n p → SyntaxAt ts n q → p ≡ q
syntax_one {n = n} {p = p} {q = q} d e = by (parted d.seen d.left e.seen e.left (sym d.split ∙ e.split))
  where
    by : Parted d.seen d.left e.seen e.left → p ≡ q
    by (at_one f g) = d.here ∙ (ap (λ z. place_of z n) g ∙ sym e.here)
    by (before t w rest f g) = absurd (goes_beyond d.seen d.left e.seen w rest t d.dead g f (loosely e.seen e.begins))
    by (behind t w rest f g) = absurd (goes_beyond e.seen e.left d.seen w rest t e.dead g f (loosely d.seen d.begins))

high_beyond : (s c w rest left : List Token) (t u : Token) → ((more : List Token) (ds : List DeclTree) → IsDecls ds (s ++ u ∷ more) [] → 100 < highest_decl ds) → u ∷ left ≡ t ∷ rest → c ≡ s ++ t ∷ w → BeginsLow c → ⊥
high_beyond s c w rest left t u high e f b =
    let h : t ≡ u = cc in
    let g = high (w ++ b.more) b.decls (subst (λ z. IsDecls b.decls z []) (ap (λ z. z ++ b.more) (f ∙ ap (λ z. s ++ z ∷ w) h) ∙ append_assoc s (u ∷ w) b.more) b.spelled) in
    let l = b.low in
    omega arith

pub deep_one : {ts : List Token} {p q : ℕ} → DeepAt ts p → DeepAt ts q → p ≡ q
deep_one {p = p} {q = q} d e = by (parted d.seen (d.token ∷ d.left) e.seen (e.token ∷ e.left) (sym d.split ∙ e.split))
  where
    by : Parted d.seen (d.token ∷ d.left) e.seen (e.token ∷ e.left) → p ≡ q
    by (at_one f g) = d.here ∙ (ap (λ z. place_of z 0) g ∙ sym e.here)
    by (before t w rest f g) = absurd (high_beyond d.seen e.seen w rest d.left t d.token d.high g f e.begins)
    by (behind t w rest f g) = absurd (high_beyond e.seen d.seen w rest e.left t e.token e.high g f d.begins)

pub syntax_no_deep : {ts : List Token} {n p q : ℕ} → SyntaxAt ts n p → DeepAt ts q → ⊥
syntax_no_deep d e = by (parted d.seen d.left e.seen (e.token ∷ e.left) (sym d.split ∙ e.split))
  where
    by : Parted d.seen d.left e.seen (e.token ∷ e.left) → ⊥
    by (at_one f g) = (subst (λ z. Dead d.seen z) g d.dead) (subst (λ z. Begins (z ++ e.token ∷ [])) (sym f) e.goes_on)
    by (before t w rest f g) = goes_beyond d.seen d.left e.seen w rest t d.dead g f (loosely e.seen e.begins)
    by (behind t w rest f g) = high_beyond e.seen d.seen w rest e.left t e.token e.high g f d.begins

-- ---- texts

-- a program has no syntax fault
syntax_no_program : (ts : List Token) (n p : ℕ) (ds : List DeclTree) → SyntaxAt ts n p → IsDecls ds ts [] → ⊥
syntax_no_program ts n p ds d e = by d.left d.split d.dead
  where
    by : (left : List Token) → ts ≡ d.seen ++ left → Dead d.seen left → ⊥
    by [] f dead = dead ds (subst (λ z. IsDecls ds z []) (f ∙ append-nil d.seen) e)
    by (t ∷ left) f dead = dead (record { more = left; decls = ds; spelled = subst (λ z. IsDecls ds z []) (f ∙ sym (append_assoc d.seen (t ∷ []) left)) e })

token_no_program : (bytes : List ℕ) (q : ProgramTree) (e : TextError) → IsTextOf bytes q → TokenFault bytes e → ⊥
token_no_program bytes q e t f = fault_no_tokens bytes t.tokens e t.read f

-- a text with a fault is no program, or one that is too high
pub fault_high : (bytes : List ℕ) (q : ProgramTree) (e : TextError) → IsTextOf bytes q → FaultOf bytes e → 100 < highest_decl q.decls
fault_high bytes q NoMemory t f = absurd f
fault_high bytes q (Char p) t f = absurd (token_no_program bytes q (Char p) t f)
fault_high bytes q (Number p) t f = absurd (token_no_program bytes q (Number p) t f)
fault_high bytes q (Name p) t f = absurd (token_no_program bytes q (Name p) t f)
fault_high bytes q (Syntax p) t f = absurd (syntax_no_program f.tokens (length bytes) p q.decls f.fault (subst (λ z. IsDecls q.decls z []) (tokens_one bytes t.tokens f.tokens t.read f.read) t.program.spelled))
fault_high bytes q (Deep p) t f = f.fault.high f.fault.left q.decls (subst (λ z. IsDecls q.decls z []) (tokens_one bytes t.tokens f.tokens t.read f.read ∙ f.fault.split) t.program.spelled)

same_tokens : (bytes : List ℕ) (n : ℕ) {p : ℕ} {ts us : List Token} → IsTokens bytes ts → IsTokens bytes us → SyntaxAt ts n p → SyntaxAt us n p
same_tokens bytes n {p = p} {ts = ts} {us = us} d e f = subst (λ z. SyntaxAt z n p) (tokens_one bytes ts us d e) f

same_deep : (bytes : List ℕ) {p : ℕ} {ts us : List Token} → IsTokens bytes ts → IsTokens bytes us → DeepAt ts p → DeepAt us p
same_deep bytes {p = p} {ts = ts} {us = us} d e f = subst (λ z. DeepAt z p) (tokens_one bytes ts us d e) f

-- a text has one fault at most
pub fault_same : (bytes : List ℕ) (e f : TextError) → FaultOf bytes e → FaultOf bytes f → e ≡ f
fault_same bytes NoMemory f d g = absurd d
fault_same bytes (Char p) NoMemory d g = absurd g
fault_same bytes (Char p) (Char q) d g = fault_one bytes (Char p) (Char q) d g
fault_same bytes (Char p) (Number q) d g = fault_one bytes (Char p) (Number q) d g
fault_same bytes (Char p) (Name q) d g = fault_one bytes (Char p) (Name q) d g
fault_same bytes (Char p) (Syntax q) d g = absurd (fault_no_tokens bytes g.tokens (Char p) g.read d)
fault_same bytes (Char p) (Deep q) d g = absurd (fault_no_tokens bytes g.tokens (Char p) g.read d)
fault_same bytes (Number p) NoMemory d g = absurd g
fault_same bytes (Number p) (Char q) d g = fault_one bytes (Number p) (Char q) d g
fault_same bytes (Number p) (Number q) d g = fault_one bytes (Number p) (Number q) d g
fault_same bytes (Number p) (Name q) d g = fault_one bytes (Number p) (Name q) d g
fault_same bytes (Number p) (Syntax q) d g = absurd (fault_no_tokens bytes g.tokens (Number p) g.read d)
fault_same bytes (Number p) (Deep q) d g = absurd (fault_no_tokens bytes g.tokens (Number p) g.read d)
fault_same bytes (Name p) NoMemory d g = absurd g
fault_same bytes (Name p) (Char q) d g = fault_one bytes (Name p) (Char q) d g
fault_same bytes (Name p) (Number q) d g = fault_one bytes (Name p) (Number q) d g
fault_same bytes (Name p) (Name q) d g = fault_one bytes (Name p) (Name q) d g
fault_same bytes (Name p) (Syntax q) d g = absurd (fault_no_tokens bytes g.tokens (Name p) g.read d)
fault_same bytes (Name p) (Deep q) d g = absurd (fault_no_tokens bytes g.tokens (Name p) g.read d)
fault_same bytes (Syntax p) NoMemory d g = absurd g
fault_same bytes (Syntax p) (Char q) d g = absurd (fault_no_tokens bytes d.tokens (Char q) d.read g)
fault_same bytes (Syntax p) (Number q) d g = absurd (fault_no_tokens bytes d.tokens (Number q) d.read g)
fault_same bytes (Syntax p) (Name q) d g = absurd (fault_no_tokens bytes d.tokens (Name q) d.read g)
fault_same bytes (Syntax p) (Syntax q) d g = ap Syntax (syntax_one (same_tokens bytes (length bytes) d.read g.read d.fault) g.fault)
fault_same bytes (Syntax p) (Deep q) d g = absurd (syntax_no_deep (same_tokens bytes (length bytes) d.read g.read d.fault) g.fault)
fault_same bytes (Deep p) NoMemory d g = absurd g
fault_same bytes (Deep p) (Char q) d g = absurd (fault_no_tokens bytes d.tokens (Char q) d.read g)
fault_same bytes (Deep p) (Number q) d g = absurd (fault_no_tokens bytes d.tokens (Number q) d.read g)
fault_same bytes (Deep p) (Name q) d g = absurd (fault_no_tokens bytes d.tokens (Name q) d.read g)
fault_same bytes (Deep p) (Syntax q) d g = absurd (syntax_no_deep (same_tokens bytes (length bytes) g.read d.read g.fault) d.fault)
fault_same bytes (Deep p) (Deep q) d g = ap Deep (deep_one (same_deep bytes d.read g.read d.fault) g.fault)

-- ---- answers

pub of_tokens : (bytes : List ℕ) (e : TextError) → (e ≡ NoMemory) ⊎ TokenFault bytes e → (e ≡ NoMemory) ⊎ FaultOf bytes e
of_tokens bytes e (inl f) = inl f
of_tokens bytes NoMemory (inr f) = absurd f.fault
of_tokens bytes (Char p) (inr f) = inr f
of_tokens bytes (Number p) (inr f) = inr f
of_tokens bytes (Name p) (inr f) = inr f
of_tokens bytes (Syntax p) (inr f) = absurd f.fault
of_tokens bytes (Deep p) (inr f) = absurd f.fault

-- what the parser's failure is for the text
pub failure_of : (bytes : List ℕ) (ts us : List Token) (n : ℕ) (f : Failure) (e : TextError) → IsTokens bytes ts → us ≡ ts → n ≡ length bytes → FailsAs (Many ADecl) AtEnd 100 us f → Says f n e → (e ≡ NoMemory) ⊎ FaultOf bytes e
failure_of bytes ts us n f e d i h no_memory s = inl s
failure_of bytes ts us n f e d i h (syntax {left = left} g) s =
    inr (subst (λ z. FaultOf bytes z) (sym s) (record { tokens = us; read = subst (λ z. IsTokens bytes z) (sym i) d; fault = syntax_at (length bytes) (place_of left.now n) g (ap (λ z. place_of left.now z) h) }))
failure_of bytes ts us n f e d i h (deep {left = left} g) s =
    inr (subst (λ z. FaultOf bytes z) (sym s) (record { tokens = us; read = subst (λ z. IsTokens bytes z) (sym i) d; fault = deep_at n (place_of left.now n) g refl }))

pub only_fault_of : (bytes : List ℕ) (e : TextError) → (e ≡ NoMemory) ⊎ FaultOf bytes e → (f : TextError) → FaultOf bytes f → (e ≡ NoMemory) ⊎ (e ≡ f)
only_fault_of bytes e (inl h) f g = inl h
only_fault_of bytes e (inr h) f g = inr (fault_same bytes e f h g)

pub no_program : (bytes : List ℕ) (e : TextError) → (e ≡ NoMemory) ⊎ FaultOf bytes e → (q : ProgramTree) → IsTextOf bytes q → (e ≡ NoMemory) ⊎ (100 < highest_decl q.decls)
no_program bytes e (inl h) q t = inl h
no_program bytes e (inr h) q t = inr (fault_high bytes q e t h)

pub no_fault : (bytes : List ℕ) (q : ProgramTree) → IsTextOf bytes q → highest_decl q.decls ≤ 100 → (f : TextError) → FaultOf bytes f → ⊥
no_fault bytes q t l f g = let h = fault_high bytes q f t g in absurd (omega arith)
