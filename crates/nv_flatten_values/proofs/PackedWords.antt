-- The words of a record that was written into zeros.
use Rattle.std.proofs.Common.{◌≡◌, ◌∙◌, refl, ap, sym, subst, ℕ, zero, suc, ◌*◌, ◌<◌, ◌≤◌, ◌^◌, Bool, if◌then◌else◌, inl, inr, List, [], ◌∷◌, ◌++◌, length, get_or, replicate, arith}
use Rattle.std.proofs.lemmas.Bool.{ne_eqb, cases_lt}
use Rattle.std.proofs.lemmas.List.{get_or_past, length-replicate}
use Rattle.std.proofs.lemmas.List.Elements.{All-head, All-tail, All-get_or, All-replicate}
use Rattle.nv_base.specs.declared.term.Atom.{Atom}
use Rattle.nv_base.specs.declared.term.Atom.TheVariants.{Lit}
use Rattle.nv_base.specs.Words.{Env, atom_word, atom_words}
use Rattle.nv_ast.specs.Bits.{packed, replaced}
use Rattle.nv_ast.specs.Outline.{OutlineTree, PartsOutline, no_named_outlines, IsSound}
use Rattle.nv_ast.specs.Types.{WordTy, TupleTy, ty_and, word_parts, words_ty, packed_words}
use Rattle.nv_meaning.specs.Values.{Value, value_and, word_values, words_value}
use Rattle.nv_meaning.specs.Values as meaning
use Rattle.nv_meaning.specs.Packing.{bits_of, words_of_bits, packed_value}
use Rattle.nv_meaning.proofs.Writing.{bits-within, blank-zeros, words-written}
use Rattle.flat_ir.specs.declared.spine.Step.{Step}
use Rattle.nv_flatten_values.specs.inner.Code.{Computes}
use Rattle.nv_flatten_values.specs.inner.Soundness.{AreWords}
use Rattle.nv_flatten_values.specs.inner.Symbols.{Symbol, operands, all_operands, form, forms, value_in, values_in, Fits, AllFit, IsOlder, AreOlder, word_symbols, words_symbol}
use Rattle.nv_flatten_values.specs.inner.Reads.{Writes, Packs}
use Rattle.nv_flatten_values.proofs.Computing.{computes-so}
use Rattle.nv_flatten_values.proofs.Writing.{writes-none}
use Rattle.nv_base.proofs.WordLemmas.{length-words}

-- ---- some words as a symbolic value
parts-values : (env : Env) (ws : List Atom) → values_in env (word_symbols ws) ≡ word_values (atom_words env ws)
parts-values env [] = refl
parts-values env (a ∷ ws) = ap (value_and (meaning.Word (atom_word env a))) (parts-values env ws)

symbol-value : (env : Env) (ws : List Atom) → value_in env (words_symbol ws) ≡ words_value (atom_words env ws)
symbol-value env [] = refl
symbol-value env (a ∷ []) = refl
symbol-value env (a ∷ b ∷ ws) = ap (λ vs. meaning.Tuple vs) (parts-values env (a ∷ b ∷ ws))

parts-forms : (ws : List Atom) → forms (word_symbols ws) ≡ word_parts (length ws)
parts-forms [] = refl
parts-forms (a ∷ ws) = ap (ty_and WordTy) (parts-forms ws)

symbol-form : (ws : List Atom) → form (words_symbol ws) ≡ words_ty (length ws)
symbol-form [] = refl
symbol-form (a ∷ []) = refl
symbol-form (a ∷ b ∷ ws) =
    ap (λ ts. TupleTy ts) (parts-forms (a ∷ b ∷ ws))
    ∙ sym (ap (λ (t : Bool). if t then WordTy else TupleTy (word_parts (length (a ∷ b ∷ ws)))) (ne_eqb (length (a ∷ b ∷ ws)) 1 (λ e. absurd (omega arith))))

pub parts-operands : (ws : List Atom) → all_operands (word_symbols ws) ≡ ws
parts-operands [] = refl
parts-operands (a ∷ ws) = ap (λ l. a ∷ l) (parts-operands ws)

pub symbol-operands : (ws : List Atom) → operands (words_symbol ws) ≡ ws
symbol-operands [] = refl
symbol-operands (a ∷ []) = refl
symbol-operands (a ∷ b ∷ ws) = parts-operands (a ∷ b ∷ ws)

parts-fit : (env : Env) (ws : List Atom) → AreWords (atom_words env ws) → AllFit env (word_symbols ws)
parts-fit env [] h = tt
parts-fit env (a ∷ ws) h = (All-head (λ w. w < 2 ^ 32) (atom_word env a) (atom_words env ws) h, parts-fit env ws (All-tail (λ w. w < 2 ^ 32) (atom_word env a) (atom_words env ws) h))

symbol-fits : (env : Env) (ws : List Atom) → AreWords (atom_words env ws) → Fits env (words_symbol ws)
symbol-fits env [] h = tt
symbol-fits env (a ∷ []) h = All-head (λ w. w < 2 ^ 32) (atom_word env a) [] h
symbol-fits env (a ∷ b ∷ ws) h = parts-fit env (a ∷ b ∷ ws) h

-- ---- zeros
words-zeros : (env : Env) (n : ℕ) → atom_words env (replicate n (Lit 0)) ≡ replicate n 0
words-zeros env zero = refl
words-zeros env (suc n) = ap (λ l. 0 ∷ l) (words-zeros env n)

all-small : (ws : List ℕ) → AreWords ws → (i : ℕ) → get_or ws i 0 < 2 ^ 32
all-small ws h i = elim (cases_lt i (length ws)) [
  | inl inside ↦ All-get_or (λ w. w < 2 ^ 32) ws i 0 inside h
  | inr past ↦ (let z : get_or ws i 0 ≡ 0 = get_or_past ws i 0 past in omega arith)
]

pub packs : (o : OutlineTree) (low high n : ℕ) (s : Symbol) (none steps : List Step) (zeros after : List Atom) (r : Symbol) → Writes (IsSound o) low high s none steps zeros after 0 (λ v. bits_of o v) → none ≡ [] → zeros ≡ replicate n (Lit 0) → n ≡ packed_words o → r ≡ words_symbol after
    → Packs o low high s steps r
packs o low high n s none steps zeros after r m noneis zerosis count is =
    let st : m.steps ≡ steps = sym (m.added ∙ ap (λ e. e ++ m.steps) noneis) in
    let lz : length zeros ≡ n = ap length zerosis ∙ length-replicate n (Lit 0) in
    let la : length after ≡ n = m.long ∙ lz in
    let oz : AreOlder low zeros = subst (λ as'. AreOlder low as') (sym zerosis) (All-replicate (IsOlder low) n (Lit 0) tt) in
    record {
      value = λ sound o' env fits.
          let v : Value = value_in env s in
          let zs : atom_words env zeros ≡ replicate n 0 = ap (atom_words env) zerosis ∙ words-zeros env n in
          let tiny : 0 < 2 ^ 32 = omega arith in
          let small : AreWords (atom_words env zeros) = subst (λ ws. AreWords ws) (sym zs) (All-replicate (λ w. w < 2 ^ 32) n 0 tiny) in
          let short : length (bits_of o v) ≤ 32 * n = omega (arith, bits-within o v) in
          subst (λ k. Computes low k env (λ last. (value_in last r ≡ packed_value o v) × Fits last r)) st
          (computes-so low m.steps env (λ last. (packed (atom_words last after) ≡ replaced 0 (bits_of o v) (packed (atom_words env zeros))) × AreWords (atom_words last after)) (λ last. (value_in last r ≡ packed_value o v) × Fits last r)
          (m.by sound o' oz env fits small (blank-zeros n (atom_words env zeros) zs))
          (λ last k h.
          let lw : length (atom_words last after) ≡ n = length-words last after ∙ la in
          let words : atom_words last after ≡ words_of_bits n (bits_of o v) = words-written n (atom_words env zeros) (atom_words last after) (bits_of o v) zs lw (all-small (atom_words last after) h.1) short h.0 in (
            ap (value_in last) is ∙ symbol-value last after ∙ ap words_value words ∙ ap (λ j. words_value (words_of_bits j (bits_of o v))) count,
            subst (Fits last) (sym is) (symbol-fits last after h.1),
          )));
      formed = ap form is ∙ symbol-form after ∙ ap words_ty (la ∙ count);
      older = λ o'. subst (λ as'. AreOlder high as') (sym (ap operands is ∙ symbol-operands after)) (m.older o' oz);
    }

-- of an unknown layout
pub packs-nothing : (o : OutlineTree) (low : ℕ) (s : Symbol) (steps : List Step) (words : List Atom) (r : Symbol) → o ≡ PartsOutline no_named_outlines → steps ≡ [] → words ≡ [] → r ≡ words_symbol words → Packs o low low s steps r
packs-nothing o low s steps words r e f g h =
    subst (λ (p : OutlineTree). Packs p low low s steps r) (sym e)
    (subst (λ (ss : List Step). Packs (PartsOutline no_named_outlines) low low s ss r) (sym f)
    (packs (PartsOutline no_named_outlines) low low 0 s [] [] [] [] r (writes-none (IsSound (PartsOutline no_named_outlines)) low s [] [] 0 0 (λ v. bits_of (PartsOutline no_named_outlines) v) (omega arith) (λ v. refl)) refl refl refl (h ∙ ap words_symbol g)))
