-- What the steps compute that unpack words and pack them.
use Rattle.std.specs.Prelude.{◌≡◌, ℕ, ◌+◌, ◌*◌, ◌<◌, ◌≤◌, ◌^◌, Bool, true, false, if◌then◌else◌, bytes_eq, List, ◌++◌, length, drop}
use Rattle.nv_base.specs.declared.term.Atom.{Atom}
use Rattle.nv_base.specs.Words.{Env, atom_word, atom_words}
use Rattle.nv_ast.specs.Bits.{packed, replaced}
use Rattle.nv_ast.specs.Outline.{OutlineTree, OutlineTrees, NamedOutlines, IsSound, AllSound, AllNamedSound, size, total_size, total_named_size, longest}
use Rattle.nv_ast.specs.Types.{Forms, no_forms, form_and, form_of, forms_of, joined_forms, record_forms, unpacked_all, unpacked_ty, packed_words, packed_ty}
use Rattle.nv_meaning.specs.Values.{Value, NamedValues, no_named_values, named_value_and, fields_of}
use Rattle.nv_meaning.specs.Packing.{value_at, parts_at, alternatives_at, joined_at, packed_value}
use Rattle.nv_meaning.specs.inner.Blanks.{IsBlankFrom}
use Rattle.flat_ir.specs.declared.spine.Step.{Step}
use Rattle.nv_flatten_values.specs.inner.Code.{Computes}
use Rattle.nv_flatten_values.specs.inner.Soundness.{AreWords}
use Rattle.nv_flatten_values.specs.inner.Symbols.{Symbol, NamedSymbols, no_named_symbols, named_symbol_and, form, named_forms, operands, named_operands, value_in, named_values_in, Fits, NamedFit, IsOlder, AreOlder}

-- the fields of one record and then those of another
infixr 5 ◌++_symbols◌
abbrev pub ◌++_symbols◌ : NamedSymbols → NamedSymbols → NamedSymbols
no_named_symbols ++_symbols ss = ss
named_symbol_and x r rs ++_symbols ss = named_symbol_and x r (rs ++_symbols ss)

-- steps were added, and an operand which then has this word, by the words of older operands
pub record Makes (fit : Type 0) (low high : ℕ) (needs : List Atom) (old new : List Step) (a : Atom) (word : List ℕ → ℕ) : Type 0 where
  pub steps : List Step
  pub added : new ≡ old ++ steps
  pub later : low ≤ high
  pub older : AreOlder low needs → IsOlder high a
  pub by : fit → AreOlder low needs → (env : Env) → AreWords (atom_words env needs) → Computes low steps env (λ last. (atom_word last a ≡ word (atom_words env needs)) × (atom_word last a < 2 ^ 32))

-- steps were added, and fields of these forms, which then stand for these values, by the words of older operands
pub record Reads (fit : Type 0) (low high : ℕ) (needs : List Atom) (old new : List Step) (before after : NamedSymbols) (shape : Forms) (values : List ℕ → NamedValues) : Type 0 where
  pub steps : List Step
  pub fields : NamedSymbols
  pub added : new ≡ old ++ steps
  pub behind : after ≡ before ++_symbols fields
  pub later : low ≤ high
  pub formed : named_forms fields ≡ unpacked_all shape
  pub older : AreOlder low needs → AreOlder high (named_operands fields)
  pub by : fit → AreOlder low needs → (env : Env) → AreWords (atom_words env needs) → Computes low steps env (λ last. (named_values_in last fields ≡ values (atom_words env needs)) × NamedFit last fields)

-- the fields of an outline's record whose bits begin at this place of the words
abbrev pub ReadsRecord : OutlineTree → ℕ → ℕ → ℕ → List Atom → List Step → List Step → NamedSymbols → NamedSymbols → Type 0
ReadsRecord o at low high ws old new before after = Reads (IsSound o × (at + size o ≤ 32 * length ws)) low high ws old new before after (record_forms o) (λ xs. fields_of (value_at o (drop at (packed xs))))

-- those of outlines one after another
abbrev pub ReadsJoined : OutlineTrees → ℕ → ℕ → ℕ → List Atom → List Step → List Step → NamedSymbols → NamedSymbols → Type 0
ReadsJoined os at low high ws old new before after = Reads (AllSound os × (at + total_size os ≤ 32 * length ws)) low high ws old new before after (joined_forms os) (λ xs. joined_at os (drop at (packed xs)))

-- fields in order
abbrev pub ReadsParts : NamedOutlines → ℕ → ℕ → ℕ → List Atom → List Step → List Step → NamedSymbols → NamedSymbols → Type 0
ReadsParts fs at low high ws old new before after = Reads (AllNamedSound fs × (at + total_named_size fs ≤ 32 * length ws)) low high ws old new before after (forms_of fs) (λ xs. parts_at fs (drop at (packed xs)))

-- alternatives
abbrev pub ReadsAlternatives : NamedOutlines → ℕ → ℕ → ℕ → List Atom → List Step → List Step → NamedSymbols → NamedSymbols → Type 0
ReadsAlternatives fs at low high ws old new before after = Reads (AllNamedSound fs × (at + longest fs ≤ 32 * length ws)) low high ws old new before after (forms_of fs) (λ xs. alternatives_at fs (drop at (packed xs)))

-- one field
abbrev pub ReadsField : List ℕ → OutlineTree → ℕ → ℕ → ℕ → List Atom → List Step → List Step → NamedSymbols → NamedSymbols → Type 0
ReadsField x o at low high ws old new before after = Reads (IsSound o × (at + size o ≤ 32 * length ws)) low high ws old new before after (form_and x (form_of o) no_forms) (λ xs. named_value_and x (value_at o (drop at (packed xs))) no_named_values)

-- steps and the record that words unpack to
pub record Unpacks (o : OutlineTree) (low high : ℕ) (ws : List Atom) (steps : List Step) (s : Symbol) : Type 0 where
  pub value : IsSound o → length ws ≡ packed_words o → AreOlder low ws → (env : Env) → AreWords (atom_words env ws) → Computes low steps env (λ last. (value_in last s ≡ value_at o (packed (atom_words env ws))) × Fits last s)
  pub formed : form s ≡ unpacked_ty o
  pub older : AreOlder low ws → AreOlder high (operands s)

-- ---- packing

-- whether there is such a field
abbrev pub has_symbol : List ℕ → NamedSymbols → Bool
has_symbol x no_named_symbols = false
has_symbol x (named_symbol_and y s ss) = if bytes_eq x y then true else has_symbol x ss

-- steps were added, and words took the place of others of which all bits from a place on are 0: they have besides the bits that a value has
pub record Writes (fit : Type 0) (low high : ℕ) (s : Symbol) (old new : List Step) (before after : List Atom) (at : ℕ) (bits : Value → List ℕ) : Type 0 where
  pub steps : List Step
  pub added : new ≡ old ++ steps
  pub later : low ≤ high
  pub long : length after ≡ length before
  pub older : AreOlder low (operands s) → AreOlder low before → AreOlder high after
  pub by : fit → AreOlder low (operands s) → AreOlder low before → (env : Env) → Fits env s → AreWords (atom_words env before) → IsBlankFrom at (packed (atom_words env before))
      → Computes low steps env (λ last. (packed (atom_words last after) ≡ replaced at (bits (value_in env s)) (packed (atom_words env before))) × AreWords (atom_words last after))

-- steps and the words that a record packs to
pub record Packs (o : OutlineTree) (low high : ℕ) (s : Symbol) (steps : List Step) (r : Symbol) : Type 0 where
  pub value : IsSound o → AreOlder low (operands s) → (env : Env) → Fits env s → Computes low steps env (λ last. (value_in last r ≡ packed_value o (value_in env s)) × Fits last r)
  pub formed : form r ≡ packed_ty o
  pub older : AreOlder low (operands s) → AreOlder high (operands r)
