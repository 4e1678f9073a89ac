-- Fetches, and packed values.
use Rattle.std.proofs.Common.{◌≡◌, ◌∙◌, refl, ap, sym, subst, ℕ, zero, suc, ◌+◌, ◌≤◌, ◌==◌, true, false, if◌then◌else◌, List, [], ◌∷◌, ◌++◌, length, length-append, Option, Some, None, option_map, arith, rules, tests}
use Rattle.std.proofs.lemmas.Option.{same_Some}
use Rattle.nv_base.specs.declared.term.Atom.{Atom}
use Rattle.nv_base.specs.declared.term.Mem.{Mem}
use Rattle.nv_base.specs.Words.{Env, atom_word, atom_words, assigned_all}
use Rattle.nv_base.specs.Memories.{fetched}
use Rattle.nv_base.proofs.MemoryLemmas.{fetched-words}
use Rattle.nv_ast.specs.declared.token.Span.{Span}
use Rattle.nv_ast.specs.Bits.{packed}
use Rattle.nv_ast.specs.Outline.{OutlineTree, outline, IsSound}
use Rattle.nv_ast.specs.Tests.{is_among, names_of, look_up}
use Rattle.nv_ast.specs.Tree.{Tree, FetchTree, UnpackTree, PackTree, NamedLayout}
use Rattle.nv_ast.specs.Types.{WordTy, TupleTy, ty_and, words, total_words, total_named_words, word_parts, words_ty, packed_words, packed_ty, unpacked_ty, form_of, can_pack}
use Rattle.nv_ast.specs.Scope.{Context, inside}
use Rattle.nv_ast.specs.Typing.{type_at}
use Rattle.nv_ast.specs.Faults.{Expected, faults, node_faults, of_type, can_move, wrong_access, wrong_scratch, expected_packed, expected_unpacked}
use Rattle.nv_meaning.specs.Values.{Value, word_of, words_value}
use Rattle.nv_meaning.specs.Values as meaning
use Rattle.nv_meaning.specs.Packing.{value_at, unpacked_value, packed_value}
use Rattle.nv_meaning.specs.Running.{Running, Gives, after_fetch, fetch}
use Rattle.flat_ir.specs.Running as flat
use Rattle.flat_ir.specs.Meaning as code
use Rattle.flat_ir.specs.Spine.{Act, step_does}
use Rattle.flat_ir.specs.declared.spine.Step.{Step}
use Rattle.nv_flatten_values.specs.inner.Code.{Computes, variables}
use Rattle.nv_flatten_values.specs.inner.Symbols.{Symbol, Word, Truth, Tuple, Record, Symbols, no_symbols, symbol_and, NamedSymbols, no_named_symbols, named_symbol_and, SymbolScope, operands, all_operands, named_operands, form, forms, named_forms, value_in, Fits, AreOlder, word_operand, word_symbols, words_symbol, numbers_from}
use Rattle.nv_flatten_values.specs.inner.Runs.{flat_run, onward}
use Rattle.nv_flatten_values.specs.inner.Soundness.{AreWords}
use Rattle.nv_flatten_values.specs.inner.Whole.{Whole}
use Rattle.nv_flatten_values.specs.inner.Simulation.{Names, Done, IsValue}
use Rattle.nv_flatten_values.proofs.Keeping.{keeps-then, words-fit, are-words}
use Rattle.nv_flatten_values.proofs.Fresh.{numbers-keep, numbers-older, words-read, words-read-fit}
use Rattle.nv_flatten_values.proofs.NoFaults.{value-has-type, clean as is-clean, is-right, wanted-type, among-known}
use Rattle.nv_flatten_values.proofs.Following.{stands-inside, word-of}
use Rattle.nv_flatten_values.proofs.ValueArms.{unary}
use Rattle.nv_flatten_values.proofs.PackedWords.{symbol-operands}
use Rattle.nv_flatten_values.proofs.WellBasics.{words-ty-words}
use Rattle.nv_ast.proofs.Faultless.{no_front}
use Rattle.nv_layout.proofs.Sound.{where_not}

-- ---- how many operands a symbolic value has
mutual
  pub operands-count : (s : Symbol) → length (operands s) ≡ words (form s)
  operands-count (Word a) = refl
  operands-count (Truth a) = refl
  operands-count (Tuple ss) = all-count ss
  operands-count (Record fs) = named-count fs

  all-count : (ss : Symbols) → length (all_operands ss) ≡ total_words (forms ss)
  all-count no_symbols = refl
  all-count (symbol_and s ss) = length-append (operands s) (all_operands ss) ∙ ap (λ n. n + length (all_operands ss)) (operands-count s) ∙ ap (λ n. words (form s) + n) (all-count ss)

  named-count : (fs : NamedSymbols) → length (named_operands fs) ≡ total_named_words (named_forms fs)
  named-count no_named_symbols = refl
  named-count (named_symbol_and x s fs) = length-append (operands s) (named_operands fs) ∙ ap (λ n. n + length (named_operands fs)) (operands-count s) ∙ ap (λ n. words (form s) + n) (named-count fs)

not-one : (n : ℕ) → (suc (suc n) == 1) ≡ false
not-one n = search (tests, rules, arith)

many-words : (n : ℕ) → words_ty (suc (suc n)) ≡ TupleTy (word_parts (suc (suc n)))
many-words n = ap (λ b. if b then WordTy else TupleTy (word_parts (suc (suc n)))) (not-one n)

-- ---- some words as a symbolic value
some-forms : (n k : ℕ) → forms (word_symbols (variables (numbers_from n k))) ≡ word_parts k
some-forms n zero = refl
some-forms n (suc k) = ap (ty_and WordTy) (some-forms (suc n) k)

pub words-form : (n k : ℕ) → form (words_symbol (variables (numbers_from n k))) ≡ words_ty k
words-form n zero = refl
words-form n (suc zero) = refl
words-form n (suc (suc k)) = ap (λ ts. TupleTy ts) (some-forms n (suc (suc k))) ∙ sym (many-words k)

-- ---- a fetch that may be
may-fetch : (m : Mem) (n at : ℕ) (now : Running) → can_move m n ≡ true → fetch m n at now ≡ after_fetch m at (fetched m at n now.packet) now
may-fetch m n at now e = ap (λ b. if b then after_fetch m at (fetched m at n now.packet) now else Gives (meaning.Word 0) now) e

-- what follows the words of a memory
module _ (low high : ℕ) (m : Mem) (at : ℕ) (env new : Env) (last : Running) (fit : Type 0) (rest : Act) (next : Value → Running → flat.Result) (le : low ≤ high) (done : Done low env new fit last) where
  abbrev Follows : Symbol → Type 0
  Follows r = (after : Env) (end : Running) → Done low env after (Fits after r) end → rest after (flat_run end) ≡ next (value_in after r) end

  read-some : (ws : List ℕ) (n : ℕ) → length ws ≡ n → AreWords ws → Follows (words_symbol (variables (numbers_from high n))) → rest (assigned_all new (numbers_from high n) ws) (flat_run last) ≡ next (words_value ws) last
  read-some ws n e h = subst (λ i. Follows (words_symbol (variables (numbers_from high i))) → rest (assigned_all new (numbers_from high i) ws) (flat_run last) ≡ next (words_value ws) last) e
      (λ same.
      let after = assigned_all new (numbers_from high (length ws)) ws in
      same after last (record { sizes = done.sizes; keeps = keeps-then low high env new after le done.keeps (numbers-keep high (length ws) new ws); fits = words-read-fit high new ws h })
      ∙ ap (λ x. next x last) (words-read high new ws))

  read-any : (n : ℕ) (o : Option (List ℕ)) → ((ws : List ℕ) → o ≡ Some ws → (length ws ≡ n) × AreWords ws) → Follows (words_symbol (variables (numbers_from high n)))
      → flat.after_fetch m at o (flat_run last) (λ ws. rest (assigned_all new (numbers_from high n) ws) (flat_run last)) ≡ onward (after_fetch m at o last) next
  read-any n None h same = refl
  read-any n (Some ws) h same = let f = h ws refl in read-some ws n f.0 f.1 same

-- the step of a fetch: as many words as new variables, from the operand's address
abbrev pub FetchesTo : Mem → ℕ → ℕ → Atom → Step → Type 0
FetchesTo m n high a step = (call : code.Calls) (rest : Act) (env : Env) (now : flat.Running) → step_does call step rest env now ≡ flat.fetch m n (atom_word env a) now (λ ws. rest (assigned_all env (numbers_from high n) ws) now)

module _ (w : Whole) (names : Names) (low high : ℕ) (scope : SymbolScope) (sp : Span) (m : Mem) (n : ℕ) (a : Tree) (ss : List Step) (s : Symbol) (step : Step) where
  pub fetch-value : low ≤ high → FetchesTo m n high (word_operand s) step → IsValue w names low high scope a ss s → IsValue w names low (high + n) scope (FetchTree sp m n a) (ss ++ step ∷ []) (words_symbol (variables (numbers_from high n)))
  fetch-value le fetches v =
      unary w names low high (high + n) scope (FetchTree sp m n a) a ss (step ∷ []) s (words_symbol (variables (numbers_from high n))) (λ y last. fetch m n (word_of y) last) (λ p. of_type WordTy) v
      (λ call m' now. refl) (λ p wanted. refl)
      (λ own p wanted stands none o call env new last done rest next same.
      let moves = where_not (can_move m n) 19 (no_front (wrong_access m n) (wrong_scratch m a n) (is-clean p wanted (FetchTree sp m n a) none).middle) in
      let at = atom_word new (word_operand s) in
      fetches call rest new (flat_run last)
      ∙ read-any low high m at env new last (Fits new s) rest next le done n (fetched m at n last.packet) (λ ws e. fetched-words m at n last.packet ws done.sizes e) same
      ∙ ap (λ r. onward r next) (sym (may-fetch m n at last moves))
      ∙ ap (λ i. onward (fetch m n i last) next) (sym (word-of new s)))
      (record { by = λ own p wanted stands none t is. words-form high n ∙ same_Some (words_ty n) t is })
      (λ o. subst (λ l. AreOlder (high + n) l) (sym (symbol-operands (variables (numbers_from high n)))) (numbers-older (high + n) high n (omega arith)))

-- ---- a layout that is known

unpack-known : (p : Context) (wanted : Expected) (sp : Span) (l : List ℕ) (a : Tree) → faults p wanted (UnpackTree sp l a) ≡ [] → (o : OutlineTree) × (look_up l p.known.layouts ≡ Some o)
unpack-known p wanted sp l a none = among-known l p.known.layouts (where_not (is_among l (names_of p.known.layouts)) 3 (is-clean p wanted (UnpackTree sp l a) none).low)

pack-known : (p : Context) (wanted : Expected) (sp : Span) (l : List ℕ) (a : Tree) → faults p wanted (PackTree sp l a) ≡ [] → (o : OutlineTree) × (look_up l p.known.layouts ≡ Some o)
pack-known p wanted sp l a none = among-known l p.known.layouts (where_not (is_among l (names_of p.known.layouts)) 3 (is-clean p wanted (PackTree sp l a) none).low)

-- ---- packing and unpacking by a layout
module _ (w : Whole) (names : Names) (low mid high : ℕ) (scope : SymbolScope) (sp : Span) (l : List ℕ) (a : Tree) (ss ts : List Step) (s r : Symbol) where
  abbrev layout : OutlineTree
  layout = outline w.declared.layouts (NamedLayout l)

  pub unpack-value : low ≤ mid → IsValue w names low mid scope a ss s
      → (IsSound layout → length (operands s) ≡ packed_words layout → AreOlder mid (operands s) → (env : Env) → AreWords (atom_words env (operands s)) → Computes mid ts env (λ new. (value_in new r ≡ value_at layout (packed (atom_words env (operands s)))) × Fits new r))
      → form r ≡ unpacked_ty layout → (AreOlder mid (operands s) → AreOlder high (operands r))
      → IsValue w names low high scope (UnpackTree sp l a) (ss ++ ts) r
  unpack-value le v unpacks formed older =
      unary w names low mid high scope (UnpackTree sp l a) a ss ts s r (λ y last. Gives (unpacked_value layout y) last) (λ p. expected_packed (look_up l p.known.layouts)) v
      (λ call m now. refl) (λ p wanted. refl)
      (λ own p wanted stands none o call env new last done rest next same.
      let clean = no_front (faults (inside p) (expected_packed (look_up l p.known.layouts)) a) (node_faults p wanted (UnpackTree sp l a)) none in
      let found = unpack-known p wanted sp l a none in
      let known = stands.part.layouts l found.0 found.1 in
      let typed = wanted-type (inside p) (packed_ty found.0) a (subst (λ q. faults (inside p) (expected_packed q) a ≡ []) found.1 clean) in
      let shaped = v.formed.by own (inside p) (expected_packed (look_up l p.known.layouts)) (stands-inside w own scope p stands) clean (packed_ty found.0) typed in
      let count : length (operands s) ≡ packed_words layout = operands-count s ∙ ap words shaped ∙ words-ty-words (packed_words found.0) ∙ ap packed_words (sym known.0) in
      let spelled = words-fit new s done.fits in
      let does = unpacks (subst IsSound (sym known.0) known.1) count (v.older o) new (subst AreWords spelled (are-words new s done.fits)) in
      does.does call rest (flat_run last)
      ∙ same does.new last (record { sizes = done.sizes; keeps = keeps-then low mid env new does.new le done.keeps does.keeps; fits = does.holds.1 })
      ∙ ap (λ x. next x last) (does.holds.0 ∙ ap (λ ws. value_at layout (packed ws)) (sym spelled)))
      (record {
        by = λ own p wanted stands none t is.
            let found = unpack-known p wanted sp l a none in
            let known = stands.part.layouts l found.0 found.1 in
            formed ∙ ap unpacked_ty known.0 ∙ same_Some (unpacked_ty found.0) t (sym (ap (option_map unpacked_ty) found.1) ∙ is);
      })
      (λ o. older (v.older o))

  pub pack-value : low ≤ mid → IsValue w names low mid scope a ss s
      → (IsSound layout → can_pack (form_of layout) (form s) ≡ true → AreOlder mid (operands s) → (env : Env) → Fits env s → Computes mid ts env (λ new. (value_in new r ≡ packed_value layout (value_in env s)) × Fits new r))
      → form r ≡ packed_ty layout → (AreOlder mid (operands s) → AreOlder high (operands r))
      → IsValue w names low high scope (PackTree sp l a) (ss ++ ts) r
  pack-value le v packs formed older =
      unary w names low mid high scope (PackTree sp l a) a ss ts s r (λ y last. Gives (packed_value layout y) last) (λ p. expected_unpacked (look_up l p.known.layouts)) v
      (λ call m now. refl) (λ p wanted. refl)
      (λ own p wanted stands none o call env new last done rest next same.
      let clean = no_front (faults (inside p) (expected_unpacked (look_up l p.known.layouts)) a) (node_faults p wanted (PackTree sp l a)) none in
      let found = pack-known p wanted sp l a none in
      let known = stands.part.layouts l found.0 found.1 in
      let here = subst (λ q. faults (inside p) (expected_unpacked q) a ≡ []) found.1 clean in
      let typed = value-has-type (inside p) (expected_unpacked (Some found.0)) a refl here in
      let right = is-right (expected_unpacked (Some found.0)) (type_at p.known p.vars a) typed.0 (is-clean (inside p) (expected_unpacked (Some found.0)) a here).other typed.1 in
      let shaped = v.formed.by own (inside p) (expected_unpacked (look_up l p.known.layouts)) (stands-inside w own scope p stands) clean typed.0 typed.1 in
      let may : can_pack (form_of layout) (form s) ≡ true = ap (λ q. can_pack (form_of q) (form s)) known.0 ∙ ap (can_pack (form_of found.0)) shaped ∙ right in
      let does = packs (subst IsSound (sym known.0) known.1) may (v.older o) new done.fits in
      does.does call rest (flat_run last)
      ∙ same does.new last (record { sizes = done.sizes; keeps = keeps-then low mid env new does.new le done.keeps does.keeps; fits = does.holds.1 })
      ∙ ap (λ x. next x last) does.holds.0)
      (record {
        by = λ own p wanted stands none t is.
            let found = pack-known p wanted sp l a none in
            let known = stands.part.layouts l found.0 found.1 in
            formed ∙ ap packed_ty known.0 ∙ same_Some (packed_ty found.0) t (sym (ap (option_map packed_ty) found.1) ∙ is);
      })
      (λ o. older (v.older o))
