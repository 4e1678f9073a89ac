-- What the walk says of values, an arm at a time.
use Rattle.std.proofs.Common.{◌≡◌, ◌∙◌, refl, ap, sym, subst, ℕ, ◌+◌, ◌*◌, ◌<◌, ◌≤◌, Bool, true, if◌then◌else◌, List, [], ◌∷◌, ◌++◌, Option, Some, length, Vec, Global, arith}
use Rattle.nv_base.specs.declared.term.Atom.{Atom}
use Rattle.nv_base.specs.declared.term.Atom.TheVariants.{Var, Lit}
use Rattle.nv_base.specs.declared.term.Bin.{Bin}
use Rattle.nv_base.specs.declared.term.Bin.TheVariants as bin
use Rattle.nv_base.specs.declared.term.Una.TheVariants as una
use Rattle.nv_base.specs.declared.term.Mem.{Mem}
use Rattle.nv_base.specs.declared.term.Primitive.TheVariants.{Una as UnaOf, Bin as BinOf}
use Rattle.nv_base.specs.Words.{Env, atom_word, atom_words, assigned_all}
use Rattle.nv_ast.specs.declared.token.Span.{Span}
use Rattle.nv_ast.specs.declared.tree.Op.{Op}
use Rattle.nv_ast.specs.declared.tree.ShiftOp.{ShiftOp}
use Rattle.nv_ast.specs.Bits.{packed}
use Rattle.nv_ast.specs.Outline.{outline, IsSound, bit_fields}
use Rattle.nv_ast.specs.Tree.{Tree, Trees, NamedTrees, StatementTrees, NumberTree, TruthTree, VarTree, ParenTree, TupleTree, FieldsTree, DotTree, InvertTree, NegateTree, BinaryTree, ShiftTree, UnpackTree, PackTree, FetchTree, BlockTree, NamedLayout}
use Rattle.nv_ast.specs.Types.{words, packed_words, packed_ty, unpacked_ty, form_of, can_pack}
use Rattle.nv_meaning.specs.Packing.{value_at, packed_value}
use Rattle.flat_ir.specs.Running as flat
use Rattle.flat_ir.specs.declared.flat.Flat.{Flat}
use Rattle.flat_ir.specs.declared.spine.Step.{Step}
use Rattle.flat_ir.specs.declared.spine.Step.TheVariants.{Let, Fetch, Bind}
use Rattle.nv_flatten_values.specs.inner.Arms.{is_named}
use Rattle.nv_flatten_values.specs.inner.Code.{Computes, arithmetic_of, shift_of, variables, form_or_unit}
use Rattle.nv_flatten_values.specs.inner.Symbols.{Symbol, Symbols, NamedSymbols, SymbolScope, Word, Truth, Tuple, Record, word_operand, truth_operand, fields_of, field_named, symbol_in, operands, form, fresh, numbers_from, words_symbol, value_in, Fits, AreOlder}
use Rattle.nv_flatten_values.specs.inner.Soundness.{AreWords}
use Rattle.nv_flatten_values.specs.inner.Whole.{Whole}
use Rattle.nv_flatten_values.specs.inner.Simulation.{Names, Extends}
use Rattle.nv_flatten_values.specs.inner.Well.{AreWellLets}
use Rattle.nv_flatten_values.specs.inner.Narrow.{AreNarrowLets, IsNarrowValue}
use Rattle.nv_flatten.specs.inner.Flat.{IsFlatValue, AreFlatValues, AreFlatFields, IsFlatStated, IsFlatEnd}
use Rattle.nv_flatten_values.proofs.Fresh.{numbers-length}
use Rattle.nv_flatten_values.proofs.Ways.{named-literal, named-given}
use Rattle.nv_flatten_values.proofs.ValueArms.{number-value, truth-value, var-value, paren-value, dot-value, invert-value, negate-value}
use Rattle.nv_flatten.proofs.ListArms.{tuple-value, record-value}
use Rattle.nv_flatten.proofs.WordArms.{combine-value}
use Rattle.nv_flatten.proofs.AccessArms.{fetch-value, pack-value}
use Rattle.nv_flatten.proofs.StatementArms.{block-value}
use Rattle.nv_flatten.proofs.NamedArm.{named-value}
use Rattle.nv_flatten.proofs.WalkArms.{shift-as, unpack-as}
use Rattle.nv_flatten.proofs.WellArms.{number-well, truth-well, variable-well, paren-well, tuple-well, record-well, dot-well, invert-well, negate-well, combine-well, shift-well, unpack-well, pack-well, fetch-well, block-well}
use Rattle.nv_flatten.proofs.WellCalls.{named-well}
use Rattle.nv_flatten.proofs.WellViews.{lets-given}
use Rattle.nv_flatten.proofs.NarrowValues.{value-narrow-more, number-narrow, truth-narrow, var-narrow, paren-narrow, tuple-narrow, record-narrow, dot-narrow, invert-narrow, negate-narrow, combine-narrow, fetch-narrow, named-narrow}
use Rattle.nv_flatten.proofs.NarrowLists.{stated-narrow-more, block-narrow}
use Rattle.nv_flatten.proofs.NarrowCalls.{unpack-form, pack-form, unpack-narrow, pack-narrow}
use Rattle.nv_flatten.proofs.NarrowViews.{shifted-narrow, lets-from}
use Rattle.nv_flatten_values.specs.inner.Small.{AreFewLets, PacksFew, IsSmallValue}
use Rattle.nv_flatten.proofs.SmallValues.{value-small-more, stated-small-more, number-small, truth-small, var-small, paren-small, tuple-small, record-small, dot-small, invert-small, negate-small, combine-small, fetch-small, named-small}
use Rattle.nv_flatten.proofs.SmallLists.{block-small}
use Rattle.nv_flatten.proofs.SmallCalls.{unpack-small, pack-small}
use Rattle.nv_flatten.proofs.SmallViews.{shifted-small}

-- ---- values without steps of their own
pub number-flat : (w : Whole) (names : Names) (low : ℕ) (scope : SymbolScope) (sp : Span) (n : ℕ) → IsFlatValue w names names low low scope (NumberTree sp n) [] (Word (Lit n))
number-flat w names low scope sp n = record {
  same = number-value w names low low scope sp n;
  well = number-well w names low scope sp n;
  narrow = number-narrow w names scope sp n;
  small = number-small w names scope sp n;
}

pub truth-flat : (w : Whole) (names : Names) (low : ℕ) (scope : SymbolScope) (sp : Span) (b : Bool) → IsFlatValue w names names low low scope (TruthTree sp b) [] (Truth (Lit (if b then 1 else 0)))
truth-flat w names low scope sp b = record {
  same = truth-value w names low low scope sp b;
  well = truth-well w names low scope sp b (if b then 1 else 0);
  narrow = truth-narrow w names scope sp b (if b then 1 else 0);
  small = truth-small w names scope sp b (if b then 1 else 0);
}

pub variable-flat : (w : Whole) (names : Names) (low : ℕ) (scope : SymbolScope) (sp : Span) (x : List ℕ) → IsFlatValue w names names low low scope (VarTree sp x) [] (symbol_in scope x)
variable-flat w names low scope sp x = record {
  same = var-value w names low low scope sp x (omega arith);
  well = variable-well w names low scope sp x;
  narrow = var-narrow w names scope sp x;
  small = var-small w names scope sp x;
}

-- ---- values with the steps of their parts
pub paren-flat : (w : Whole) (old names : Names) (low high : ℕ) (scope : SymbolScope) (sp : Span) (a : Tree) (ss : List Step) (s : Symbol) → IsFlatValue w old names low high scope a ss s → IsFlatValue w old names low high scope (ParenTree sp a) ss s
paren-flat w old names low high scope sp a ss s f = record {
  same = paren-value w names low high scope sp a ss s f.same;
  well = paren-well w old names low high scope sp a ss s f.well;
  narrow = paren-narrow w names scope sp a ss s f.narrow;
  small = paren-small w names scope sp a ss s f.small;
}

pub tuple-flat : (w : Whole) (old names : Names) (low high : ℕ) (scope : SymbolScope) (sp : Span) (es : Trees) (ss : List Step) (us : Symbols) → AreFlatValues w old names low high scope es ss us → IsFlatValue w old names low high scope (TupleTree sp es) ss (Tuple us)
tuple-flat w old names low high scope sp es ss us f = record {
  same = tuple-value w names low high scope sp es ss us f.same;
  well = tuple-well w old names low high scope sp es ss us f.well;
  narrow = tuple-narrow w names scope sp es ss us f.narrow;
  small = tuple-small w names scope sp es ss us f.small;
}

pub record-flat : (w : Whole) (old names : Names) (low high : ℕ) (scope : SymbolScope) (sp : Span) (es : NamedTrees) (ss : List Step) (us : NamedSymbols) → AreFlatFields w old names low high scope es ss us → IsFlatValue w old names low high scope (FieldsTree sp es) ss (Record us)
record-flat w old names low high scope sp es ss us f = record {
  same = record-value w names low high scope sp es ss us f.same;
  well = record-well w old names low high scope sp es ss us f.well;
  narrow = record-narrow w names scope sp es ss us f.narrow;
  small = record-small w names scope sp es ss us f.small;
}

pub dot-flat : (w : Whole) (old names : Names) (low high : ℕ) (scope : SymbolScope) (sp : Span) (a : Tree) (x : List ℕ) (ss : List Step) (s : Symbol) → IsFlatValue w old names low high scope a ss s → IsFlatValue w old names low high scope (DotTree sp a x) ss (field_named x (fields_of s))
dot-flat w old names low high scope sp a x ss s f = record {
  same = dot-value w names low high scope sp a x ss s f.same;
  well = dot-well w old names low high scope sp a x ss s f.well;
  narrow = dot-narrow w names scope sp a x ss s f.narrow;
  small = dot-small w names scope sp a x ss s f.small;
}

-- ---- values that a further step computes
pub invert-flat : (w : Whole) (old names : Names) (low mid : ℕ) (scope : SymbolScope) (sp : Span) (a : Tree) (ss : List Step) (s : Symbol) → low ≤ mid → IsFlatValue w old names low mid scope a ss s
    → IsFlatValue w old names low (mid + 1) scope (InvertTree sp a) (ss ++ Let mid (UnaOf una.Not (word_operand s)) ∷ []) (Word (Var mid))
invert-flat w old names low mid scope sp a ss s le f = record {
  same = invert-value w names low mid scope sp a ss s le f.same;
  well = invert-well w old names low mid scope sp a ss s f.well;
  narrow = invert-narrow w names scope sp a ss s mid una.Not f.narrow;
  small = invert-small w names scope sp a ss s mid una.Not f.small;
}

pub negate-flat : (w : Whole) (old names : Names) (low mid : ℕ) (scope : SymbolScope) (sp : Span) (a : Tree) (ss : List Step) (s : Symbol) → low ≤ mid → IsFlatValue w old names low mid scope a ss s
    → IsFlatValue w old names low (mid + 1) scope (NegateTree sp a) (ss ++ Let mid (BinOf bin.Xor (truth_operand s) (Lit 1)) ∷ []) (Truth (Var mid))
negate-flat w old names low mid scope sp a ss s le f = record {
  same = negate-value w names low mid scope sp a ss s le f.same;
  well = negate-well w old names low mid scope sp a ss s f.well;
  narrow = negate-narrow w names scope sp a ss s mid 1 bin.Xor f.narrow;
  small = negate-small w names scope sp a ss s mid 1 bin.Xor f.small;
}

pub shift-flat : (w : Whole) (old names : Names) (low mid high : ℕ) (scope : SymbolScope) (sp : Span) (op : ShiftOp) (a : Tree) (n : ℕ) (ss ts : List Step) (s : Symbol) (r : Atom) → low ≤ mid → Extends ss ts
    → (n ≡ 0 → (r ≡ word_operand s) × (ts ≡ ss) × (high ≡ mid))
    → (31 < n → (r ≡ word_operand s) × (ts ≡ ss) × (high ≡ mid))
    → (1 ≤ n → n ≤ 31 → (r ≡ Var mid) × (ts ≡ ss ++ Let mid (shift_of op n (word_operand s)) ∷ []) × (high ≡ mid + 1))
    → IsFlatValue w old names low mid scope a ss s → IsFlatValue w old names low high scope (ShiftTree sp op a n) ts (Word r)
shift-flat w old names low mid high scope sp op a n ss ts s r le extends none past some f = record {
  same = shift-as w names low mid high scope sp op a n ss ts s r le f.same none past some;
  well = shift-well w old names low mid high scope sp op a n ss ts s r f.well (record { none = none; extends = extends; some = some });
  narrow = shifted-narrow w names scope sp op a n ss ts s r mid (λ z. let h = none z in (h.0, h.1)) (λ one most. let h = some one most in (h.0, h.1)) f.narrow;
  small = shifted-small w names scope sp op a n ss ts s r mid (λ z. let h = none z in (h.0, h.1)) (λ one most. let h = some one most in (h.0, h.1)) f.small;
}

pub combine-flat : (w : Whole) (old names more : Names) (low mid high : ℕ) (scope : SymbolScope) (sp : Span) (op : Op) (b : Bin) (x y : Tree) (ss ts : List Step) (s u : Symbol) → arithmetic_of op ≡ Some b → Extends names more → low ≤ mid → mid ≤ high
    → IsFlatValue w old names low mid scope x ss s → IsFlatValue w names more mid high scope y ts u
    → IsFlatValue w old more low (high + 1) scope (BinaryTree sp op x y) ((ss ++ ts) ++ Let high (BinOf b (word_operand s) (word_operand u)) ∷ []) (Word (Var high))
combine-flat w old names more low mid high scope sp op b x y ss ts s u is ext le le' f g = record {
  same = combine-value w names more low mid high scope sp op b x y ss ts s u is ext le le' f.same g.same;
  well = combine-well w old names more low mid high scope sp op b x y ss ts s u ext f.well g.well;
  narrow = combine-narrow w more scope sp op x y ss ts s u high b f.same.formed (value-narrow-more w names more ext scope x ss s f.narrow) g.narrow;
  small = combine-small w more scope sp op x y ss ts s u high b (value-small-more w names more ext scope x ss s f.small) g.small;
}

-- ---- packed values
pub unpack-flat : (w : Whole) (old names : Names) (low mid high : ℕ) (scope : SymbolScope) (sp : Span) (l : List ℕ) (a : Tree) (ss ts : List Step) (s r : Symbol) (as' : List Atom) → as' ≡ operands s → low ≤ mid
    → (IsSound (outline w.declared.layouts (NamedLayout l)) → length as' ≡ packed_words (outline w.declared.layouts (NamedLayout l)) → AreOlder mid as' → (env : Env) → AreWords (atom_words env as')
    → Computes mid ts env (λ new. (value_in new r ≡ value_at (outline w.declared.layouts (NamedLayout l)) (packed (atom_words env as'))) × Fits new r))
    → form r ≡ unpacked_ty (outline w.declared.layouts (NamedLayout l)) → (AreOlder mid as' → AreOlder high (operands r))
    → (IsSound (outline w.declared.layouts (NamedLayout l)) → length as' ≡ packed_words (outline w.declared.layouts (NamedLayout l)) → AreWellLets mid high as' ts (operands r))
    → AreNarrowLets as' ts (operands r)
    → AreFewLets ts (4 * length (bit_fields 0 (outline w.declared.layouts (NamedLayout l))))
    → IsFlatValue w old names low mid scope a ss s → IsFlatValue w old names low high scope (UnpackTree sp l a) (ss ++ ts) r
unpack-flat w old names low mid high scope sp l a ss ts s r as' is le unpacks formed older well narrow few f = record {
  same = unpack-as w names low mid high scope sp l a ss ts s r as' is le f.same unpacks formed older;
  well = unpack-well w old names low mid high scope sp l a ss ts s r f.well f.same.formed (λ sound many. lets-given mid high as' (operands s) ts (operands r) is (well sound (ap length is ∙ many)));
  narrow = unpack-narrow w names scope sp l a ss ts s r f.same.formed (unpack-form w scope sp l a r formed) f.narrow (lets-from as' (operands s) ts (operands r) is narrow);
  small = unpack-small w names scope sp l a ss ts s r (unpack-form w scope sp l a r formed) f.small few;
}

pub pack-flat : (w : Whole) (old names : Names) (low mid high : ℕ) (scope : SymbolScope) (sp : Span) (l : List ℕ) (a : Tree) (ss ts : List Step) (s r : Symbol) → low ≤ mid
    → (IsSound (outline w.declared.layouts (NamedLayout l)) → can_pack (form_of (outline w.declared.layouts (NamedLayout l))) (form s) ≡ true → AreOlder mid (operands s) → (env : Env) → Fits env s
    → Computes mid ts env (λ new. (value_in new r ≡ packed_value (outline w.declared.layouts (NamedLayout l)) (value_in env s)) × Fits new r))
    → form r ≡ packed_ty (outline w.declared.layouts (NamedLayout l)) → (AreOlder mid (operands s) → AreOlder high (operands r))
    → (IsSound (outline w.declared.layouts (NamedLayout l)) → can_pack (form_of (outline w.declared.layouts (NamedLayout l))) (form s) ≡ true → AreWellLets mid high (operands s) ts (operands r))
    → AreNarrowLets (operands s) ts (operands r)
    → (IsSound (outline w.declared.layouts (NamedLayout l)) → can_pack (form_of (outline w.declared.layouts (NamedLayout l))) (form s) ≡ true → PacksFew (outline w.declared.layouts (NamedLayout l)) (operands s) ts)
    → IsFlatValue w old names low mid scope a ss s → IsFlatValue w old names low high scope (PackTree sp l a) (ss ++ ts) r
pack-flat w old names low mid high scope sp l a ss ts s r le packs formed older well narrow few f = record {
  same = pack-value w names low mid high scope sp l a ss ts s r le f.same packs formed older;
  well = pack-well w old names low mid high scope sp l a ss ts s r f.well f.same.formed well;
  narrow = pack-narrow w names scope sp l a ss ts s r f.same.formed (pack-form w scope sp l a r formed) f.narrow narrow;
  small = pack-small w names scope sp l a ss ts s r f.same.formed (pack-form w scope sp l a r formed) f.small few;
}

-- ---- memories
pub fetch-flat : (w : Whole) (old names : Names) (low mid : ℕ) (scope : SymbolScope) (sp : Span) (m : Mem) (n : ℕ) (a : Tree) (ss ts : List Step) (s : Symbol) (xs : _) → ts ≡ ss ++ Fetch m xs (word_operand s) ∷ [] → xs.items ≡ numbers_from mid n → low ≤ mid
    → IsFlatValue w old names low mid scope a ss s → IsFlatValue w old names low (mid + n) scope (FetchTree sp m n a) ts (words_symbol (variables (numbers_from mid n)))
fetch-flat w old names low mid scope sp m n a ss ts s xs steps is le f = subst (λ l. IsFlatValue w old names low (mid + n) scope (FetchTree sp m n a) l (words_symbol (variables (numbers_from mid n)))) (sym steps) (record {
  same = fetch-value w names low mid scope sp m n a ss s (Fetch m xs (word_operand s)) le
      (λ call rest env now.
      ap (λ l. flat.fetch m (length l) (atom_word env (word_operand s)) now (λ ws. rest (assigned_all env l ws) now)) is
      ∙ ap (λ i. flat.fetch m i (atom_word env (word_operand s)) now (λ ws. rest (assigned_all env (numbers_from mid n) ws) now)) (numbers-length mid n))
      f.same;
  well = fetch-well w old names low mid scope sp m n a ss (ss ++ Fetch m xs (word_operand s) ∷ []) s xs refl is f.well;
  narrow = fetch-narrow w names scope sp m n a ss s mid xs f.narrow is;
  small = fetch-small w names scope sp m n a ss s mid xs f.small is;
})

-- ---- blocks
pub block-flat : (w : Whole) (old names more : Names) (low mid high : ℕ) (scope inner : SymbolScope) (sp : Span) (sts : StatementTrees) (a : Tree) (ss ts : List Step) (s : Symbol) → Extends names more → low ≤ mid
    → IsFlatStated w old names low mid scope sts ss inner → IsFlatValue w names more mid high inner a ts s → IsFlatValue w old more low high scope (BlockTree sp sts a) (ss ++ ts) s
block-flat w old names more low mid high scope inner sp sts a ss ts s ext le f g = record {
  same = block-value w names more low mid high scope inner sp sts a ss ts s ext le f.same g.same;
  well = block-well w old names more low mid high scope inner sp sts a ss ts s ext f.well f.same.formed g.well;
  narrow = block-narrow w more names low mid scope inner sp sts a ss ts s f.same (stated-narrow-more w names more ext scope sts ss inner f.narrow) g.narrow;
  small = block-small w more names low mid scope inner sp sts a ss ts s f.same (stated-small-more w names more ext scope sts ss f.small) g.small;
}

-- ---- what chooses, calls or raises
pub named-flat : (w : Whole) (old names : Names) (low mid high : ℕ) (scope : SymbolScope) (e : Tree) (t : Flat) (o : Option Symbol) (xs : Vec ℕ Global) (s : Symbol) → is_named e ≡ true → low ≤ mid
    → xs.items ≡ numbers_from mid (words (form_or_unit o)) → s ≡ fresh mid (form_or_unit o) → high ≡ mid + words (form_or_unit o)
    → IsFlatEnd w old names low mid scope e t o → IsFlatValue w old names low high scope e (Bind xs t ∷ []) s
named-flat w old names low mid high scope e t o xs s named le made is next f = record {
  same = named-value w names low mid high scope e t o xs s f.same le made is next;
  well = named-well w old names low mid high scope e t o (Bind xs t ∷ []) s xs refl made is (omega (arith, next)) f.same.formed f.well (named-literal e s named);
  narrow = subst (λ k. IsNarrowValue w names scope e (Bind xs t ∷ []) k) (sym is) (named-narrow w names scope low mid e t o mid xs f.same f.narrow made);
  small = subst (λ k. IsSmallValue w names scope e (Bind xs t ∷ []) k) (sym is) (named-small w names scope e t o mid xs (named-given e named) f.small);
}
