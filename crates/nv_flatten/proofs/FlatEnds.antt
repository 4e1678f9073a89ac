-- What the walk says of conditions and of code, an arm at a time.
use Rattle.std.proofs.Common.{◌≡◌, ◌∙◌, refl, ap, sym, subst, ℕ, ◌+◌, ◌≤◌, Bool, true, false, not, if◌then◌else◌, List, [], ◌∷◌, ◌++◌, Option, Some, None, option_map, Vec, Global, slice_get}
use Rattle.std.specs.Option.{option_or}
use Rattle.nv_base.specs.declared.term.Atom.{Atom}
use Rattle.nv_base.specs.declared.term.Atom.TheVariants.{Lit}
use Rattle.nv_base.specs.declared.term.Cmp.{Cmp}
use Rattle.nv_base.specs.declared.term.Cmp.TheVariants as cmp
use Rattle.nv_base.specs.Words.{Env, atom_words, assigned_all, compares}
use Rattle.nv_ast.specs.declared.token.Span.{Span}
use Rattle.nv_ast.specs.declared.tree.Op.{Op}
use Rattle.nv_ast.specs.declared.tree.Op.TheVariants.{Both, Either}
use Rattle.nv_ast.specs.Tree.{Tree, Trees, StatementTrees, PatternTrees, ParenTree, NegateTree, BinaryTree, CallTree, RaiseTree, IfTree, TryTree, BlockTree}
use Rattle.nv_ast.specs.Types.{total_words}
use Rattle.nv_meaning.specs.Running.{exception_number}
use Rattle.flat_ir.specs.Running as flat
use Rattle.flat_ir.specs.Meaning as code
use Rattle.flat_ir.specs.Spine.{steps_do, IsJoined}
use Rattle.nv_base.specs.Sets.{all_vars}
use Rattle.flat_ir.specs.declared.flat.Flat.{Flat}
use Rattle.flat_ir.specs.declared.flat.Flat.TheVariants.{Call, Raise, Give, Try'}
use Rattle.flat_ir.specs.declared.spine.Step.{Step}
use Rattle.nv_flatten_values.specs.inner.Code.{chosen, comparison_of, is_given, is_comparison}
use Rattle.nv_flatten_values.specs.inner.Symbols.{Symbol, Symbols, SymbolScope, Truth, word_operand, truth_operand, operands, all_operands, form, numbers_from, all_fresh, all_bound}
use Rattle.nv_flatten_values.specs.inner.Whole.{Whole, result_of, raised_or_none}
use Rattle.nv_flatten_values.specs.inner.Simulation.{Names, Extends}
use Rattle.nv_flatten_values.specs.inner.Well.{GivesLiteral, IsChoice, AreCalled, IsWellEnd}
use Rattle.nv_flatten_values.specs.inner.Narrow.{IsWithin, IsNarrowEnd}
use Rattle.nv_flatten.specs.inner.Flat.{IsFlatValue, AreFlatValues, IsFlatStated, IsFlatTest, IsFlatEnd}
use Rattle.nv_flatten.proofs.TestArms.{truth-test, paren-test, negate-test, compare-test}
use Rattle.nv_flatten.proofs.EndArms.{paren-end, given-end, decided-end, both-end, either-end, choose-end}
use Rattle.nv_flatten_values.proofs.CallArms.{call-end, raise-end, block-end}
use Rattle.nv_flatten.proofs.TryArm.{try-end}
use Rattle.nv_flatten.proofs.WellLists.{paren-test-well, negate-test-well, truth-test-well, compare-well}
use Rattle.nv_flatten.proofs.WellEnds.{given-well, decided-well, both-well, either-well, choose-well, try-well}
use Rattle.nv_flatten.proofs.WellCalls.{call-well, raise-well, paren-end-well, block-end-well}
use Rattle.nv_flatten.proofs.NarrowValues.{value-narrow-more, values-narrow-more, test-narrow-more, end-narrow-more}
use Rattle.nv_flatten.proofs.NarrowLists.{stated-narrow-more, block-end-narrow}
use Rattle.nv_flatten.proofs.NarrowEnds.{truth-test-narrow, paren-test-narrow, negate-test-narrow, compare-narrow, given-narrow, paren-end-narrow, decided-narrow, both-narrow, either-narrow, choose-narrow}
use Rattle.nv_flatten.proofs.NarrowCalls.{raise-narrow, call-narrow, try-narrow}
use Rattle.nv_flatten.proofs.NarrowViews.{two-operands, operands-turned}
use Rattle.nv_flatten_values.specs.inner.Small.{IsSmallEnd}
use Rattle.nv_flatten.proofs.SmallValues.{value-small-more, values-small-more, stated-small-more, test-small-more, end-small-more}
use Rattle.nv_flatten.proofs.SmallLists.{block-end-small}
use Rattle.nv_flatten.proofs.SmallEnds.{truth-test-small, paren-test-small, negate-test-small, compare-small, given-small, paren-end-small, decided-small, both-small, either-small, choose-small}
use Rattle.nv_flatten.proofs.SmallCalls.{raise-small, call-small, try-small}

-- ---- conditions
pub paren-test-flat : (w : Whole) (old names : Names) (low high : ℕ) (scope : SymbolScope) (sp : Span) (e : Tree) (ss : List Step) (c : Cmp) (x y : Atom) → IsFlatTest w old names low high scope e ss c x y → IsFlatTest w old names low high scope (ParenTree sp e) ss c x y
paren-test-flat w old names low high scope sp e ss c x y f = record {
  same = paren-test w names low high scope sp e ss c x y f.same;
  well = paren-test-well w old names low high scope sp e ss x y f.well;
  narrow = paren-test-narrow w names scope sp e ss x y f.narrow;
  small = paren-test-small w names scope sp e ss f.small;
}

pub negate-test-flat : (w : Whole) (old names : Names) (low high : ℕ) (scope : SymbolScope) (sp : Span) (e : Tree) (ss : List Step) (c d : Cmp) (x y : Atom) → ((i j : ℕ) → compares d i j ≡ not (compares c i j)) → IsFlatTest w old names low high scope e ss c x y
    → IsFlatTest w old names low high scope (NegateTree sp e) ss d x y
negate-test-flat w old names low high scope sp e ss c d x y turned f = record {
  same = negate-test w names low high scope sp e ss c d x y turned f.same;
  well = negate-test-well w old names low high scope sp e ss x y f.well;
  narrow = negate-test-narrow w names scope sp e ss x y f.narrow;
  small = negate-test-small w names scope sp e ss f.small;
}

-- what is no comparison, by its value
pub truth-test-flat : (w : Whole) (old names : Names) (low high : ℕ) (scope : SymbolScope) (e : Tree) (ss : List Step) (s : Symbol) → is_comparison e ≡ false → IsFlatValue w old names low high scope e ss s → IsFlatTest w old names low high scope e ss cmp.Ne (truth_operand s) (Lit 0)
truth-test-flat w old names low high scope e ss s other f = record {
  same = truth-test w names low high scope e ss s f.same;
  well = truth-test-well w old names low high scope e ss s f.well;
  narrow = truth-test-narrow w names scope e ss s 0 f.narrow;
  small = truth-test-small w names scope e ss s other f.small;
}

-- the operands as they stand, or turned
either-way : (s u : Symbol) (swapped : Bool) → IsWithin (all_vars ((if swapped then word_operand u else word_operand s) ∷ (if swapped then word_operand s else word_operand u) ∷ [])) (all_vars (operands s) ++ all_vars (operands u))
either-way s u true = operands-turned s u
either-way s u false = two-operands s u

compared : (w : Whole) (old names more : Names) (low mid high : ℕ) (scope : SymbolScope) (sp : Span) (op : Op) (a b : Tree) (ss ts : List Step) (s u : Symbol) (c : Cmp) (swapped : Bool) → comparison_of op ≡ Some (c, swapped) → Extends names more → low ≤ mid → mid ≤ high
    → IsFlatValue w old names low mid scope a ss s → IsFlatValue w names more mid high scope b ts u
    → IsFlatTest w old more low high scope (BinaryTree sp op a b) (ss ++ ts) c (if swapped then word_operand u else word_operand s) (if swapped then word_operand s else word_operand u)
compared w old names more low mid high scope sp op a b ss ts s u c swapped found ext le le' f g = record {
  same = compare-test w names more low mid high scope a b ss ts s u f.same g.same ext le le' sp op c swapped found;
  well = compare-well w old names more low mid high scope sp op a b ss ts s u (if swapped then word_operand u else word_operand s) (if swapped then word_operand s else word_operand u) swapped ext refl refl f.well g.well;
  narrow = compare-narrow w more scope sp op a b ss ts s u (if swapped then word_operand u else word_operand s) (if swapped then word_operand s else word_operand u) f.same.formed (value-narrow-more w names more ext scope a ss s f.narrow) g.narrow (either-way s u swapped);
  small = compare-small w more scope sp op a b ss ts s u (value-small-more w names more ext scope a ss s f.small) g.small;
}

-- the pair of operands that the code chooses
pub compare-flat : (w : Whole) (old names more : Names) (low mid high : ℕ) (scope : SymbolScope) (sp : Span) (op : Op) (a b : Tree) (ss ts us : List Step) (s u : Symbol) (c : Cmp) (swapped : Bool) (x y : Atom) (pair : Atom × Atom) (way : Bool)
    → swapped ≡ way → pair ≡ (if way then (y, x) else (x, y)) → x ≡ word_operand s → y ≡ word_operand u → us ≡ ss ++ ts → comparison_of op ≡ Some (c, swapped) → Extends names more → low ≤ mid → mid ≤ high
    → IsFlatValue w old names low mid scope a ss s → IsFlatValue w names more mid high scope b ts u → IsFlatTest w old more low high scope (BinaryTree sp op a b) us c pair.0 pair.1
compare-flat w old names more low mid high scope sp op a b ss ts us s u c swapped x y pair true way is ex ey steps found ext le le' f g =
    subst (λ (q : Atom × Atom). IsFlatTest w old more low high scope (BinaryTree sp op a b) us c q.0 q.1) (sym is)
    (subst (λ l. IsFlatTest w old more low high scope (BinaryTree sp op a b) l c y x) (sym steps)
    (subst (λ k. IsFlatTest w old more low high scope (BinaryTree sp op a b) (ss ++ ts) c k x) (sym ey)
    (subst (λ k. IsFlatTest w old more low high scope (BinaryTree sp op a b) (ss ++ ts) c (word_operand u) k) (sym ex)
    (compared w old names more low mid high scope sp op a b ss ts s u c true (found ∙ ap (λ z. Some (c, z)) way) ext le le' f g))))
compare-flat w old names more low mid high scope sp op a b ss ts us s u c swapped x y pair false way is ex ey steps found ext le le' f g =
    subst (λ (q : Atom × Atom). IsFlatTest w old more low high scope (BinaryTree sp op a b) us c q.0 q.1) (sym is)
    (subst (λ l. IsFlatTest w old more low high scope (BinaryTree sp op a b) l c x y) (sym steps)
    (subst (λ k. IsFlatTest w old more low high scope (BinaryTree sp op a b) (ss ++ ts) c k y) (sym ex)
    (subst (λ k. IsFlatTest w old more low high scope (BinaryTree sp op a b) (ss ++ ts) c (word_operand s) k) (sym ey)
    (compared w old names more low mid high scope sp op a b ss ts s u c false (found ∙ ap (λ z. Some (c, z)) way) ext le le' f g))))

-- ---- code
pub paren-end-flat : (w : Whole) (old names : Names) (low high : ℕ) (scope : SymbolScope) (sp : Span) (e : Tree) (t : Flat) (o : Option Symbol) → IsFlatEnd w old names low high scope e t o → IsFlatEnd w old names low high scope (ParenTree sp e) t o
paren-end-flat w old names low high scope sp e t o f = record {
  same = paren-end w names low high scope sp e t o f.same;
  well = paren-end-well w old names low high scope sp e t f.well;
  narrow = paren-end-narrow w names scope sp e t f.narrow;
  small = paren-end-small w names scope sp e t o f.small;
}

pub given-flat : (w : Whole) (old names : Names) (low high : ℕ) (scope : SymbolScope) (e : Tree) (ss : List Step) (s : Symbol) (ws : Vec Atom Global) (t : Flat) → is_given e ≡ true → ws.items ≡ operands s → IsJoined ss (Give ws) t → IsFlatValue w old names low high scope e ss s
    → IsFlatEnd w old names low high scope e t (Some s)
given-flat w old names low high scope e ss s ws t given is joined f = record {
  same = given-end w names low high scope e ss s ws t f.same given is joined;
  well = given-well w old names low high scope e ss s t ws joined.nodes is given f.well f.same.formed;
  narrow = given-narrow w names scope e ss s ws t given f.same.formed f.narrow is joined.nodes;
  small = given-small w names scope e ss s ws t given f.small joined.nodes;
}

-- code that gives this truth, and code that chooses between two parts
pub record IsTruth (t : Flat) (b : Bool) : Type 0 where
  pub gives : (call : code.Calls) (env : Env) (now : flat.Running) → code.does call t env now ≡ flat.Gives ((if b then 1 else 0) ∷ []) now
  pub literal : GivesLiteral t

pub record IsBranch (ss : List Step) (c : Cmp) (x y : Atom) (first second t : Flat) : Type 0 where
  pub chooses : (call : code.Calls) → code.does call t ≡ steps_do call ss (chosen c x y (code.does call first) (code.does call second))
  pub nodes : IsChoice ss c x y first second t

pub decided-flat : (w : Whole) (old names : Names) (low high : ℕ) (scope : SymbolScope) (e : Tree) (ss : List Step) (c : Cmp) (x y : Atom) (first second t : Flat) → is_comparison e ≡ true → IsTruth first true → IsTruth second false → IsBranch ss c x y first second t
    → IsFlatTest w old names low high scope e ss c x y → IsFlatEnd w old names low high scope e t (Some (Truth (Lit 0)))
decided-flat w old names low high scope e ss c x y first second t comparison first-is second-is branch f = record {
  same = decided-end w names low high scope e ss c x y first second t f.same comparison first-is.gives second-is.gives branch.chooses;
  well = decided-well w old names low high scope e ss c x y first second t comparison f.well first-is.literal second-is.literal branch.nodes;
  narrow = decided-narrow w names scope e ss c x y branch.nodes.0 branch.nodes.1 first second t comparison f.narrow first-is.literal second-is.literal branch.nodes.2;
  small = decided-small w names scope e ss c x y branch.nodes.0 branch.nodes.1 first second t (Lit 0) comparison f.small first-is.literal second-is.literal branch.nodes.2;
}

pub both-flat : (w : Whole) (old names more : Names) (low mid high : ℕ) (scope : SymbolScope) (sp : Span) (a b : Tree) (ss : List Step) (c : Cmp) (x y : Atom) (first second t : Flat) (o : Option Symbol) → Extends names more → low ≤ mid → IsTruth second false → IsBranch ss c x y first second t
    → IsFlatTest w old names low mid scope a ss c x y → IsFlatEnd w names more mid high scope b first o → IsFlatEnd w old more low high scope (BinaryTree sp Both a b) t (Some (Truth (Lit 0)))
both-flat w old names more low mid high scope sp a b ss c x y first second t o ext le second-is branch f g = record {
  same = both-end w names more low mid high scope sp a b ss c x y first second t o f.same g.same ext le second-is.gives branch.chooses;
  well = both-well w old names more low mid high scope sp a b ss c x y first second t ext f.well g.well second-is.literal branch.nodes;
  narrow = both-narrow w more scope sp Both a b ss c x y branch.nodes.0 branch.nodes.1 first second t (test-narrow-more w names more ext scope a ss x y f.narrow) g.narrow second-is.literal branch.nodes.2;
  small = both-small w more scope sp Both a b ss c x y branch.nodes.0 branch.nodes.1 first second t o (Lit 0) (test-small-more w names more ext scope a ss f.small) g.small second-is.literal branch.nodes.2;
}

pub either-flat : (w : Whole) (old names more : Names) (low mid high : ℕ) (scope : SymbolScope) (sp : Span) (a b : Tree) (ss : List Step) (c : Cmp) (x y : Atom) (first second t : Flat) (o : Option Symbol) → Extends names more → low ≤ mid → IsTruth first true → IsBranch ss c x y first second t
    → IsFlatTest w old names low mid scope a ss c x y → IsFlatEnd w names more mid high scope b second o → IsFlatEnd w old more low high scope (BinaryTree sp Either a b) t (Some (Truth (Lit 0)))
either-flat w old names more low mid high scope sp a b ss c x y first second t o ext le first-is branch f g = record {
  same = either-end w names more low mid high scope sp a b ss c x y first second t o f.same g.same ext le first-is.gives branch.chooses;
  well = either-well w old names more low mid high scope sp a b ss c x y first second t ext f.well first-is.literal g.well branch.nodes;
  narrow = either-narrow w more scope sp Either a b ss c x y branch.nodes.0 branch.nodes.1 first second t (test-narrow-more w names more ext scope a ss x y f.narrow) first-is.literal g.narrow branch.nodes.2;
  small = either-small w more scope sp Either a b ss c x y branch.nodes.0 branch.nodes.1 first second t o (Lit 0) (test-small-more w names more ext scope a ss f.small) first-is.literal g.small branch.nodes.2;
}

pub choose-flat : (w : Whole) (old names next more : Names) (low mid after high : ℕ) (scope : SymbolScope) (sp : Span) (e a b : Tree) (ss : List Step) (c : Cmp) (x y : Atom) (first second t : Flat) (o u : Option Symbol) → Extends names next → Extends next more → low ≤ mid → mid ≤ after
    → IsBranch ss c x y first second t → IsFlatTest w old names low mid scope e ss c x y → IsFlatEnd w names next mid after scope a first o → IsFlatEnd w next more after high scope b second u
    → IsFlatEnd w old more low high scope (IfTree sp e a b) t (option_or o u)
choose-flat w old names next more low mid after high scope sp e a b ss c x y first second t o u ext ext' le le' branch f g h = record {
  same = choose-end w names next more low mid after high scope sp e a b ss c x y first second t o u f.same g.same h.same ext ext' le le' branch.chooses;
  well = choose-well w old names next more low mid after high scope sp e a b ss c x y first second t ext ext' f.well g.well h.well branch.nodes;
  narrow = choose-narrow w more scope sp e a b ss c x y branch.nodes.0 branch.nodes.1 first second t (test-narrow-more w next more ext' scope e ss x y (test-narrow-more w names next ext scope e ss x y f.narrow)) (end-narrow-more w next more ext' scope a first g.narrow) h.narrow branch.nodes.2;
  small = choose-small w more scope sp e a b ss c x y branch.nodes.0 branch.nodes.1 first second t o u (test-small-more w next more ext' scope e ss (test-small-more w names next ext scope e ss f.small)) (end-small-more w next more ext' scope a first o g.small) h.small branch.nodes.2;
}

pub try-flat : (w : Whole) (old names more : Names) (low mid mid' high : ℕ) (scope inner : SymbolScope) (sp : Span) (a : Tree) (x : List ℕ) (ps : PatternTrees) (h : Tree) (first second t : Flat) (o u : Option Symbol) (k : ℕ) (vs : Symbols) (q xs r : _) → t ≡ Try' q first k xs r second
    → k ≡ exception_number w.declared.exceptions x → vs ≡ all_fresh mid (raised_or_none w k) → mid' ≡ mid + total_words (raised_or_none w k) → inner ≡ all_bound ps vs scope → xs.items ≡ numbers_from mid (total_words (raised_or_none w k))
    → Extends names more → low ≤ mid → IsFlatEnd w old names low mid scope a first o → IsFlatEnd w names more mid' high inner h second u → IsFlatEnd w old more low high scope (TryTree sp a x ps h) t (option_or o u)
try-flat w old names more low mid mid' high scope inner sp a x ps h first second t o u k vs q xs r made is fresh later binds vars ext le f g = record {
  same = try-end w names more low mid mid' high scope inner sp a x ps h first second t o u k vs f.same g.same ext le is fresh later binds
      (λ call env now.
      ap (λ z. code.does call z env now) made
      ∙ ap (λ l. flat.handled k (λ ws next. code.does call second (assigned_all env l ws) next) (code.does call first env now)) vars);
  well = try-well w old names more low mid high scope inner sp a x ps h first second t k q xs r made is vars (binds ∙ ap (λ ss. all_bound ps ss scope) fresh) ext f.well (subst (λ i. IsWellEnd w names more i high inner h second) later g.well);
  narrow = subst (λ z. IsNarrowEnd w more scope (TryTree sp a x ps h) z) (sym made)
      (try-narrow w more scope sp a x ps h q r first second k mid xs inner (end-narrow-more w names more ext scope a first f.narrow) g.narrow
      (binds ∙ ap (λ ss. all_bound ps ss scope) (fresh ∙ ap (λ i. all_fresh mid (raised_or_none w i)) is)) (vars ∙ ap (λ i. numbers_from mid (total_words (raised_or_none w i))) is));
  small = subst (λ z. IsSmallEnd w more scope (TryTree sp a x ps h) z (option_or o u)) (sym made)
      (try-small w more scope sp a x ps h q r first second k mid xs inner o u (end-small-more w names more ext scope a first o f.small) g.small
      (binds ∙ ap (λ ss. all_bound ps ss scope) (fresh ∙ ap (λ i. all_fresh mid (raised_or_none w i)) is)));
}

pub call-flat : (w : Whole) (old names more : Names) (low high : ℕ) (scope : SymbolScope) (sp : Span) (f : List ℕ) (es : Trees) (ss : List Step) (us : Symbols) (i : ℕ) (ws : Vec Atom Global) (t : Flat) (o : Option Symbol) → slice_get more i ≡ Some f → AreCalled names more (i ∷ []) → Extends names more
    → ws.items ≡ all_operands us → IsJoined ss (Call i ws) t → option_map form o ≡ result_of w f → AreFlatValues w old names low high scope es ss us → IsFlatEnd w old more low high scope (CallTree sp f es) t o
call-flat w old names more low high scope sp f es ss us i ws t o named called ext is joined result v = record {
  same = call-end w names more low high scope sp f es ss us i ws t o v.same ext named is joined result;
  well = call-well w old names more low high scope sp f es ss us t i ws joined.nodes is named called ext v.well v.same.formed;
  narrow = call-narrow w more names low high scope sp es ss us f i ws t v.same (values-narrow-more w names more ext scope es ss us v.narrow) named is joined.nodes;
  small = call-small w more scope sp es ss us f i ws t o (values-small-more w names more ext scope es ss us v.small) named joined.nodes result;
}

pub raise-flat : (w : Whole) (old names : Names) (low high : ℕ) (scope : SymbolScope) (sp : Span) (x : List ℕ) (es : Trees) (ss : List Step) (us : Symbols) (k : ℕ) (ws : _) (t : Flat) → IsJoined ss (Raise k ws) t → k ≡ exception_number w.declared.exceptions x → ws.items ≡ all_operands us
    → AreFlatValues w old names low high scope es ss us → IsFlatEnd w old names low high scope (RaiseTree sp x es) t None
raise-flat w old names low high scope sp x es ss us k ws t joined number is v = record {
  same = raise-end w names low high scope sp x es ss us k (Raise k ws) t v.same number (λ call env now. ap (λ l. flat.Raises k (atom_words env l) now) is) joined;
  well = raise-well w old names low high scope sp x es ss us t k ws joined.nodes is number v.well v.same.formed;
  narrow = raise-narrow w names names low high scope sp es ss us x k ws t v.same v.narrow is joined.nodes;
  small = raise-small w names scope sp es ss us x k ws t v.small joined.nodes;
}

pub block-end-flat : (w : Whole) (old names more : Names) (low mid high : ℕ) (scope inner : SymbolScope) (sp : Span) (sts : StatementTrees) (a : Tree) (ss : List Step) (last t : Flat) (o : Option Symbol) → Extends names more → IsJoined ss last t
    → IsFlatStated w old names low mid scope sts ss inner → IsFlatEnd w names more mid high inner a last o → IsFlatEnd w old more low high scope (BlockTree sp sts a) t o
block-end-flat w old names more low mid high scope inner sp sts a ss last t o ext joined f g = record {
  same = block-end w names more low mid high scope inner sp sts a ss last t o f.same g.same ext joined;
  well = block-end-well w old names more low mid high scope inner sp sts a ss last t ext joined.nodes f.well f.same.formed g.well;
  narrow = block-end-narrow w more names low mid scope inner sp sts a ss last t f.same (stated-narrow-more w names more ext scope sts ss inner f.narrow) g.narrow joined.nodes;
  small = block-end-small w more names low mid scope inner sp sts a ss last t o f.same (stated-small-more w names more ext scope sts ss f.small) g.small joined.nodes;
}
