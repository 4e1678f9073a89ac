-- Code that ends with an expression's words is well formed where the parts are.
use Rattle.std.proofs.Common.{◌≡◌, ℕ, zero, suc, ◌+◌, ◌<◌, ◌≤◌, ◌==◌, Bool, true, false, nat_le, nat_lt, ◌&&◌, List, [], ◌∷◌, ◌++◌, refl, sym, ap, subst, ◌∙◌, Option, Some, None, unwrap_or, length, slice_get, arith}
use Rattle.std.proofs.lemmas.Bool.{and_parts, and_from, eq-eqb, le-leb, ltb-true, or_right}
use Rattle.nv_base.specs.declared.term.Atom.{Atom}
use Rattle.nv_base.specs.declared.term.Cmp.{Cmp}
use Rattle.nv_ast.specs.declared.token.Span.{Span}
use Rattle.nv_ast.specs.declared.tree.Op.{Op}
use Rattle.nv_ast.specs.declared.tree.Op.TheVariants.{Add, Sub, And, Or, Xor, Eq, Ne, Lt, Le, Gt, Ge, Both, Either}
use Rattle.nv_ast.specs.Tree.{Tree, NumberTree, TruthTree, VarTree, ParenTree, TupleTree, FieldsTree, DotTree, InvertTree, NegateTree, BinaryTree, ShiftTree, CallTree, UnpackTree, PackTree, RaiseTree, IfTree, TryTree, FetchTree, BlockTree, PatternTrees}
use Rattle.nv_ast.specs.Tests.{look_up}
use Rattle.nv_ast.specs.Types.{Ty, BoolTy, TupleTy, Tys, no_tys, words, total_words}
use Rattle.nv_ast.specs.Scope.{names_in_all, Context, inside, with_vars, bind_raised, bind_all, Known, Vars}
use Rattle.nv_ast.specs.Typing.{type_at, or_ty}
use Rattle.nv_ast.specs.Faults.{of_type, anything, same_as, faults, unknown_exception, variable_twice, wrong_number_of_patterns, not_all_fitting, raised_kinds, at_span}
use Rattle.nv_meaning.specs.Running.{exception_number}
use Rattle.flat_ir.specs.declared.flat.Flat.{Flat}
use Rattle.flat_ir.specs.declared.flat.Flat.TheVariants.{Let', Fetch', Store', If', Bind', Call, Raise, Try', Give}
use Rattle.flat_ir.specs.declared.flat.FlatFun.{FlatFun}
use Rattle.flat_ir.specs.declared.spine.Step.{Step}
use Rattle.flat_ir.specs.Spine.{AreNodes}
use Rattle.nv_base.specs.Access.{is_known, all_known, is_primitive, can_move, is_address}
use Rattle.flat_ir.specs.Formed.{can_call, is_formed, defined, raised}
use Rattle.nv_base.specs.Sets.{is_in}
use Rattle.nv_base.proofs.Sets.{in-append}
use Rattle.nv_flatten_values.specs.inner.Code.{is_given, is_comparison, variables}
use Rattle.nv_flatten_values.specs.inner.Symbols.{Symbol, SymbolScope, operands, all_operands, form, all_fresh, numbers_from, vars_of, all_bound}
use Rattle.nv_flatten_values.specs.inner.Simulation.{Names, Extends, HasForm}
use Rattle.nv_flatten_values.specs.inner.Whole.{Whole, Stands, raised_tys, raised_or_none}
use Rattle.nv_flatten_values.specs.inner.Well.{ScopeKnown, Rises, Knows, GivesWords, WellCode, IsWellValue, IsWellTest, IsWellEnd, GivesLiteral, IsChoice, AreCalled}
use Rattle.nv_flatten_values.proofs.Fresh.{fresh-forms, fresh-operands, all-bound-types, numbers-length}
use Rattle.nv_flatten_values.proofs.Sound.{wanted-type, given-has-type}
use Rattle.nv_flatten_values.proofs.WellBasics.{knows-variables, operands-words, rises-append, rises-numbers, raised-both, all-bound-known, scope-more}
use Rattle.nv_flatten.proofs.WellTypes.{some-where, right-of, same-words, given-inside, comparison-inside}
use Rattle.flat_ir.specs.Reached.{calls}
use Rattle.nv_flatten_values.proofs.WellNames.{called-none, called-then, code-called-more, choice-called}
use Rattle.nv_flatten_values.proofs.WellSteps.{steps-names, code-names, code-behind, code-choice}
use Rattle.nv_flatten_values.proofs.Following.{stands-inside}
use Rattle.nv_ast.proofs.Faultless.{no_front, no_rest, no_kinds}

-- ---- how many words
pub gives-words : (n : ℕ) (o : Option Ty) (t : Ty) → o ≡ Some t → GivesWords n o → words t ≡ n
gives-words n o t e g = subst (GivesWords n) e g

gives-at : (n m : ℕ) (o : Option Ty) (t : Ty) → o ≡ Some t → words t ≡ n → GivesWords n o
gives-at n m o t e h = subst (GivesWords n) (sym e) h

-- ---- code that may stand outside of tail position may stand in it
call-tail : (own given wanted : ℕ) (o : Option FlatFun) → can_call own false given wanted o ≡ true → can_call own true given wanted o ≡ true
call-tail own given wanted (Some f) e =
    let p = and_parts (length f.params.items == given) ((f.results == wanted) && nat_lt f.group own) e in
    let q = and_parts (f.results == wanted) (nat_lt f.group own) p.1 in
    let lt : f.group < own = ltb-true f.group own q.1 in
    and_from (length f.params.items == given) ((f.results == wanted) && nat_le f.group own) p.0 (and_from (f.results == wanted) (nat_le f.group own) q.0 (le-leb f.group own (omega arith)))
call-tail own given wanted None e = e

formed-in-tail : (funs : List FlatFun) (own n : ℕ) (known : List ℕ) (t : Flat) → is_formed funs own false n known t ≡ true → is_formed funs own true n known t ≡ true
formed-in-tail funs own n known (Let' x a q t) e =
    let p = and_parts (is_primitive known a) (is_formed funs own false n (x ∷ known) t) e in and_from (is_primitive known a) (is_formed funs own true n (x ∷ known) t) p.0 (formed-in-tail funs own n (x ∷ known) t p.1)
formed-in-tail funs own n known (Fetch' m xs a q t) e =
    let move = can_move m (length xs.items) in
    let address = is_address m a (length xs.items) in
    let rest = is_formed funs own false n (xs.items ++ known) t in
    let rest' = is_formed funs own true n (xs.items ++ known) t in
    let p1 = and_parts (is_known known a) (move && (address && rest)) e in
    let p2 = and_parts move (address && rest) p1.1 in
    let p3 = and_parts address rest p2.1 in
    and_from (is_known known a) (move && (address && rest')) p1.0 (and_from move (address && rest') p2.0 (and_from address rest' p3.0 (formed-in-tail funs own n (xs.items ++ known) t p3.1)))
formed-in-tail funs own n known (Store' m a bs q t) e =
    let all = all_known known bs.items in
    let move = can_move m (length bs.items) in
    let address = is_address m a (length bs.items) in
    let rest = is_formed funs own false n known t in
    let rest' = is_formed funs own true n known t in
    let p1 = and_parts (is_known known a) (all && (move && (address && rest))) e in
    let p2 = and_parts all (move && (address && rest)) p1.1 in
    let p3 = and_parts move (address && rest) p2.1 in
    let p4 = and_parts address rest p3.1 in
    and_from (is_known known a) (all && (move && (address && rest'))) p1.0
    (and_from all (move && (address && rest')) p2.0 (and_from move (address && rest') p3.0 (and_from address rest' p4.0 (formed-in-tail funs own n known t p4.1))))
formed-in-tail funs own n known (If' c a b q t r u) e =
    let ft = is_formed funs own false n known t in
    let fu = is_formed funs own false n known u in
    let ft' = is_formed funs own true n known t in
    let fu' = is_formed funs own true n known u in
    let p1 = and_parts (is_known known a) (is_known known b && (ft && fu)) e in
    let p2 = and_parts (is_known known b) (ft && fu) p1.1 in
    let p3 = and_parts ft fu p2.1 in
    and_from (is_known known a) (is_known known b && (ft' && fu')) p1.0 (and_from (is_known known b) (ft' && fu') p2.0 (and_from ft' fu' (formed-in-tail funs own n known t p3.0) (formed-in-tail funs own n known u p3.1)))
formed-in-tail funs own n known (Bind' xs q t r u) e =
    let ft = is_formed funs own false (length xs.items) known t in
    let p = and_parts ft (is_formed funs own false n (xs.items ++ known) u) e in
    and_from ft (is_formed funs own true n (xs.items ++ known) u) p.0 (formed-in-tail funs own n (xs.items ++ known) u p.1)
formed-in-tail funs own n known (Call f bs) e =
    let p = and_parts (all_known known bs.items) (can_call own false (length bs.items) n (slice_get funs f)) e in
    and_from (all_known known bs.items) (can_call own true (length bs.items) n (slice_get funs f)) p.0 (call-tail own (length bs.items) n (slice_get funs f) p.1)
formed-in-tail funs own n known (Raise k bs) e = e
formed-in-tail funs own n known (Try' q t k xs r u) e =
    let ft = is_formed funs own false n known t in
    let fu = is_formed funs own false n (xs.items ++ known) u in
    let fu' = is_formed funs own true n (xs.items ++ known) u in
    let p1 = and_parts ft (nat_le 1 k && fu) e in
    let p2 = and_parts (nat_le 1 k) fu p1.1 in
    and_from ft (nat_le 1 k && fu') p1.0 (and_from (nat_le 1 k) fu' p2.0 (formed-in-tail funs own n (xs.items ++ known) u p2.1))
formed-in-tail funs own n known (Give bs) e = e

formed-tail : (funs : List FlatFun) (own : ℕ) (tail : Bool) (n : ℕ) (known : List ℕ) (t : Flat) → is_formed funs own false n known t ≡ true → is_formed funs own tail n known t ≡ true
formed-tail funs own true n known t e = formed-in-tail funs own n known t e
formed-tail funs own false n known t e = e

code-tail : (w : Whole) (names : Names) (low high own : ℕ) (scope : SymbolScope) (tail : Bool) (o : Option Ty) (t : Flat) → WellCode w names low high own scope false o t → WellCode w names low high own scope tail o t
code-tail w names low high own scope tail o t a = record {
  formed = λ l known k n g. formed-tail l.funs own tail n known t (a.formed l known k n g);
  rises = a.rises;
  raises = a.raises;
}

-- ---- expressions whose value steps give
pub given-well : (w : Whole) (old names : Names) (low high : ℕ) (scope : SymbolScope) (e : Tree) (ss : List Step) (v : Symbol) (t : Flat) (bs : _) → AreNodes ss (Give bs) t → bs.items ≡ operands v → is_given e ≡ true → IsWellValue w old names low high scope e ss v
    → HasForm w scope e v → IsWellEnd w old names low high scope e t
given-well w old names low high scope e ss v t bs nodes same g a hf = record {
  well = λ own p wanted st f.
      let f' : faults (inside p) wanted e ≡ [] = sym (given-inside p wanted e g) ∙ f in
      let typed = given-has-type p wanted e f g in
      let formed : form v ≡ typed.0 = hf.by own p wanted st f typed.0 typed.1 in
      code-behind w names low high high own scope p.tail (type_at p.known p.vars e) ss (Knows (operands v)) (Give bs) t (a.well own (inside p) wanted (stands-inside w own scope p st) f' refl) nodes
      (λ l known k q n gw.
      let many : length bs.items ≡ n = ap length same ∙ operands-words v ∙ ap words formed ∙ gives-words n (type_at p.known p.vars e) typed.0 typed.1 gw in
      and_from (all_known known bs.items) (length bs.items == n) (subst (λ as'. all_known known as' ≡ true) (sym same) q) (eq-eqb (length bs.items) n many))
      (omega arith) (tt {0});
  called = code-called-more old names ss (Give bs) t nodes a.called;
}

-- a literal, as the one word of a truth
literal-well : (w : Whole) (names : Names) (low high own : ℕ) (scope : SymbolScope) (tail : Bool) (o : Option Ty) (t : Flat) → low ≤ high → o ≡ Some BoolTy → GivesLiteral t → WellCode w names low high own scope tail o t
literal-well w names low high own scope tail o t le typed h =
    subst (WellCode w names low high own scope tail o) (sym h.2)
    (record {
      formed = λ l known k n g.
          let many : length (h.0).items ≡ n = ap length h.3 ∙ gives-words n o BoolTy typed g in
          and_from (all_known known (h.0).items) (length (h.0).items == n) (subst (λ as'. all_known known as' ≡ true) (sym h.3) refl) (eq-eqb (length (h.0).items) n many);
      rises = le;
      raises = tt {0};
    })

comparison-op : (op : Op) (k : Known) (vars : Vars) (s : Span) (a b : Tree) → is_comparison (BinaryTree s op a b) ≡ true → type_at k vars (BinaryTree s op a b) ≡ Some BoolTy
comparison-op Add k vars s a b e = cc
comparison-op Sub k vars s a b e = cc
comparison-op And k vars s a b e = cc
comparison-op Or k vars s a b e = cc
comparison-op Xor k vars s a b e = cc
comparison-op Eq k vars s a b e = refl
comparison-op Ne k vars s a b e = refl
comparison-op Lt k vars s a b e = refl
comparison-op Le k vars s a b e = refl
comparison-op Gt k vars s a b e = refl
comparison-op Ge k vars s a b e = refl
comparison-op Both k vars s a b e = refl
comparison-op Either k vars s a b e = refl

comparison-type : (k : Known) (vars : Vars) (e : Tree) → is_comparison e ≡ true → type_at k vars e ≡ Some BoolTy
comparison-type k vars (BinaryTree s op a b) g = comparison-op op k vars s a b g
comparison-type k vars (NumberTree s n) g = cc
comparison-type k vars (TruthTree s b) g = cc
comparison-type k vars (VarTree s x) g = cc
comparison-type k vars (ParenTree s e) g = cc
comparison-type k vars (TupleTree s es) g = cc
comparison-type k vars (FieldsTree s es) g = cc
comparison-type k vars (DotTree s e x) g = cc
comparison-type k vars (InvertTree s e) g = cc
comparison-type k vars (NegateTree s e) g = cc
comparison-type k vars (ShiftTree s op e n) g = cc
comparison-type k vars (CallTree s f es) g = cc
comparison-type k vars (UnpackTree s l e) g = cc
comparison-type k vars (PackTree s l e) g = cc
comparison-type k vars (RaiseTree s x es) g = cc
comparison-type k vars (IfTree s c a b) g = cc
comparison-type k vars (TryTree s a x ps h) g = cc
comparison-type k vars (FetchTree s m n a) g = cc
comparison-type k vars (BlockTree s sts e) g = cc

pub decided-well : (w : Whole) (old names : Names) (low high : ℕ) (scope : SymbolScope) (e : Tree) (ss : List Step) (c : Cmp) (x y : Atom) (first second t : Flat) → is_comparison e ≡ true → IsWellTest w old names low high scope e ss x y
    → GivesLiteral first → GivesLiteral second → IsChoice ss c x y first second t → IsWellEnd w old names low high scope e t
decided-well w old names low high scope e ss c x y first second t g a one two h = record {
  well = λ own p wanted st f.
      let f' : faults (inside p) wanted e ≡ [] = sym (comparison-inside p wanted e g) ∙ f in
      let o = type_at p.known p.vars e in
      let typed = comparison-type p.known p.vars e g in
      code-choice w names low high high high own scope p.tail o o o ss c x y first second t (a.well own (inside p) wanted (stands-inside w own scope p st) f' refl)
      (literal-well w names high high own scope p.tail o first (omega arith) typed one) (literal-well w names high high own scope p.tail o second (omega arith) typed two) (λ n q. q) (λ n q. q) h;
  called = choice-called old names names names ss c x y first second t h a.called (called-none names (calls first)) (called-none names (calls second));
}

pub both-well : (w : Whole) (old names more : Names) (low mid high : ℕ) (scope : SymbolScope) (sp : Span) (a b : Tree) (ss : List Step) (c : Cmp) (x y : Atom) (first second t : Flat) → Extends names more → IsWellTest w old names low mid scope a ss x y
    → IsWellEnd w names more mid high scope b first → GivesLiteral second → IsChoice ss c x y first second t → IsWellEnd w old more low high scope (BinaryTree sp Both a b) t
both-well w old names more low mid high scope sp a b ss c x y first second t h test right fails choice = record {
  well = λ own p wanted st f.
      let want = of_type BoolTy in
      let st' = stands-inside w own scope p st in
      let rest = no_rest (faults (inside p) want a) _ f in
      let right-none : faults (inside p) want b ≡ [] = no_front (faults (inside p) want b) _ rest in
      let right' = code-tail w more mid high own scope p.tail (type_at p.known p.vars b) first (right.well own (inside p) want st' right-none) in
      code-choice w more low mid high high own scope p.tail (Some BoolTy) (type_at p.known p.vars b) (Some BoolTy) ss c x y first second t
      (steps-names w names more low mid own scope ss (Knows (x ∷ y ∷ [])) h (test.well own (inside p) want st' (no_front (faults (inside p) want a) _ f) refl)) right'
      (literal-well w more high high own scope p.tail (Some BoolTy) second (omega arith) refl fails) (λ n q. gives-at n n (type_at p.known p.vars b) BoolTy (wanted-type (inside p) BoolTy b right-none) q) (λ n q. q) choice;
  called = choice-called old names more more ss c x y first second t choice test.called right.called (called-none more (calls second));
}

pub either-well : (w : Whole) (old names more : Names) (low mid high : ℕ) (scope : SymbolScope) (sp : Span) (a b : Tree) (ss : List Step) (c : Cmp) (x y : Atom) (first second t : Flat) → Extends names more → IsWellTest w old names low mid scope a ss x y
    → GivesLiteral first → IsWellEnd w names more mid high scope b second → IsChoice ss c x y first second t → IsWellEnd w old more low high scope (BinaryTree sp Either a b) t
either-well w old names more low mid high scope sp a b ss c x y first second t h test holds right choice = record {
  well = λ own p wanted st f.
      let want = of_type BoolTy in
      let st' = stands-inside w own scope p st in
      let rest = no_rest (faults (inside p) want a) _ f in
      let right-none : faults (inside p) want b ≡ [] = no_front (faults (inside p) want b) _ rest in
      let right' = code-tail w more mid high own scope p.tail (type_at p.known p.vars b) second (right.well own (inside p) want st' right-none) in
      code-choice w more low mid mid high own scope p.tail (Some BoolTy) (Some BoolTy) (type_at p.known p.vars b) ss c x y first second t
      (steps-names w names more low mid own scope ss (Knows (x ∷ y ∷ [])) h (test.well own (inside p) want st' (no_front (faults (inside p) want a) _ f) refl))
      (literal-well w more mid mid own scope p.tail (Some BoolTy) first (omega arith) refl holds) right' (λ n q. q) (λ n q. gives-at n n (type_at p.known p.vars b) BoolTy (wanted-type (inside p) BoolTy b right-none) q) choice;
  called = choice-called old names names more ss c x y first second t choice test.called (called-none names (calls first)) right.called;
}

-- ---- choices and handlers: both parts have as many words
first-words : (n : ℕ) (a b : Option Ty) → GivesWords n (or_ty a b) → GivesWords n a
first-words n (Some t) b g = g
first-words n None b g = tt {0}

second-words : (n : ℕ) (a b : Option Ty) → ((t u : Ty) → a ≡ Some t → b ≡ Some u → words u ≡ words t) → GivesWords n (or_ty a b) → GivesWords n b
second-words n None b h g = g
second-words n (Some t) (Some u) h g = h t u refl refl ∙ g
second-words n (Some t) None h g = tt {0}

-- the second part has the type of the first
same-parts : (p : Context) (a : Option Ty) (e : Tree) → faults p (same_as a) e ≡ [] → (t u : Ty) → a ≡ Some t → type_at p.known p.vars e ≡ Some u → words u ≡ words t
same-parts p a e f t u ea eb =
    let f' : faults p (same_as (Some t)) e ≡ [] = subst (λ o. faults p (same_as o) e ≡ []) ea f in
    same-words u t (right-of p (same_as (Some t)) e u f' eb)

pub choose-well : (w : Whole) (old names next more : Names) (low mid after high : ℕ) (scope : SymbolScope) (sp : Span) (e a b : Tree) (ss : List Step) (c : Cmp) (x y : Atom) (first second t : Flat) → Extends names next → Extends next more
    → IsWellTest w old names low mid scope e ss x y → IsWellEnd w names next mid after scope a first → IsWellEnd w next more after high scope b second → IsChoice ss c x y first second t → IsWellEnd w old more low high scope (IfTree sp e a b) t
choose-well w old names next more low mid after high scope sp e a b ss c x y first second t h1 h2 test f1 f2 choice = record {
  well = λ own p wanted st f.
      let want = of_type BoolTy in
      let rest = no_rest (faults (inside p) want e) _ f in
      let none1 : faults p anything a ≡ [] = no_front (faults p anything a) _ rest in
      let ta = type_at p.known p.vars a in
      let tb = type_at p.known p.vars b in
      let none2 : faults p (same_as ta) b ≡ [] = no_front (faults p (same_as ta) b) _ (no_rest (faults p anything a) _ rest) in
      let test' = test.well own (inside p) want (stands-inside w own scope p st) (no_front (faults (inside p) want e) _ f) refl in
      code-choice w more low mid after high own scope p.tail (or_ty ta tb) ta tb ss c x y first second t
      (steps-names w next more low mid own scope ss (Knows (x ∷ y ∷ [])) h2 (steps-names w names next low mid own scope ss (Knows (x ∷ y ∷ [])) h1 test'))
      (code-names w next more mid after own scope p.tail ta first h2 (f1.well own p anything st none1)) (f2.well own p (same_as ta) st none2)
      (λ n g. first-words n ta tb g) (λ n g. second-words n ta tb (same-parts p ta b none2) g) choice;
  called = choice-called old names next more ss c x y first second t choice test.called f1.called f2.called;
}

-- an exception's number isn't 0
pub raised-from-one : (w : Whole) (k : ℕ) (ts : Tys) → raised_tys w k ≡ Some ts → nat_le 1 k ≡ true
raised-from-one w zero ts e = cc
raised-from-one w (suc k) ts e = le-leb 1 (suc k) (omega arith)

-- new variables for a tuple's parts
all-fresh-operands : (n : ℕ) (ts : Tys) → all_operands (all_fresh n ts) ≡ variables (numbers_from n (total_words ts))
all-fresh-operands n ts = fresh-operands n (TupleTy ts)

raised-found : (w : Whole) (k : ℕ) (ts : Tys) → raised_tys w k ≡ Some ts → raised_or_none w k ≡ ts
raised-found w k ts e = ap (λ o. unwrap_or o no_tys) e

pub try-well : (w : Whole) (old names more : Names) (low mid high : ℕ) (scope inner : SymbolScope) (sp : Span) (a : Tree) (x : List ℕ) (ps : PatternTrees) (e : Tree) (first second t : Flat) (k : ℕ) (q xs r : _) → t ≡ Try' q first k xs r second
    → k ≡ exception_number w.declared.exceptions x → xs.items ≡ numbers_from mid (total_words (raised_or_none w k)) → inner ≡ all_bound ps (all_fresh mid (raised_or_none w k)) scope → Extends names more
    → IsWellEnd w old names low mid scope a first → IsWellEnd w names more (mid + total_words (raised_or_none w k)) high inner e second → IsWellEnd w old more low high scope (TryTree sp a x ps e) t
try-well w old names more low mid high scope inner sp a x ps e first second t k q xs r node number same bound h f1 f2 = record {
  well = λ own p wanted st f.
      let st' = stands-inside w own scope p st in
      let none1 : faults (inside p) anything a ≡ [] = no_front (faults (inside p) anything a) _ f in
      let rest = no_rest (faults (inside p) anything a) _ f in
      let kinds : raised_kinds p.known x ps ≡ [] = no_kinds sp (raised_kinds p.known x ps) (no_front (at_span sp (raised_kinds p.known x ps)) _ rest) in
      let ex = look_up x p.known.exceptions in
      let unknown : unknown_exception p.known x ≡ [] = no_rest (not_all_fitting ps ex) (unknown_exception p.known x) (no_rest (wrong_number_of_patterns ex ps) _ (no_rest (variable_twice (names_in_all ps)) _ kinds)) in
      let found = some-where ex 17 unknown in
      let ts = found.0 in
      let raised-k : raised_tys w k ≡ Some ts = ap (raised_tys w) number ∙ st.part.exceptions x ts found.1 in
      let tys : raised_or_none w k ≡ ts = raised-found w k ts raised-k in
      let behind = with_vars (bind_raised ps ex p.vars) p in
      let ta = type_at p.known p.vars a in
      let tb = type_at p.known (bind_raised ps ex p.vars) e in
      let none2 : faults behind (same_as ta) e ≡ [] = no_front (faults behind (same_as ta) e) _ (no_rest (at_span sp (raised_kinds p.known x ps)) _ rest) in
      let vars : bind_raised ps ex p.vars ≡ vars_of inner =
      ap (λ o. bind_raised ps o p.vars) found.1 ∙ ap (bind_all ps ts) st.vars ∙ ap (λ u. bind_all ps u (vars_of scope)) (sym (fresh-forms mid (raised_or_none w k) ∙ tys)) ∙ sym (all-bound-types ps (all_fresh mid (raised_or_none w k)) scope)
      ∙ ap vars_of (sym bound)
      in
      let stands : Stands w own inner behind = record { part = st.part; vars = vars } in
      let first' = code-names w names more low mid own scope false ta first h (f1.well own (inside p) anything st' none1) in
      let second' = f2.well own behind (same_as ta) stands none2 in
      let n' = total_words (raised_or_none w k) in
      subst (WellCode w more low high own scope p.tail (or_ty ta tb)) (sym node)
      (record {
        formed = λ l known ks n g.
            let inner-known : ScopeKnown (xs.items ++ known) inner =
            subst (ScopeKnown (xs.items ++ known)) (sym bound)
            (all-bound-known (xs.items ++ known) ps (all_fresh mid (raised_or_none w k)) scope
            (subst (λ as'. all_known (xs.items ++ known) as' ≡ true) (sym (all-fresh-operands mid (raised_or_none w k)))
            (subst (λ l. all_known (l ++ known) (variables (numbers_from mid n')) ≡ true) (sym same) (knows-variables (numbers_from mid n') known)))
            (scope-more known (xs.items ++ known) scope (λ y y-in. in-append y xs.items known ∙ or_right (is_in y xs.items) (is_in y known) y-in) ks))
            in
            and_from (is_formed l.funs own false n known first) (nat_le 1 k && is_formed l.funs own p.tail n (xs.items ++ known) second) (first'.formed l known ks n (first-words n ta tb g))
            (and_from (nat_le 1 k) (is_formed l.funs own p.tail n (xs.items ++ known) second) (raised-from-one w k ts raised-k)
            (second'.formed l (xs.items ++ known) inner-known n (second-words n ta tb (same-parts behind ta e none2) g)));
        rises = rises-append low mid high (defined first) (xs.items ++ defined second) first'.rises
            (rises-append mid (mid + n') high xs.items (defined second) (subst (λ l. Rises mid l (mid + n')) (sym same) (rises-numbers mid n' (mid + n') (omega arith))) second'.rises);
        raises = raised-both w (raised first) ((k, length xs.items) ∷ raised second) first'.raises
            ((ts, raised-k, ap length same ∙ numbers-length mid n' ∙ ap total_words tys), second'.raises);
      });
  called = subst (λ u. AreCalled old more (calls u)) (sym node) (called-then old names more (calls first) (calls second) f1.called f2.called);
}
