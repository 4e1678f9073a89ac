-- How large calls, exceptions and handlers are, and what unpacks and packs.
use Rattle.std.proofs.Common.{◌≡◌, ℕ, ◌+◌, ◌*◌, ◌≤◌, nat_lt, Bool, true, false, not, if◌then◌else◌, List, [], ◌++◌, refl, sym, ap, subst, ◌∙◌, length, Option, Some, None, option_map, slice_get, unwrap_or, arith}
use Rattle.std.specs.Option.{option_or}
use Rattle.std.proofs.lemmas.Bool.{not-false}
use Rattle.nv_base.specs.declared.term.Atom.{Atom}
use Rattle.nv_ast.specs.declared.token.Span.{Span}
use Rattle.nv_ast.specs.Tree.{NamedLayout, Tree, CallTree, UnpackTree, PackTree, RaiseTree, TryTree, Trees, PatternTrees, FunTree}
use Rattle.nv_ast.specs.Tests.{is_among, names_of, look_up, value_at}
use Rattle.nv_ast.specs.Outline.{OutlineTree, IsSound, outline, bit_fields}
use Rattle.nv_ast.specs.Types.{no_tys, words, words_of_value, packed_words, packed_ty, can_pack, form_of, type_of}
use Rattle.nv_ast.specs.Scope.{Signature, Context, inside, callable, bind_all, bind_raised}
use Rattle.nv_ast.specs.Typing.{type_at}
use Rattle.nv_ast.specs.Faults.{Expected, anything, same_as, faults, list_faults, node_faults, expected_arguments, params_of, unknown_function, not_in_tail, wrong_number, expected_packed, expected_unpacked}
use Rattle.nv_ast.specs.Sizes.{words_at, field_size, expanded_all}
use Rattle.nv_meaning.specs.Running.{exception_number}
use Rattle.flat_ir.specs.declared.flat.Flat.{Flat}
use Rattle.flat_ir.specs.declared.flat.Flat.TheVariants.{Call, Raise, Try'}
use Rattle.flat_ir.specs.declared.flat.FlatFun.{FlatFun}
use Rattle.flat_ir.specs.declared.spine.Step.{Step}
use Rattle.flat_ir.specs.Spine.{AreNodes}
use Rattle.nv_base.specs.Measures.{Bulk, nothing, a_label, a_jump, both, IsAtMost}
use Rattle.flat_ir.specs.Bulk.{Bulks, return_bulk, call_bulk, code_bulk}
use Rattle.nv_base.proofs.Measures.{most-none}
use Rattle.nv_flatten_values.specs.inner.Code.{form_or_unit}
use Rattle.nv_flatten_values.specs.inner.Symbols.{Symbol, Symbols, SymbolScope, form, operands, all_operands, all_fresh, vars_of, all_bound}
use Rattle.nv_flatten_values.specs.inner.Whole.{Whole, Stands, raised_or_none, result_of}
use Rattle.nv_flatten_values.specs.inner.Simulation.{Names, HasForm}
use Rattle.nv_flatten_values.specs.inner.Small.{of_parts, uses, value_rest, Sized, IsSmallValue, AreSmallValues, IsSmallEnd, AreFewLets, PacksFew}
use Rattle.nv_flatten_values.proofs.Fresh.{fresh-forms, all-bound-types}
use Rattle.nv_flatten_values.proofs.Sound.{value-has-type}
use Rattle.nv_flatten.proofs.WellTypes.{some-where, low-of, right-of}
use Rattle.nv_flatten_values.proofs.NarrowFacts.{counted-given, words-of-or-unit}
use Rattle.nv_flatten.proofs.NarrowCalls.{around, behind, handler_faults, handler-none, unknown-none}
use Rattle.nv_flatten.proofs.SmallBulks.{alone-most, jump-most, handled-most, lets-most, steps-then, code-then}
use Rattle.nv_flatten.proofs.SmallValues.{of_steps, size_of, behind_value}
use Rattle.nv_flatten.proofs.SmallEnds.{words-of-either}
use Rattle.nv_flatten_values.proofs.NoFaults.{among-known}
use Rattle.nv_flatten_values.proofs.CallArms.{get-append}
use Rattle.nv_flatten_values.proofs.Following.{stands-inside}
use Rattle.nv_flatten_values.proofs.WellBasics.{words-ty-words}
use Rattle.nv_ast.proofs.Faultless.{no_front, not_where}

-- ---- what a call counts beside its jump
returned : (last : Bool) (b : Bulk) (n : ℕ) → IsAtMost (both (both a_label a_jump) b) (of_parts n) → IsAtMost (both (return_bulk last) b) (of_parts n)
returned true b n p = p
returned false b n p = record { labels = omega (arith, p.labels); jumps = omega (arith, p.jumps); nodes = omega (arith, p.nodes); defined = omega (arith, p.defined); used = omega (arith, p.used) }

when : (b : Bool) (x : Bulk) (n : ℕ) → (b ≡ true → IsAtMost x (of_parts n)) → IsAtMost (if b then x else nothing) (of_parts n)
when true x n h = h refl
when false x n h = most-none (of_parts n)

call-most : (bulks : Bulks) (own : ℕ) (last : Bool) (o : Option FlatFun) (n : ℕ) → ((fun : FlatFun) → o ≡ Some fun → nat_lt fun.group own ≡ true → IsAtMost (both (both a_label a_jump) (bulks fun.group)) (of_parts n)) → IsAtMost (call_bulk bulks own last o) (of_parts n)
call-most bulks own last None n h = most-none (of_parts n)
call-most bulks own last (Some fun) n h = when (nat_lt fun.group own) (both (return_bulk last) (bulks fun.group)) n (λ earlier. returned last (bulks fun.group) n (h fun refl earlier))

module _ (w : Whole) (names : Names) (scope : SymbolScope) (sp : Span) (es : Trees) (ss : List Step) (us : Symbols) where
  arguments-small : (c : Sized w names) (p : Context) (wanted : List Expected) → AreSmallValues w names scope es ss us → Stands w c.own scope p → list_faults (inside p) wanted es ≡ [] → IsAtMost (of_steps c ss) (of_parts (expanded_all c.sizes p.known p.vars es))
  arguments-small c p wanted v stands none =
      alone-most (of_steps c ss) (uses (length (all_operands us))) (expanded_all c.sizes p.known p.vars es) 0 (expanded_all c.sizes p.known p.vars es) (v.by c (inside p) wanted (stands-inside w c.own scope p stands) none) (omega arith)

  pub raise-small : (x : List ℕ) (k : ℕ) (bs : _) (code : Flat) → AreSmallValues w names scope es ss us → AreNodes ss (Raise k bs) code → IsSmallEnd w names scope (RaiseTree sp x es) code None
  raise-small x k bs code v nodes = record {
    by = λ c p wanted stands none last.
        let args = expected_arguments (look_up x p.known.exceptions) es in
        jump-most (code_bulk c.funs c.bulks c.own last code) (of_steps c ss) nothing 0 (expanded_all c.sizes p.known p.vars es) 0 (size_of c p (RaiseTree sp x es)) (code-then c.funs c.bulks c.own last ss (Raise k bs) code nodes)
        (arguments-small c p args v stands (no_front (list_faults (inside p) args es) (node_faults p wanted (RaiseTree sp x es)) none)) (most-none (of_parts 0)) (omega arith);
  }

  pub call-small : (f : List ℕ) (i : ℕ) (bs : _) (code : Flat) (o : Option Symbol) → AreSmallValues w names scope es ss us → slice_get names i ≡ Some f → AreNodes ss (Call i bs) code → option_map form o ≡ result_of w f → IsSmallEnd w names scope (CallTree sp f es) code o
  call-small f i bs code o v named nodes result = record {
    by = λ c p wanted stands none last.
        let params = params_of p.known f in
        let args = expected_arguments params es in
        let known = some-where (look_up f (callable p.known)) 11 (no_front (unknown_function p.known f) (not_in_tail p f ++ wrong_number params es) (low-of p wanted (CallTree sp f es) none)) in
        let callable' = stands.part.functions f known.0 known.1 in
        let n = words_at p.known p.vars (CallTree sp f es) in
        let given : words (type_of w.declared.layouts callable'.fun.result) ≡ n = ap (λ (s : Signature). words s.result) callable'.signed ∙ sym (ap (λ q. words_of_value (option_map (λ (s : Signature). s.result) q)) known.1) in
        let many : words (form_or_unit o) ≡ n =
        words-of-or-unit o ∙ ap words_of_value result ∙ ap (λ q. words_of_value (option_map (λ (g : FunTree). type_of w.declared.layouts g.result) q)) callable'.found ∙ given in
        let named' : slice_get c.all i ≡ Some f = ap (λ l. slice_get l i) c.more.1 ∙ get-append names c.more.0 i f named in
        let size = value_at 0 f c.sizes in
        jump-most (code_bulk c.funs c.bulks c.own last code) (of_steps c ss) (call_bulk c.bulks c.own last (slice_get c.funs i)) (words (form_or_unit o)) (expanded_all c.sizes p.known p.vars es) size (size_of c p (CallTree sp f es))
        (code-then c.funs c.bulks c.own last ss (Call i bs) code nodes) (arguments-small c p args v stands (no_front (list_faults (inside p) args es) (node_faults p wanted (CallTree sp f es)) none))
        (call-most c.bulks c.own last (slice_get c.funs i) size (λ fun there earlier. c.calls.earlier i f callable'.fun fun named' callable'.found there earlier)) (omega arith);
  }

-- ---- a body with a handler
module _ (w : Whole) (names : Names) (scope : SymbolScope) (sp : Span) (a : Tree) (x : List ℕ) (ps : PatternTrees) (h : Tree) where
  handler-stands : (own : ℕ) (p : Context) (wanted : Expected) (n : ℕ) (inner : SymbolScope) → Stands w own scope p → faults p wanted (TryTree sp a x ps h) ≡ [] → inner ≡ all_bound ps (all_fresh n (raised_or_none w (exception_number w.declared.exceptions x))) scope
      → Stands w own inner (behind w names scope sp a x ps h p)
  handler-stands own p wanted n inner stands none is =
      let known = some-where (look_up x p.known.exceptions) 17 (unknown-none w names scope sp a x ps h p wanted none) in
      let raised : raised_or_none w (exception_number w.declared.exceptions x) ≡ known.0 = ap (λ o. unwrap_or o no_tys) (stands.part.exceptions x known.0 known.1) in
      let ts = raised_or_none w (exception_number w.declared.exceptions x) in
      record {
        part = stands.part;
        vars = ap (λ o. bind_raised ps o p.vars) known.1
            ∙ (ap (λ vars. bind_all ps known.0 vars) stands.vars
            ∙ (ap (λ us. bind_all ps us (vars_of scope)) (sym (fresh-forms n ts ∙ raised))
            ∙ (sym (all-bound-types ps (all_fresh n ts) scope) ∙ ap vars_of (sym is))));
      }

  pub try-small : (q r : _) (t u : Flat) (k n : ℕ) (xs : _) (inner : SymbolScope) (o o' : Option Symbol) → IsSmallEnd w names scope a t o → IsSmallEnd w names inner h u o'
      → inner ≡ all_bound ps (all_fresh n (raised_or_none w (exception_number w.declared.exceptions x))) scope
      → IsSmallEnd w names scope (TryTree sp a x ps h) (Try' q t k xs r u) (option_or o o')
  try-small q r t u k n xs inner o o' v e is = record {
    by = λ c p wanted stands none last.
        let behind' = behind w names scope sp a x ps h p in
        handled-most (code_bulk c.funs c.bulks c.own last t) (code_bulk c.funs c.bulks c.own last u) (words (form_or_unit o)) (words (form_or_unit o')) (words (form_or_unit (option_or o o'))) (size_of c p a) (size_of c behind' h) (size_of c p (TryTree sp a x ps h))
        (v.by c (inside p) anything (stands-inside w c.own scope p stands)
        (no_front (faults (inside p) anything a) (around w names scope sp a x ps h p ++ (handler_faults w names scope sp a x ps h p ++ node_faults p wanted (TryTree sp a x ps h))) none) last)
        (e.by c behind' (same_as (type_at p.known p.vars a)) (handler-stands c.own p wanted n inner stands none is) (handler-none w names scope sp a x ps h p wanted none) last) (words-of-either o o') (omega arith);
  }

-- ---- bits

-- the steps that pack, for their fields and words
packs-fit : (o : OutlineTree) (given : List Atom) (ts : List Step) (n : ℕ) (t : PacksFew o given ts) → packed_words o ≡ n → 2 * (3 * t.fields + 2 * t.across) + n ≤ length given + 2 * (1 + n + 4 * length (bit_fields 0 o))
packs-fit o given ts n t e = omega (arith, t.all, t.given, t.some, t.words, e)

packs-few : (o : OutlineTree) (given : List Atom) (ts : List Step) (n : ℕ) (t : PacksFew o given ts) → packed_words o ≡ n → 3 * t.fields + 2 * t.across ≤ 1 + n + 4 * length (bit_fields 0 o)
packs-few o given ts n t e = omega (arith, t.all, t.some, t.words, e)

module _ (w : Whole) (names : Names) (scope : SymbolScope) (sp : Span) (l : List ℕ) (a : Tree) (ss ts : List Step) (s r : Symbol) where
  -- the steps of the operand, and then steps that compute the words of the whole
  computed : (c : Sized w names) (p : Context) (e : Tree) (m k : ℕ) → IsAtMost (both (of_steps c ss) (behind_value a s)) (of_parts (size_of c p a)) → AreFewLets ts m → m ≤ k → 1 ≤ k → 2 * m + length (operands r) ≤ length (operands s) + 2 * k → k + size_of c p a ≤ size_of c p e
      → IsAtMost (both (of_steps c (ss ++ ts)) (behind_value e r)) (of_parts (size_of c p e))
  computed c p e m k v t few one less le =
      lets-most (of_steps c (ss ++ ts)) (of_steps c ss) (value_rest a) e t.count (length (operands s)) (length (operands r)) k (size_of c p a) (size_of c p e)
      (subst (λ b. IsAtMost (of_steps c (ss ++ ts)) (both (of_steps c ss) b)) (t.bulk c.funs c.bulks c.own) (steps-then c.funs c.bulks c.own ss ts)) v (omega (arith, t.few, few)) one (omega (arith, t.few, less)) le

  pub unpack-small : HasForm w scope (UnpackTree sp l a) r → IsSmallValue w names scope a ss s → AreFewLets ts (4 * length (bit_fields 0 (outline w.declared.layouts (NamedLayout l)))) → IsSmallValue w names scope (UnpackTree sp l a) (ss ++ ts) r
  unpack-small g v t = record {
    by = λ c p wanted stands none.
        let names' = names_of p.known.layouts in
        let found = among-known l p.known.layouts (not-false (is_among l names') (not_where (not (is_among l names')) 3 (low-of p wanted (UnpackTree sp l a) none))) in
        let known = stands.part.layouts l found.0 found.1 in
        let fields = 4 * length (bit_fields 0 (outline w.declared.layouts (NamedLayout l))) in
        let size : fields ≡ field_size (look_up l p.known.layouts) = ap (λ o. 4 * length (bit_fields 0 o)) known.0 ∙ sym (ap field_size found.1) in
        let n = words_at p.known p.vars (UnpackTree sp l a) in
        let many : length (operands r) ≡ n = counted-given w scope (UnpackTree sp l a) r g c.own p wanted stands none refl in
        let right = expected_packed (look_up l p.known.layouts) in
        computed c p (UnpackTree sp l a) fields (1 + n + fields) (v.by c (inside p) right (stands-inside w c.own scope p stands) (no_front (faults (inside p) right a) (node_faults p wanted (UnpackTree sp l a)) none)) t
        (omega arith) (omega arith) (omega arith) (omega arith);
  }

  pub pack-small : HasForm w scope a s → HasForm w scope (PackTree sp l a) r → IsSmallValue w names scope a ss s
      → (IsSound (outline w.declared.layouts (NamedLayout l)) → can_pack (form_of (outline w.declared.layouts (NamedLayout l))) (form s) ≡ true → PacksFew (outline w.declared.layouts (NamedLayout l)) (operands s) ts) → IsSmallValue w names scope (PackTree sp l a) (ss ++ ts) r
  pack-small f g v packs = record {
    by = λ c p wanted stands none.
        let names' = names_of p.known.layouts in
        let found = among-known l p.known.layouts (not-false (is_among l names') (not_where (not (is_among l names')) 3 (low-of p wanted (PackTree sp l a) none))) in
        let known = stands.part.layouts l found.0 found.1 in
        let o = outline w.declared.layouts (NamedLayout l) in
        let stands' = stands-inside w c.own scope p stands in
        let want = expected_unpacked (Some found.0) in
        let clean : faults (inside p) want a ≡ [] = subst (λ q. faults (inside p) (expected_unpacked q) a ≡ []) found.1 (no_front (faults (inside p) (expected_unpacked (look_up l p.known.layouts)) a) (node_faults p wanted (PackTree sp l a)) none) in
        let typed = value-has-type (inside p) want a refl clean in
        let formed : form s ≡ typed.0 = f.by c.own (inside p) want stands' clean typed.0 typed.1 in
        let right : can_pack (form_of found.0) (form s) ≡ true = subst (λ t. can_pack (form_of found.0) t ≡ true) (sym formed) (right-of (inside p) want a typed.0 clean typed.1) in
        let t : PacksFew o (operands s) ts = packs (subst IsSound (sym known.0) known.1) (subst (λ q. can_pack (form_of q) (form s) ≡ true) (sym known.0) right) in
        let n = words_at p.known p.vars (PackTree sp l a) in
        let size : 4 * length (bit_fields 0 o) ≡ field_size (look_up l p.known.layouts) = ap (λ q. 4 * length (bit_fields 0 q)) known.0 ∙ sym (ap field_size found.1) in
        let packed : packed_words o ≡ n = sym (ap (λ q. words_of_value (option_map packed_ty q)) found.1 ∙ (words-ty-words (packed_words found.0) ∙ ap packed_words (sym known.0))) in
        let many : length (operands r) ≡ n = counted-given w scope (PackTree sp l a) r g c.own p wanted stands none refl in
        let fit = packs-fit o (operands s) ts n t packed in
        computed c p (PackTree sp l a) (3 * t.fields + 2 * t.across) (1 + n + 4 * length (bit_fields 0 o)) (v.by c (inside p) want stands' clean) t.few (packs-few o (operands s) ts n t packed)
        (omega arith) (omega arith) (omega arith);
  }
