-- The rules of declarations, and what they are read by.
use Rattle.std.proofs.Common.{◌≡◌, refl, sym, ◌∙◌, ap, subst, ℕ, zero, suc, ◌≤◌, max, List, [], ◌∷◌, arith, Bool, true, false, length}
use Rattle.std.specs.Prelude.{◌==◌}
use Rattle.nv_ast.specs.declared.token.Span.{Span}
use Rattle.nv_ast.specs.declared.token.Token.{Token}
use Rattle.nv_ast.specs.declared.token.Sort.TheVariants.{Key}
use Rattle.nv_ast.specs.Tokens.{to, a_name, a_number, key_layout, key_exception, key_fun, key_and, sign_is, sign_colon, sign_semicolon, sign_open_brace, sign_close_brace, sign_open_bracket, sign_close_bracket}
use Rattle.nv_ast.specs.Tree.{NumberTree, no_types, FunTree, DeclTree, LayoutDecl, ExceptionDecl, GroupDecl}
use Rattle.nv_ast.specs.Height.{height, pattern_inside, type_height, highest_named_type, fun_height, highest_fun, decl_height, highest_decl}
use Rattle.nv_ast.specs.Grammar.{IsLayout, IsTypes, empty_types, IsType, IsParams, IsExpr, tail_alone, operators, una, chain, no_operator, post, no_dot, number, IsLevel, IsFun, function, IsMoreFuns, no_fun, next_fun, IsDecl, layout_decl, exception_decl, group, IsDecls, no_decl, next_decl}
use Rattle.nv_text_parser.specs.inner.Cursor.{NotKey}
use Rattle.nv_text_parser.specs.inner.Failing.{Bound, NoBound, AtMost, Within, Same, Alone, part_of, bound_of, Phrases, Anything, Ahead, ASign, AName, Then, Many, none, next, SameFront, Completes, StartsNone}
use Rattle.nv_text_parser.specs.inner.Phrases.{AType, SomeTypes, SomeParams, ALayout, AFun, ADecl, NextFun, AtEnd}
use Rattle.nv_text_parser.specs.inner.ExprPhrases.{AnExpr, IsLow}
use Rattle.nv_text_parser.proofs.Bounds.{within_max, max_left, max_right, within_zero}
use Rattle.nv_text_parser.proofs.Follow.{Above, decl_front}
use Rattle.nv_text_parser.proofs.Sequence.{front_same, same_first, Fills, Carries, Rule, Listed, one_none, one_fills, one_carries, then_fills, then_carries, carries_anything, sign_ahead, not_sort}
use Rattle.nv_text_parser.proofs.LayoutRules.{layout_fills}
use Rattle.nv_text_parser.proofs.TypeRules.{type_fills, types_fills, params_fills}

no_span : Span
no_span = record { first = 0; after = 0 }

-- ---- f

-- a number is an expression
number_level : (l : ℕ) (k : List Token) → IsLevel l (NumberTree no_span 0) (a_number no_span 0 ∷ k) k
number_level zero k = una (post number no_dot)
number_level (suc l) k = chain (number_level l k) no_operator

a_tree : (k : List Token) → IsExpr (NumberTree no_span 0) (a_number no_span 0 ∷ k) k
a_tree k = tail_alone (operators (number_level 8 k))

pub expr_fills : Fills AnExpr 100
expr_fills = record { with_ = λ low. record { more = a_number no_span 0 ∷ []; spelled = λ k. record { tree = NumberTree no_span 0; spelled = a_tree k; low = fits low } } }
  where
    fits : (low : Bool) → IsLow (bound_of low 100) 1 0
    fits false = record { height = tt; patterns = tt }
    fits true = record { height = omega arith; patterns = omega arith }

-- the parts of a function by what follows them
abbrev pub BodyRow : Phrases
BodyRow = Then AnExpr (ASign 27)

abbrev pub ResultRow : Phrases
ResultRow = Then AType (Then (ASign 26) BodyRow)

abbrev pub ParamsRow : Phrases
ParamsRow = Then SomeParams (Then (ASign 29) (Then (ASign 21) ResultRow))

abbrev pub FunRow : Phrases
FunRow = Then AName (Then (ASign 28) ParamsRow)

low_fun : (b : Bound) (m n h i : ℕ) → Within (part_of Alone b) m → Within (part_of Alone b) n → IsLow (part_of Alone b) h i → Within (part_of Alone b) (max m (max n (max h i)))
low_fun NoBound m n h i p q r = tt
low_fun (AtMost l) m n h i p q r = let x : h ≤ 100 = r.height in let y : i ≤ 100 = r.patterns in omega arith

fun_params : (b : Bound) (m n h i : ℕ) → Within (part_of Alone b) (max m (max n (max h i))) → Within (part_of Alone b) m
fun_params b m n h i w = max_left (part_of Alone b) m (max n (max h i)) w

fun_result : (b : Bound) (m n h i : ℕ) → Within (part_of Alone b) (max m (max n (max h i))) → Within (part_of Alone b) n
fun_result b m n h i w = max_left (part_of Alone b) n (max h i) (max_right (part_of Alone b) m (max n (max h i)) w)

fun_body : (b : Bound) (m n h i : ℕ) → Within (part_of Alone b) (max m (max n (max h i))) → IsLow (part_of Alone b) h i
fun_body NoBound m n h i w = record { height = tt; patterns = tt }
fun_body (AtMost l) m n h i w = record { height = omega arith; patterns = omega arith }

fun_is : {f : FunTree} {us k : List Token} → IsFun f us k → (b : Bound) → Within (part_of Alone b) (fun_height f) → FunRow (part_of Alone b) us k
fun_is (function {s = s} {t = t} {u = u} {v = v} {w = w} {y = y} {x = x} {ps = ps} {r = r} {e = e} {us = us} {vs = vs} {ws = ws} {k = k} d0 d1 d2) b l = record {
  middle = sign_open_bracket t ∷ us;
  first = record { span = s; value = x; split = refl };
  second = record {
    middle = us;
    first = record { span = t; value = tt; split = refl };
    second = record {
      middle = sign_close_bracket u ∷ sign_colon v ∷ vs;
      first = record { tree = ps; spelled = d0; low = fun_params b (highest_named_type ps) (type_height r) (height e) (pattern_inside e) l };
      second = record {
        middle = sign_colon v ∷ vs;
        first = record { span = u; value = tt; split = refl };
        second = record {
          middle = vs;
          first = record { span = v; value = tt; split = refl };
          second = record {
            middle = sign_open_brace w ∷ ws;
            first = record { tree = r; spelled = d1; low = fun_result b (highest_named_type ps) (type_height r) (height e) (pattern_inside e) l };
            second = record {
              middle = ws;
              first = record { span = w; value = tt; split = refl };
              second = record {
                middle = sign_close_brace y ∷ k;
                first = record { tree = e; spelled = d2; low = fun_body b (highest_named_type ps) (type_height r) (height e) (pattern_inside e) l };
                second = record { span = y; value = tt; split = refl };
              };
            };
          };
        };
      };
    };
  };
}

fun_made : {us k : List Token} (b : Bound) → FunRow (part_of Alone b) us k → AFun b us k
fun_made {us = us} {k = k} b row =
    let ps = row.second.second.first in
    let close = row.second.second.second.first in
    let colon = row.second.second.second.second.first in
    let r = row.second.second.second.second.second.first in
    let open_ = row.second.second.second.second.second.second.first in
    let e = row.second.second.second.second.second.second.second.first in
    let last = row.second.second.second.second.second.second.second.second in
    let f : FunTree = record { name = row.first.value; params = ps.tree; result = r.tree; body = e.tree; span = to row.first.span last.span } in
    record {
      tree = f;
      spelled = subst (λ z. IsFun f z k) (sym (row.first.split ∙ ap (λ z. a_name row.first.span row.first.value ∷ z) row.second.first.split))
          (function (subst (λ z. IsParams ps.tree row.second.middle z) (close.split ∙ ap (λ z. sign_close_bracket close.span ∷ z) colon.split) ps.spelled)
          (subst (λ z. IsType r.tree row.second.second.second.second.middle z) open_.split r.spelled) (subst (λ z. IsExpr e.tree row.second.second.second.second.second.second.middle z) last.split e.spelled));
      low = low_fun b (highest_named_type ps.tree) (type_height r.tree) (height e.tree) (pattern_inside e.tree) ps.low r.low e.low;
    }

pub fun_rule : (ts : List Token) → Rule Alone [] FunRow Anything AFun Anything ts
fun_rule ts = record { make = λ b h us k r. fun_made b r; parts = λ b us k h d f. (fun_is d.spelled b d.low, tt) }

pub body_fills : Fills BodyRow 100
body_fills = then_fills expr_fills (one_fills 100 tt)

pub brace_fills : Fills (Then (ASign 26) BodyRow) 100
brace_fills = then_fills (one_fills 100 tt) body_fills

pub result_fills : Fills ResultRow 100
result_fills = then_fills (type_fills 100 (omega arith)) brace_fills

pub colon_fills : Fills (Then (ASign 21) ResultRow) 100
colon_fills = then_fills (one_fills 100 tt) result_fills

pub bracket_fills : Fills (Then (ASign 29) (Then (ASign 21) ResultRow)) 100
bracket_fills = then_fills (one_fills 100 tt) colon_fills

pub params_row_fills : Fills ParamsRow 100
params_row_fills = then_fills (params_fills 100) bracket_fills

pub open_fills : Fills (Then (ASign 28) ParamsRow) 100
open_fills = then_fills (one_fills 100 tt) params_row_fills

pub fun_row_fills : Fills FunRow 100
fun_row_fills = then_fills (one_fills 100 []) open_fills

pub params_carries : Carries (Then (ASign 29) (Then (ASign 21) ResultRow)) Anything (Ahead 29)
params_carries = then_carries (sign_ahead {G = Anything} 29) carries_anything

pub result_carries : Carries (Then (ASign 26) BodyRow) Anything (Above 0)
result_carries = then_carries (one_carries {G = Anything} 0 (λ x. omega arith)) carries_anything

pub body_carries : Carries (ASign 27) Anything (Above 9)
body_carries = one_carries 9 (λ x. omega arith)

pub fun_fills : Fills AFun 100
fun_fills = record { with_ = λ low. made low ((fun_row_fills).with_ low) }
  where
    made : (low : Bool) → Completes FunRow (bound_of low 100) [] → Completes AFun (bound_of low 100) []
    made false c = record { more = c.more; spelled = λ k. fun_made NoBound (c.spelled k) }
    made true c = record { more = c.more; spelled = λ k. fun_made (AtMost 100) (c.spelled k) }

-- ---- ('and' f)*
pub to_funs : {fs : List FunTree} {ts k : List Token} (b : Bound) → IsMoreFuns fs ts k → Within (part_of Alone b) (highest_fun fs) → Many NextFun b ts k
to_funs b no_fun w = none
to_funs b (next_fun {s = s} {f = f} {fs = fs} {us = us} d e) w =
    next (record { middle = us; first = record { span = s; value = tt; split = refl }; second = record { tree = f; spelled = d; low = max_left (part_of Alone b) (fun_height f) (highest_fun fs) w } })
    (to_funs b e (max_right (part_of Alone b) (fun_height f) (highest_fun fs) w))

pub record Funs (b : Bound) (ts k : List Token) : Type 0 where
  pub trees : List FunTree
  pub spelled : IsMoreFuns trees ts k
  pub low : Within (part_of Alone b) (highest_fun trees)

pub of_funs : {b : Bound} {ts k : List Token} → Many NextFun b ts k → Funs b ts k
of_funs {b = b} none = record { trees = []; spelled = no_fun; low = within_zero (part_of Alone b) }
of_funs {b = b} {k = k} (next d e) =
    let f = of_funs e in
    record {
      trees = d.second.tree ∷ f.trees;
      spelled = subst (λ z. IsMoreFuns (d.second.tree ∷ f.trees) z k) (sym d.first.split) (next_fun d.second.spelled f.spelled);
      low = within_max (part_of Alone b) (fun_height d.second.tree) (highest_fun f.trees) d.second.low f.low;
    }

-- 'and' isn't what follows functions
pub and_goes_on : {s : Span} {ts rest : List Token} → ts ≡ key_and s ∷ rest → (us : List Token) → SameFront ts us → Above 0 us → ⊥
and_goes_on {s = s} {ts = ts} {rest = rest} e us g f =
    let (vs, i) = same_first (key_and s) ts us rest e g in
    let j : Above 0 (key_and s ∷ vs) = subst (λ z. Above 0 z) i f in
    absurd (omega arith)

pub funs_listed : Listed NextFun Anything (Above 0)
funs_listed = record {
  starts = λ b ts k d. tt;
  ends = λ b ts us k d s f. and_goes_on {s = d.first.span} {rest = d.middle} d.first.split us s f;
  over = λ k g. tt;
}

-- another keyword
pub no_fun_here : (room : ℕ) (ts : List Token) → NotKey 3 ts → (low : Bool) (us k : List Token) → SameFront ts us → NextFun (bound_of low room) us k → ⊥
no_fun_here room ts f low us k h d = one_none (λ x. Key 3) tt d.first.span d.middle us d.first.split (not_sort (Key 3) us (front_same _ ts us h f))

-- ---- decl
abbrev pub GroupRow : Phrases
GroupRow = Then AFun (Many NextFun)

group_is : {x : DeclTree} {s : Span} {us k : List Token} → IsDecl x (key_fun s ∷ us) k → (b : Bound) → Within (part_of Alone b) (decl_height x) → GroupRow b us k
group_is (group {f = f} {fs = fs} {vs = vs} d e) b w = record {
  middle = vs;
  first = record { tree = f; spelled = d; low = max_left (part_of Alone b) (fun_height f) (highest_fun fs) w };
  second = to_funs b e (max_right (part_of Alone b) (fun_height f) (highest_fun fs) w);
}

pub group_rule : (s : Span) (ts : List Token) → Rule Same (key_fun s ∷ []) GroupRow (Above 0) ADecl (Above 0) ts
group_rule s ts = record {
  make = λ b h us k r.
      let f = of_funs r.second in
      record { tree = GroupDecl (r.first.tree ∷ f.trees); spelled = group r.first.spelled f.spelled; low = within_max (part_of Alone b) (fun_height r.first.tree) (highest_fun f.trees) r.first.low f.low };
  parts = λ b us k h d f. (group_is d.spelled b d.low, f);
}

abbrev pub LayoutRow : Phrases
LayoutRow = Then AName (Then (ASign 19) (Then ALayout (ASign 20)))

layout_is : {x : DeclTree} {s : Span} {us k : List Token} → IsDecl x (key_layout s ∷ us) k → (b : Bound) → Within (part_of Alone b) (decl_height x) → LayoutRow (part_of Alone b) us k
layout_is (layout_decl {t = t} {u = u} {v = v} {x = x} {l = l} {us = us} {k = k} d) b w = record {
  middle = sign_is u ∷ us;
  first = record { span = t; value = x; split = refl };
  second = record {
    middle = us;
    first = record { span = u; value = tt; split = refl };
    second = record { middle = sign_semicolon v ∷ k; first = record { tree = l; spelled = d; low = w }; second = record { span = v; value = tt; split = refl } };
  };
}

layout_made : {us k : List Token} (s : Span) (b : Bound) → LayoutRow (part_of Alone b) us k → ADecl b (key_layout s ∷ us) k
layout_made {k = k} s b r =
    let l = r.second.second.first in
    let last = r.second.second.second in
    let d : DeclTree = LayoutDecl r.first.value l.tree (to s last.span) in
    record {
      tree = d;
      spelled = subst (λ z. IsDecl d (key_layout s ∷ z) k) (sym (r.first.split ∙ ap (λ z. a_name r.first.span r.first.value ∷ z) r.second.first.split)) (layout_decl (subst (λ z. IsLayout l.tree r.second.middle z) last.split l.spelled));
      low = l.low;
    }

pub layout_rule : (s : Span) (ts : List Token) → Rule Alone (key_layout s ∷ []) LayoutRow Anything ADecl (Above 0) ts
layout_rule s ts = record { make = λ b h us k r. layout_made s b r; parts = λ b us k h d f. (layout_is d.spelled b d.low, tt) }

pub layout_row_fills : Fills (Then ALayout (ASign 20)) 100
layout_row_fills = then_fills (layout_fills 100 (omega arith)) (one_fills 100 tt)

pub is_fills : Fills (Then (ASign 19) (Then ALayout (ASign 20))) 100
is_fills = then_fills (one_fills 100 tt) layout_row_fills

pub layout_carries : Carries (ASign 20) Anything (Above 0)
layout_carries = one_carries 0 (λ x. omega arith)

abbrev pub ExceptionRow : Phrases
ExceptionRow = Then AName (Then (ASign 28) (Then SomeTypes (Then (ASign 29) (ASign 20))))

exception_is : {x : DeclTree} {s : Span} {us k : List Token} → IsDecl x (key_exception s ∷ us) k → (b : Bound) → Within (part_of Alone b) (decl_height x) → ExceptionRow (part_of Alone b) us k
exception_is (exception_decl {t = t} {u = u} {v = v} {w = w} {x = x} {bs = bs} {us = us} {k = k} d) b l = record {
  middle = sign_open_bracket u ∷ us;
  first = record { span = t; value = x; split = refl };
  second = record {
    middle = us;
    first = record { span = u; value = tt; split = refl };
    second = record {
      middle = sign_close_bracket v ∷ sign_semicolon w ∷ k;
      first = record { tree = bs; spelled = d; low = l };
      second = record { middle = sign_semicolon w ∷ k; first = record { span = v; value = tt; split = refl }; second = record { span = w; value = tt; split = refl } };
    };
  };
}

exception_made : {us k : List Token} (s : Span) (b : Bound) → ExceptionRow (part_of Alone b) us k → ADecl b (key_exception s ∷ us) k
exception_made {k = k} s b r =
    let bs = r.second.second.first in
    let close = r.second.second.second.first in
    let last = r.second.second.second.second in
    let d : DeclTree = ExceptionDecl r.first.value bs.tree (to s last.span) in
    record {
      tree = d;
      spelled = subst (λ z. IsDecl d (key_exception s ∷ z) k) (sym (r.first.split ∙ ap (λ z. a_name r.first.span r.first.value ∷ z) r.second.first.split))
          (exception_decl (subst (λ z. IsTypes bs.tree r.second.middle z) (close.split ∙ ap (λ z. sign_close_bracket close.span ∷ z) last.split) bs.spelled));
      low = bs.low;
    }

pub exception_rule : (s : Span) (ts : List Token) → Rule Alone (key_exception s ∷ []) ExceptionRow Anything ADecl (Above 0) ts
exception_rule s ts = record { make = λ b h us k r. exception_made s b r; parts = λ b us k h d f. (exception_is d.spelled b d.low, tt) }

pub end_fills : Fills (Then (ASign 29) (ASign 20)) 100
end_fills = then_fills (one_fills 100 tt) (one_fills 100 tt)

pub types_row_fills : Fills (Then SomeTypes (Then (ASign 29) (ASign 20))) 100
types_row_fills = then_fills (types_fills 100) end_fills

pub exception_open_fills : Fills (Then (ASign 28) (Then SomeTypes (Then (ASign 29) (ASign 20)))) 100
exception_open_fills = then_fills (one_fills 100 tt) types_row_fills

pub types_carries : Carries (Then (ASign 29) (ASign 20)) Anything (Ahead 29)
types_carries = then_carries (sign_ahead {G = Anything} 29) carries_anything

-- a declaration
pub decl_completes : Completes ADecl (AtMost 100) []
decl_completes = record {
  more = key_exception no_span ∷ a_name no_span [] ∷ sign_open_bracket no_span ∷ sign_close_bracket no_span ∷ sign_semicolon no_span ∷ [];
  spelled = λ k. record { tree = ExceptionDecl [] no_types (to no_span no_span); spelled = exception_decl empty_types; low = omega arith };
}

decl_none : {x : DeclTree} {us k : List Token} → IsDecl x us k → NotKey 2 us → NotKey 0 us → NotKey 1 us → ⊥
decl_none (layout_decl d) f g h = g refl
decl_none (exception_decl d) f g h = h refl
decl_none (group d e) f g h = f refl

pub decl_starts_none : {ts : List Token} → NotKey 2 ts → NotKey 0 ts → NotKey 1 ts → StartsNone ADecl ts
decl_starts_none {ts = ts} f g h = record { none = λ us k s d. decl_none d.spelled (front_same _ ts us s f) (front_same _ ts us s g) (front_same _ ts us s h) }

-- ---- decl*
empty_end : {x : DeclTree} {us k : List Token} (vs : List Token) → IsDecl x us k → SameFront us vs → vs ≡ [] → ⊥
empty_end [] (layout_decl d) s e = s
empty_end [] (exception_decl d) s e = s
empty_end [] (group d f) s e = s
empty_end (v ∷ vs) d s e = let h : ⊥ = cc in h

pub decls_listed : Listed ADecl (Above 0) AtEnd
decls_listed = record {
  starts = λ b ts k d. decl_front d.spelled;
  ends = λ b ts us k d s e. empty_end us d.spelled s e;
  over = λ k e. subst (λ z. Above 0 z) (sym e) tt;
}

-- where something is left, the declarations go on
pub some_left : (ts : List Token) → false ≡ (length ts == 0) → (us : List Token) → SameFront ts us → AtEnd us → ⊥
some_left [] h us s f = let g : false ≡ true = h in let i : ⊥ = cc in i
some_left (t ∷ ts) h [] s f = s
some_left (t ∷ ts) h (u ∷ us) s f = let g : u ∷ us ≡ [] = f in let i : ⊥ = cc in i

pub to_decls : {ds : List DeclTree} {ts k : List Token} (b : Bound) → IsDecls ds ts k → Within (part_of Alone b) (highest_decl ds) → Many ADecl b ts k
to_decls b no_decl w = none
to_decls b (next_decl {d = d} {ds = ds} p q) w = next (record { tree = d; spelled = p; low = max_left (part_of Alone b) (decl_height d) (highest_decl ds) w }) (to_decls b q (max_right (part_of Alone b) (decl_height d) (highest_decl ds) w))

pub record Decls (b : Bound) (ts k : List Token) : Type 0 where
  pub trees : List DeclTree
  pub spelled : IsDecls trees ts k
  pub low : Within (part_of Alone b) (highest_decl trees)

pub of_decls : {b : Bound} {ts k : List Token} → Many ADecl b ts k → Decls b ts k
of_decls {b = b} none = record { trees = []; spelled = no_decl; low = within_zero (part_of Alone b) }
of_decls {b = b} (next d e) =
    let f = of_decls e in
    record { trees = d.tree ∷ f.trees; spelled = next_decl d.spelled f.spelled; low = within_max (part_of Alone b) (decl_height d.tree) (highest_decl f.trees) d.low f.low }
