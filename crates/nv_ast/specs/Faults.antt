-- The faults of a program: for each of the 24 kinds its condition on one node, and all faults in the order of the walk.
-- The walk takes the declarations in order, and in an expression the parts from left to right and then the node itself.
-- A node's faults stand in the order of their kinds. The program's fault is the first of the list; what stands after it has no meaning of its own.
use Rattle.std.specs.Prelude.{◌≡◌, ℕ, ◌+◌, nat_lt, Bool, true, false, not, ◌&&◌, ◌||◌, if◌then◌else◌, List, [], ◌∷◌, ◌++◌, map, Option, Some, None, is_none, bytes_eq, option_map, codes}
pub use Rattle.nv_base.specs.Access.{can_move}
use Rattle.nv_base.specs.Memories.{source_scratch}
use Rattle.nv_base.specs.declared.term.Mem.{Mem}
use Rattle.nv_base.specs.declared.term.Mem.TheVariants.{Scratch}
use Rattle.nv_ast.specs.declared.token.Span.{Span}
use Rattle.nv_ast.specs.Tree.{TypeTree, WordType, BoolType, PackedType, UnpackedType, TupleType, RecordType, TypeTrees, no_types, type_and, NamedTypes, no_named_types, named_type_and}
use Rattle.nv_ast.specs.Tree.{PatternTree, PatternTrees, no_patterns, pattern_and}
use Rattle.nv_ast.specs.Tree.{Tree, NumberTree, TruthTree, VarTree, ParenTree, TupleTree, FieldsTree, DotTree, InvertTree, NegateTree, BinaryTree, ShiftTree, CallTree, UnpackTree, PackTree, RaiseTree, IfTree, TryTree, FetchTree, BlockTree, Trees, no_trees, tree_and, NamedTrees, no_named_trees, named_tree_and, StatementTree, LetStatement, StoreStatement, StatementTrees, no_statements, statement_and, span_of}
use Rattle.nv_ast.specs.Tree.{FunTree, DeclTree, LayoutDecl, ExceptionDecl, GroupDecl, ProgramTree}
use Rattle.nv_ast.specs.Tests.{where_true, within, is_among, has_twice, names_of, look_up}
use Rattle.nv_ast.specs.Outline.{OutlineTree, Layouts}
use Rattle.nv_ast.specs.LayoutFaults.{unknown_layout, declared_faults}
use Rattle.nv_ast.specs.Types.{Ty, WordTy, BoolTy, TupleTy, Tys, no_tys, ty_and, same_type, words, total_words, words_of_value, is_too_large, some_named_bool, total_named_words, packed_ty, form_of, can_pack, type_of, types_of, named_types_of}
use Rattle.nv_ast.specs.Scope.{Signature, Known, nothing_known, callable, Vars, Context, inside, with_vars, plain_tys, bind_raised, param_vars, fits, fits_all, names_in, names_in_all, signature, in_group, known_after}
use Rattle.nv_ast.specs.Typing.{field_ty, operand_ty, type_at, vars_after, vars_behind}

-- a kind, and where it lies
abbrev pub Fault : Type 0
Fault = ℕ × Span

-- kinds, each at this span
abbrev pub at_span : Span → List ℕ → List Fault
at_span s kinds = map (λ kind. (kind, s)) kinds

-- ---- what is wanted of a part: whether it must have a value, and which types are right
pub record Expected : Type 0 where
  pub value : Bool
  pub right : Ty → Bool

-- it may have no value, and any type is right
abbrev pub anything : Expected
anything = record { value = false; right = λ t. true }

-- a value of any type
abbrev pub a_value : Expected
a_value = record { value = true; right = λ t. true }

-- a value of this type
abbrev pub of_type : Ty → Expected
of_type want = record { value = true; right = λ t. same_type t want }

-- where it has a value, one of the type of another part, if that has one
abbrev pub same_as : Option Ty → Expected
same_as None = anything
same_as (Some want) = record { value = false; right = λ t. same_type t want }

-- ---- the conditions on one node

-- 1: no function `main`
abbrev pub main_name : List ℕ
main_name = codes "main"

abbrev pub no_main : Known → List ℕ
no_main k = where_true (not (is_among main_name (names_of k.functions))) 1

-- 2: a name that is declared before in its name space
abbrev pub declared_before : List ℕ → List (List ℕ) → List ℕ
declared_before x names = where_true (is_among x names) 2

-- 3 to 7: of layouts, in LayoutFaults

-- 8: a type that names an unknown layout
abbrev pub no_layout : Layouts → List ℕ → List ℕ
no_layout known x = where_true (not (is_among x (names_of known))) 8

-- 8: word[n] with n other than 1 to 1,024
abbrev pub wrong_words : ℕ → List ℕ
wrong_words n = where_true (not (within 1 1024 n)) 8

-- 8: a record type with a name twice
abbrev pub twice_in_type : List (List ℕ) → List ℕ
twice_in_type names = where_true (has_twice names) 8

-- 9: a variable twice in one list of parameters or patterns
abbrev pub variable_twice : List (List ℕ) → List ℕ
variable_twice names = where_true (has_twice names) 9

-- 10: an unknown variable
abbrev pub unknown_variable : Vars → List ℕ → List ℕ
unknown_variable vars x = where_true (is_none (look_up x vars)) 10

-- 11: no function of that name in an earlier group or the own one
abbrev pub unknown_function : Known → List ℕ → List ℕ
unknown_function k f = where_true (is_none (look_up f (callable k))) 11

-- 12: a function of the own group outside tail position
abbrev pub not_in_tail : Context → List ℕ → List ℕ
not_in_tail p f = where_true (is_among f (names_of p.known.own) && not p.tail) 12

-- whether there are as many expressions, or patterns, as types
abbrev pub as_many : Tys → Trees → Bool
as_many no_tys no_trees = true
as_many (ty_and t ts) (tree_and e es) = as_many ts es
as_many _ _ = false

abbrev pub as_many_patterns : Tys → PatternTrees → Bool
as_many_patterns no_tys no_patterns = true
as_many_patterns (ty_and t ts) (pattern_and p ps) = as_many_patterns ts ps
as_many_patterns _ _ = false

-- 13: another number of arguments than of types, where these are known
abbrev pub wrong_number : Option Tys → Trees → List ℕ
wrong_number None es = []
wrong_number (Some ts) es = where_true (not (as_many ts es)) 13

-- 13: another number of patterns
abbrev pub wrong_number_of_patterns : Option Tys → PatternTrees → List ℕ
wrong_number_of_patterns None ps = []
wrong_number_of_patterns (Some ts) ps = where_true (not (as_many_patterns ts ps)) 13

-- 14: another type than a right one, at the part
abbrev pub other_type : Expected → Option Ty → List ℕ
other_type w None = []
other_type w (Some t) = where_true (not (w.right t)) 14

-- 15: a dot at no record, or at one without such a field
abbrev pub no_field : List ℕ → Option Ty → List ℕ
no_field x None = []
no_field x (Some t) = where_true (is_none (field_ty x (Some t))) 15

-- 16: the pattern of a let doesn't fit the type
abbrev pub not_fitting : PatternTree → Option Ty → List ℕ
not_fitting p None = []
not_fitting p (Some t) = where_true (not (fits p t)) 16

-- 16: as many patterns as the exception has types, and one doesn't fit
abbrev pub not_all_fitting : PatternTrees → Option Tys → List ℕ
not_all_fitting ps None = []
not_all_fitting ps (Some ts) = where_true (as_many_patterns ts ps && not (fits_all ps ts)) 16

-- 17: an unknown exception
abbrev pub unknown_exception : Known → List ℕ → List ℕ
unknown_exception k x = where_true (is_none (look_up x k.exceptions)) 17

-- 18: a field twice in a record
abbrev pub field_twice : List (List ℕ) → List ℕ
field_twice names = where_true (has_twice names) 18

-- 19: other than 1 to 8 words, or for SDRAM other than 2, 4, 6 or 8
abbrev pub wrong_access : Mem → ℕ → List ℕ
wrong_access m n = where_true (not (can_move m n)) 19

-- 20: a scratch address that isn't a number, or with the words reaches past 512
abbrev pub wrong_scratch : Mem → Tree → ℕ → List ℕ
wrong_scratch Scratch (NumberTree s at) n = where_true (nat_lt source_scratch (at + n)) 20
wrong_scratch Scratch _ n = 20 ∷ []
wrong_scratch _ a n = []

-- 21: a shift by more than 31
abbrev pub wrong_count : ℕ → List ℕ
wrong_count n = where_true (nat_lt 31 n) 21

-- 22: no value where one is wanted, at the part
abbrev pub no_value : Expected → Option Ty → List ℕ
no_value w None = where_true w.value 22
no_value w (Some t) = []

-- 23: an exception's values have more than 8 words
abbrev pub wide_exception : Tys → List ℕ
wide_exception ts = where_true (nat_lt 8 (total_words ts)) 23

-- 23: main's parameters have more than 8 words or a bool, or its result has more than 8 words
abbrev pub wide_main : Signature → List ℕ
wide_main g = where_true (nat_lt 8 (total_named_words g.params) || (some_named_bool g.params || nat_lt 8 (words g.result))) 23

-- 24: a type of more than 1,024 words or higher than 100
abbrev pub too_large : Ty → List ℕ
too_large t = where_true (is_too_large t) 24

-- the same of an expression, if it has a value
abbrev pub too_large_value : Option Ty → List ℕ
too_large_value None = []
too_large_value (Some t) = too_large t

-- ---- types in the text
abbrev mutual
  pub type_faults : Layouts → TypeTree → List ℕ
  type_faults known (WordType n) = wrong_words n ++ too_large (type_of known (WordType n))
  type_faults known BoolType = []
  type_faults known (PackedType x) = no_layout known x ++ too_large (type_of known (PackedType x))
  type_faults known (UnpackedType x) = no_layout known x ++ too_large (type_of known (UnpackedType x))
  type_faults known (TupleType ts) = types_faults known ts ++ too_large (type_of known (TupleType ts))
  type_faults known (RecordType ts) = named_types_faults known ts ++ (twice_in_type (type_names ts) ++ too_large (type_of known (RecordType ts)))

  pub types_faults : Layouts → TypeTrees → List ℕ
  types_faults known no_types = []
  types_faults known (type_and t ts) = type_faults known t ++ types_faults known ts

  pub named_types_faults : Layouts → NamedTypes → List ℕ
  named_types_faults known no_named_types = []
  named_types_faults known (named_type_and x t ts) = type_faults known t ++ named_types_faults known ts

  -- the names of a record's fields, or of parameters
  pub type_names : NamedTypes → List (List ℕ)
  type_names no_named_types = []
  type_names (named_type_and x t ts) = x ∷ type_names ts

-- ---- expressions

-- what is wanted of arguments: their types where the types are known and as many, else nothing but values
abbrev pub all_wanted : Tys → List Expected
all_wanted no_tys = []
all_wanted (ty_and t ts) = of_type t ∷ all_wanted ts

abbrev pub expected_arguments : Option Tys → Trees → List Expected
expected_arguments None es = []
expected_arguments (Some ts) es = if as_many ts es then all_wanted ts else []

-- what unpack wants of its operand: the layout's packed value; and pack: what can be packed
abbrev pub expected_packed : Option OutlineTree → Expected
expected_packed None = a_value
expected_packed (Some o) = of_type (packed_ty o)

abbrev pub expected_unpacked : Option OutlineTree → Expected
expected_unpacked None = a_value
expected_unpacked (Some o) = record { value = true; right = can_pack (form_of o) }

-- what a store wants of its value: a word, or a tuple of words alone
abbrev pub words_alone : Tys → Bool
words_alone no_tys = true
words_alone (ty_and t ts) = same_type t WordTy && words_alone ts

abbrev pub can_store : Ty → Bool
can_store WordTy = true
can_store (TupleTy ts) = words_alone ts
can_store _ = false

abbrev pub expected_stored : Expected
expected_stored = record { value = true; right = can_store }

-- the types of a function's parameters, if it is known
abbrev pub params_of : Known → List ℕ → Option Tys
params_of k f = option_map (λ g. plain_tys g.params) (look_up f (callable k))

-- the names of a record's fields
abbrev pub member_names : NamedTrees → List (List ℕ)
member_names no_named_trees = []
member_names (named_tree_and x e es) = x ∷ member_names es

-- the kinds below 14 of one node
abbrev pub low_kinds : Context → Tree → List ℕ
low_kinds p (VarTree s x) = unknown_variable p.vars x
low_kinds p (CallTree s f es) = unknown_function p.known f ++ (not_in_tail p f ++ wrong_number (params_of p.known f) es)
low_kinds p (UnpackTree s l e) = unknown_layout p.known.layouts l
low_kinds p (PackTree s l e) = unknown_layout p.known.layouts l
low_kinds p (RaiseTree s x es) = wrong_number (look_up x p.known.exceptions) es
low_kinds p _ = []

-- its kinds from 15 to 21
abbrev pub middle_kinds : Context → Tree → List ℕ
middle_kinds p (DotTree s e x) = no_field x (type_at p.known p.vars e)
middle_kinds p (RaiseTree s x es) = unknown_exception p.known x
middle_kinds p (FieldsTree s es) = field_twice (member_names es)
middle_kinds p (FetchTree s m n a) = wrong_access m n ++ wrong_scratch m a n
middle_kinds p (ShiftTree s op e n) = wrong_count n
middle_kinds p _ = []

-- all faults of one node: its own, and as a part of the node above those of another type and of no value
abbrev pub node_faults : Context → Expected → Tree → List Fault
node_faults p w e =
    let t = type_at p.known p.vars e in
    at_span (span_of e) (low_kinds p e ++ (other_type w t ++ (middle_kinds p e ++ (no_value w t ++ too_large_value t))))

-- what stands between the body and the handler of a try
abbrev pub raised_kinds : Known → List ℕ → PatternTrees → List ℕ
raised_kinds k x ps =
    let ts = look_up x k.exceptions in
    variable_twice (names_in_all ps) ++ (wrong_number_of_patterns ts ps ++ (not_all_fitting ps ts ++ unknown_exception k x))

-- ---- the walk: the parts of an expression from left to right, and then the node
abbrev mutual
  pub faults : Context → Expected → Tree → List Fault
  faults p w (NumberTree s n) = node_faults p w (NumberTree s n)
  faults p w (TruthTree s b) = node_faults p w (TruthTree s b)
  faults p w (VarTree s x) = node_faults p w (VarTree s x)
  faults p w (ParenTree s e) = faults p a_value e ++ node_faults p w (ParenTree s e)
  faults p w (TupleTree s es) = list_faults (inside p) [] es ++ node_faults p w (TupleTree s es)
  faults p w (FieldsTree s es) = named_faults (inside p) es ++ node_faults p w (FieldsTree s es)
  faults p w (DotTree s e x) = faults (inside p) a_value e ++ node_faults p w (DotTree s e x)
  faults p w (InvertTree s e) = faults (inside p) (of_type WordTy) e ++ node_faults p w (InvertTree s e)
  faults p w (NegateTree s e) = faults (inside p) (of_type BoolTy) e ++ node_faults p w (NegateTree s e)
  faults p w (BinaryTree s op a b) = faults (inside p) (of_type (operand_ty op)) a ++ (faults (inside p) (of_type (operand_ty op)) b ++ node_faults p w (BinaryTree s op a b))
  faults p w (ShiftTree s op e n) = faults (inside p) (of_type WordTy) e ++ node_faults p w (ShiftTree s op e n)
  faults p w (CallTree s f es) = list_faults (inside p) (expected_arguments (params_of p.known f) es) es ++ node_faults p w (CallTree s f es)
  faults p w (UnpackTree s l e) = faults (inside p) (expected_packed (look_up l p.known.layouts)) e ++ node_faults p w (UnpackTree s l e)
  faults p w (PackTree s l e) = faults (inside p) (expected_unpacked (look_up l p.known.layouts)) e ++ node_faults p w (PackTree s l e)
  faults p w (RaiseTree s x es) = list_faults (inside p) (expected_arguments (look_up x p.known.exceptions) es) es ++ node_faults p w (RaiseTree s x es)
  faults p w (IfTree s c a b) = faults (inside p) (of_type BoolTy) c ++ (faults p anything a ++ (faults p (same_as (type_at p.known p.vars a)) b ++ node_faults p w (IfTree s c a b)))
  faults p w (TryTree s a x ps h) =
      faults (inside p) anything a
      ++ (at_span s (raised_kinds p.known x ps)
      ++ (faults (with_vars (bind_raised ps (look_up x p.known.exceptions) p.vars) p) (same_as (type_at p.known p.vars a)) h
      ++ node_faults p w (TryTree s a x ps h)))
  faults p w (FetchTree s m n a) = faults (inside p) (of_type WordTy) a ++ node_faults p w (FetchTree s m n a)
  faults p w (BlockTree s sts e) = statements_faults (inside p) sts ++ (faults (with_vars (vars_behind p.known p.vars sts) p) anything e ++ node_faults p w (BlockTree s sts e))

  -- of each a value is wanted, and of the first ones what the list says
  pub list_faults : Context → List Expected → Trees → List Fault
  list_faults p ws no_trees = []
  list_faults p [] (tree_and e es) = faults p a_value e ++ list_faults p [] es
  list_faults p (w ∷ ws) (tree_and e es) = faults p w e ++ list_faults p ws es

  pub named_faults : Context → NamedTrees → List Fault
  named_faults p no_named_trees = []
  named_faults p (named_tree_and x e es) = faults p a_value e ++ named_faults p es

  -- the pattern of a let is reached after its expression
  pub statement_faults : Context → StatementTree → List Fault
  statement_faults p (LetStatement s q e) = faults p a_value e ++ at_span s (variable_twice (names_in q) ++ not_fitting q (type_at p.known p.vars e))
  statement_faults p (StoreStatement s m a e) =
      let n = words_of_value (type_at p.known p.vars e) in
      faults p (of_type WordTy) a ++ (faults p expected_stored e ++ at_span s (wrong_access m n ++ wrong_scratch m a n))

  pub statements_faults : Context → StatementTrees → List Fault
  statements_faults p no_statements = []
  statements_faults p (statement_and st sts) = statement_faults p st ++ statements_faults (with_vars (vars_after p.known p.vars st) p) sts

-- ---- declarations; a group is one: all its names, then the types in the text of each function, then the bodies

-- the names of a group, each after the earlier ones
abbrev pub name_faults : List (List ℕ) → List FunTree → List Fault
name_faults names [] = []
name_faults names (f ∷ fs) = at_span f.span (declared_before f.name names) ++ name_faults (f.name ∷ names) fs

-- the types in a function's text, its parameters, and main's own condition
abbrev pub signature_faults : Layouts → FunTree → List Fault
signature_faults known f = at_span f.span
    (named_types_faults known f.params
    ++ (type_faults known f.result
    ++ (variable_twice (type_names f.params)
    ++ (if bytes_eq f.name main_name then wide_main (signature known f) else []))))

abbrev pub signatures_faults : Layouts → List FunTree → List Fault
signatures_faults known [] = []
signatures_faults known (f ∷ fs) = signature_faults known f ++ signatures_faults known fs

-- a body is in tail position, and may have no value
abbrev pub body_faults : Known → FunTree → List Fault
body_faults k f = faults (record { known = k; vars = param_vars (named_types_of k.layouts f.params) []; tail = true }) (same_as (Some (type_of k.layouts f.result))) f.body

abbrev pub bodies_faults : Known → List FunTree → List Fault
bodies_faults k [] = []
bodies_faults k (f ∷ fs) = body_faults k f ++ bodies_faults k fs

abbrev pub decl_faults : Known → DeclTree → List Fault
decl_faults k (LayoutDecl x l s) = at_span s (declared_before x (names_of k.layouts) ++ declared_faults k.layouts l)
decl_faults k (ExceptionDecl x ts s) = at_span s (declared_before x (names_of k.exceptions) ++ (types_faults k.layouts ts ++ wide_exception (types_of k.layouts ts)))
decl_faults k (GroupDecl fs) = name_faults (names_of k.functions) fs ++ (signatures_faults k.layouts fs ++ bodies_faults (in_group k fs) fs)

-- a declaration is known to the later ones
abbrev pub decls_faults : Known → List DeclTree → List Fault
decls_faults k [] = []
decls_faults k (d ∷ ds) = decl_faults k d ++ decls_faults (known_after k d) ds

abbrev pub known_behind : Known → List DeclTree → Known
known_behind k [] = k
known_behind k (d ∷ ds) = known_behind (known_after k d) ds

-- ---- all faults of a program; that there is no main lies at the text's end
abbrev pub program_faults : ProgramTree → List Fault
program_faults p = decls_faults nothing_known p.decls ++ at_span (record { first = p.length; after = p.length }) (no_main (known_behind nothing_known p.decls))

-- no fault
abbrev pub IsTyped : ProgramTree → Type 0
IsTyped p = program_faults p ≡ []

-- the first fault in the walk
pub record IsFault (p : ProgramTree) (kind : ℕ) (s : Span) : Type 0 where
  pub later : List Fault
  pub first : program_faults p ≡ (kind, s) ∷ later
