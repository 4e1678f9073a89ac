-- The trees of a program's text, as contracts see them: equal where their contents are, with lists for what the program keeps in vectors.
use Rattle.std.specs.Prelude.{ℕ, Bool, List}
use Rattle.nv_base.specs.declared.term.Mem.{Mem}
use Rattle.nv_ast.specs.declared.token.Span.{Span}
use Rattle.nv_ast.specs.declared.tree.Op.{Op}
use Rattle.nv_ast.specs.declared.tree.ShiftOp.{ShiftOp}

-- ---- layouts
mutual
  -- a name, {n}, { fields }, or layouts joined by ##
  pub data LayoutTree : Type 0 where
    NamedLayout : (name : List ℕ) → LayoutTree
    GapLayout : (n : ℕ) → LayoutTree
    PartsLayout : (fields : FieldTrees) → LayoutTree
    JoinedLayout : (layouts : LayoutTrees) → LayoutTree

  pub data LayoutTrees : Type 0 where
    no_layouts : LayoutTrees
    layout_and : (l : LayoutTree) (ls : LayoutTrees) → LayoutTrees

  -- a number of bits, a layout, or an overlay of alternatives
  pub data FieldTree : Type 0 where
    BitsField : (n : ℕ) → FieldTree
    InnerField : (l : LayoutTree) → FieldTree
    OverlayField : (alternatives : FieldTrees) → FieldTree

  -- fields with their names
  pub data FieldTrees : Type 0 where
    no_fields : FieldTrees
    field_and : (name : List ℕ) (f : FieldTree) (fs : FieldTrees) → FieldTrees

-- ---- types
mutual
  -- word[n], bool, packed(l), unpacked(l), a tuple or a record
  pub data TypeTree : Type 0 where
    WordType : (n : ℕ) → TypeTree
    BoolType : TypeTree
    PackedType : (layout : List ℕ) → TypeTree
    UnpackedType : (layout : List ℕ) → TypeTree
    TupleType : (parts : TypeTrees) → TypeTree
    RecordType : (fields : NamedTypes) → TypeTree

  pub data TypeTrees : Type 0 where
    no_types : TypeTrees
    type_and : (t : TypeTree) (ts : TypeTrees) → TypeTrees

  -- types with their names, as in a record or a list of parameters
  pub data NamedTypes : Type 0 where
    no_named_types : NamedTypes
    named_type_and : (name : List ℕ) (t : TypeTree) (ts : NamedTypes) → NamedTypes

-- ---- patterns
mutual
  -- a name, _ or a tuple
  pub data PatternTree : Type 0 where
    NamePattern : (name : List ℕ) → PatternTree
    AnyPattern : PatternTree
    TuplePattern : (parts : PatternTrees) → PatternTree

  pub data PatternTrees : Type 0 where
    no_patterns : PatternTrees
    pattern_and : (p : PatternTree) (ps : PatternTrees) → PatternTrees

-- ---- expressions, each with its span
mutual
  pub data Tree : Type 0 where
    NumberTree : (s : Span) (n : ℕ) → Tree
    TruthTree : (s : Span) (b : Bool) → Tree
    VarTree : (s : Span) (name : List ℕ) → Tree
    ParenTree : (s : Span) (e : Tree) → Tree
    TupleTree : (s : Span) (parts : Trees) → Tree
    FieldsTree : (s : Span) (fields : NamedTrees) → Tree
    DotTree : (s : Span) (e : Tree) (name : List ℕ) → Tree
    InvertTree : (s : Span) (e : Tree) → Tree
    NegateTree : (s : Span) (e : Tree) → Tree
    BinaryTree : (s : Span) (op : Op) (left right : Tree) → Tree
    ShiftTree : (s : Span) (op : ShiftOp) (e : Tree) (count : ℕ) → Tree
    CallTree : (s : Span) (function : List ℕ) (arguments : Trees) → Tree
    UnpackTree : (s : Span) (layout : List ℕ) (e : Tree) → Tree
    PackTree : (s : Span) (layout : List ℕ) (e : Tree) → Tree
    RaiseTree : (s : Span) (exception : List ℕ) (arguments : Trees) → Tree
    IfTree : (s : Span) (condition yes no : Tree) → Tree
    TryTree : (s : Span) (body : Tree) (exception : List ℕ) (patterns : PatternTrees) (handler : Tree) → Tree
    FetchTree : (s : Span) (mem : Mem) (n : ℕ) (address : Tree) → Tree
    BlockTree : (s : Span) (statements : StatementTrees) (tail : Tree) → Tree

  pub data Trees : Type 0 where
    no_trees : Trees
    tree_and : (e : Tree) (es : Trees) → Trees

  -- expressions with their names, as in a record
  pub data NamedTrees : Type 0 where
    no_named_trees : NamedTrees
    named_tree_and : (name : List ℕ) (e : Tree) (es : NamedTrees) → NamedTrees

  -- let p = e; or mem(address) <- value;
  pub data StatementTree : Type 0 where
    LetStatement : (s : Span) (p : PatternTree) (e : Tree) → StatementTree
    StoreStatement : (s : Span) (mem : Mem) (address value : Tree) → StatementTree

  pub data StatementTrees : Type 0 where
    no_statements : StatementTrees
    statement_and : (st : StatementTree) (sts : StatementTrees) → StatementTrees

-- the span of an expression
abbrev pub span_of : Tree → Span
span_of (NumberTree s n) = s
span_of (TruthTree s b) = s
span_of (VarTree s x) = s
span_of (ParenTree s e) = s
span_of (TupleTree s es) = s
span_of (FieldsTree s es) = s
span_of (DotTree s e x) = s
span_of (InvertTree s e) = s
span_of (NegateTree s e) = s
span_of (BinaryTree s op a b) = s
span_of (ShiftTree s op e n) = s
span_of (CallTree s f es) = s
span_of (UnpackTree s l e) = s
span_of (PackTree s l e) = s
span_of (RaiseTree s x es) = s
span_of (IfTree s c a b) = s
span_of (TryTree s a x ps h) = s
span_of (FetchTree s m n e) = s
span_of (BlockTree s sts e) = s

-- the span of a statement
abbrev pub statement_span : StatementTree → Span
statement_span (LetStatement s p e) = s
statement_span (StoreStatement s m a e) = s

-- ---- declarations and programs
pub record FunTree : Type 0 where
  pub name : List ℕ
  pub params : NamedTypes
  pub result : TypeTree
  pub body : Tree
  pub span : Span

pub data DeclTree : Type 0 where
  LayoutDecl : (name : List ℕ) (l : LayoutTree) (s : Span) → DeclTree
  ExceptionDecl : (name : List ℕ) (types : TypeTrees) (s : Span) → DeclTree
  GroupDecl : (functions : List FunTree) → DeclTree

-- the declarations in order, and the number of bytes of the text
pub record ProgramTree : Type 0 where
  pub decls : List DeclTree
  pub length : ℕ
