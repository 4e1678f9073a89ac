-- What an expression without faults says of its parts, for the form of its code.
use Rattle.std.proofs.Common.{◌≡◌, ℕ, ◌+◌, true, false, not, nat_lt, ◌&&◌, [], ◌++◌, refl, sym, ap, subst, ◌∙◌, Option, Some, None, is_none, bytes_eq, arith}
use Rattle.std.proofs.lemmas.Bool.{and_parts, not-false, ltb-false, le-leb, false≢true}
use Rattle.nv_base.specs.declared.term.Mem.{Mem}
use Rattle.nv_base.specs.declared.term.Mem.TheVariants.{Sram, Sdram, Scratch}
use Rattle.nv_base.specs.declared.term.Atom.TheVariants.{Lit}
use Rattle.nv_ast.specs.Tree.{Tree, NumberTree, TruthTree, VarTree, ParenTree, TupleTree, FieldsTree, DotTree, InvertTree, NegateTree, BinaryTree, ShiftTree, CallTree, UnpackTree, PackTree, RaiseTree, IfTree, TryTree, FetchTree, BlockTree, span_of}
use Rattle.nv_ast.specs.Tests.{where_true}
use Rattle.nv_ast.specs.Types.{Ty, WordTy, BoolTy, TupleTy, RecordTy, Tys, no_tys, ty_and, NamedTys, no_named_tys, named_ty_and, same_type, same_types, same_named_types, words, total_words, total_named_words}
use Rattle.nv_ast.specs.Scope.{Context, inside}
use Rattle.nv_ast.specs.Typing.{type_at}
use Rattle.nv_ast.specs.Faults.{Expected, faults, low_kinds, middle_kinds, other_type, no_value, too_large_value, wrong_scratch, can_move}
use Rattle.nv_base.specs.Access as flat
use Rattle.nv_flatten_values.specs.inner.Symbols.{Symbol, Word, word_operand}
use Rattle.nv_flatten_values.specs.inner.Code.{is_given, is_comparison}
use Rattle.nv_flatten_values.specs.inner.Well.{IsLiteral}
use Rattle.nv_flatten_values.proofs.NoFaults.{node-of}
use Rattle.nv_ast.proofs.Faultless.{no_front, no_rest, no_kinds, not_where}

-- ---- kinds

pub some-where : {A : Type 0} (o : Option A) (k : ℕ) → where_true (is_none o) k ≡ [] → (a : A) × (o ≡ Some a)
some-where None k e = absurd (false≢true (sym (not_where true k e)))
some-where (Some a) k e = (a, refl)

-- ---- the node

node-kinds : (p : Context) (w : Expected) (e : Tree) → faults p w e ≡ []
    → low_kinds p e ++ (other_type w (type_at p.known p.vars e) ++ (middle_kinds p e ++ (no_value w (type_at p.known p.vars e) ++ too_large_value (type_at p.known p.vars e)))) ≡ []
node-kinds p w e h = no_kinds (span_of e) _ (node-of p w e h)

pub low-of : (p : Context) (w : Expected) (e : Tree) → faults p w e ≡ [] → low_kinds p e ≡ []
low-of p w e h = no_front (low_kinds p e) _ (node-kinds p w e h)

pub middle-of : (p : Context) (w : Expected) (e : Tree) → faults p w e ≡ [] → middle_kinds p e ≡ []
middle-of p w e h = no_front (middle_kinds p e) _ (no_rest (other_type w (type_at p.known p.vars e)) _ (no_rest (low_kinds p e) _ (node-kinds p w e h)))

right-at : (w : Expected) (o : Option Ty) (t : Ty) → o ≡ Some t → other_type w o ≡ [] → w.right t ≡ true
right-at w (Some u) t e h = let same : u ≡ t = cc in subst (λ x. w.right x ≡ true) same (not-false (w.right u) (not_where (not (w.right u)) 14 h))
right-at w None t e h = cc

-- an expression's type is a right one
pub right-of : (p : Context) (w : Expected) (e : Tree) (t : Ty) → faults p w e ≡ [] → type_at p.known p.vars e ≡ Some t → w.right t ≡ true
right-of p w e t h a = right-at w (type_at p.known p.vars e) t a (no_front (other_type w (type_at p.known p.vars e)) _ (no_rest (low_kinds p e) _ (node-kinds p w e h)))

-- ---- equal types have as many words
mutual
  pub same-words : (t u : Ty) → same_type t u ≡ true → words t ≡ words u
  same-words WordTy WordTy e = refl
  same-words BoolTy BoolTy e = refl
  same-words (TupleTy ts) (TupleTy us) e = same-total ts us e
  same-words (RecordTy ts) (RecordTy us) e = same-named ts us e
  same-words WordTy BoolTy e = refl
  same-words WordTy (TupleTy us) e = cc
  same-words WordTy (RecordTy us) e = cc
  same-words BoolTy WordTy e = refl
  same-words BoolTy (TupleTy us) e = cc
  same-words BoolTy (RecordTy us) e = cc
  same-words (TupleTy ts) WordTy e = cc
  same-words (TupleTy ts) BoolTy e = cc
  same-words (TupleTy ts) (RecordTy us) e = cc
  same-words (RecordTy ts) WordTy e = cc
  same-words (RecordTy ts) BoolTy e = cc
  same-words (RecordTy ts) (TupleTy us) e = cc

  same-total : (ts us : Tys) → same_types ts us ≡ true → total_words ts ≡ total_words us
  same-total no_tys no_tys e = refl
  same-total no_tys (ty_and u us) e = cc
  same-total (ty_and t ts) no_tys e = cc
  same-total (ty_and t ts) (ty_and u us) e =
      let p = and_parts (same_type t u) (same_types ts us) e in let a = same-words t u p.0 in let b = same-total ts us p.1 in omega arith

  same-named : (ts us : NamedTys) → same_named_types ts us ≡ true → total_named_words ts ≡ total_named_words us
  same-named no_named_tys no_named_tys e = refl
  same-named no_named_tys (named_ty_and y u us) e = cc
  same-named (named_ty_and x t ts) no_named_tys e = cc
  same-named (named_ty_and x t ts) (named_ty_and y u us) e =
      let p = and_parts (bytes_eq x y) (same_type t u && same_named_types ts us) e in
      let q = and_parts (same_type t u) (same_named_types ts us) p.1 in
      let a = same-words t u q.0 in let b = same-named ts us q.1 in omega arith

-- ---- places

-- what is given, or a comparison, doesn't ask whether it is the function's value
pub given-inside : (p : Context) (w : Expected) (e : Tree) → is_given e ≡ true → faults p w e ≡ faults (inside p) w e
given-inside p w (NumberTree s n) g = refl
given-inside p w (TruthTree s b) g = refl
given-inside p w (VarTree s x) g = refl
given-inside p w (ParenTree s e) g = cc
given-inside p w (TupleTree s es) g = refl
given-inside p w (FieldsTree s es) g = refl
given-inside p w (DotTree s e x) g = refl
given-inside p w (InvertTree s e) g = refl
given-inside p w (NegateTree s e) g = refl
given-inside p w (BinaryTree s op a b) g = refl
given-inside p w (ShiftTree s op e n) g = refl
given-inside p w (CallTree s f es) g = cc
given-inside p w (UnpackTree s l e) g = refl
given-inside p w (PackTree s l e) g = refl
given-inside p w (RaiseTree s x es) g = cc
given-inside p w (IfTree s c a b) g = cc
given-inside p w (TryTree s a x ps h) g = cc
given-inside p w (FetchTree s m n a) g = refl
given-inside p w (BlockTree s sts e) g = cc

pub comparison-inside : (p : Context) (w : Expected) (e : Tree) → is_comparison e ≡ true → faults p w e ≡ faults (inside p) w e
comparison-inside p w (BinaryTree s op a b) g = refl
comparison-inside p w (NumberTree s n) g = refl
comparison-inside p w (TruthTree s b) g = refl
comparison-inside p w (VarTree s x) g = refl
comparison-inside p w (ParenTree s e) g = cc
comparison-inside p w (TupleTree s es) g = refl
comparison-inside p w (FieldsTree s es) g = refl
comparison-inside p w (DotTree s e x) g = refl
comparison-inside p w (InvertTree s e) g = refl
comparison-inside p w (NegateTree s e) g = refl
comparison-inside p w (ShiftTree s op e n) g = refl
comparison-inside p w (CallTree s f es) g = cc
comparison-inside p w (UnpackTree s l e) g = refl
comparison-inside p w (PackTree s l e) g = refl
comparison-inside p w (RaiseTree s x es) g = cc
comparison-inside p w (IfTree s c a b) g = cc
comparison-inside p w (TryTree s a x ps h) g = cc
comparison-inside p w (FetchTree s m n a) g = refl
comparison-inside p w (BlockTree s sts e) g = cc

-- ---- accesses of memory
pub move-same : (m : Mem) (n : ℕ) → flat.can_move m n ≡ can_move m n
move-same Sram n = refl
move-same Sdram n = refl
move-same Scratch n = refl

address-at : (n : ℕ) (at : ℕ) (s : Symbol) → s ≡ Word (Lit at) → nat_lt 512 (at + n) ≡ false → flat.is_address Scratch (word_operand s) n ≡ true
address-at n at s e h = ap (λ x. flat.is_address Scratch (word_operand x) n) e ∙ le-leb (at + n) 512 (ltb-false 512 (at + n) h)

pub address-formed : (m : Mem) (a : Tree) (n : ℕ) (s : Symbol) → wrong_scratch m a n ≡ [] → IsLiteral a s → flat.is_address m (word_operand s) n ≡ true
address-formed Sram a n s h l = refl
address-formed Sdram a n s h l = refl
address-formed Scratch (NumberTree sp at) n s h l = address-at n at s l (not_where (nat_lt 512 (at + n)) 20 h)
address-formed Scratch (TruthTree sp b) n s h l = cc
address-formed Scratch (VarTree sp x) n s h l = cc
address-formed Scratch (ParenTree sp e) n s h l = cc
address-formed Scratch (TupleTree sp es) n s h l = cc
address-formed Scratch (FieldsTree sp es) n s h l = cc
address-formed Scratch (DotTree sp e x) n s h l = cc
address-formed Scratch (InvertTree sp e) n s h l = cc
address-formed Scratch (NegateTree sp e) n s h l = cc
address-formed Scratch (BinaryTree sp op a b) n s h l = cc
address-formed Scratch (ShiftTree sp op e k) n s h l = cc
address-formed Scratch (CallTree sp f es) n s h l = cc
address-formed Scratch (UnpackTree sp x e) n s h l = cc
address-formed Scratch (PackTree sp x e) n s h l = cc
address-formed Scratch (RaiseTree sp x es) n s h l = cc
address-formed Scratch (IfTree sp c a b) n s h l = cc
address-formed Scratch (TryTree sp a x ps e) n s h l = cc
address-formed Scratch (FetchTree sp m k e) n s h l = cc
address-formed Scratch (BlockTree sp sts e) n s h l = cc
