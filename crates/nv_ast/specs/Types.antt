-- Types: words, bools, tuples and records.
use Rattle.std.specs.Prelude.{ℕ, zero, suc, ◌+◌, ◌/◌, ◌==◌, nat_lt, max, Bool, true, false, ◌&&◌, ◌||◌, if◌then◌else◌, List, bytes_eq, Option, Some, None}
use Rattle.nv_ast.specs.Outline.{OutlineTree, BitsOutline, GapOutline, PartsOutline, OverlayOutline, JoinedOutline, OutlineTrees, no_outlines, outline_and, NamedOutlines, no_named_outlines, named_outline_and, Layouts, outline, size}
use Rattle.nv_ast.specs.Tree.{NamedLayout, TypeTree, WordType, BoolType, PackedType, UnpackedType, TupleType, RecordType, TypeTrees, no_types, type_and, NamedTypes, no_named_types, named_type_and}

mutual
  pub data Ty : Type 0 where
    WordTy : Ty
    BoolTy : Ty
    TupleTy : (parts : Tys) → Ty
    RecordTy : (fields : NamedTys) → Ty

  pub data Tys : Type 0 where
    no_tys : Tys
    ty_and : (t : Ty) (ts : Tys) → Tys

  pub data NamedTys : Type 0 where
    no_named_tys : NamedTys
    named_ty_and : (name : List ℕ) (t : Ty) (ts : NamedTys) → NamedTys

-- ---- equality: the same names and types in the same order
abbrev mutual
  pub same_type : Ty → Ty → Bool
  same_type WordTy WordTy = true
  same_type BoolTy BoolTy = true
  same_type (TupleTy ts) (TupleTy us) = same_types ts us
  same_type (RecordTy ts) (RecordTy us) = same_named_types ts us
  same_type _ _ = false

  pub same_types : Tys → Tys → Bool
  same_types no_tys no_tys = true
  same_types (ty_and t ts) (ty_and u us) = same_type t u && same_types ts us
  same_types _ _ = false

  pub same_named_types : NamedTys → NamedTys → Bool
  same_named_types no_named_tys no_named_tys = true
  same_named_types (named_ty_and x t ts) (named_ty_and y u us) = bytes_eq x y && (same_type t u && same_named_types ts us)
  same_named_types _ _ = false

-- ---- how many words a value has
abbrev mutual
  pub words : Ty → ℕ
  words WordTy = 1
  words BoolTy = 1
  words (TupleTy ts) = total_words ts
  words (RecordTy ts) = total_named_words ts

  pub total_words : Tys → ℕ
  total_words no_tys = 0
  total_words (ty_and t ts) = words t + total_words ts

  pub total_named_words : NamedTys → ℕ
  total_named_words no_named_tys = 0
  total_named_words (named_ty_and x t ts) = words t + total_named_words ts

-- of an expression's type, 0 where it has no value
abbrev pub words_of_value : Option Ty → ℕ
words_of_value None = 0
words_of_value (Some t) = words t

-- ---- the height: 1 without parts, else one more than the highest part
abbrev mutual
  pub ty_height : Ty → ℕ
  ty_height WordTy = 1
  ty_height BoolTy = 1
  ty_height (TupleTy ts) = 1 + highest_ty ts
  ty_height (RecordTy ts) = 1 + highest_named_ty ts

  pub highest_ty : Tys → ℕ
  highest_ty no_tys = 0
  highest_ty (ty_and t ts) = max (ty_height t) (highest_ty ts)

  pub highest_named_ty : NamedTys → ℕ
  highest_named_ty no_named_tys = 0
  highest_named_ty (named_ty_and x t ts) = max (ty_height t) (highest_named_ty ts)

-- over 1,024 words or higher than 100
abbrev pub is_too_large : Ty → Bool
is_too_large t = nat_lt 1024 (words t) || nat_lt 100 (ty_height t)

-- ---- whether a bool is inside
abbrev mutual
  pub has_bool : Ty → Bool
  has_bool WordTy = false
  has_bool BoolTy = true
  has_bool (TupleTy ts) = some_bool ts
  has_bool (RecordTy ts) = some_named_bool ts

  pub some_bool : Tys → Bool
  some_bool no_tys = false
  some_bool (ty_and t ts) = has_bool t || some_bool ts

  pub some_named_bool : NamedTys → Bool
  some_named_bool no_named_tys = false
  some_named_bool (named_ty_and x t ts) = has_bool t || some_named_bool ts

-- ---- the type of n words: a word, or the tuple of n words
abbrev pub word_parts : ℕ → Tys
word_parts zero = no_tys
word_parts (suc n) = ty_and WordTy (word_parts n)

abbrev pub words_ty : ℕ → Ty
words_ty n = if n == 1 then WordTy else TupleTy (word_parts n)

-- ---- the type of a layout's packed value: its bits in words, rounded up
abbrev pub packed_words : OutlineTree → ℕ
packed_words o = (size o + 31) / 32

abbrev pub packed_ty : OutlineTree → Ty
packed_ty o = words_ty (packed_words o)

-- ---- the form of a layout's record: a word, a record of fields in order, or a choice of alternatives; the fields of joined layouts form one record
mutual
  pub data Form : Type 0 where
    WordForm : Form
    RecordForm : (fields : Forms) → Form
    ChoiceForm : (alternatives : Forms) → Form

  pub data Forms : Type 0 where
    no_forms : Forms
    form_and : (name : List ℕ) (f : Form) (fs : Forms) → Forms

-- the fields of one record and then those of another
infixr 5 ◌+++◌
abbrev pub ◌+++◌ : Forms → Forms → Forms
no_forms +++ gs = gs
form_and x f fs +++ gs = form_and x f (fs +++ gs)

abbrev mutual
  pub form_of : OutlineTree → Form
  form_of (BitsOutline n) = WordForm
  form_of (GapOutline n) = RecordForm no_forms
  form_of (PartsOutline fs) = RecordForm (forms_of fs)
  form_of (OverlayOutline fs) = ChoiceForm (forms_of fs)
  form_of (JoinedOutline os) = RecordForm (joined_forms os)

  pub forms_of : NamedOutlines → Forms
  forms_of no_named_outlines = no_forms
  forms_of (named_outline_and x o os) = form_and x (form_of o) (forms_of os)

  pub joined_forms : OutlineTrees → Forms
  joined_forms no_outlines = no_forms
  joined_forms (outline_and o os) = record_forms o +++ joined_forms os

  pub record_forms : OutlineTree → Forms
  record_forms (BitsOutline n) = no_forms
  record_forms (GapOutline n) = no_forms
  record_forms (PartsOutline fs) = forms_of fs
  record_forms (OverlayOutline fs) = forms_of fs
  record_forms (JoinedOutline os) = joined_forms os

-- ---- the type of an unpacked value: an overlay is the record of all its alternatives
abbrev mutual
  pub unpacked : Form → Ty
  unpacked WordForm = WordTy
  unpacked (RecordForm fs) = RecordTy (unpacked_all fs)
  unpacked (ChoiceForm fs) = RecordTy (unpacked_all fs)

  pub unpacked_all : Forms → NamedTys
  unpacked_all no_forms = no_named_tys
  unpacked_all (form_and x f fs) = named_ty_and x (unpacked f) (unpacked_all fs)

abbrev pub unpacked_ty : OutlineTree → Ty
unpacked_ty o = unpacked (form_of o)

-- ---- whether a value of a type can be packed: the same record, but of each overlay a record of exactly one alternative
abbrev mutual
  pub can_pack : Form → Ty → Bool
  can_pack WordForm t = same_type t WordTy
  can_pack (RecordForm fs) (RecordTy ts) = can_pack_all fs ts
  can_pack (RecordForm fs) _ = false
  can_pack (ChoiceForm fs) (RecordTy (named_ty_and x t no_named_tys)) = can_pack_one fs x t
  can_pack (ChoiceForm fs) _ = false

  pub can_pack_all : Forms → NamedTys → Bool
  can_pack_all no_forms no_named_tys = true
  can_pack_all (form_and x f fs) (named_ty_and y t ts) = bytes_eq x y && (can_pack f t && can_pack_all fs ts)
  can_pack_all _ _ = false

  pub can_pack_one : Forms → List ℕ → Ty → Bool
  can_pack_one no_forms y t = false
  can_pack_one (form_and x f fs) y t = if bytes_eq x y then can_pack f t else can_pack_one fs y t

-- ---- the type that a type text stands for
abbrev mutual
  pub type_of : Layouts → TypeTree → Ty
  type_of known (WordType n) = words_ty n
  type_of known BoolType = BoolTy
  type_of known (PackedType x) = packed_ty (outline known (NamedLayout x))
  type_of known (UnpackedType x) = unpacked_ty (outline known (NamedLayout x))
  type_of known (TupleType ts) = TupleTy (types_of known ts)
  type_of known (RecordType ts) = RecordTy (named_types_of known ts)

  pub types_of : Layouts → TypeTrees → Tys
  types_of known no_types = no_tys
  types_of known (type_and t ts) = ty_and (type_of known t) (types_of known ts)

  pub named_types_of : Layouts → NamedTypes → NamedTys
  named_types_of known no_named_types = no_named_tys
  named_types_of known (named_type_and x t ts) = named_ty_and x (type_of known t) (named_types_of known ts)
