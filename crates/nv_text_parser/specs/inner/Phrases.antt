-- The phrases of the language within a bound on their heights.
use Rattle.std.specs.Prelude.{◌≡◌, []}
use Rattle.nv_ast.specs.Height.{pattern_height, highest_pattern, type_height, highest_type, highest_named_type, layout_height, highest_layout, field_height, highest_field, fun_height, decl_height}
use Rattle.nv_ast.specs.Tree.{PatternTree, PatternTrees, TypeTree, TypeTrees, NamedTypes, LayoutTree, LayoutTrees, FieldTree, FieldTrees, FunTree, DeclTree}
use Rattle.nv_ast.specs.Grammar.{IsPattern, IsPatterns, IsType, IsTypes, IsParams, IsLayout, IsLayoutAtom, IsField, IsAlternative, IsFun, IsDecl}
use Rattle.nv_text_parser.specs.inner.Failing.{Bound, Within, Alone, part_of, Follow, Phrases, Phrase, Then, ASign, AKey, AName}

-- ---- patterns
abbrev pub LowPattern : Bound → PatternTree → Type 0
LowPattern b p = Within b (pattern_height p)

abbrev pub LowPatterns : Bound → PatternTrees → Type 0
LowPatterns b ps = Within b (highest_pattern ps)

abbrev pub APattern : Phrases
APattern = Phrase IsPattern LowPattern

abbrev pub SomePatterns : Phrases
SomePatterns = Phrase IsPatterns LowPatterns

-- ',' pat
abbrev pub NextPattern : Phrases
NextPattern = Then (ASign 22) APattern

-- ---- types
abbrev pub LowType : Bound → TypeTree → Type 0
LowType b t = Within b (type_height t)

abbrev pub LowTypes : Bound → TypeTrees → Type 0
LowTypes b ts = Within b (highest_type ts)

abbrev pub LowNamedTypes : Bound → NamedTypes → Type 0
LowNamedTypes b ts = Within b (highest_named_type ts)

abbrev pub AType : Phrases
AType = Phrase IsType LowType

abbrev pub SomeTypes : Phrases
SomeTypes = Phrase IsTypes LowTypes

abbrev pub SomeParams : Phrases
SomeParams = Phrase IsParams LowNamedTypes

-- ',' type
abbrev pub NextType : Phrases
NextType = Then (ASign 22) AType

-- NAME ':' type
abbrev pub NamedType : Phrases
NamedType = Then AName (Then (ASign 21) AType)

-- ',' NAME ':' type
abbrev pub NextNamedType : Phrases
NextNamedType = Then (ASign 22) NamedType

-- '(' NAME ')'
abbrev pub NameInBrackets : Phrases
NameInBrackets = Then (ASign 24) (Then AName (ASign 25))

-- ---- layouts
abbrev pub LowLayout : Bound → LayoutTree → Type 0
LowLayout b l = Within b (layout_height l)

abbrev pub LowLayouts : Bound → LayoutTrees → Type 0
LowLayouts b ls = Within b (highest_layout ls)

abbrev pub LowField : Bound → FieldTree → Type 0
LowField b f = Within b (field_height f)

abbrev pub LowFields : Bound → FieldTrees → Type 0
LowFields b fs = Within b (highest_field fs)

abbrev pub ALayout : Phrases
ALayout = Phrase IsLayout LowLayout

abbrev pub ALayoutAtom : Phrases
ALayoutAtom = Phrase IsLayoutAtom LowLayout

abbrev pub AField : Phrases
AField = Phrase IsField LowField

abbrev pub AnAlternative : Phrases
AnAlternative = Phrase IsAlternative LowField

-- '##' latom
abbrev pub NextLayout : Phrases
NextLayout = Then (ASign 30) ALayoutAtom

-- NAME ':' field
abbrev pub NamedField : Phrases
NamedField = Then AName (Then (ASign 21) AField)

-- ',' NAME ':' field
abbrev pub NextField : Phrases
NextField = Then (ASign 22) NamedField

-- NAME ':' alt
abbrev pub NamedAlternative : Phrases
NamedAlternative = Then AName (Then (ASign 21) AnAlternative)

-- '|' NAME ':' alt
abbrev pub NextAlternative : Phrases
NextAlternative = Then (ASign 3) NamedAlternative

-- ---- declarations, whose parts may be 100 high
abbrev pub LowFun : Bound → FunTree → Type 0
LowFun b f = Within (part_of Alone b) (fun_height f)

abbrev pub LowDecl : Bound → DeclTree → Type 0
LowDecl b d = Within (part_of Alone b) (decl_height d)

abbrev pub AFun : Phrases
AFun = Phrase IsFun LowFun

abbrev pub ADecl : Phrases
ADecl = Phrase IsDecl LowDecl

-- 'and' f
abbrev pub NextFun : Phrases
NextFun = Then (AKey 3) AFun

-- nothing follows
abbrev pub AtEnd : Follow
AtEnd k = k ≡ []
