-- The test of types finds equal ones.
use Rattle.std.proofs.Common.{◌≡◌, ◌∙◌, refl, ap, true, ◌&&◌, List, ℕ, bytes_eq}
use Rattle.std.specs.Cmp.Lexicographic.{bytes_decides}
use Rattle.std.proofs.lemmas.Bool.{false≢true, and_parts}
use Rattle.nv_ast.specs.Types.{Ty, WordTy, BoolTy, TupleTy, RecordTy, Tys, no_tys, ty_and, NamedTys, no_named_tys, named_ty_and, same_type, same_types, same_named_types}

mutual
  pub same_itself : (t : Ty) → same_type t t ≡ true
  same_itself WordTy = refl
  same_itself BoolTy = refl
  same_itself (TupleTy ts) = same_parts ts
  same_itself (RecordTy ts) = same_fields ts

  pub same_parts : (ts : Tys) → same_types ts ts ≡ true
  same_parts no_tys = refl
  same_parts (ty_and t ts) = ap (λ b. b && same_types ts ts) (same_itself t) ∙ same_parts ts

  pub same_fields : (ts : NamedTys) → same_named_types ts ts ≡ true
  same_fields no_named_tys = refl
  same_fields (named_ty_and x t ts) =
      ap (λ b. b && (same_type t t && same_named_types ts ts)) ((bytes_decides x x).1 refl) ∙ ap (λ b. b && same_named_types ts ts) (same_itself t) ∙ same_fields ts

mutual
  pub same_sound : (t u : Ty) → same_type t u ≡ true → t ≡ u
  same_sound WordTy WordTy h = refl
  same_sound BoolTy BoolTy h = refl
  same_sound (TupleTy ts) (TupleTy us) h = ap TupleTy (parts_sound ts us h)
  same_sound (RecordTy ts) (RecordTy us) h = ap RecordTy (fields_sound ts us h)
  same_sound _ _ h = absurd (false≢true h)

  pub parts_sound : (ts us : Tys) → same_types ts us ≡ true → ts ≡ us
  parts_sound no_tys no_tys h = refl
  parts_sound (ty_and t ts) (ty_and u us) h =
      let both = and_parts (same_type t u) (same_types ts us) h in
      ap (λ (x : Ty). ty_and x ts) (same_sound t u both.0) ∙ ap (ty_and u) (parts_sound ts us both.1)
  parts_sound _ _ h = absurd (false≢true h)

  pub fields_sound : (ts us : NamedTys) → same_named_types ts us ≡ true → ts ≡ us
  fields_sound no_named_tys no_named_tys h = refl
  fields_sound (named_ty_and x t ts) (named_ty_and y u us) h =
      let name = and_parts (bytes_eq x y) (same_type t u && same_named_types ts us) h in
      let both = and_parts (same_type t u) (same_named_types ts us) name.1 in
      ap (λ (z : List ℕ). named_ty_and z t ts) ((bytes_decides x y).0 name.0) ∙ ap (λ (z : Ty). named_ty_and y z ts) (same_sound t u both.0) ∙ ap (named_ty_and y u) (fields_sound ts us both.1)
  fields_sound _ _ h = absurd (false≢true h)
