-- Each function of a program without faults has a body without faults, where what is known is so in the whole program.
use Rattle.std.proofs.Common.{◌≡◌, ◌∙◌, refl, sym, ap, subst, ℕ, zero, suc, ◌+◌, ◌<◌, ◌≤◌, Bool, true, false, List, [], ◌∷◌, ◌++◌, map, length, All, Option, Some, None, bytes_eq, append_assoc, arith, if◌then◌else◌}
use Rattle.std.specs.Prelude.{nat_lt, nat_le, slice_get, replicate}
use Rattle.std.proofs.lemmas.Bool.{lt-ltb, le-leb}
use Rattle.std.proofs.lemmas.List.Elements.{All-append}
use Rattle.nv_ast.specs.Tests.{is_among, names_of, look_up}
use Rattle.nv_ast.specs.Outline.{OutlineTree, PartsOutline, no_named_outlines, Layouts, outline, IsSound}
use Rattle.nv_ast.specs.LayoutFaults.{layout_faults, unfit, declared_faults}
use Rattle.nv_ast.specs.Tree.{NamedLayout, FunTree, DeclTree, LayoutDecl, ExceptionDecl, GroupDecl, ProgramTree}
use Rattle.nv_ast.specs.Types.{Tys, type_of, types_of, named_types_of, total_words, total_named_words}
use Rattle.nv_ast.specs.Sizes.{main_words, signature_words}
use Rattle.nv_ast.specs.Scope.{Signature, signature, signatures, Known, nothing_known, in_group, known_after}
use Rattle.nv_ast.specs.Faults.{types_faults, wide_exception, declared_before, signature_faults, signatures_faults, bodies_faults, body_faults, name_faults, decl_faults, decls_faults, known_behind, main_name, no_main, program_faults}
use Rattle.nv_layout.proofs.Sound.{layout_sound, where_not}
use Rattle.nv_meaning.specs.Meaning.{Declared, with_decl, with_decls, function_in}
use Rattle.nv_meaning.specs.Running.{exception_number}
use Rattle.nv_meaning_values.specs.inner.Tables.{place_from}
use Rattle.nv_flatten_values.specs.inner.Whole.{Whole, whole_of, raised_tys, raised_in, groups_from, group_of, group_at, IsCallable, IsPart}
use Rattle.nv_flatten.proofs.Knowing.{at_most, value-found, sound-found, types-stay, params-stay, result-stays, signatures-stay, function-front, function-behind, signature-found, signature-there, function-among, among-function, signatures-append, AllAre, are-also, are-both, are-replicate, slice-behind, grouped, group-behind, numbered, names-append, AllNarrow, narrow-append, narrow-found, with-layouts, with-exceptions, with-functions}
use Rattle.std.proofs.lemmas.List.{map-append, length-append, length-replicate}
use Rattle.std.proofs.lemmas.Option.{same_Some}
use Rattle.nv_ast.proofs.Faultless.{no_front, no_rest, no_kinds}

-- what is declared by what is known and some functions
abbrev pub so_far : Known → List FunTree → Declared
so_far k funs = record { layouts = k.layouts; exceptions = names_of k.exceptions; functions = funs }

-- what is known before the last declarations of a whole program
pub record SoFar (w : Whole) (k : Known) (funs : List FunTree) (gs : List ℕ) (n : ℕ) (ds : List DeclTree) : Type 0 where
  pub declared : with_decls (so_far k funs) ds ≡ w.declared
  pub raised : w.raised ≡ map (λ e. e.1) k.exceptions ++ map (λ ts. types_of w.declared.layouts ts) (raised_in ds)
  pub groups : w.groups ≡ gs ++ groups_from n ds
  pub signed : k.functions ≡ signatures w.declared.layouts funs
  pub as_many : length gs ≡ length funs
  pub below : AllAre (λ m. m < n) gs
  pub sound : All (λ p. IsSound p.1) k.layouts
  pub narrow : AllNarrow k.exceptions

-- the whole program's layouts, exceptions and functions begin with those
pub layouts-front : (w : Whole) (k : Known) (funs : List FunTree) (gs : List ℕ) (n : ℕ) (ds : List DeclTree) → SoFar w k funs gs n ds → (more : Layouts) × (w.declared.layouts ≡ k.layouts ++ more)
layouts-front w k funs gs n ds so = let r = with-layouts (so_far k funs) ds in (r.0, sym (ap (λ d. d.layouts) so.declared) ∙ r.1)

exceptions-front : (w : Whole) (k : Known) (funs : List FunTree) (gs : List ℕ) (n : ℕ) (ds : List DeclTree) → SoFar w k funs gs n ds → (more : List (List ℕ)) × (w.declared.exceptions ≡ names_of k.exceptions ++ more)
exceptions-front w k funs gs n ds so = let r = with-exceptions (so_far k funs) ds in (r.0, sym (ap (λ d. d.exceptions) so.declared) ∙ r.1)

pub functions-front : (w : Whole) (k : Known) (funs : List FunTree) (gs : List ℕ) (n : ℕ) (fs : List FunTree) (ds : List DeclTree) → SoFar w k funs gs n (GroupDecl fs ∷ ds) → (more : List FunTree) × (w.declared.functions ≡ (funs ++ fs) ++ more)
functions-front w k funs gs n fs ds so = let r = with-functions (with_decl (so_far k funs) (GroupDecl fs)) ds in (r.0, sym (ap (λ d. d.functions) so.declared) ∙ r.1)

one : {A : Type 0} (P : A → Type 0) (x : A) → P x → All P (x ∷ [])
one P x p zero d h = p
one P x p (suc i) d h = absurd (omega arith)

-- ---- a declaration further
pub layout-step : (w : Whole) (k : Known) (funs : List FunTree) (gs : List ℕ) (n : ℕ) (x : List ℕ) (l : _) (s : _) (ds : List DeclTree) → SoFar w k funs gs n (LayoutDecl x l s ∷ ds) → decl_faults k (LayoutDecl x l s) ≡ [] → SoFar w (known_after k (LayoutDecl x l s)) funs gs n ds
layout-step w k funs gs n x l s ds so h =
    let none : layout_faults k.layouts l ≡ [] = no_front (layout_faults k.layouts l) (unfit (outline k.layouts l)) (no_rest (declared_before x (names_of k.layouts)) (declared_faults k.layouts l) (no_kinds s _ h)) in
    record {
      declared = so.declared;
      raised = so.raised;
      groups = so.groups;
      signed = so.signed;
      as_many = so.as_many;
      below = so.below;
      sound = All-append (λ p. IsSound p.1) k.layouts ((x, outline k.layouts l) ∷ []) so.sound (one (λ p. IsSound p.1) (x, outline k.layouts l) (layout_sound k.layouts so.sound l none));
      narrow = so.narrow;
    }

pub exception-step : (w : Whole) (k : Known) (funs : List FunTree) (gs : List ℕ) (n : ℕ) (x : List ℕ) (ts : _) (s : _) (ds : List DeclTree) → SoFar w k funs gs n (ExceptionDecl x ts s ∷ ds) → decl_faults k (ExceptionDecl x ts s) ≡ [] → SoFar w (known_after k (ExceptionDecl x ts s)) funs gs n ds
exception-step w k funs gs n x ts s ds so h =
    let own : types_faults k.layouts ts ++ wide_exception (types_of k.layouts ts) ≡ [] = no_rest (declared_before x (names_of k.exceptions)) _ (no_kinds s _ h) in
    let front = layouts-front w k funs gs n (ExceptionDecl x ts s ∷ ds) so in
    let stays : types_of w.declared.layouts ts ≡ types_of k.layouts ts = ap (λ l. types_of l ts) front.1 ∙ types-stay k.layouts front.0 ts (no_front (types_faults k.layouts ts) _ own) in
    let rest : List Tys = map (λ us. types_of w.declared.layouts us) (raised_in ds) in
    record {
      declared = ap (λ e. with_decls (record { layouts = k.layouts; exceptions = e; functions = funs }) ds) (names-append k.exceptions ((x, types_of k.layouts ts) ∷ [])) ∙ so.declared;
      raised = so.raised
          ∙ ap (λ t. map (λ e. e.1) k.exceptions ++ (t ∷ rest)) stays
          ∙ sym (append_assoc (map (λ e. e.1) k.exceptions) (types_of k.layouts ts ∷ []) rest)
          ∙ ap (λ l. l ++ rest) (sym (map-append (λ e. e.1) k.exceptions ((x, types_of k.layouts ts) ∷ [])));
      groups = so.groups;
      signed = so.signed;
      as_many = so.as_many;
      below = so.below;
      sound = so.sound;
      narrow = narrow-append k.exceptions x (types_of k.layouts ts) so.narrow (at_most 8 (total_words (types_of k.layouts ts)) (no_rest (types_faults k.layouts ts) _ own));
    }

all-signed : (w : Whole) (k : Known) (funs : List FunTree) (gs : List ℕ) (n : ℕ) (fs : List FunTree) (ds : List DeclTree) → SoFar w k funs gs n (GroupDecl fs ∷ ds) → signatures_faults k.layouts fs ≡ [] → k.functions ++ signatures k.layouts fs ≡ signatures w.declared.layouts (funs ++ fs)
all-signed w k funs gs n fs ds so h =
    let front = layouts-front w k funs gs n (GroupDecl fs ∷ ds) so in
    let stay : signatures w.declared.layouts fs ≡ signatures k.layouts fs = ap (λ l. signatures l fs) front.1 ∙ signatures-stay k.layouts front.0 fs h in
    ap (λ l. l ++ signatures k.layouts fs) so.signed ∙ ap (λ l. signatures w.declared.layouts funs ++ l) (sym stay) ∙ sym (signatures-append w.declared.layouts funs fs)

abbrev pub numbers : List ℕ → ℕ → List FunTree → List ℕ
numbers gs n fs = gs ++ replicate (length fs) n

more-groups : (w : Whole) (k : Known) (funs : List FunTree) (gs : List ℕ) (n : ℕ) (fs : List FunTree) (ds : List DeclTree) → SoFar w k funs gs n (GroupDecl fs ∷ ds) → w.groups ≡ numbers gs n fs ++ groups_from (suc n) ds
more-groups w k funs gs n fs ds so = so.groups ∙ sym (append_assoc gs (replicate (length fs) n) (groups_from (suc n) ds))

as-many-more : (funs : List FunTree) (gs : List ℕ) (n : ℕ) (fs : List FunTree) → length gs ≡ length funs → length (numbers gs n fs) ≡ length (funs ++ fs)
as-many-more funs gs n fs e =
    let a : length (numbers gs n fs) ≡ length gs + length (replicate (length fs) n) = length-append gs (replicate (length fs) n) in
    let b : length (replicate (length fs) n) ≡ length fs = length-replicate (length fs) n in
    let c : length (funs ++ fs) ≡ length funs + length fs = length-append funs fs in
    omega arith

below-more : (gs : List ℕ) (n : ℕ) (fs : List FunTree) → AllAre (λ m. m < n) gs → AllAre (λ m. m < suc n) (numbers gs n fs)
below-more gs n fs a = are-both (λ m. m < suc n) gs (replicate (length fs) n) (are-also (λ m. m < n) (λ m. m < suc n) gs (λ g l. omega arith) a) (are-replicate (λ m. m < suc n) n (length fs) (omega arith))

pub group-step : (w : Whole) (k : Known) (funs : List FunTree) (gs : List ℕ) (n : ℕ) (fs : List FunTree) (ds : List DeclTree) → SoFar w k funs gs n (GroupDecl fs ∷ ds) → signatures_faults k.layouts fs ≡ [] → SoFar w (known_after k (GroupDecl fs)) (funs ++ fs) (numbers gs n fs) (suc n) ds
group-step w k funs gs n fs ds so h = record {
  declared = so.declared;
  raised = so.raised;
  groups = more-groups w k funs gs n fs ds so;
  signed = all-signed w k funs gs n fs ds so h;
  as_many = as-many-more funs gs n fs so.as_many;
  below = below-more gs n fs so.below;
  sound = so.sound;
  narrow = so.narrow;
}

-- ---- what is known in a group's bodies is so in the whole program
callable-of : (w : Whole) (own : ℕ) (inside : Bool) (f : List ℕ) (s : Signature) (g : FunTree) (hs more : List FunTree) (gs rest : List ℕ) (P : ℕ → Type 0)
    → w.declared.functions ≡ hs ++ more → w.groups ≡ gs ++ rest → length gs ≡ length hs → AllAre P gs → function_in hs f ≡ Some g → signature w.declared.layouts g ≡ s
    → ((m : ℕ) → P m → (if inside then nat_le m own else nat_lt m own) ≡ true) → IsCallable w own inside f s
callable-of w own inside f s g hs more gs rest P functions groups as_many all found signed early =
    let r = grouped 0 P hs more gs rest f g as_many all found in
    let z : 0 + r.place ≡ r.place = omega arith in
    record {
      fun = g;
      found = ap (λ l. function_in l f) functions ∙ function-front hs more f g found;
      signed = signed;
      group = r.group;
      numbered = ap (λ l. group_at w (place_from 0 f (map (λ h. h.name) l))) functions ∙ ap (group_at w) r.stands ∙ ap (slice_get w.groups) z ∙ ap (λ l. slice_get l r.place) groups ∙ r.numbered;
      earlier = early r.group r.holds;
    }

early-before : (inside : Bool) (own m : ℕ) → m < own → (if inside then nat_le m own else nat_lt m own) ≡ true
early-before true own m h = le-leb m own (omega arith)
early-before false own m h = lt-ltb m own h

pub part-of : (w : Whole) (k : Known) (funs : List FunTree) (gs : List ℕ) (n : ℕ) (fs : List FunTree) (ds : List DeclTree) → SoFar w k funs gs n (GroupDecl fs ∷ ds) → signatures_faults k.layouts fs ≡ [] → IsPart w n (in_group k fs)
part-of w k funs gs n fs ds so h = record { layouts = layouts; exceptions = exceptions; functions = functions }
  where
    layouts : (x : List ℕ) (o : OutlineTree) → look_up x k.layouts ≡ Some o → (outline w.declared.layouts (NamedLayout x) ≡ o) × IsSound o
    layouts x o e =
        let front = layouts-front w k funs gs n (GroupDecl fs ∷ ds) so in
        (ap (λ l. outline l (NamedLayout x)) front.1 ∙ value-found (PartsOutline no_named_outlines) x k.layouts front.0 o e, sound-found x k.layouts o so.sound e)

    exceptions : (x : List ℕ) (ts : Tys) → look_up x k.exceptions ≡ Some ts → raised_tys w (exception_number w.declared.exceptions x) ≡ Some ts
    exceptions x ts e =
        let front = exceptions-front w k funs gs n (GroupDecl fs ∷ ds) so in
        let r = numbered 1 k.exceptions front.0 (map (λ us. types_of w.declared.layouts us) (raised_in ds)) x ts e in
        let z : 1 + r.place ≡ suc r.place = omega arith in
        ap (raised_tys w) (ap (λ l. exception_number l x) front.1 ∙ r.numbered ∙ z) ∙ ap (λ l. slice_get l r.place) so.raised ∙ r.there

    functions : (f : List ℕ) (s : Signature) → look_up f (k.functions ++ signatures k.layouts fs) ≡ Some s → IsCallable w n (is_among f (names_of (signatures k.layouts fs))) f s
    functions f s e = by (function_in funs f) refl
      where
        found : (g : FunTree) × (function_in (funs ++ fs) f ≡ Some g) × (signature w.declared.layouts g ≡ s)
        found = signature-found w.declared.layouts (funs ++ fs) f s (ap (look_up f) (sym (all-signed w k funs gs n fs ds so h)) ∙ e)

        front : (more : List FunTree) × (w.declared.functions ≡ (funs ++ fs) ++ more)
        front = functions-front w k funs gs n fs ds so

        by : (o : Option FunTree) → function_in funs f ≡ o → IsCallable w n (is_among f (names_of (signatures k.layouts fs))) f s
        by (Some g) q =
            let same : found.0 ≡ g = same_Some _ _ (sym found.1 ∙ function-front funs fs f g q) in
            callable-of w n (is_among f (names_of (signatures k.layouts fs))) f s g funs (fs ++ front.0) gs (groups_from n (GroupDecl fs ∷ ds)) (λ m. m < n)
            (front.1 ∙ append_assoc funs fs front.0) so.groups so.as_many so.below q (subst (λ d. signature w.declared.layouts d ≡ s) same found.2)
            (early-before (is_among f (names_of (signatures k.layouts fs))) n)
        by None q =
            let inside : is_among f (names_of (signatures k.layouts fs)) ≡ true = function-among k.layouts fs f found.0 (sym (function-behind funs fs f q) ∙ found.1) in
            callable-of w n (is_among f (names_of (signatures k.layouts fs))) f s found.0 (funs ++ fs) front.0 (numbers gs n fs) (groups_from (suc n) ds) (λ m. m < suc n)
            front.1 (more-groups w k funs gs n fs ds so) (as-many-more funs gs n fs so.as_many) (below-more gs n fs so.below) found.1 found.2
            (λ m l. ap (λ b. if b then nat_le m n else nat_lt m n) inside ∙ le-leb m n (omega arith))

-- ---- the body of a function
pub record IsBody (w : Whole) (f : List ℕ) (g : FunTree) : Type 0 where
  pub own : ℕ
  pub known : Known
  pub part : IsPart w own known
  pub grouped : group_of w f ≡ Some own
  pub none : body_faults known g ≡ []
  pub params : named_types_of known.layouts g.params ≡ named_types_of w.declared.layouts g.params
  pub result : type_of known.layouts g.result ≡ type_of w.declared.layouts g.result
  pub signed : signature_faults known.layouts g ≡ []

pub body-found : (k : Known) (fs : List FunTree) (f : List ℕ) (g : FunTree) → bodies_faults k fs ≡ [] → function_in fs f ≡ Some g → body_faults k g ≡ []
body-found k [] f g h e = absurd (cc)
body-found k (d ∷ fs) f g h e = by (bytes_eq f d.name) refl (λ q. body-found k fs f g (no_rest (body_faults k d) (bodies_faults k fs) h) q)
  where
    by : (b : Bool) → bytes_eq f d.name ≡ b → (function_in fs f ≡ Some g → body_faults k g ≡ []) → body_faults k g ≡ []
    by true q next = subst (λ c. body_faults k c ≡ []) (same_Some _ _ (sym (ap (λ b. if b then Some d else function_in fs f) q) ∙ e)) (no_front (body_faults k d) (bodies_faults k fs) h)
    by false q next = next (sym (ap (λ b. if b then Some d else function_in fs f) q) ∙ e)

pub signed-found : (k : Layouts) (fs : List FunTree) (f : List ℕ) (g : FunTree) → signatures_faults k fs ≡ [] → function_in fs f ≡ Some g → signature_faults k g ≡ []
signed-found k [] f g h e = absurd (cc)
signed-found k (d ∷ fs) f g h e = by (bytes_eq f d.name) refl (λ q. signed-found k fs f g (no_rest (signature_faults k d) (signatures_faults k fs) h) q)
  where
    by : (b : Bool) → bytes_eq f d.name ≡ b → (function_in fs f ≡ Some g → signature_faults k g ≡ []) → signature_faults k g ≡ []
    by true q next = subst (λ c. signature_faults k c ≡ []) (same_Some _ _ (sym (ap (λ b. if b then Some d else function_in fs f) q) ∙ e)) (no_front (signature_faults k d) (signatures_faults k fs) h)
    by false q next = next (sym (ap (λ b. if b then Some d else function_in fs f) q) ∙ e)

-- the group of a function that stands in this one first
pub group-exact : (w : Whole) (k : Known) (funs : List FunTree) (gs : List ℕ) (n : ℕ) (fs : List FunTree) (ds : List DeclTree) → SoFar w k funs gs n (GroupDecl fs ∷ ds) → (f : List ℕ) (g : FunTree) → function_in funs f ≡ None → function_in fs f ≡ Some g → group_of w f ≡ Some n
group-exact w k funs gs n fs ds so f g none found =
    let front = functions-front w k funs gs n fs ds so in
    let r = grouped (length funs + 0) (λ m. m ≡ n) fs front.0 (replicate (length fs) n) (groups_from (suc n) ds) f g (length-replicate (length fs) n) (are-replicate (λ m. m ≡ n) n (length fs) refl) found in
    let many = so.as_many in
    let z : length funs + 0 + r.place ≡ length gs + r.place = omega arith in
    ap (λ l. group_at w (place_from 0 f (map (λ h. h.name) l))) (front.1 ∙ append_assoc funs fs front.0)
    ∙ ap (group_at w) (group-behind 0 funs (fs ++ front.0) f none ∙ r.stands)
    ∙ ap (λ l. slice_get l (length funs + 0 + r.place)) so.groups
    ∙ slice-behind gs (groups_from n (GroupDecl fs ∷ ds)) r.place (length funs + 0 + r.place) z
    ∙ r.numbered ∙ ap (λ m. Some m) r.holds

pub group-body : (w : Whole) (k : Known) (funs : List FunTree) (gs : List ℕ) (n : ℕ) (fs : List FunTree) (ds : List DeclTree) → SoFar w k funs gs n (GroupDecl fs ∷ ds) → decl_faults k (GroupDecl fs) ≡ [] → (f : List ℕ) (g : FunTree) → function_in funs f ≡ None → function_in fs f ≡ Some g → IsBody w f g
group-body w k funs gs n fs ds so h f g none found =
    let rest : signatures_faults k.layouts fs ++ bodies_faults (in_group k fs) fs ≡ [] = no_rest (name_faults (names_of k.functions) fs) _ h in
    let signs : signatures_faults k.layouts fs ≡ [] = no_front (signatures_faults k.layouts fs) _ rest in
    let front = layouts-front w k funs gs n (GroupDecl fs ∷ ds) so in
    let sign : signature_faults k.layouts g ≡ [] = signed-found k.layouts fs f g signs found in
    record {
      own = n;
      known = in_group k fs;
      part = part-of w k funs gs n fs ds so signs;
      grouped = group-exact w k funs gs n fs ds so f g none found;
      none = body-found (in_group k fs) fs f g (no_rest (signatures_faults k.layouts fs) _ rest) found;
      params = sym (ap (λ l. named_types_of l g.params) front.1 ∙ params-stay k.layouts front.0 g sign);
      result = sym (ap (λ l. type_of l g.result) front.1 ∙ result-stays k.layouts front.0 g sign);
      signed = sign;
    }

bodies-from : (w : Whole) (k : Known) (funs : List FunTree) (gs : List ℕ) (n : ℕ) (ds : List DeclTree) → SoFar w k funs gs n ds → decls_faults k ds ≡ [] → (f : List ℕ) (g : FunTree) → function_in funs f ≡ None → function_in w.declared.functions f ≡ Some g → IsBody w f g
bodies-from w k funs gs n [] so h f g none found = let e : None ≡ Some g = sym none ∙ ap (λ d. function_in d.functions f) so.declared ∙ found in absurd (cc)
bodies-from w k funs gs n (LayoutDecl x l s ∷ ds) so h f g none found =
    bodies-from w (known_after k (LayoutDecl x l s)) funs gs n ds (layout-step w k funs gs n x l s ds so (no_front (decl_faults k (LayoutDecl x l s)) _ h)) (no_rest (decl_faults k (LayoutDecl x l s)) _ h) f g none found
bodies-from w k funs gs n (ExceptionDecl x ts s ∷ ds) so h f g none found =
    bodies-from w (known_after k (ExceptionDecl x ts s)) funs gs n ds (exception-step w k funs gs n x ts s ds so (no_front (decl_faults k (ExceptionDecl x ts s)) _ h)) (no_rest (decl_faults k (ExceptionDecl x ts s)) _ h) f g none found
bodies-from w k funs gs n (GroupDecl fs ∷ ds) so h f g none found =
    by (function_in fs f) refl (λ missing. bodies-from w (known_after k (GroupDecl fs)) (funs ++ fs) (numbers gs n fs) (suc n) ds (group-step w k funs gs n fs ds so signs) (no_rest (decl_faults k (GroupDecl fs)) _ h) f g missing found)
  where
    own : decl_faults k (GroupDecl fs) ≡ []
    own = no_front (decl_faults k (GroupDecl fs)) _ h

    signs : signatures_faults k.layouts fs ≡ []
    signs = no_front (signatures_faults k.layouts fs) _ (no_rest (name_faults (names_of k.functions) fs) _ own)

    by : (o : Option FunTree) → function_in fs f ≡ o → (function_in (funs ++ fs) f ≡ None → IsBody w f g) → IsBody w f g
    by (Some d) q next =
        let front = functions-front w k funs gs n fs ds so in
        let there : function_in w.declared.functions f ≡ Some d = ap (λ l. function_in l f) front.1 ∙ function-front (funs ++ fs) front.0 f d (function-behind funs fs f none ∙ q) in
        subst (IsBody w f) (same_Some _ _ (sym there ∙ found)) (group-body w k funs gs n fs ds so own f d none q)
    by None q next = next (function-behind funs fs f none ∙ q)

pub at-first : (t : ProgramTree) → SoFar (whole_of t) nothing_known [] [] 0 t.decls
at-first t = record {
  declared = refl;
  raised = refl;
  groups = refl;
  signed = refl;
  as_many = refl;
  below = tt {0};
  sound = λ i d h. absurd (omega arith);
  narrow = tt {0};
}

pub bodies : (t : ProgramTree) → program_faults t ≡ [] → (f : List ℕ) (g : FunTree) → function_in (whole_of t).declared.functions f ≡ Some g → IsBody (whole_of t) f g
bodies t h f g found = bodies-from (whole_of t) nothing_known [] [] 0 t.decls (at-first t) (no_front (decls_faults nothing_known t.decls) _ h) f g refl found

-- ---- what is known at the end
pub record Behind (w : Whole) (k : Known) : Type 0 where
  pub funs : List FunTree
  pub gs : List ℕ
  pub n : ℕ
  pub so : SoFar w k funs gs n []

behind-from : (w : Whole) (k : Known) (funs : List FunTree) (gs : List ℕ) (n : ℕ) (ds : List DeclTree) → SoFar w k funs gs n ds → decls_faults k ds ≡ [] → Behind w (known_behind k ds)
behind-from w k funs gs n [] so h = record { funs = funs; gs = gs; n = n; so = so }
behind-from w k funs gs n (LayoutDecl x l s ∷ ds) so h =
    behind-from w (known_after k (LayoutDecl x l s)) funs gs n ds (layout-step w k funs gs n x l s ds so (no_front (decl_faults k (LayoutDecl x l s)) _ h)) (no_rest (decl_faults k (LayoutDecl x l s)) _ h)
behind-from w k funs gs n (ExceptionDecl x ts s ∷ ds) so h =
    behind-from w (known_after k (ExceptionDecl x ts s)) funs gs n ds (exception-step w k funs gs n x ts s ds so (no_front (decl_faults k (ExceptionDecl x ts s)) _ h)) (no_rest (decl_faults k (ExceptionDecl x ts s)) _ h)
behind-from w k funs gs n (GroupDecl fs ∷ ds) so h =
    let own : decl_faults k (GroupDecl fs) ≡ [] = no_front (decl_faults k (GroupDecl fs)) _ h in
    let signs : signatures_faults k.layouts fs ≡ [] = no_front (signatures_faults k.layouts fs) _ (no_rest (name_faults (names_of k.functions) fs) _ own) in
    behind-from w (known_after k (GroupDecl fs)) (funs ++ fs) (numbers gs n fs) (suc n) ds (group-step w k funs gs n fs ds so signs) (no_rest (decl_faults k (GroupDecl fs)) _ h)

behind : (t : ProgramTree) → program_faults t ≡ [] → Behind (whole_of t) (known_behind nothing_known t.decls)
behind t h = behind-from (whole_of t) nothing_known [] [] 0 t.decls (at-first t) (no_front (decls_faults nothing_known t.decls) _ h)

-- an exception's values have at most eight words
pub narrow-raised : (t : ProgramTree) → program_faults t ≡ [] → (k : ℕ) (ts : Tys) → raised_tys (whole_of t) k ≡ Some ts → total_words ts ≤ 8
narrow-raised t h zero ts e = absurd (cc)
narrow-raised t h (suc i) ts e =
    let b = behind t h in
    narrow-found (known_behind nothing_known t.decls).exceptions i ts b.so.narrow (ap (λ l. slice_get l i) (sym b.so.raised) ∙ e)

-- the program has a main, whose words it takes
pub record HasMain (t : ProgramTree) : Type 0 where
  pub fun : FunTree
  pub found : function_in (whole_of t).declared.functions main_name ≡ Some fun
  pub words : main_words t ≡ total_named_words (named_types_of (whole_of t).declared.layouts fun.params)

pub has-main : (t : ProgramTree) → program_faults t ≡ [] → HasMain t
has-main t h =
    let b = behind t h in
    let w = whole_of t in
    let k = known_behind nothing_known t.decls in
    let there : is_among main_name (names_of k.functions) ≡ true = where_not (is_among main_name (names_of k.functions)) 1 (no_kinds _ (no_main k) (no_rest (decls_faults nothing_known t.decls) _ h)) in
    let r = among-function w.declared.layouts b.funs main_name (ap (λ l. is_among main_name (names_of l)) (sym b.so.signed) ∙ there) in
    record {
      fun = r.0;
      found = sym (ap (λ d. function_in d.functions main_name) b.so.declared) ∙ r.1;
      words = ap (λ l. signature_words (look_up main_name l)) b.so.signed ∙ ap signature_words (signature-there w.declared.layouts b.funs main_name r.0 r.1);
    }
