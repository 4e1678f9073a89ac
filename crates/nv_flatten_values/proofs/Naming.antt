-- Names by their numbers, and flat functions one after another.
use Rattle.std.proofs.Common.{◌≡◌, ◌∙◌, refl, sym, ap, subst, ℕ, zero, suc, ◌+◌, ◌<◌, ◌≤◌, Bool, true, false, List, [], ◌∷◌, ◌++◌, map, length, Some, None, bytes_eq, append_assoc, append-nil, arith, if◌then◌else◌, Bor, ◌⊎◌, inl, inr}
use Rattle.std.specs.Prelude.{slice_get}
use Rattle.std.proofs.lemmas.Bool.{cases_lt}
use Rattle.std.proofs.lemmas.Slice.Eq.{bytes_eq-Decides}
use Rattle.nv_ast.specs.Tree.{FunTree}
use Rattle.nv_meaning.specs.Meaning.{function_in}
use Rattle.flat_ir.specs.declared.flat.FlatFun.{FlatFun}
use Rattle.nv_flatten_values.specs.inner.Whole.{Whole}
use Rattle.nv_flatten_values.specs.inner.Simulation.{Names, Extends}
use Rattle.flat_ir.specs.Reached.{calls}
use Rattle.nv_flatten_values.specs.inner.Made.{IsMade, AreMade, AllMade, IsPlaced, ArePlaced}
use Rattle.nv_flatten_values.specs.inner.Well.{AreCalled}
use Rattle.nv_flatten_values.proofs.WellProgram.{AreFound, found-first, found-more}
use Rattle.std.proofs.lemmas.List.{map-append}
use Rattle.std.proofs.lemmas.Option.{same_Some, slice_get_within}
use Rattle.nv_flatten_values.proofs.CallArms.{get-append}

slice-mapped : (ks : List (Bor (List ℕ))) (i : ℕ) (k : Bor (List ℕ)) → slice_get ks i ≡ Some k → slice_get (map (λ y. y.now) ks) i ≡ Some k.now
slice-mapped [] i k e = cc
slice-mapped (y ∷ ks) zero k e = ap (λ z. Some z.now) (same_Some _ _ e)
slice-mapped (y ∷ ks) (suc i) k e = slice-mapped ks i k e

-- the number of a name
pub name-at : (ks : List (Bor (List ℕ))) (i : ℕ) (k : Bor (List ℕ)) (x : List ℕ) → slice_get ks i ≡ Some k → bytes_eq x k.now ≡ true → slice_get (map (λ y. y.now) ks) i ≡ Some x
name-at ks i k x e q = slice-mapped ks i k e ∙ ap (λ y. Some y) (sym ((bytes_eq-Decides x k.now).0 q))

-- a name more, or the same names
abbrev pub Added : Names → Names → List ℕ → Type 0
Added old new x = (new ≡ old) ⊎ (new ≡ old ++ x ∷ [])

key-added : (b : Bool) (ks : List (Bor (List ℕ))) (k : Bor (List ℕ)) → Added (map (λ y. y.now) ks) (map (λ y. y.now) (if b then ks else ks ++ k ∷ [])) k.now
key-added true ks k = inl refl
key-added false ks k = inr (map-append (λ y. y.now) ks (k ∷ []))

pub names-added : (b : Bool) (ks new : List (Bor (List ℕ))) (k : Bor (List ℕ)) → new ≡ (if b then ks else ks ++ k ∷ []) → Added (map (λ y. y.now) ks) (map (λ y. y.now) new) k.now
names-added b ks new k e = subst (λ l. Added (map (λ y. y.now) ks) (map (λ y. y.now) l) k.now) (sym e) (key-added b ks k)

pub added-extends : (old new : Names) (x : List ℕ) → Added old new x → Extends old new
added-extends old new x a = elim a [ inl same ↦ ([], same ∙ sym (append-nil old)) | inr more ↦ (x ∷ [], more) ]

-- ---- numbers that are there stay

-- what stands in a list with one more
pub record Seen {A : Type 0} (xs : List A) (last : A) (i : ℕ) (x : A) : Type 0 where
  pub place : i ≤ length xs
  pub before : i < length xs → slice_get xs i ≡ Some x
  pub here : i ≡ length xs → x ≡ last

pub slice-last : {A : Type 0} (xs : List A) (last : A) (i : ℕ) (x : A) → slice_get (xs ++ last ∷ []) i ≡ Some x → Seen xs last i x
slice-last [] last zero x e = record { place = omega arith; before = λ h. absurd (omega arith); here = λ h. sym (same_Some _ _ e) }
slice-last [] last (suc i) x e = absurd (cc)
slice-last (y ∷ xs) last zero x e = record { place = omega arith; before = λ h. e; here = λ h. absurd (omega arith) }
slice-last (y ∷ xs) last (suc i) x e =
    let r = slice-last xs last i x e in
    let p : i ≤ length xs = r.place in
    record { place = omega arith; before = λ h. r.before (omega arith); here = λ h. r.here (omega arith) }

pub slice-there : {A : Type 0} (xs : List A) (i : ℕ) → i < length xs → (x : A) × (slice_get xs i ≡ Some x)
slice-there [] i h = absurd (omega arith)
slice-there (y ∷ xs) zero h = (y, refl)
slice-there (y ∷ xs) (suc i) h = slice-there xs i (omega arith)

pub slice-past : {A : Type 0} (xs : List A) (i : ℕ) → slice_get xs i ≡ None → length xs ≤ i
slice-past [] i e = omega arith
slice-past (y ∷ xs) zero e = cc
slice-past (y ∷ xs) (suc i) e = let h : length xs ≤ i = slice-past xs i e in omega arith

-- ---- the functions that are made so far, of the functions with the first names
pub record MadeSoFar (w : Whole) (main : List ℕ) (names : Names) (funs : List FlatFun) : Type 0 where
  pub first : slice_get names 0 ≡ Some main
  pub few : length funs ≤ length names
  pub made : AreMade w names funs
  pub placed : ArePlaced w names funs
  pub found : AreFound names funs

more-names : (w : Whole) (names new : Names) (g : FunTree) (fun : FlatFun) → Extends names new → IsMade w names g fun → IsMade w new g fun
more-names w names new g fun more m = record {
  names = m.names;
  more = (m.more.0 ++ more.0, more.1 ∙ ap (λ l. l ++ more.0) m.more.1 ∙ append_assoc m.names m.more.0 more.0);
  low = m.low;
  high = m.high;
  form = m.form;
  params = m.params;
  behind = m.behind;
  end = m.end;
  old = m.old;
  well = m.well;
  results = m.results;
}

first-added : (old new : Names) (x : List ℕ) (i : ℕ) → old ≡ [] → Added old new x → slice_get new i ≡ Some x → slice_get new 0 ≡ Some x
first-added old new x i none a there = elim a [
  | inl same ↦ (let e : slice_get {X = List ℕ} [] i ≡ Some x = sym (ap (λ l. slice_get l i) (same ∙ none)) ∙ there in cc)
  | inr more ↦ ap (λ l. slice_get l 0) (more ∙ ap (λ l. l ++ x ∷ []) none)
]

alone : (old new : Names) (x : List ℕ) (i : ℕ) → old ≡ [] → Added old new x → slice_get new i ≡ Some x → new ≡ x ∷ []
alone old new x i none a there = elim a [
  | inl same ↦ (let e : slice_get {X = List ℕ} [] i ≡ Some x = sym (ap (λ l. slice_get l i) (same ∙ none)) ∙ there in cc)
  | inr more ↦ more ∙ ap (λ l. l ++ x ∷ []) none
]

pub made-first : (w : Whole) (main : List ℕ) (names new : Names) (i : ℕ) (funs : List FlatFun) → names ≡ [] → Added names new main → slice_get new i ≡ Some main → funs ≡ [] → MadeSoFar w main new funs
made-first w main names new i funs none added there empty = record {
  first = first-added names new main i none added there;
  few = (let e : length funs ≡ 0 = ap length empty in omega arith);
  made = record { by = λ j f g fun named found here. absurd (no-function j fun (sym (ap (λ l. slice_get l j) empty) ∙ here)) };
  placed = record { by = λ j f fun named here. absurd (no-function j fun (sym (ap (λ l. slice_get l j) empty) ∙ here)) };
  found = subst (λ l. AreFound l funs) (sym (alone names new main i none added there)) (subst (AreFound (main ∷ [])) (sym empty) (found-first main));
}
  where
    no-function : (j : ℕ) (fun : FlatFun) → slice_get {X = FlatFun} [] j ≡ Some fun → ⊥
    no-function j fun e = cc

-- one function more
pub made-more : (w : Whole) (main name : List ℕ) (names new : Names) (funs funs' : List FlatFun) (fun : FlatFun) → MadeSoFar w main names funs → slice_get names (length funs) ≡ Some name → Extends names new
    → ((g : FunTree) → function_in w.declared.functions name ≡ Some g → IsMade w new g fun) → IsPlaced w name fun → AreCalled names new (calls fun.body) → funs' ≡ funs ++ fun ∷ [] → MadeSoFar w main new funs'
made-more w main name names new funs funs' fun so named more made placed calling pushed = record {
  first = ap (λ l. slice_get l 0) more.1 ∙ get-append names more.0 0 main so.first;
  few = few;
  made = record { by = by };
  placed = record { by = stands };
  found = subst (AreFound new) (sym pushed) (found-more names new funs fun inside so.found calling);
}
  where
    inside : length funs < length names
    inside = slice_get_within names (length funs) name named

    longer : (xs ys : Names) → length (xs ++ ys) ≡ length xs + length ys
    longer [] ys = omega arith
    longer (x ∷ xs) ys = let h = longer xs ys in omega arith

    last : (xs : List FlatFun) → length (xs ++ fun ∷ []) ≡ suc (length xs)
    last [] = refl
    last (x ∷ xs) = ap suc (last xs)

    few : length funs' ≤ length new
    few =
        let a : length new ≡ length names + length more.0 = ap length more.1 ∙ longer names more.0 in
        let b : length funs' ≡ suc (length funs) = ap length pushed ∙ last funs in
        let c : length funs < length names = inside in
        omega arith

    earlier : (i : ℕ) → i < length names → (f : List ℕ) → slice_get new i ≡ Some f → slice_get names i ≡ Some f
    earlier i h f e =
        let r = slice-there names i h in
        let same : r.0 ≡ f = same_Some _ _ (sym (ap (λ l. slice_get l i) more.1 ∙ get-append names more.0 i r.0 r.1) ∙ e) in
        r.1 ∙ ap (λ x. Some x) same

    by : (i : ℕ) (f : List ℕ) (g : FunTree) (d : FlatFun) → slice_get new i ≡ Some f → function_in w.declared.functions f ≡ Some g → slice_get funs' i ≡ Some d → IsMade w new g d
    by i f g d called found there =
        let c : length funs < length names = inside in
        let s = slice-last funs fun i d (sym (ap (λ l. slice_get l i) pushed) ∙ there) in
        let p : i ≤ length funs = s.place in
        let named' : slice_get names i ≡ Some f = earlier i (omega arith) f called in
        elim (cases_lt i (length funs)) [
          | inl below ↦ more-names w names new g d more (so.made.by i f g d named' found (s.before below))
          | inr past ↦ (
              let here : i ≡ length funs = omega arith in
              let same : name ≡ f = same_Some _ _ (sym named ∙ ap (slice_get names) (sym here) ∙ named') in
              subst (IsMade w new g) (sym (s.here here)) (made g (ap (function_in w.declared.functions) same ∙ found)))
        ]

    stands : (i : ℕ) (f : List ℕ) (d : FlatFun) → slice_get new i ≡ Some f → slice_get funs' i ≡ Some d → IsPlaced w f d
    stands i f d called there =
        let c : length funs < length names = inside in
        let s = slice-last funs fun i d (sym (ap (λ l. slice_get l i) pushed) ∙ there) in
        let p : i ≤ length funs = s.place in
        let named' : slice_get names i ≡ Some f = earlier i (omega arith) f called in
        elim (cases_lt i (length funs)) [
          | inl below ↦ so.placed.by i f d named' (s.before below)
          | inr past ↦ (
              let here : i ≡ length funs = omega arith in
              let same : name ≡ f = same_Some _ _ (sym named ∙ ap (slice_get names) (sym here) ∙ named') in
              subst (λ x. IsPlaced w x d) same (subst (IsPlaced w name) (sym (s.here here)) placed))
        ]

-- none is left
pub all-made : (w : Whole) (main : List ℕ) (names : Names) (funs : List FlatFun) → MadeSoFar w main names funs → slice_get names (length funs) ≡ None → AllMade w names funs
all-made w main names funs so none = record {
  by = λ i f g named found.
      let below : i < length names = slice_get_within names i f named in
      let past : length names ≤ length funs = slice-past names (length funs) none in
      let r = slice-there funs i (omega arith) in
      (r.0, r.1, so.made.by i f g r.0 named found r.1);
}
