-- One more flat function among those of a program.
use Rattle.std.proofs.Common.{◌≡◌, ◌∙◌, ℕ, zero, suc, ◌+◌, List, [], ◌∷◌, ◌++◌, length, ap, subst, sym, Option, Some, None, arith}
use Rattle.std.specs.Prelude.{slice_get}
use Rattle.nv_ast.specs.Tree.{FunTree}
use Rattle.nv_meaning.specs.Meaning.{function_in}
use Rattle.flat_ir.specs.declared.flat.FlatFun.{FlatFun}
use Rattle.nv_flatten_values.specs.inner.Whole.{Whole}
use Rattle.nv_flatten_values.specs.inner.Simulation.{Names, Extends}
use Rattle.nv_flatten_values.specs.inner.Narrow.{IsNarrowOf, AreNarrowFuns}
use Rattle.nv_flatten_values.proofs.CallArms.{get-append}
use Rattle.nv_flatten_values.proofs.Keeping.{extends-then}

-- what stands at a place of a list with one more element
at-last : {A : Type 0} (P : A → ℕ → Type 0) (xs : List A) (x y : A) (i j : ℕ) → slice_get (xs ++ x ∷ []) i ≡ Some y → ((z : A) (k : ℕ) → slice_get xs k ≡ Some z → P z (j + k)) → P x (j + length xs) → P y (j + i)
at-last P [] x y zero j e h p = let same : x ≡ y = cc in subst (λ z. P z (j + 0)) same p
at-last P [] x y (suc i) j e h p = absurd (cc)
at-last P (z ∷ xs) x y zero j e h p = h y 0 e
at-last P (z ∷ xs) x y (suc i) j e h p =
    let s : suc j + i ≡ j + suc i = omega arith in
    let t : j + length (z ∷ xs) ≡ suc j + length xs = omega arith in
    subst (P y) s (at-last P xs x y i (suc j) e (λ v k f. let r : j + suc k ≡ suc j + k = omega arith in subst (P v) r (h v (suc k) f)) (subst (P x) t p))

pub fun-more : (w : Whole) (names more : Names) → Extends names more → (f : List ℕ) (o : Option FunTree) (fun : FlatFun) → IsNarrowOf w names f o fun → IsNarrowOf w more f o fun
fun-more w names more h f None fun e = e
fun-more w names more h f (Some g) fun m = record { names = m.names; more = extends-then m.names names more m.more h; group = m.group; params = m.params; results = m.results; end = m.end }

pub funs-none : (w : Whole) (names : Names) → AreNarrowFuns w names []
funs-none w names = record { by = λ i fun e. absurd (none-at i fun e) }
  where
    none-at : (i : ℕ) (fun : FlatFun) → slice_get {X = FlatFun} [] i ≡ Some fun → ⊥
    none-at i fun e = cc

-- what is made of the function of a number
abbrev IsMadeAt : Whole → Names → FlatFun → ℕ → Type 0
IsMadeAt w names d j = (x : List ℕ) × (slice_get names j ≡ Some x) × IsNarrowOf w names x (function_in w.declared.functions x) d

-- a function is made of the name with its number; further names may come
pub funs-more : (w : Whole) (names more : Names) (funs : List FlatFun) (f : List ℕ) (fun : FlatFun) → Extends names more → AreNarrowFuns w names funs → slice_get names (length funs) ≡ Some f → IsNarrowOf w more f (function_in w.declared.functions f) fun
    → AreNarrowFuns w more (funs ++ fun ∷ [])
funs-more w names more funs f fun h a named new = record {
  by = λ i g e.
      let further : (j : ℕ) (x : List ℕ) → slice_get names j ≡ Some x → slice_get more j ≡ Some x = λ j x there. ap (λ l. slice_get l j) h.1 ∙ get-append names h.0 j x there in
      let z : 0 + length funs ≡ length funs = omega arith in
      let y : 0 + i ≡ i = omega arith in
      subst (IsMadeAt w more g) y
      (at-last (λ d j. IsMadeAt w more d j) funs fun g i 0 e
      (λ d k there.
      let r = a.by k d there in
      let s : k ≡ 0 + k = omega arith in
      subst (IsMadeAt w more d) s (r.0, further k r.0 r.1, fun-more w names more h r.0 (function_in w.declared.functions r.0) d r.2))
      (subst (IsMadeAt w more fun) (sym z) (f, further (length funs) f named, new)));
}
