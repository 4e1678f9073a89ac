-- Well formed steps and code, put together.
use Rattle.std.proofs.Common.{◌≡◌, ℕ, ◌≤◌, Bool, true, ◌&&◌, List, [], ◌∷◌, ◌++◌, refl, sym, subst, ◌∙◌, Option, arith}
use Rattle.std.proofs.lemmas.Bool.{and_parts, and_from}
use Rattle.nv_base.specs.declared.term.Atom.{Atom}
use Rattle.nv_base.specs.declared.term.Cmp.{Cmp}
use Rattle.nv_ast.specs.Types.{Ty}
use Rattle.flat_ir.specs.declared.flat.Flat.{Flat}
use Rattle.flat_ir.specs.declared.flat.Flat.TheVariants.{If'}
use Rattle.flat_ir.specs.declared.spine.Step.{Step}
use Rattle.flat_ir.specs.Spine.{AreNodes}
use Rattle.nv_base.specs.Access.{is_known}
use Rattle.flat_ir.specs.Formed.{is_formed, defined, raised}
use Rattle.flat_ir.specs.Pieces.{new_vars, known_behind, step_formed, steps_formed, step_defined, steps_defined, step_raised, steps_raised}
use Rattle.nv_base.specs.Sets.{Within}
use Rattle.flat_ir.proofs.Parts.{nodes-formed, nodes-defined, nodes-raised}
use Rattle.flat_ir.proofs.Appended.{known-append, formed-append, defined-append, raised-append}
use Rattle.nv_flatten_values.specs.inner.Symbols.{SymbolScope}
use Rattle.nv_flatten_values.specs.inner.Simulation.{Names, Extends}
use Rattle.nv_flatten_values.specs.inner.Whole.{Whole}
use Rattle.nv_flatten_values.specs.inner.Well.{Linked, ScopeKnown, Rises, RaisedMatch, WellSteps, Knows, GivesWords, WellCode, IsChoice, AreWellLets}
use Rattle.nv_flatten_values.proofs.WellBasics.{known-more, scope-more, rises-append, rises-later, raised-both}
use Rattle.nv_flatten_values.proofs.Keeping.{extends-then}

-- ---- further names

abbrev pub linked-fewer : (w : Whole) (names more : Names) → Extends names more → Linked w more → Linked w names
linked-fewer w names more h l = record { all = l.all; more = extends-then names more l.all h l.more; funs = l.funs; match = l.match; short = l.short }

pub steps-names : (w : Whole) (names more : Names) (low high own : ℕ) (scope : SymbolScope) (ss : List Step) (P : List ℕ → Type 0) → Extends names more → WellSteps w names low high own scope ss P → WellSteps w more low high own scope ss P
steps-names w names more low high own scope ss P h a = record {
  formed = λ l known k. a.formed (linked-fewer w names more h l) known k;
  rises = a.rises;
  raises = a.raises;
}

pub code-names : (w : Whole) (names more : Names) (low high own : ℕ) (scope : SymbolScope) (tail : Bool) (o : Option Ty) (t : Flat) → Extends names more → WellCode w names low high own scope tail o t → WellCode w more low high own scope tail o t
code-names w names more low high own scope tail o t h a = record {
  formed = λ l known k. a.formed (linked-fewer w names more h l) known k;
  rises = a.rises;
  raises = a.raises;
}

-- ---- steps
pub steps-none : (w : Whole) (names : Names) (low high own : ℕ) (scope : SymbolScope) (P : List ℕ → Type 0) → low ≤ high → ((known : List ℕ) → ScopeKnown known scope → P known) → WellSteps w names low high own scope [] P
steps-none w names low high own scope P le h = record {
  formed = λ l known k. (refl, h known k);
  rises = le;
  raises = tt {0};
}

pub steps-knowing : (w : Whole) (names : Names) (low high high' own : ℕ) (scope : SymbolScope) (ss : List Step) (P R : List ℕ → Type 0) → high ≤ high' → WellSteps w names low high own scope ss P → ((known : List ℕ) → ScopeKnown known scope → P known → R known) → WellSteps w names low high' own scope ss R
steps-knowing w names low high high' own scope ss P R le a h = record {
  formed = λ l known k. let first = a.formed l known k in (first.0, h (known_behind known ss) (scope-more known (known_behind known ss) scope (known-more known ss) k) first.1);
  rises = rises-later low high high' (steps_defined ss) le a.rises;
  raises = a.raises;
}

pub steps-then : (w : Whole) (names : Names) (low mid high own : ℕ) (scope inner : SymbolScope) (ss ts : List Step) (P Q R : List ℕ → Type 0)
    → WellSteps w names low mid own scope ss P → ((known : List ℕ) → ScopeKnown known scope → P known → ScopeKnown known inner) → WellSteps w names mid high own inner ts Q
    → ((known more : List ℕ) → Within known more → P known → Q more → R more) → WellSteps w names low high own scope (ss ++ ts) R
steps-then w names low mid high own scope inner ss ts P Q R a into b out = record {
  formed = λ l known k.
      let first = a.formed l known k in
      let behind = known_behind known ss in
      let second = b.formed l behind (into behind (scope-more known behind scope (known-more known ss) k) first.1) in (
        formed-append l.funs own known ss ts ∙ and_from (steps_formed l.funs own known ss) (steps_formed l.funs own behind ts) first.0 second.0,
        subst R (sym (known-append known ss ts)) (out behind (known_behind behind ts) (known-more behind ts) first.1 second.1),
      );
  rises = subst (λ xs. Rises low xs high) (sym (defined-append ss ts)) (rises-append low mid high (steps_defined ss) (steps_defined ts) a.rises b.rises);
  raises = subst (RaisedMatch w) (sym (raised-append ss ts)) (raised-both w (steps_raised ss) (steps_raised ts) a.raises b.raises);
}

-- one step behind others
pub steps-last : (w : Whole) (names : Names) (low mid high own : ℕ) (scope : SymbolScope) (ss : List Step) (s : Step) (P R : List ℕ → Type 0)
    → WellSteps w names low mid own scope ss P → ((l : Linked w names) (known : List ℕ) → ScopeKnown known scope → P known → step_formed l.funs own known s ≡ true)
    → Rises mid (step_defined s) high → RaisedMatch w (step_raised s) → ((known : List ℕ) → ScopeKnown known scope → P known → R (new_vars s ++ known)) → WellSteps w names low high own scope (ss ++ s ∷ []) R
steps-last w names low mid high own scope ss s P R a step rise raise out = record {
  formed = λ l known k.
      let first = a.formed l known k in
      let behind = known_behind known ss in
      let k' = scope-more known behind scope (known-more known ss) k in (
        formed-append l.funs own known ss (s ∷ []) ∙ and_from (steps_formed l.funs own known ss) (step_formed l.funs own behind s && true) first.0 (and_from (step_formed l.funs own behind s) true (step l behind k' first.1) refl),
        subst R (sym (known-append known ss (s ∷ []))) (out behind k' first.1),
      );
  rises = subst (λ xs. Rises low xs high) (sym (defined-append ss (s ∷ []))) (rises-append low mid high (steps_defined ss) (step_defined s ++ []) a.rises (rises-append mid high high (step_defined s) [] rise (omega arith)));
  raises = subst (RaisedMatch w) (sym (raised-append ss (s ∷ []))) (raised-both w (steps_raised ss) (step_raised s ++ []) a.raises (raised-both w (step_raised s) [] raise (tt {0})));
}

-- steps that only compute
pub steps-compute : (w : Whole) (names : Names) (low mid high own : ℕ) (scope : SymbolScope) (ss ts : List Step) (given found : List Atom)
    → WellSteps w names low mid own scope ss (Knows given) → AreWellLets mid high given ts found → WellSteps w names low high own scope (ss ++ ts) (Knows found)
steps-compute w names low mid high own scope ss ts given found a b = record {
  formed = λ l known k.
      let first = a.formed l known k in
      let behind = known_behind known ss in
      let second = b.formed l.funs own behind first.1 in (
        formed-append l.funs own known ss ts ∙ and_from (steps_formed l.funs own known ss) (steps_formed l.funs own behind ts) first.0 second.0,
        subst (Knows found) (sym (known-append known ss ts)) second.1,
      );
  rises = subst (λ xs. Rises low xs high) (sym (defined-append ss ts)) (rises-append low mid high (steps_defined ss) (steps_defined ts) a.rises b.rises);
  raises = subst (RaisedMatch w) (sym (raised-append ss ts)) (raised-both w (steps_raised ss) (steps_raised ts) a.raises (subst (RaisedMatch w) (sym b.raises) (tt {0})));
}

-- ---- code behind steps
pub code-behind : (w : Whole) (names : Names) (low mid high own : ℕ) (scope : SymbolScope) (tail : Bool) (o : Option Ty) (ss : List Step) (P : List ℕ → Type 0) (last t : Flat)
    → WellSteps w names low mid own scope ss P → AreNodes ss last t
    → ((l : Linked w names) (known : List ℕ) → ScopeKnown known scope → P known → (n : ℕ) → GivesWords n o → is_formed l.funs own tail n known last ≡ true)
    → Rises mid (defined last) high → RaisedMatch w (raised last) → WellCode w names low high own scope tail o t
code-behind w names low mid high own scope tail o ss P last t a nodes formed rise raise = record {
  formed = λ l known k n g.
      let first = a.formed l known k in
      let behind = known_behind known ss in
      nodes-formed l.funs own tail n known ss last t nodes
      ∙ and_from (steps_formed l.funs own known ss) (is_formed l.funs own tail n behind last) first.0 (formed l behind (scope-more known behind scope (known-more known ss) k) first.1 n g);
  rises = subst (λ xs. Rises low xs high) (sym (nodes-defined ss last t nodes)) (rises-append low mid high (steps_defined ss) (defined last) a.rises rise);
  raises = subst (RaisedMatch w) (sym (nodes-raised ss last t nodes)) (raised-both w (steps_raised ss) (raised last) a.raises raise);
}

-- code in a scope with more variables, behind steps
pub code-inner : (w : Whole) (names : Names) (low mid high own : ℕ) (scope inner : SymbolScope) (tail : Bool) (o : Option Ty) (ss : List Step) (P : List ℕ → Type 0) (last t : Flat)
    → WellSteps w names low mid own scope ss P → ((known : List ℕ) → ScopeKnown known scope → P known → ScopeKnown known inner) → WellCode w names mid high own inner tail o last → AreNodes ss last t
    → WellCode w names low high own scope tail o t
code-inner w names low mid high own scope inner tail o ss P last t a into b nodes =
    code-behind w names low mid high own scope tail o ss P last t a nodes (λ l known k q n g. b.formed l known (into known k q) n g) b.rises b.raises

-- a choice behind steps
pub code-choice : (w : Whole) (names : Names) (low mid next high own : ℕ) (scope : SymbolScope) (tail : Bool) (o o1 o2 : Option Ty) (ss : List Step) (c : Cmp) (x y : Atom) (first second t : Flat)
    → WellSteps w names low mid own scope ss (Knows (x ∷ y ∷ [])) → WellCode w names mid next own scope tail o1 first → WellCode w names next high own scope tail o2 second
    → ((n : ℕ) → GivesWords n o → GivesWords n o1) → ((n : ℕ) → GivesWords n o → GivesWords n o2) → IsChoice ss c x y first second t → WellCode w names low high own scope tail o t
code-choice w names low mid next high own scope tail o o1 o2 ss c x y first second t a f s g1 g2 h =
    code-behind w names low mid high own scope tail o ss (Knows (x ∷ y ∷ [])) (If' c x y h.0 first h.1 second) t a h.2
    (λ l known k q n g.
    let xs = and_parts (is_known known x) (is_known known y && true) q in
    and_from (is_known known x) (is_known known y && (is_formed l.funs own tail n known first && is_formed l.funs own tail n known second)) xs.0
    (and_from (is_known known y) (is_formed l.funs own tail n known first && is_formed l.funs own tail n known second) (and_parts (is_known known y) true xs.1).0
    (and_from (is_formed l.funs own tail n known first) (is_formed l.funs own tail n known second) (f.formed l known k n (g1 n g)) (s.formed l known k n (g2 n g)))))
    (rises-append mid next high (defined first) (defined second) f.rises s.rises) (raised-both w (raised first) (raised second) f.raises s.raises)
