-- Facts that hold where a tree stands.
use Rattle.std.proofs.Common.{◌≡◌, ℕ, ◌-◌, Bool, true, false, nat_eq, if◌then◌else◌, refl, ap, subst, List, [], ◌∷◌, ◌++◌, length, Some, All}
use Rattle.std.proofs.lemmas.Bool.{false≢true}
use Rattle.std.proofs.lemmas.List.Elements.{All-nil, All-cons, All-head, All-tail, All-drop, All-append}
use Rattle.nv_base.specs.declared.term.Atom.{Atom}
use Rattle.nv_base.specs.declared.term.Atom.TheVariants.{Var, Lit}
use Rattle.nv_base.specs.declared.term.Cmp.{Cmp}
use Rattle.nv_base.specs.declared.term.Primitive.{Primitive}
use Rattle.nv_base.specs.declared.term.Primitive.TheVariants.{Same, Una as UnaOf, Bin as BinOf}
use Rattle.nv_base.specs.Sets.{is_in, Within}
use Rattle.nv_base.specs.Words.{Env, IsEnv, HasPrimCount, word, atom_word, atom_vars, prim_word, compares}
use Rattle.nv_base.proofs.Environments.{atom-fits}
use Rattle.nv_base.proofs.Sets.{same-number}
use Rattle.flow_ir.proofs.Members.{in-first}
use Rattle.flow_paths.specs.declared.ranges.Range.{Range}
use Rattle.flow_paths.specs.declared.facts.Fact.{Fact}
use Rattle.flow_paths.specs.Ranges.{all_words, says_nothing, met, of_first, of_second}
use Rattle.flow_paths.specs.Decided.{near, narrowed, among, range_of, is_same, decided, bound, told, of_prim}
use Rattle.flow_paths.proofs.Bounds.{In, in_all, in_met, in_word, tells_word, first_word, second_word, una_word_in, bin_word_in}

-- a fact is true, and its variable known
pub record Holds (known : List ℕ) (env : Env) (k : Fact) : Type 0 where
  pub variable : is_in k.variable known ≡ true
  pub word : In k.range (env k.variable)

module _ (known : List ℕ) (env : Env) (words : IsEnv env) where
  narrowed_word : (x : ℕ) (r : Range) (k : Fact) → In r (env x) → Holds known env k → In (narrowed x r k) (env x)
  narrowed_word x r k i h = at (nat_eq k.variable x) refl
    where
      at : (b : Bool) → nat_eq k.variable x ≡ b → In (if b then met r k.range else r) (env x)
      at true e = in_met r k.range (env x) i (subst (λ y. In k.range (env y)) (same-number k.variable x e) h.word)
      at false e = i

  among_word : (ks : List Fact) (x : ℕ) (r : Range) → In r (env x) → All (Holds known env) ks → In (among ks x r) (env x)
  among_word [] x r i h = i
  among_word (k ∷ ks) x r i h = among_word ks x (narrowed x r k) (narrowed_word x r k i (All-head (Holds known env) k ks h)) (All-tail (Holds known env) k ks h)

  pub range_word : (above : List Fact) (a : Atom) → All (Holds known env) above → In (range_of above a) (atom_word env a)
  range_word above (Var x) h = among_word (near above) x all_words (in_all (env x) (words x)) (All-drop (Holds known env) (length above - 256) above h)
  range_word above (Lit v) h = in_word (word v) (word v) refl

  same_word : (a b : Atom) → is_same a b ≡ true → atom_word env a ≡ atom_word env b
  same_word (Var x) (Var y) e = ap env (same-number x y e)
  same_word (Var x) (Lit w) e = absurd (false≢true e)
  same_word (Lit v) b e = absurd (false≢true e)

  pub decided_word : (above : List Fact) (c : Cmp) (a b : Atom) (r : Bool) → All (Holds known env) above → decided above c a b ≡ Some r → compares c (atom_word env a) (atom_word env b) ≡ r
  decided_word above c a b r h e = tells_word (is_same a b) c (range_of above a) (range_of above b) (atom_word env a) (atom_word env b) r (same_word a b) (range_word above a h) (range_word above b h) e

  pub bound_holds : (a : Atom) (r : Range) → Within (atom_vars a) known → In r (atom_word env a) → All (Holds known env) (bound a r)
  bound_holds (Var x) r within i = at (says_nothing r)
    where
      at : (b : Bool) → All (Holds known env) (if b then [] else (record { variable = x; range = r } ∷ []))
      at true = All-nil (Holds known env)
      at false = All-cons (Holds known env) (record { variable = x; range = r }) [] (record { variable = within x (in-first x []); word = i }) (All-nil (Holds known env))
  bound_holds (Lit v) r within i = All-nil (Holds known env)

  pub told_holds : (above : List Fact) (c : Cmp) (a b : Atom) → Within (atom_vars a) known → Within (atom_vars b) known → All (Holds known env) above → compares c (atom_word env a) (atom_word env b) ≡ true → All (Holds known env) (above ++ told above c a b)
  told_holds above c a b first second h e =
      let r = range_of above a in
      let s = range_of above b in
      let i = range_word above a h in
      let j = range_word above b h in
      All-append (Holds known env) above (told above c a b) h
      (All-append (Holds known env) (bound a (of_first c r s)) (bound b (of_second c r s))
      (bound_holds a (of_first c r s) first (first_word c r s (atom_word env a) (atom_word env b) (atom-fits env a words) i j e))
      (bound_holds b (of_second c r s) second (second_word c r s (atom_word env a) (atom_word env b) (atom-fits env b words) i j e)))

  pub prim_word_in : (above : List Fact) (p : Primitive) → HasPrimCount p → All (Holds known env) above → In (of_prim above p) (prim_word env p)
  prim_word_in above (Same a) count h = range_word above a h
  prim_word_in above (UnaOf op a) count h = una_word_in op (range_of above a) (atom_word env a) count (atom-fits env a words) (range_word above a h)
  prim_word_in above (BinOf op a b) count h = bin_word_in op (range_of above a) (range_of above b) (atom_word env a) (atom_word env b) (atom-fits env a words) (atom-fits env b words) (range_word above a h) (range_word above b h)
