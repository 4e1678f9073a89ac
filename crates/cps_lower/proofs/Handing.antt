-- The body of a function after the label that returns the words of its last calls.
use Rattle.std.proofs.Common.{◌≡◌, ℕ, suc, ◌+◌, max, List, [], ◌∷◌, ◌++◌, refl, sym, ap, ◌∙◌, Vec, Box, arith, rules, Option}
use Rattle.std.specs.declared.alloc.Global.{Global}
use Rattle.nv_base.specs.declared.term.Atom.{Atom}
use Rattle.nv_base.specs.declared.term.Atom.TheVariants.{Var}
use Rattle.cps_ir.specs.declared.term.Term.{Term, Fix, Call, Return, the_lemmas}
use Rattle.cps_ir.specs.declared.term.Cont.{Cont}
use Rattle.cps_ir.specs.View.{Seen, labels_of, term_view, labels_view}
use Rattle.cps_ir.specs.Term as pure
use Rattle.cps_ir.proofs.Views.{view-Fix, view-Cont}
use Rattle.cps_lower.specs.inner.Lowered.{next_variable, variables, operands, returning}
use Rattle.cps_lower.proofs.Scans.{next-append, variables-push}

-- ---- its variables

-- so many of them, and the operands that are these
pub record Names (first n : ℕ) (params : List ℕ) (words : List Atom) : Type 0 where
  pub params_are : params ≡ variables first n
  pub words_are : words ≡ operands (variables first n)

operands-push : (xs : List ℕ) (x : ℕ) → operands (xs ++ x ∷ []) ≡ operands xs ++ Var x ∷ []
operands-push [] x = refl
operands-push (y ∷ xs) x = ap (λ l. Var y ∷ l) (operands-push xs x)

pub names_none : (first : ℕ) (params : List ℕ) (words : List Atom) → params ≡ [] → words ≡ [] → Names first 0 params words
names_none first params words e f = record { params_are = e; words_are = f }

pub names_more : (first n n' x : ℕ) (params params' : List ℕ) (words words' : List Atom) → Names first n params words → n' ≡ n + 1 → x ≡ first + n → params' ≡ params ++ x ∷ [] → words' ≡ words ++ Var x ∷ [] → Names first n' params' words'
names_more first n n' x params params' words words' h en ex ep ew =
    let next : n' ≡ suc n = omega (arith, en) in
    let all : variables first n' ≡ variables first n ++ x ∷ [] = ap (variables first) next ∙ variables-push first n ∙ ap (λ y. variables first n ++ y ∷ []) (sym ex) in
    record {
      params_are = ep ∙ ap (λ l. l ++ x ∷ []) h.params_are ∙ sym all;
      words_are = ew ∙ ap (λ l. l ++ Var x ∷ []) h.words_are ∙ sym (ap operands all ∙ operands-push (variables first n) x);
    }

pub first_behind : (params code : List ℕ) (above first : ℕ) → above ≡ next_variable params → first ≡ max above (next_variable code) → first ≡ next_variable (params ++ code)
first_behind params code above first e f = f ∙ ap (λ n. max n (next_variable code)) e ∙ sym (next-append params code)

-- ---- its view

one_is : (l l' : ℕ) (xs xs' : List ℕ) (t t' u u' : pure.Term) → l ≡ l' → xs ≡ xs' → t ≡ t' → u ≡ u' → pure.Fix (pure.label l xs t pure.none) u ≡ pure.Fix (pure.label l' xs' t' pure.none) u'
one_is l l' xs xs' t t' u u' el ex et eu =
    ap (λ n. pure.Fix (pure.label n xs t pure.none) u) el ∙ ap (λ n. pure.Fix (pure.label l' n t pure.none) u) ex ∙ ap (λ n. pure.Fix (pure.label l' xs' n pure.none) u) et ∙ ap (λ n. pure.Fix (pure.label l' xs' t' pure.none) n) eu

pub handing_view : (ls : Vec Cont Global) (t : Box Term Global) (c : Cont) (ys xs : List ℕ) (u : pure.Term) → ls.items ≡ c ∷ [] → c.label ≡ 0 → c.params.items ≡ ys → term_view c.body ≡ pure.Return (operands ys) → ys ≡ xs → term_view t.value ≡ u → term_view (Fix ls t) ≡ pure.Fix (returning xs) u
handing_view ls t c ys xs u e el ex eb ey eu =
    view-Fix ls t ∙ ap (λ l. pure.Fix (labels_view l) (term_view t.value)) e ∙ ap (λ (s : Seen). pure.Fix (labels_of (s ∷ [])) (term_view t.value)) (view-Cont c)
    ∙ one_is c.label 0 c.params.items xs (term_view c.body) (pure.Return (operands xs)) (term_view t.value) u el (ex ∙ ey) (eb ∙ ap (λ l. pure.Return (operands l)) ey) eu

pub view-Call : (f : ℕ) (bs : Vec Atom Global) (k : Option ℕ) (hs : _) → term_view (Call f bs k hs) ≡ pure.Call f bs.items k hs.items
view-Call f bs k hs = search (rules, the_lemmas)

view-Return : (bs : Vec Atom Global) → term_view (Return bs) ≡ pure.Return bs.items
view-Return bs = search (rules, the_lemmas)

pub names_all : (first n count : ℕ) (params : Vec ℕ Global) (words : Vec Atom Global) → Names first n params.items words.items → n ≡ count → (params.items ≡ variables first count) × (term_view (Return words) ≡ pure.Return (operands (variables first count)))
names_all first n count params words h e =
    (h.params_are ∙ ap (variables first) e, view-Return words ∙ ap pure.Return (h.words_are ∙ ap (λ k. operands (variables first k)) e))
