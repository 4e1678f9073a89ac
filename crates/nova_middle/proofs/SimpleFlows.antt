-- Labels that simplification leaves as they are.
use Rattle.std.proofs.Common.{◌≡◌, ◌↔◌, ℕ, ◌+◌, ◌<◌, ◌≤◌, Bool, true, false, not, ◌&&◌, ◌||◌, if◌then◌else◌, List, [], ◌∷◌, ◌++◌, Some, None, is_some, map, All, refl, sym, ap, subst, ◌∙◌, length, slice_get, get_or, take, arith}
use Rattle.std.specs.List.{list_all}
use Rattle.std.proofs.lemmas.Bool.{and_parts, false≢true}
use Rattle.std.proofs.lemmas.List.{take_more, take_all, length-map, get_or-map}
use Rattle.std.proofs.lemmas.List.Elements.{All-nil, All-cons, All-head, All-tail, All-append, All-map, All-get_or}
use Rattle.nv_base.specs.declared.term.Atom.{Atom}
use Rattle.nv_base.specs.declared.term.Atom.TheVariants.{Var, Lit}
use Rattle.nv_base.specs.declared.term.Bin.{Bin}
use Rattle.nv_base.specs.declared.term.Una.{Una}
use Rattle.nv_base.specs.declared.term.Primitive.{Primitive}
use Rattle.nv_base.specs.declared.term.Primitive.TheVariants.{Same, Una as UnaOf, Bin as BinOf}
use Rattle.nv_base.specs.Sets.{is_in, all_different}
use Rattle.flow_ir.specs.Formed.{defined, is_formed, is_label, is_entry, is_flow}
use Rattle.flow_ir.specs.Tree as pure
use Rattle.flow_ir.specs.Tree.{Label}
use Rattle.flow_ir.specs.View.{tree_view, label_view}
use Rattle.flow_ir.specs.declared.flow.Label.{Label as FlowLabel}
use Rattle.flow_ir.specs.declared.flow.Tree.{Tree, size-Tree}
use Rattle.flow_ir.specs.declared.flow.Tree.TheVariants.{Let', Read', Write', If', Jump, Halt}
use Rattle.flow_ir.specs.declared.flow.Tree.TheViews.{deep-Let', deep-Read', deep-Write', deep-If'}
use Rattle.flow_ir.specs.Wide.{uses}
use Rattle.cps_rules.specs.Simplified.{EachLet, is_same, IsTidy, AreTidy}
use Rattle.cps_rules.specs.inner.Way.{AreUsed}
use Rattle.flow_ir.proofs.Members.{different-parts}
use Rattle.cps_rules.proofs.WayFormed.{tidy_used}
use Rattle.flow_merge.specs.Contracted.{is_literal}
use Rattle.flow_ir.proofs.Mentions.{smaller}
use Rattle.nova_middle.specs.Rules.{value_of_two, leaves_first, leaves_second, leaves_nothing, is_answered, IsAtRest}
use Rattle.nova_middle.specs.inner.Simple.{IsLeft, IsSimple}

-- ---- what a rule answers

pub one_answered : (op : Una) (a : Atom) (b : Bool) → b ≡ is_literal a → b ≡ is_answered (UnaOf op a)
one_answered op (Var x) b e = e
one_answered op (Lit v) b e = e

two_known : (op : Bin) (a b : Atom) → (is_literal a && is_literal b) ≡ is_some (value_of_two op a b)
two_known op (Var x) b = refl
two_known op (Lit v) (Var y) = refl
two_known op (Lit v) (Lit w) = refl

one_of : (f s : Bool) (a b : Primitive) → is_some (if f then Some a else (if s then Some b else None)) ≡ (f || s)
one_of true s a b = refl
one_of false true a b = refl
one_of false false a b = refl

none_of : (n : Bool) (a : Primitive) → is_some (if n then Some a else None) ≡ n
none_of true a = refl
none_of false a = refl

or_turned : (k f s n : Bool) → (((k || f) || s) || n) ≡ (k || ((f || s) || n))
or_turned true f s n = refl
or_turned false f s n = refl

pub two_answered : (op : Bin) (a b : Atom) (c d f s n : Bool) → c ≡ is_literal a → d ≡ is_literal b → f ≡ leaves_first op a b → s ≡ leaves_second op a → n ≡ leaves_nothing op a b → ((((c && d) || f) || s) || n) ≡ is_answered (BinOf op a b)
two_answered op a b c d f s n ec ed ef es en =
    or_turned (c && d) f s n
    ∙ ap (λ k. k || ((f || s) || n)) (ap (λ v. v && d) ec ∙ ap (λ v. is_literal a && v) ed ∙ two_known op a b)
    ∙ ap (λ k. is_some (value_of_two op a b) || (k || n)) (ap (λ v. v || s) ef ∙ ap (λ v. leaves_first op a b || v) es ∙ sym (one_of (leaves_first op a b) (leaves_second op a) (Same a) (Same b)))
    ∙ ap (λ k. is_some (value_of_two op a b) || (is_some (if leaves_first op a b then Some (Same a) else (if leaves_second op a then Some (Same b) else None)) || k)) (en ∙ sym (none_of (leaves_nothing op a b) (Same (Lit 0))))

-- ---- along a tree

-- the whole is as simplification leaves it just where the rest is
pub record LeftTo (t cur : Tree) : Type 0 where
  pub back : EachLet IsLeft (tree_view cur) → EachLet IsLeft (tree_view t)
  pub on : EachLet IsLeft (tree_view t) → EachLet IsLeft (tree_view cur)
  pub size : size-Tree cur ≤ size-Tree t

left_on : {t cur : Tree} (node part rest : Tree) → LeftTo t cur → cur ≡ node → rest ≡ part → (EachLet IsLeft (tree_view part) → EachLet IsLeft (tree_view node)) → (EachLet IsLeft (tree_view node) → EachLet IsLeft (tree_view part)) → size-Tree part ≤ size-Tree node → LeftTo t rest
left_on {t} {cur} node part rest h is e f g le = record {
  back = λ k. h.back (subst (λ z. EachLet IsLeft (tree_view z)) (sym is) (f (subst (λ z. EachLet IsLeft (tree_view z)) e k)));
  on = λ k. subst (λ z. EachLet IsLeft (tree_view z)) (sym e) (g (subst (λ z. EachLet IsLeft (tree_view z)) is (h.on k)));
  size = let s = h.size in let less = smaller cur node rest part is e le in omega arith;
}

left_here : {t cur : Tree} (node : Tree) → LeftTo t cur → cur ≡ node → EachLet IsLeft (tree_view node) → EachLet IsLeft (tree_view t)
left_here node h is k = h.back (subst (λ z. EachLet IsLeft (tree_view z)) (sym is) k)

left_at : {t cur : Tree} (node : Tree) → LeftTo t cur → cur ≡ node → EachLet IsLeft (tree_view t) → EachLet IsLeft (tree_view node)
left_at node h is k = subst (λ z. EachLet IsLeft (tree_view z)) is (h.on k)

yes : {A : Type 0} → A → true ≡ true ↔ A
yes a = (λ e. a, λ b. refl)

no : {A : Type 0} → (A → ⊥) → false ≡ true ↔ A
no f = (λ e. absurd (false≢true e), λ a. absurd (f a))

some_answer : (a s m : Bool) → ((a || s) || not m) ≡ true → a ≡ false → s ≡ false → m ≡ true → ⊥
some_answer true s m e p q r = false≢true (sym p)
some_answer false true m e p q r = false≢true (sym q)
some_answer false false true e p q r = false≢true e
some_answer false false false e p q r = false≢true r

no_answer : (a s m : Bool) → ((a || s) || not m) ≡ false → (a ≡ false) × (s ≡ false) × (m ≡ true)
no_answer true s m e = absurd (false≢true (sym e))
no_answer false true m e = absurd (false≢true (sym e))
no_answer false false true e = (refl, refl, refl)
no_answer false false false e = absurd (false≢true (sym e))

pub left_let : {t cur : Tree} (x : ℕ) (p : Primitive) (q : _) (r rest : Tree) (a s m : Bool) → LeftTo t cur → cur ≡ Let' x p q r → rest ≡ r → a ≡ is_answered p → s ≡ is_same p → m ≡ is_in x (uses (tree_view rest)) → ((a || s) || not m) ≡ false → LeftTo t rest
left_let {cur = cur} x p q r rest a s m h is e ea es em fails =
    let n = no_answer a s m fails in
    left_on (Let' x p q r) r rest h is e (λ k. ((sym ea ∙ n.0, sym es ∙ n.1, ap (λ z. is_in x (uses (tree_view z))) (sym e) ∙ sym em ∙ n.2), k)) (λ k. k.1) (omega (arith, deep-Let' x p q r))

pub left_let_not : {t cur : Tree} (x : ℕ) (p : Primitive) (q : _) (r rest : Tree) (a s m : Bool) → LeftTo t cur → cur ≡ Let' x p q r → rest ≡ r → a ≡ is_answered p → s ≡ is_same p → m ≡ is_in x (uses (tree_view rest)) → ((a || s) || not m) ≡ true → false ≡ true ↔ EachLet IsLeft (tree_view t)
left_let_not x p q r rest a s m h is e ea es em holds =
    no (λ k. let n = left_at (Let' x p q r) h is k in some_answer a s m holds (ea ∙ n.0.0) (es ∙ n.0.1) (em ∙ ap (λ z. is_in x (uses (tree_view z))) e ∙ n.0.2))

pub left_read : {t cur : Tree} (m : _) (xs : _) (a : _) (q : _) (r rest : Tree) → LeftTo t cur → cur ≡ Read' m xs a q r → rest ≡ r → LeftTo t rest
left_read m xs a q r rest h is e = left_on (Read' m xs a q r) r rest h is e (λ k. k) (λ k. k) (omega (arith, deep-Read' m xs a q r))

pub left_write : {t cur : Tree} (m : _) (a : _) (bs : _) (q : _) (r rest : Tree) → LeftTo t cur → cur ≡ Write' m a bs q r → rest ≡ r → LeftTo t rest
left_write m a bs q r rest h is e = left_on (Write' m a bs q r) r rest h is e (λ k. k) (λ k. k) (omega (arith, deep-Write' m a bs q r))

pub left_if : {t cur : Tree} (c a b : _) (q q' : _) (f r part rest : Tree) (g : Bool) → LeftTo t cur → cur ≡ If' c a b q f q' r → part ≡ f → rest ≡ r → g ≡ true ↔ EachLet IsLeft (tree_view part) → g ≡ true → LeftTo t rest
left_if c a b q q' f r part rest g h is ef e first holds = left_on (If' c a b q f q' r) r rest h is e (λ k. (subst (λ z. EachLet IsLeft (tree_view z)) ef (first.0 holds), k)) (λ k. k.1) (omega (arith, deep-If' c a b q f q' r))

pub left_if_not : {t cur : Tree} (c a b : _) (q q' : _) (f r part : Tree) (g : Bool) → LeftTo t cur → cur ≡ If' c a b q f q' r → part ≡ f → g ≡ true ↔ EachLet IsLeft (tree_view part) → g ≡ false → false ≡ true ↔ EachLet IsLeft (tree_view t)
left_if_not c a b q q' f r part g h is ef first fails =
    no (λ k. false≢true (sym fails ∙ first.1 (subst (λ z. EachLet IsLeft (tree_view z)) (sym ef) (left_at (If' c a b q f q' r) h is k).0)))

pub left_jump : {t cur : Tree} (l : ℕ) (bs : _) → LeftTo t cur → cur ≡ Jump l bs → true ≡ true ↔ EachLet IsLeft (tree_view t)
left_jump l bs h is = yes (left_here (Jump l bs) h is tt)

pub left_halt : {t cur : Tree} (n : ℕ) (bs : _) → LeftTo t cur → cur ≡ Halt n bs → true ≡ true ↔ EachLet IsLeft (tree_view t)
left_halt n bs h is = yes (left_here (Halt n bs) h is tt)

-- ---- labels

each_part : (P Q : ℕ → Primitive → pure.Tree → Type 0) → ((x : ℕ) (p : Primitive) (rest : pure.Tree) → P x p rest → Q x p rest) → (t : pure.Tree) → EachLet P t → EachLet Q t
each_part P Q f (pure.Let x p t) h = (f x p t h.0, each_part P Q f t h.1)
each_part P Q f (pure.Read m xs a t) h = each_part P Q f t h
each_part P Q f (pure.Write m a bs t) h = each_part P Q f t h
each_part P Q f (pure.If c a b t u) h = (each_part P Q f t h.0, each_part P Q f u h.1)
each_part P Q f (pure.Jump l bs) h = tt
each_part P Q f (pure.Halt n bs) h = tt

-- no rule answers a `Let` of labels that simplification leaves
simple_rest : (ls : List Label) → All IsSimple ls → All IsAtRest ls
simple_rest [] h = All-nil IsAtRest
simple_rest (l ∷ ls) h = All-cons IsAtRest l ls (each_part IsLeft (λ x p rest. is_answered p ≡ false) (λ x p rest k. k.0) l.body (All-head IsSimple l ls h)) (simple_rest ls (All-tail IsSimple l ls h))

labels_tidy : (labels ls : List Label) → list_all (is_label labels) ls ≡ true → All IsSimple ls → AreTidy ls
labels_tidy labels [] e h = All-nil (λ l. IsTidy l.body)
labels_tidy labels (l ∷ ls) e h =
    let parts = and_parts (is_label labels l) (list_all (is_label labels) ls) e in
    let once = different-parts l.params (defined l.body) (and_parts (is_formed labels l.params l.body) (all_different (l.params ++ defined l.body)) parts.0).1 in
    let used : AreUsed l.body = each_part IsLeft (λ x p rest. (is_in x (uses rest) ≡ true) × (is_same p ≡ false)) (λ x p rest k. (k.2, k.1)) l.body (All-head IsSimple l ls h) in
    All-cons (λ k. IsTidy k.body) l ls (tidy_used l.body once.1 used) (labels_tidy labels ls parts.1 (All-tail IsSimple l ls h))

-- such labels are tidy
simple_tidy : (ls : List Label) → is_flow ls ≡ true → All IsSimple ls → AreTidy ls
simple_tidy ls e h = labels_tidy ls ls (and_parts (list_all (is_label ls) ls) (is_entry (slice_get ls 0)) e).0 h

-- ---- label by label

-- the labels before one are as simplification leaves them
abbrev pub AllSimple : List FlowLabel → Type 0
AllSimple labels = All (λ l. IsSimple (label_view l)) labels

pub simple_more : (labels : List FlowLabel) (i : ℕ) (d l : FlowLabel) → i < length labels → l ≡ get_or labels i d → IsSimple (label_view l) → AllSimple (take i labels) → AllSimple (take (i + 1) labels)
simple_more labels i d l lt e here h =
    subst AllSimple (sym (take_more labels i d lt ∙ ap (λ z. take i labels ++ z ∷ []) (sym e))) (All-append (λ k. IsSimple (label_view k)) (take i labels) (l ∷ []) h (All-cons (λ k. IsSimple (label_view k)) l [] here (All-nil (λ k. IsSimple (label_view k)))))

pub simple_all : (labels : List FlowLabel) (i : ℕ) → length labels ≤ i → AllSimple (take i labels) → true ≡ true ↔ All IsSimple (map label_view labels)
simple_all labels i le h = yes (All-map IsSimple label_view labels (subst AllSimple (take_all i labels le) h))

pub simple_not : (labels : List FlowLabel) (i : ℕ) (d l : FlowLabel) (b : Bool) → i < length labels → l ≡ get_or labels i d → b ≡ true ↔ IsSimple (label_view l) → b ≡ false → false ≡ true ↔ All IsSimple (map label_view labels)
simple_not labels i d l b lt e here fails =
    no (λ h.
    let within : i < length (map label_view labels) = omega (arith, lt, length-map labels label_view) in
    let there = All-get_or IsSimple (map label_view labels) i (label_view l) within h in
    false≢true (sym fails ∙ here.1 (subst IsSimple (get_or-map label_view labels i d (label_view l) lt ∙ ap label_view (sym e)) there)))

-- ---- flows

pub rest_at : (xs ls : List FlowLabel) → All IsSimple (map label_view xs) → xs ≡ ls → All IsAtRest (map label_view ls)
rest_at xs ls h e = subst (λ l. All IsAtRest (map label_view l)) e (simple_rest (map label_view xs) h)

pub tidy_at : (xs ls : List FlowLabel) → All IsSimple (map label_view xs) → xs ≡ ls → is_flow (map label_view ls) ≡ true → AreTidy (map label_view ls)
tidy_at xs ls h e formed = simple_tidy (map label_view ls) formed (subst (λ l. All IsSimple (map label_view l)) e h)
