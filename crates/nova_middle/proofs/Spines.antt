-- Along a spine, from its end up.
use Rattle.std.proofs.Common.{◌≡◌, ℕ, ◌+◌, ◌<◌, ◌≤◌, max, true, List, [], ◌∷◌, ◌++◌, refl, sym, ap, subst, ◌∙◌, map, length, take, get_or, All, arith, Result, Ok, Err, IfOk}
use Rattle.std.specs.Borrow.{Bor}
use Rattle.std.proofs.lemmas.Bool.{false≢true}
use Rattle.std.proofs.lemmas.List.{map_more}
use Rattle.smallvec.specs.SmallVec.{SmallVec}
use Rattle.nv_base.specs.declared.error.NoMemory.{NoMemory}
use Rattle.nv_base.specs.declared.term.Atom.{Atom}
use Rattle.nv_base.specs.declared.term.Cmp.{Cmp}
use Rattle.nv_base.specs.declared.term.Mem.{Mem}
use Rattle.flow_ir.specs.declared.flow.Tree.TheVariants.{Read', Write', If'}
use Rattle.flow_ir.specs.declared.flow.Label.{Label as FlowLabel}
use Rattle.flow_ir.specs.declared.flow.Tree.{Tree as Boxed, size-Tree}
use Rattle.flow_ir.specs.Tree.{Tree, Let, Read, Write, If, Jump, Halt, Label}
use Rattle.flow_ir.specs.View.{tree_view, label_view}
use Rattle.flow_ir.specs.Wide.{label_wide, wide}
use Rattle.ssu_make.specs.inner.Making.{tops}
use Rattle.ssu_make.proofs.Turns.{tops-last}
use Rattle.nova_middle.specs.declared.parts.Part.{Part}
use Rattle.nova_middle.specs.inner.Parts.{IsPart, IsRest, IsSpine, Chain, after, is_end}

-- what is known where these nodes are left, the next one first
abbrev pub OnWay : List Tree → Part → Tree → Type 0
OnWay [] p t = IsPart p t
OnWay (s ∷ ss) p t = IsRest s p × Chain s ss t

end_rest : (s : Tree) (p : Part) → is_end s ≡ true → IsRest s p
end_rest (Let x a t) p e = absurd (false≢true e)
end_rest (Read m xs a t) p e = absurd (false≢true e)
end_rest (Write m a bs t) p e = absurd (false≢true e)
end_rest (If c a b t u) p e = absurd (false≢true e)
end_rest (Jump l bs) p e = tt
end_rest (Halt x bs) p e = tt

part_rest : (s : Tree) (p : Part) → IsPart p (after s) → IsRest s p
part_rest (Let x a t) p h = h
part_rest (Read m xs a t) p h = h
part_rest (Write m a bs t) p h = h
part_rest (If c a b t u) p h = h
part_rest (Jump l bs) p h = tt
part_rest (Halt x bs) p h = tt

start : (ss : List Tree) (t : Tree) (p : Part) → IsSpine ss t → OnWay ss p t
start [] t p h = absurd h
start (s ∷ ss) t p h = (end_rest s p h.0, h.1)

pub way_start : (nodes : List (Bor Boxed)) (t : Tree) (p : Part) → IsSpine (tops nodes) t → OnWay (tops nodes) p t
way_start nodes t p h = start (tops nodes) t p h

pub way_rest : (nodes nodes' : List (Bor Boxed)) (s : Bor Boxed) (t : Tree) (p : Part) → OnWay (tops nodes) p t → nodes ≡ nodes' ++ s ∷ [] → IsRest (tree_view s.now) p
way_rest nodes nodes' s t p w e = (subst (λ l. OnWay l p t) (ap tops e ∙ tops-last nodes' s) w).0

step : (s : Tree) (ss : List Tree) (t : Tree) (q : Part) → Chain s ss t → IsPart q s → OnWay ss q t
step s [] t q c h = subst (IsPart q) c h
step s (r ∷ rs) t q c h = (part_rest r q (subst (IsPart q) (sym c.0) h), c.1)

pub way_step : (nodes nodes' : List (Bor Boxed)) (s : Bor Boxed) (t : Tree) (p q : Part) → OnWay (tops nodes) p t → nodes ≡ nodes' ++ s ∷ [] → IsPart q (tree_view s.now) → OnWay (tops nodes') q t
way_step nodes nodes' s t p q w e h = step (tree_view s.now) (tops nodes') t q (subst (λ l. OnWay l p t) (ap tops e ∙ tops-last nodes' s) w).1 h

pub way_end : (nodes : List (Bor Boxed)) (t : Tree) (p : Part) → OnWay (tops nodes) p t → nodes ≡ [] → IsPart p t
way_end nodes t p w e = subst (λ l. OnWay (tops l) p t) e w

-- ---- labels

wide_last : (ls : List Label) (l : Label) → wide (ls ++ l ∷ []) ≡ max (label_wide l) (wide ls)
wide_last [] l = refl
wide_last (k ∷ ls) l = let h = wide_last ls l in omega arith

pub wide_next : (labels : List FlowLabel) (i n now next : ℕ) (d l : FlowLabel) → i < length labels → l ≡ get_or labels i d → now ≡ wide (map label_view (take i labels)) → n ≡ label_wide (label_view l) → next ≡ max n now → next ≡ wide (map label_view (take (i + 1) labels))
wide_next labels i n now next d l lt e was one is =
    let front : map label_view (take (i + 1) labels) ≡ map label_view (take i labels) ++ label_view l ∷ [] = map_more label_view labels i d lt ∙ ap (λ v. map label_view (take i labels) ++ label_view v ∷ []) (sym e) in
    is ∙ ap (λ k. max k now) one ∙ ap (max (label_wide (label_view l))) was ∙ sym (ap wide front ∙ wide_last (map label_view (take i labels)) (label_view l))

-- ---- a node of a boxed tree

pub read_node : (r : Result Part NoMemory) (p : Part) (t : Boxed) (m : Mem) (xs : SmallVec ℕ) (a : Atom) (q : _) (rest : Boxed) (ys : List ℕ) → t ≡ Read' m xs a q rest → ys ≡ xs.items → IsRest (tree_view t) p → IfOk r (λ n. (m : Mem) (t : Tree) → IsPart p t → IsPart n (Read m ys a t)) → IfOk r (λ n. IsPart n (tree_view t))
read_node (Ok n) p t m xs a q rest ys is e h by =
    let known : IsPart p (tree_view rest) = subst (λ s. IsRest (tree_view s) p) is h in
    subst (λ s. IsPart n (tree_view s)) (sym is) (subst (λ l. IsPart n (Read m l a (tree_view rest))) e (by m (tree_view rest) known))
read_node (Err e) p t m xs a q rest ys is same h by = tt

pub write_node : (r : Result Part NoMemory) (p : Part) (t : Boxed) (m : Mem) (a : Atom) (bs : SmallVec Atom) (q : _) (rest : Boxed) (list cs : List Atom) → t ≡ Write' m a bs q rest → list ≡ a ∷ cs → cs ≡ bs.items → IsRest (tree_view t) p → IfOk r (λ n. (m : Mem) (a : Atom) (bs : List Atom) (t : Tree) → list ≡ a ∷ bs → IsPart p t → IsPart n (Write m a bs t)) → IfOk r (λ n. IsPart n (tree_view t))
write_node (Ok n) p t m a bs q rest list cs is all e h by =
    let known : IsPart p (tree_view rest) = subst (λ s. IsRest (tree_view s) p) is h in
    subst (λ s. IsPart n (tree_view s)) (sym is) (by m a bs.items (tree_view rest) (all ∙ ap (λ l. a ∷ l) e) known)
write_node (Err e) p t m a bs q rest list cs is all same h by = tt

pub if_node : (r : Result Part NoMemory) (p arm : Part) (t : Boxed) (c : Cmp) (a b : Atom) (q q' : _) (first rest part : Boxed) → t ≡ If' c a b q first q' rest → part ≡ first → IsRest (tree_view t) p → IsPart arm (tree_view part) → IfOk r (λ n. (c : Cmp) (t u : Tree) → IsPart arm t → IsPart p u → IsPart n (If c a b t u)) → IfOk r (λ n. IsPart n (tree_view t))
if_node (Ok n) p arm t c a b q q' first rest part is e h k by =
    let known : IsPart p (tree_view rest) = subst (λ s. IsRest (tree_view s) p) is h in
    subst (λ s. IsPart n (tree_view s)) (sym is) (by c (tree_view first) (tree_view rest) (subst (λ s. IsPart arm (tree_view s)) e k) known)
if_node (Err e) p arm t c a b q q' first rest part is same h k by = tt
